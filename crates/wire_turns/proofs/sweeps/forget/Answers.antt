use Rattle.std.proofs.Common.{ap, refl, subst}
use Rattle.wire_turns.proofs.sweeps.forget.Goals as goal
use Rattle.wire_links.specs.Links.{Links, ends_of}
use Rattle.wire_state.proofs.Coming.{forgets_counts}
use Rattle.wire_state.proofs.Goings.{gates_stand, keeps_by}
use Rattle.wire_state.proofs.Linked.{forgets, forgets_conn, forgotten_known}

pub returns-clause-octets : goal.returns-clause-octets
returns-clause-octets c = λ empty.
    let old = c.args.core.now in
    let n = c.args.number in
    let gone = forgets_conn n old.conns c.remove.new.self empty c.remove.ensures.updates in
    keeps_by old _ refl (λ h s. forgets n old.conns c.remove.new.self gone
    c.close_write.new.self old.links c.forget.new.self h (λ x. ap (λ (l : Links). ends_of x l) c.forget.ensures) (forgotten_known n old.links c.forget.new.self c.are_sound.ensures c.forget.ensures)
    (gates_stand old.flows c.close_write.new.self c.close_write.ensures.rest old.conns old.links h s))
    (λ t u h s k. forgets_counts n old.conns c.remove.new.self gone old.flows c.close_write.new.self old.links c.close_write.ensures.rest c.close_write.ensures.sound c.close_write.ensures.lows c.close_write.result c.close_write.ensures.closed c.close_write.ensures.same h s k)
