use Rattle.std.proofs.Common.{◌≡◌, ◌<◌, ◌≤◌, ◌∙◌, arith, sym, true}
use Rattle.exchange_core.proofs.StageSources.{send_held, stage_held}
use Rattle.exchange_core.proofs.flow.Flow.is_held_at.Goals as goal
use Rattle.exchange_core.specs.Flow.{last_place}
use Rattle.exchange_core.specs.Kept.{flow_of}
use Rattle.filter_chain.specs.Release.{is_source_at}

pub returns-then-place-places : goal.returns-then-place-places
returns-then-place-places c =
    let last : c.args.place ≡ last_place (flow_of c.self.inside) = omega arith in
    rw (← c.self.view_is) (cc (send_held c.args.gates.now (flow_of c.self.inside) c.args.place c.requires.first last c.places.ensures.sound.order))

pub returns-then-is_source : goal.returns-then-is_source
returns-then-is_source c =
    let at_most : c.args.place ≤ last_place (flow_of c.self.inside) = rw (← c.self.view_is) at c.requires.last in
    let stage : c.args.place < last_place (flow_of c.self.inside) = omega arith in
    let source : is_source_at c.self.inside.chain c.args.place ≡ true = sym c.is_source.ensures ∙ c.if-is_source.true in
    rw (← c.self.view_is) (cc (stage_held c.args.gates.now (flow_of c.self.inside) c.args.place c.requires.first stage source c.places.ensures.sound.order))
