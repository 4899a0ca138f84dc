use Rattle.std.proofs.Common.{◌≡◌, ◌+◌, ◌≤◌, length, subst, arith}
use Rattle.exchange_core.proofs.Holding.{lets_go_few}
use Rattle.exchange_core.proofs.Moving.{released_kept}
use Rattle.exchange_core.proofs.flow.Flow.move_on.Goals as goal
use Rattle.exchange_core.specs.Flow.{octets_in}
use Rattle.exchange_core.specs.Kept.{flow_of}
use Rattle.filter_chain.specs.Chain.{above_at}
use Rattle.std.specs.Prelude.{IfOk}
use Rattle.wm_buffer.specs.Watermark.{crossing}

pub invariant_of-self : goal.invariant_of-self
invariant_of-self c =
    let few : c.args.n ≤ length (octets_in (flow_of c.self.inside) c.args.place) =
    lets_go_few (flow_of c.self.inside) c.args.place c.args.n (rw (← c.self.view_is) at c.requires.most) in
    released_kept c.self.inside c.args.place c.args.n c.release.new.self c.release.result c.self.invariant (omega arith) (omega arith) few c.release.ensures.moves c.release.ensures.err c.release.ensures.sound

pub returns-else-place-gt0-clause-to : goal.returns-else-place-gt0-clause-to
returns-else-place-gt0-clause-to c =
    let first : 1 ≡ c.args.place + 1 = omega arith in
    rw (← c.self.view_is) (subst (λ k. IfOk c.offer.result (λ shifted. shifted.to ≡ crossing (above_at c.self.inside.chain k) (above_at c.offer.new.self k))) first c.offer.ensures.to)

pub returns-then-place-gt0-clause-sound : goal.returns-then-place-gt0-clause-sound
returns-then-place-gt0-clause-sound c = (invariant_of-self c).sound
