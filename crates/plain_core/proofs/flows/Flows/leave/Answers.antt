use Rattle.std.proofs.Common.{refl, rules, sym, ◌∙◌}
use Rattle.std.specs.Prelude.{Bool, false, not, true, ◌&&◌, ◌≡◌}
use Rattle.wm_buffer.specs.Watermark.{crossing}
use Rattle.wm_buffer.specs.declared.watermark.Crossed.{Crossed}
use Rattle.wm_buffer.specs.declared.watermark.Crossed.TheVariants as crossed
use Rattle.plain_core.proofs.FlowLeaves.{leaves}
use Rattle.plain_core.proofs.flows.Flows.leave.Goals as goal

when_low : (a b : Bool) → crossed.Low ≡ crossing a b → true ≡ (a && not b)
when_low true false e = refl
when_low true true e = cc
when_low false true e = cc
when_low false false e = cc

when_not : (a b : Bool) (c : Crossed) → c ≡ crossing a b → (c ≡ crossed.Low → ⊥) → false ≡ (a && not b)
when_not true false c e n = absurd (n e)
when_not true true c e n = refl
when_not false b c e n = refl

pub returns-then-drained : goal.returns-then-drained
returns-then-drained c =
    let low : c.take.result ≡ crossed.Low = search rules in
    leaves c.args.n c.eq-drained.result c.args.self.now c.take.new.self c.begin_low.new.self c.take.ensures.drops (c.if-drained.true ∙ when_low _ _ (sym low ∙ c.take.ensures.crossed))
    (rw c.if-drained.true c.begin_low.ensures.drains) c.begin_low.ensures.sound

pub returns-else-drained : goal.returns-else-drained
returns-else-drained c =
    let other : (c.take.result ≡ crossed.Low → ⊥) = search rules in
    leaves c.args.n c.eq-drained.result c.args.self.now c.take.new.self c.args.self.now.gates c.take.ensures.drops (c.if-drained.false ∙ when_not _ _ c.take.result c.take.ensures.crossed other)
    (rw c.if-drained.false refl) c.requires.settled.settled.stands.gates.sound
