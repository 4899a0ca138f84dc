use Rattle.flow_gate.specs.Changes.{Rises}
use Rattle.std.proofs.Common.{ap, refl, rules, subst, sym, ◌∙◌}
use Rattle.std.specs.Prelude.{◌≡◌}
use Rattle.wm_buffer.specs.declared.watermark.Crossed.TheVariants as crossed
use Rattle.plain_core.specs.declared.flows.Flows.{Flows}
use Rattle.flow_rules.specs.declared.ids.BufferId.TheVariants as buffer
use Rattle.plain_core.proofs.FlowMarks.{RisesOrSame, drains_tells, not_high, not_low, risen, unrisen}
use Rattle.plain_core.proofs.flows.Flows.mark_crossed.Goals as goal
use Rattle.plain_core.proofs.flows.Flows.mark_crossed.Goals.{else-rose, then-rose}
use Rattle.plain_core.specs.Crossings.{DrainsIf, is_high, is_low}

pub returns-then-drained-clause-marks : goal.returns-then-drained-clause-marks
returns-then-drained-clause-marks c =
    let old = c.args.self.now.gates in
    let low : c.args.shifted.from ≡ crossed.Low = search rules in
    let k = c.requires.drains low in
    let drained = c.if-drained.true ∙ sym (ap is_low low) in
    elim c.if-rose.branch [
      | then-rose w ↦
          let high : c.args.shifted.to ≡ crossed.High = search rules in
          let mid : c.if-rose.self.gates ≡ w.high.new.self = ap (λ (f : Flows). f.gates) w.self-is in
          let rise = subst (Rises (buffer.Write 0) old) (sym mid) w.high.ensures.rises in
          record {
            rose = w.if-rose.true ∙ sym (ap is_high high);
            drained = drained;
            between = c.if-rose.self.gates;
            rises = rw w.if-rose.true rise;
            drains = rw c.if-drained.true (drains_tells c.args.flow c.next_low-flow.result old c.if-rose.self.gates c.begin_low.new.self c.next_low-flow.new.self (risen (buffer.Write 0) old c.if-rose.self.gates rise)
                c.begin_low.ensures.drains k.1 k.2 c.next_low-flow.ensures.none c.next_low-flow.ensures.tells);
          }
      | else-rose w ↦
          let other : (c.args.shifted.to ≡ crossed.High → ⊥) = search rules in
          let mid : c.if-rose.self.gates ≡ old = ap (λ (f : Flows). f.gates) w.self-is in
          record {
            rose = w.if-rose.false ∙ sym (not_high c.args.shifted.to other);
            drained = drained;
            between = c.if-rose.self.gates;
            rises = rw w.if-rose.false mid;
            drains = rw c.if-drained.true (drains_tells c.args.flow c.next_low-flow.result old c.if-rose.self.gates c.begin_low.new.self c.next_low-flow.new.self (subst (λ b. RisesOrSame old b) (sym mid) (unrisen old))
                c.begin_low.ensures.drains k.1 k.2 c.next_low-flow.ensures.none c.next_low-flow.ensures.tells);
          }
    ]

pub returns-else-drained-clause-marks : goal.returns-else-drained-clause-marks
returns-else-drained-clause-marks c =
    let old = c.args.self.now.gates in
    let still : (c.args.shifted.from ≡ crossed.Low → ⊥) = search rules in
    let drained = c.if-drained.false ∙ sym (not_low c.args.shifted.from still) in
    let drains = subst (λ r. DrainsIf r c.args.flow c.if-rose.self.gates c.if-rose.self.gates) (sym c.if-drained.false) refl in
    elim c.if-rose.branch [
      | then-rose w ↦
          let high : c.args.shifted.to ≡ crossed.High = search rules in
          let mid : c.if-rose.self.gates ≡ w.high.new.self = ap (λ (f : Flows). f.gates) w.self-is in
          record {
            rose = w.if-rose.true ∙ sym (ap is_high high);
            drained = drained;
            between = c.if-rose.self.gates;
            rises = rw w.if-rose.true (subst (λ b. Rises (buffer.Write 0) old b) (sym mid) w.high.ensures.rises);
            drains = drains;
          }
      | else-rose w ↦
          let other : (c.args.shifted.to ≡ crossed.High → ⊥) = search rules in
          record {
            rose = w.if-rose.false ∙ sym (not_high c.args.shifted.to other);
            drained = drained;
            between = c.if-rose.self.gates;
            rises = rw w.if-rose.false (ap (λ (f : Flows). f.gates) w.self-is);
            drains = drains;
          }
    ]
