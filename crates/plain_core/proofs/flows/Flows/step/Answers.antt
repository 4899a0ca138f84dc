use Rattle.exchange_core.specs.Changes.{ChangesFlow}
use Rattle.exchange_core.specs.Exchanges.{IsLiveFlow, flow_at, target_of}
use Rattle.exchange_core.specs.Moves.{next_step, stepped}
use Rattle.exchange_core.specs.declared.step.Advance.{Advance}
use Rattle.exchange_core.specs.declared.step.Step.{Step as MoveStep}
use Rattle.flow_rules.specs.declared.unit.Unit.{Unit as NextUnit}
use Rattle.flow_gate.specs.Board.{is_known, is_marked, is_open as is_there}
use Rattle.flow_gate.specs.Changes.{Rises}
use Rattle.flow_rules.specs.declared.ids.FlowId.{FlowId}
use Rattle.plain_laws.proofs.Counts.{is_live_is}
use Rattle.std.proofs.Common.{ap, refl, rules, subst, sym, ◌∙◌}
use Rattle.std.specs.BTreeMap.{get}
use Rattle.std.specs.Ordering.{nat_cmp}
use Rattle.std.specs.Prelude.{IsNone, Option, Some, if◌then◌else◌, option_map, ℕ, ◌==◌, ◌≡◌}
use Rattle.tape_laws.specs.Flows.{request}
use Rattle.wm_buffer.specs.declared.watermark.Crossed.TheVariants as crossed
use Rattle.plain_core.specs.Flows.{piece_of}
use Rattle.plain_core.specs.declared.flows.Flows.{Flows}
use Rattle.flow_rules.specs.declared.ids.BufferId.TheVariants as buffer
use Rattle.plain_core.proofs.FlowSteps.{RisesSend, found_lives, high_allowed, idle_less_all, idles_all, moves_all, no_step, stay_less_all, stays_all, step_found}
use Rattle.plain_core.proofs.FlowParts.{room_is}
use Rattle.plain_core.proofs.FlowUnits.{piece_seen, unit_named}
use Rattle.plain_core.proofs.flows.Flows.step.Goals as goal
use Rattle.plain_core.proofs.flows.Flows.step.Goals.{else-rose, then-rose}
use Rattle.plain_core.specs.Crossings.{is_high}
use Rattle.plain_core.proofs.FlowMarks.{not_high}

pub advance-requires : goal.advance-requires
advance-requires c = record {
  «open» = λ found.
      let s = c.requires in
      let lives = found_lives s.limits c.args.exchange c.args.self.now.exchanges s.history s.settled.stands.exchanges (subst (IsLiveFlow c.args.self.now.exchanges) c.request-flow.ensures found) in
      ap (is_there c.args.self.now.gates) c.request-flow.ensures
      ∙ (s.settled.stands.gates.flows (request c.args.exchange) ∙ (is_live_is s.limits (request c.args.exchange) s.history ∙ lives));
}

pub returns-in_default-clause-steps : goal.returns-in_default-clause-steps
returns-in_default-clause-steps c =
    let old = c.args.self.now in
    let none = no_step _ _ (sym (ap (λ (o : Option Advance). option_map (λ (a : Advance). a.step) o) c.in_default.is) ∙ (c.in_ok-step.ensures {u = tt}).step) in
    idles_all c.args.exchange old c.advance.new.self (subst (λ f. IsNone (flow_at old.exchanges f)) c.request-flow.ensures none) (c.advance.ensures.gone none).1

pub returns-in_default-clause-less : goal.returns-in_default-clause-less
returns-in_default-clause-less c =
    let none = no_step _ _ (sym (ap (λ (o : Option Advance). option_map (λ (a : Advance). a.step) o) c.in_default.is) ∙ (c.in_ok-step.ensures {u = tt}).step) in
    idle_less_all c.args.self.now c.advance.new.self (c.advance.ensures.gone none).1

-- what the step was, and what it changed
named : (old : Flows) (x : ℕ) (f : FlowId) (found : Option Advance) (a : Advance) → f ≡ request x → found ≡ Some a
    → option_map (λ (v : Advance). v.step) found ≡ option_map (next_step old.gates (target_of old.exchanges f)) (flow_at old.exchanges f)
    → Some a.step ≡ option_map (next_step old.gates (target_of old.exchanges (request x))) (flow_at old.exchanges (request x))
named old x f found a is some e =
    sym (ap (λ (o : Option Advance). option_map (λ (v : Advance). v.step) o) some)
    ∙ subst (λ g. option_map (λ (v : Advance). v.step) found ≡ option_map (next_step old.gates (target_of old.exchanges g)) (flow_at old.exchanges g)) is e

unit_of : (found : Option Advance) (a : Advance) (answer : Option NextUnit) → found ≡ Some a → option_map (λ (v : Advance). v.unit) found ≡ answer → Some a.unit ≡ answer
unit_of found a answer some e = sym (ap (λ (o : Option Advance). option_map (λ (v : Advance). v.unit) o) some) ∙ e

pub returns-in_default-step : goal.returns-in_default-step
returns-in_default-step c =
    let old = c.args.self.now in
    let is = named old c.args.exchange c.request-flow.result c.in_ok-step.field-0 c.in-Some.field-0 c.request-flow.ensures c.in-Some.is (c.in_ok-step.ensures {u = tt}).step in
    let change = subst (λ f. ChangesFlow f (stepped old.gates (target_of old.exchanges f)) old.exchanges c.advance.new.self) c.request-flow.ensures (c.in_ok-step.ensures {u = tt}).flow in
    record {
      steps = stays_all c.args.exchange old c.advance.new.self c.in-Some.field-0.step c.in_default-step.not-Moved is change c.advance.ensures.sound;
      less = stay_less_all c.args.exchange old c.advance.new.self c.in-Some.field-0.step c.requires c.in_default-step.not-Moved is change c.advance.ensures.sound;
    }

pub record_left-requires : goal.record_left-requires
record_left-requires c =
    subst (IsLiveFlow c.advance.new.self) c.request-flow.ensures
    (step_found _ _ c.in-Some.field-0.unit (unit_of c.in_ok-step.field-0 c.in-Some.field-0 _ c.in-Some.is (c.in_ok-step.ensures {u = tt}).unit))

pub high-requires : goal.high-requires
high-requires c =
    let old = c.args.self.now in
    let is = named old c.args.exchange c.request-flow.result c.in_ok-step.field-0 c.in-Some.field-0 c.request-flow.ensures c.in-Some.is (c.in_ok-step.ensures {u = tt}).step in
    let allowed = high_allowed c.args.exchange c.in-Moved.place c.in-Moved.n c.in-Moved.shifted c.in-Moved.overflow old c.requires (ap (λ (v : MoveStep). Some v) (sym c.in-Moved.is) ∙ is) in
    record {
      known = ap (λ (f : Flows). is_known f.gates (buffer.Send c.request-flow.result)) c.record_left.ensures.rest ∙ (ap (λ f. is_known old.gates (buffer.Send f)) c.request-flow.ensures ∙ allowed.0);
      low = ap (λ (f : Flows). is_marked f.gates (buffer.Send c.request-flow.result)) c.record_left.ensures.rest ∙ (ap (λ f. is_marked old.gates (buffer.Send f)) c.request-flow.ensures ∙ allowed.1);
    }

with_ready : {a b new : Flows} → new ≡ record a { conn = record a.conn { ready = new.conn.ready } } → a ≡ b → new ≡ record b { conn = record b.conn { ready = new.conn.ready } }
with_ready {new} e same = e ∙ ap (λ (f : Flows). record f { conn = record f.conn { ready = new.conn.ready } }) same

pub returns : goal.returns
returns c =
    let old = c.args.self.now in
    let x = c.args.exchange in
    let ex = c.advance.new.self in
    let is = named old x c.request-flow.result c.in_ok-step.field-0 c.in-Some.field-0 c.request-flow.ensures c.in-Some.is (c.in_ok-step.ensures {u = tt}).step in
    let change = subst (λ f. ChangesFlow f (stepped old.gates (target_of old.exchanges f)) old.exchanges ex) c.request-flow.ensures (c.in_ok-step.ensures {u = tt}).flow in
    let moved = ap (λ (v : MoveStep). Some v) (sym c.in-Moved.is) ∙ is in
    let unit = unit_of c.in_ok-step.field-0 c.in-Some.field-0 _ c.in-Some.is (c.in_ok-step.ensures {u = tt}).unit in
    elim c.if-rose.branch [
      | then-rose w ↦
          let mid = w.self-is ∙ ap (λ (f : Flows). record f { gates = w.high.new.self }) c.record_left.ensures.rest in
          let high : c.in-Moved.shifted.to ≡ crossed.High = search rules in
          let both = moves_all x c.in-Moved.place c.in-Moved.n c.in-Moved.shifted c.in-Moved.overflow c.eq-rose.result old c.record_unit.new.self ex w.high.new.self c.record_left.new.self.holding c.requires moved change c.advance.ensures.sound
          (w.if-rose.true ∙ sym (ap is_high high))
          (subst (λ r. RisesSend r x old.gates w.high.new.self) (sym w.if-rose.true) (subst (λ f. Rises (buffer.Send f) old.gates w.high.new.self) c.request-flow.ensures
          (subst (λ b. Rises (buffer.Send c.request-flow.result) b w.high.new.self) (ap (λ (f : Flows). f.gates) c.record_left.ensures.rest) w.high.ensures.rises)))
          (λ was. w.high.ensures.sound)
          (with_ready c.record_unit.ensures.rest mid)
          (piece_seen (record old { exchanges = ex; gates = w.high.new.self; holding = c.record_left.new.self.holding }) x c.in-Some.field-0.unit (get nat_cmp old.conn.ready) (get nat_cmp c.record_unit.new.self.conn.ready)
          (unit_named (record old { exchanges = ex; gates = w.high.new.self; holding = c.record_left.new.self.holding }) x c.request-flow.result _ c.in-Some.field-0.unit c.request-flow.ensures (room_is old c.from.result c.requires c.from.ensures) unit)
          (subst (λ (f : Flows). (y : ℕ) → get nat_cmp c.record_unit.new.self.conn.ready y ≡ (if x == y then piece_of c.in-Some.field-0.unit else get nat_cmp f.conn.ready y)) mid (c.in_ok-record_unit.ensures {u = tt}).ready))
          c.record_left.ensures.holding in
          record { steps = both.0; less = both.1 }
      | else-rose w ↦
          let mid = w.self-is ∙ c.record_left.ensures.rest in
          let other : (c.in-Moved.shifted.to ≡ crossed.High → ⊥) = search rules in
          let both = moves_all x c.in-Moved.place c.in-Moved.n c.in-Moved.shifted c.in-Moved.overflow c.eq-rose.result old c.record_unit.new.self ex old.gates c.record_left.new.self.holding c.requires moved change c.advance.ensures.sound
          (w.if-rose.false ∙ sym (not_high c.in-Moved.shifted.to other))
          (subst (λ r. RisesSend r x old.gates old.gates) (sym w.if-rose.false) refl)
          (λ was. was)
          (with_ready c.record_unit.ensures.rest mid)
          (piece_seen (record old { exchanges = ex; holding = c.record_left.new.self.holding }) x c.in-Some.field-0.unit (get nat_cmp old.conn.ready) (get nat_cmp c.record_unit.new.self.conn.ready)
          (unit_named (record old { exchanges = ex; holding = c.record_left.new.self.holding }) x c.request-flow.result _ c.in-Some.field-0.unit c.request-flow.ensures (room_is old c.from.result c.requires c.from.ensures) unit)
          (subst (λ (f : Flows). (y : ℕ) → get nat_cmp c.record_unit.new.self.conn.ready y ≡ (if x == y then piece_of c.in-Some.field-0.unit else get nat_cmp f.conn.ready y)) mid (c.in_ok-record_unit.ensures {u = tt}).ready))
          c.record_left.ensures.holding in
          record { steps = both.0; less = both.1 }
    ]
