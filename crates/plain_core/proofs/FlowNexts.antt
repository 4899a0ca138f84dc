-- The frame that goes next is that of the history.
use Rattle.plain_laws.proofs.Rotation.{next_above, next_around, next_none}
use Rattle.plain_laws.specs.Next.{is_ready}
use Rattle.std.proofs.Common.{ap, inl, inr, refl, sym, ◌∙◌}
use Rattle.std.specs.Prelude.{Bool, None, Option, Some, false, if◌then◌else◌, is_some, length, min, nat_lt, not, true, ℕ, ◌&&◌, ◌==◌, ◌||◌, ◌≡◌}
use Rattle.plain_laws.specs.Words.{Past, Alive, end_out, next_out, recv_at, send_at}
use Rattle.tape_laws.specs.Dispatches.{has, live}
use Rattle.tape_laws.specs.Framing.{next_unit}
use Rattle.flow_rules.specs.declared.unit.Unit.{Unit as FlowUnit}
use Rattle.flow_rules.specs.declared.unit.Unit.TheVariants.{Body as BodyUnit, Head as HeadUnit, Nothing as NoUnit, Trailers as TrailersUnit}
use Rattle.tape_laws.specs.Flows.{request}
use Rattle.flow_rules.specs.Units.{is_unit}
use Rattle.tape_laws.specs.Order.{Flows as FlowsNext}
use Rattle.tape_laws.specs.Plain.{plain_ended, plain_setup}
use Rattle.tape_laws.specs.declared.PlainLimits.{PlainLimits}
use Rattle.plain_core.specs.Carries.{IsNextFrame}
use Rattle.plain_core.specs.Flows.{Settled, next_piece, piece_of}
use Rattle.plain_core.specs.Ready.{IsNext, IsReadyWith, is_ready_on}
use Rattle.exchange_core.specs.declared.step.Piece.{Piece}
use Rattle.plain_core.specs.declared.flows.Flows.{Flows}
use Rattle.plain_core.specs.declared.flows.NextFrame.{NextFrame}

-- a stream with a unit is live, and the unit is a piece of its body
body_of : (u : FlowUnit) (p : Piece) → Some p ≡ piece_of u → u ≡ BodyUnit p.n p.last
body_of NoUnit p e = cc
body_of (HeadUnit last) p e = cc
body_of (BodyUnit n last) p e = ap (λ (v : Piece). BodyUnit v.n v.last) (sym (some_is _ _ e))
  where
    some_is : (a b : Piece) → Some a ≡ Some b → a ≡ b
    some_is a b e = cc
body_of TrailersUnit p e = cc

there : (b : Bool) (u : FlowUnit) (p : Piece) → Some p ≡ (if b then piece_of u else None) → (b ≡ true) × (u ≡ BodyUnit p.n p.last)
there true u p e = (refl, body_of u p e)
there false u p e = cc

rising : (limits : PlainLimits) (flows : Flows) (next : NextFrame) (h : Past) → Settled limits flows h → IsReadyWith flows.conn next
    → (Alive h next.exchange) × (next_unit (plain_setup limits) (request next.exchange) h ≡ BodyUnit next.n next.last)
rising limits flows next h s e = there (has (live h) next.exchange) _ (record { n = next.n; last = next.last }) (sym e ∙ s.stands.conn.ready next.exchange)

-- a unit is nothing or a piece of a body
unit_some : (limits : PlainLimits) (x : ℕ) (h : Past) → is_some (next_piece limits x h) ≡ is_ready limits x h
unit_some limits x h =
    let e = plain_ended x h in
    let r = length (recv_at limits x h) in
    let s = length (send_at limits x h) in
    let m = min (min limits.quantum limits.quantum) s in
    pick (nat_lt 0 m) (e && (((r == 0) && true) && (s == 0))) (end_out limits x h) ((e && (((r == 0) && true) && (s == m))) && true) m
  where
    pick : (b c fr l : Bool) (n : ℕ) → is_some (piece_of (if b then BodyUnit n l else if not c || fr then NoUnit else BodyUnit 0 true)) ≡ is_unit (if b then BodyUnit n l else if not c || fr then NoUnit else BodyUnit 0 true)
    pick true c fr l n = refl
    pick false true true l n = refl
    pick false true false l n = refl
    pick false false fr l n = refl

module _ (limits : PlainLimits) (flows : Flows) where
  is_there_ready : (h : Past) → Settled limits flows h → (x : ℕ) → Alive h x → is_ready limits x h ≡ true → is_ready_on flows.conn x
  is_there_ready h s x e r =
      ap is_some (s.stands.conn.ready x ∙ ap (λ b. if b then next_piece limits x h else None) e) ∙ (unit_some limits x h ∙ r)

  next_ready : (next : NextFrame) (h : Past) → Settled limits flows h → IsNext flows.conn (Some next)
      → (Alive h next.exchange) × (next_unit (plain_setup limits) (request next.exchange) h ≡ BodyUnit next.n next.last)
  next_ready next h s (inl l) = rising limits flows next h s l.ready
  next_ready next h s (inr r) = rising limits flows next h s r.1.ready

  pub next_turn : (next : NextFrame) (h : Past) → Settled limits flows h → IsNext flows.conn (Some next)
      → next_out limits h ≡ FlowsNext (request next.exchange) (next_unit (plain_setup limits) (request next.exchange) h)
  next_turn next h s (inl l) =
      let x = next.exchange in
      let k = rising limits flows next h s l.ready in
      let last = s.stands.conn.framed_last in
      next_above limits x h s.lawful.regular.books.rising (record {
        lives = k.0;
        ready = cc;
        after = rw (← last) l.after;
        least = λ y e r a. l.least y (is_there_ready h s y e r) (rw last a);
      })
  next_turn next h s (inr r) =
      let x = next.exchange in
      let k = rising limits flows next h s r.1.ready in
      let last = s.stands.conn.framed_last in
      next_around limits x h s.lawful.regular.books.rising (record {
        lives = k.0;
        ready = cc;
        none = λ y e t. rw (← last) (r.0 y (is_there_ready h s y e t));
        least = λ y e t. r.1.least y (is_there_ready h s y e t);
      })

pub next_some : (flows : Flows) (next : NextFrame) → flows.conn.write.above ≡ false → IsNext flows.conn (Some next) → IsNextFrame flows (Some next)
next_some flows next low is = record {
  goes = λ limits h s.
      let k = next_ready limits flows next h s is in
      record { live = k.0; low = sym s.stands.conn.above ∙ low; turn = cc (next_turn limits flows next h s is) };
}

none_ready : (a : Bool) (p : Option Piece) → a ≡ true → None ≡ (if a then p else None) → is_some p ≡ false
none_ready true p e f = cc
none_ready false p e f = cc

pub next_nothing : (flows : Flows) → IsNext flows.conn None → IsNextFrame flows None
next_nothing flows is = record {
  goes = λ limits h s. record { none = inr (next_none limits h (λ x e. sym (unit_some limits x h) ∙ none_ready (has (live h) x) (next_piece limits x h) e (sym (is x) ∙ s.stands.conn.ready x))) };
}

pub next_is : (flows : Flows) (next : Option NextFrame) → flows.conn.write.above ≡ false → IsNext flows.conn next → IsNextFrame flows next
next_is flows None low is = next_nothing flows is
next_is flows (Some next) low is = next_some flows next low is
