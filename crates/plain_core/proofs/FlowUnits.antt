-- The next unit of a stream that is kept is that of its history.
use Rattle.exchange_core.specs.Exchange.{flow_in}
use Rattle.exchange_core.specs.Exchanges.{exchange_at, flow_at}
use Rattle.exchange_core.specs.Units.{next_unit as next_of}
use Rattle.exchange_core.specs.declared.exchange.Exchange.{Exchange}
use Rattle.flow_rules.specs.declared.unit.Unit.{Unit as NextUnit}
use Rattle.flow_rules.specs.declared.ids.FlowId.{FlowId}
use Rattle.plain_laws.proofs.Streams.{own_or_other, same_number}
use Rattle.plain_laws.specs.Keeping.{KeepsStream}
use Rattle.plain_laws.specs.Next.{state_by, unit_of}
use Rattle.std.proofs.Common.{ap, arith, ◌∙◌}
use Rattle.std.specs.Option.{option_and_then}
use Rattle.std.specs.Prelude.{None, Option, Some, false, if◌then◌else◌, length, min, option_map, pos, ℕ, ℤ, ◌==◌, ◌≡◌}
use Rattle.plain_laws.specs.Words.{Past, Alive}
use Rattle.tape_laws.specs.Dispatches.{has, live}
use Rattle.tape_laws.specs.Framing.{next_unit}
use Rattle.flow_rules.specs.Units.{next_unit as first_unit}
use Rattle.tape_laws.specs.Flows.{request}
use Rattle.tape_laws.specs.Plain.{plain_setup}
use Rattle.tape_laws.specs.declared.PlainLimits.{PlainLimits}
use Rattle.plain_core.specs.Flows.{StreamIs, next_piece, piece_of}
use Rattle.plain_core.specs.UnitsOf.{piece_at, unit_at}
use Rattle.exchange_core.specs.declared.step.Piece.{Piece}
use Rattle.plain_core.specs.declared.flows.Flows.{Flows}

module _ (limits : PlainLimits) (flows : Flows) (x : ℕ) (h : Past) where
  pub unit_found : flows.limits ≡ limits → StreamIs limits x h (exchange_at flows.exchanges x)
      → unit_at flows x ≡ Some (next_unit (plain_setup limits) (request x) h)
  unit_found l s =
      let q = flows.limits.quantum in
      let frame : min q q ≡ limits.quantum = cc (twice q) in
      ap (λ (o : Option Exchange). option_map (next_of (pos q) q) (option_and_then (flow_in false) o)) s.is
      ∙ λ i. Some (first_unit (record (state_by (s.quantum i) (s.ended i) (s.end_framed i) (length (s.recv i)) (length (s.send i))) { frame = frame i }))
    where
      twice : (q : ℕ) → min q q ≡ q
      twice q = omega arith

  pub piece_is : flows.limits ≡ limits → StreamIs limits x h (exchange_at flows.exchanges x)
      → piece_at flows x ≡ next_piece limits x h
  piece_is l s = cc (unit_found l s)

-- the unit that was answered is that of the stream
pub unit_named : (flows : Flows) (x : ℕ) (f : FlowId) (room : ℤ) (u : NextUnit) → f ≡ request x → room ≡ pos flows.limits.quantum
    → Some u ≡ option_map (next_of room flows.limits.quantum) (flow_at flows.exchanges f) → Some u ≡ unit_at flows x
unit_named flows x f room u named all e =
    let q = flows.limits.quantum in
    e ∙ (cc)

-- a connection that was told the next unit of a stream has its piece
pub piece_seen : (flows : Flows) (x : ℕ) (u : NextUnit) (old new : ℕ → Option Piece) → Some u ≡ unit_at flows x
    → ((y : ℕ) → new y ≡ (if x == y then piece_of u else old y)) → (y : ℕ) → new y ≡ (if x == y then piece_at flows x else old y)
piece_seen flows x u old new e made y = cc (made y)

pub keeps_piece : (limits : PlainLimits) (x : ℕ) (a b : Past) → KeepsStream limits x a b → next_piece limits x b ≡ next_piece limits x a
keeps_piece limits x a b k = λ i. piece_of (unit_of limits.quantum (k.ended i) (k.framed i) (length (k.recv i)) (length (k.send i)))

-- which units the streams have, after one was looked at again
pub refreshed : (limits : PlainLimits) (flows : Flows) (x : ℕ) (h h' : Past) (old new : ℕ → Option Piece) → flows.limits ≡ limits
    → StreamIs limits x h' (exchange_at flows.exchanges x) → Alive h x → live h' ≡ live h → ((y : ℕ) → (x == y) ≡ false → KeepsStream limits y h h')
    → ((y : ℕ) → new y ≡ (if x == y then piece_at flows x else old y)) → ((y : ℕ) → old y ≡ (if has (live h) y then next_piece limits y h else None))
    → (y : ℕ) → new y ≡ (if has (live h') y then next_piece limits y h' else None)
refreshed limits flows x h h' old new l s is lives others made was y =
    own_or_other (λ v. new v ≡ (if has (live h') v then next_piece limits v h' else None)) x y
    (cc (made x, same_number x, piece_is limits flows x h' l s))
    (λ d. cc (made y, was y, keeps_piece limits y h h' (others y d)))
