-- What the connection stands for, and small facts of what is kept.
use Rattle.exchange_core.specs.Exchanges.{exchange_at}
use Rattle.plain_laws.specs.Keeping.{KeepsStream, KeepsWrite}
use Rattle.std.proofs.Common.{ap, arith, of_z, refl, sym, to_z, w64, ◌∙◌}
use Rattle.std.proofs.lemmas.Int.{to_z_pos}
use Rattle.std.specs.BTreeMap.{get}
use Rattle.std.specs.Ordering.{nat_cmp}
use Rattle.std.specs.Prelude.{Bool, None, false, if◌then◌else◌, pos, true, ℕ, ℤ, ◌<◌, ◌==◌, ◌^◌, ◌≡◌}
use Rattle.plain_laws.specs.Words.{Past, Alive, conn_high, conn_out, last_out}
use Rattle.tape_laws.specs.Dispatches.{has, live}
use Rattle.tape_laws.specs.declared.PlainLimits.{PlainLimits}
use Rattle.plain_core.specs.Flows.{AreLimits, ConnectionIs, IsSettled, StreamIs, next_piece}
use Rattle.plain_core.specs.UnitsOf.{piece_at}
use Rattle.plain_core.specs.declared.conn.Connection.{Connection}
use Rattle.plain_core.specs.declared.flows.Flows.{Flows}
use Rattle.plain_core.proofs.FlowUnits.{refreshed}

pub quantum_some : (limits : PlainLimits) → AreLimits limits → 0 < limits.quantum
quantum_some limits l = omega (arith, l.quantum.0)

-- the room of a frame is a quantum, whatever width it is kept in
pub room_is : (flows : Flows) (room : ℤ) → IsSettled flows → room ≡ pos flows.limits.quantum → to_z w64 (of_z w64 room) ≡ pos flows.limits.quantum
room_is flows room s e = cc (to_z_pos w64 flows.limits.quantum small)
  where
    small : flows.limits.quantum < 2 ^ 63
    small =
        let most = s.settled.stands.ranges.quantum.1 in
        let same = ap (λ (l : PlainLimits). l.quantum) s.settled.stands.limits_are in
        omega (arith, most, same)

-- all of a connection but which streams have a unit
pub record WriteIs (limits : PlainLimits) (conn : Connection) (h : Past) : Type 0 where
  pub limit : conn.write.limit ≡ limits.write
  pub octets : conn.write.octets ≡ conn_out limits h
  pub above : conn.write.above ≡ conn_high limits h
  pub framed_last : conn.framed_last ≡ last_out limits h

-- the write buffer stays, and so does which streams have a unit
pub conn_kept : (limits : PlainLimits) (conn : Connection) (h h' : Past) → ConnectionIs limits conn h → KeepsWrite limits h h'
    → last_out limits h' ≡ last_out limits h → live h' ≡ live h
    → ((x : ℕ) → Alive h x → next_piece limits x h' ≡ next_piece limits x h) → ConnectionIs limits conn h'
conn_kept limits conn h h' c k last lives ready = record {
  limit = c.limit;
  octets = c.octets ∙ sym k.octets;
  above = c.above ∙ sym k.high;
  framed_last = c.framed_last ∙ sym last;
  ready = λ x. c.ready x ∙ same x (has (live h) x) refl;
}
  where
    same : (x : ℕ) (b : Bool) → has (live h) x ≡ b → (if has (live h) x then next_piece limits x h else None) ≡ (if has (live h') x then next_piece limits x h' else None)
    same x true e = cc (ready x e)
    same x false e = cc

-- one stream was looked at again
pub refreshed_conn : (limits : PlainLimits) (x : ℕ) (mid new : Flows) (h h' : Past) → mid.limits ≡ limits
    → new ≡ record mid { conn = record mid.conn { ready = new.conn.ready } }
    → ((y : ℕ) → get nat_cmp new.conn.ready y ≡ (if x == y then piece_at mid x else get nat_cmp mid.conn.ready y)) → WriteIs limits mid.conn h'
    → StreamIs limits x h' (exchange_at mid.exchanges x) → Alive h x → live h' ≡ live h → ((y : ℕ) → (x == y) ≡ false → KeepsStream limits y h h')
    → ((y : ℕ) → get nat_cmp mid.conn.ready y ≡ (if has (live h) y then next_piece limits y h else None)) → ConnectionIs limits new.conn h'
refreshed_conn limits x mid new h h' l rest made w s is lives others was = record {
  limit = ap (λ (f : Flows). f.conn.write.limit) rest ∙ w.limit;
  octets = ap (λ (f : Flows). f.conn.write.octets) rest ∙ w.octets;
  above = ap (λ (f : Flows). f.conn.write.above) rest ∙ w.above;
  framed_last = ap (λ (f : Flows). f.conn.framed_last) rest ∙ w.framed_last;
  ready = refreshed limits mid x h h' (get nat_cmp mid.conn.ready) (get nat_cmp new.conn.ready) l s is lives others made was;
}
