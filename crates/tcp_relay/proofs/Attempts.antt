-- What a dispatch without notes comes to.
use Rattle.std.proofs.Common.{ap, refl}
use Rattle.std.specs.Prelude.{Err, None, Ok, Option, Result, Some, [], ℕ, ◌≡◌}
use Rattle.flow_notes.specs.declared.events.Event.{Event}
use Rattle.tcp_relay.specs.Board.{board_of, held_for}
use Rattle.tcp_relay.specs.Turns.{Refuses, Steps, Turns, Withholds, turn_notes}
use Rattle.tcp_relay.specs.declared.effect.Effect.{Effect}
use Rattle.tcp_relay.specs.declared.fault.RelayFault.{RelayFault}
use Rattle.tcp_relay.specs.declared.interests.Interests.{Interests}
use Rattle.tcp_relay.specs.declared.relay.Relay.{Relay}
use Rattle.tcp_relay.specs.declared.fault.RelayFault.TheVariants as fault

-- as if its notes had been written
pub turns_alone : (old new : Relay) (e : Event) (done : Effect) → Steps old e done new → held_for e (board_of old.table) ≡ None → Turns old [] e new (turn_notes old e)
turns_alone old new e done s f = record { notes = refl; reads = f; turn = s.turn; board = s.board; well = s.well }

-- ---- what is refused
fault_same : {T : Type 0} (x y : RelayFault) → ◌≡◌ {A = Result T RelayFault} (Err x) (Err y) → x ≡ y
fault_same x y e = cc

fault_again : {T U : Type 0} (x y : RelayFault) → ◌≡◌ {A = Result T RelayFault} (Err x) (Err y) → ◌≡◌ {A = Result U RelayFault} (Err x) (Err y)
fault_again {T} {U} x y e = ap (λ (z : RelayFault). Err z) (fault_same {T = T} x y e)

not_fault : {A : Type 0} (done : Effect) (x : RelayFault) → ◌≡◌ {A = Result Effect RelayFault} (Ok done) (Err x) → A
not_fault done x e = cc

not_paused : (answer : Interests) (x : RelayFault) → ◌≡◌ {A = Result Interests RelayFault} (Ok answer) (Err x) → ⊥
not_paused answer x e = cc

pub refuses_none : (o : Option ℕ) (old new : Relay) (done : Effect) (answer : Interests) → Withholds o old (Ok done) new → Refuses {A = Interests} o old [] (Ok answer) new []
refuses_none None old new done answer w = λ held e. not_paused answer (fault.Paused held) e
refuses_none (Some held) old new done answer w = not_fault done (fault.Paused held) w.0

pub refuses_same : (o : Option ℕ) (old new : Relay) (x : RelayFault) → Withholds o old (Err x) new → Refuses {A = Interests} o old [] (Err x) new []
refuses_same None old new x w = λ held e. w held (fault_again {T = Interests} {U = Effect} x (fault.Paused held) e)
refuses_same (Some held) old new x w = (fault_again {T = Effect} {U = Interests} x (fault.Paused held) w.0, w.1, refl)
