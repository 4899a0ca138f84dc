-- What the flows are after the first of the doomed is gone.
use Rattle.exchange_core.specs.Changes.{Sweeps as SweepsExchanges}
use Rattle.exchange_core.specs.Exchanges.{Exchanges, IsSound as AreSoundExchanges}
use Rattle.flow_gate.specs.Board.{Board}
use Rattle.plain_laws.proofs.Keepings.{gone_keeps, gone_keeps_write}
use Rattle.plain_laws.specs.Keeping.{KeepsStream}
use Rattle.std.proofs.Common.{arith, refl, sym, ◌∙◌}
use Rattle.std.specs.Prelude.{IsNone, List, None, Option, Some, [], length, ℕ, ◌<◌, ◌∷◌, ◌≡◌, ◌↔◌}
use Rattle.plain_laws.specs.Words.{Past}
use Rattle.tape_laws.specs.Doomed.{condemned}
use Rattle.tape_laws.specs.History.{Noted}
use Rattle.tape_laws.specs.declared.PlainLimits.{PlainLimits}
use Rattle.plain_core.specs.Carries.{NoneDoomed, Sweeps, SweepsAt}
use Rattle.plain_core.specs.Flows.{GatesAre, Settled}
use Rattle.plain_core.specs.declared.flows.Flows.{Flows}
use Rattle.flow_notes.specs.declared.notes.Note.TheVariants as note
use Rattle.plain_core.proofs.FlowStreams.{swept_exchanges}
use Rattle.plain_core.proofs.FlowGates.{gates_kept}
use Rattle.plain_core.proofs.FlowParts.{conn_kept}
use Rattle.plain_core.proofs.FlowHolds.{holding_kept}
use Rattle.plain_core.proofs.FlowUnits.{keeps_piece}

sweep_gates : (limits : PlainLimits) (board : Board) (x : ℕ) (h : Past) → GatesAre limits board h → GatesAre limits board (Noted (note.Gone x) ∷ h)
sweep_gates limits board x h g =
    let w = gone_keeps_write limits x h in
    gates_kept limits board h (Noted (note.Gone x) ∷ h) g (record { lives = refl; counts = λ y e. refl; write = w.high; lows = w.lows; sends = λ y. (gone_keeps limits x y h).high })

pub sweeps_one : (limits : PlainLimits) (x : ℕ) (old : Flows) (ex : Exchanges) (h : Past) → Settled limits old h → SweepsExchanges (Some x) old.exchanges ex → AreSoundExchanges ex
    → SweepsAt x limits (record old { exchanges = ex }) h
sweeps_one limits x old ex h settled c sound =
    let st = settled.stands in
    let first : condemned h ≡ x ∷ ex.doomed = sym st.exchanges.doomed ∙ c.doomed in
    record {
      rest = ex.doomed;
      first = first;
      stands = record {
        limits_are = st.limits_are;
        ranges = st.ranges;
        exchanges = swept_exchanges limits old.exchanges ex h (Noted (note.Gone x) ∷ h) st.exchanges sound c.live c.last c.time (cc) refl refl (λ y. gone_keeps limits x y h);
        gates = sweep_gates limits old.gates x h st.gates;
        conn = conn_kept limits old.conn h (Noted (note.Gone x) ∷ h) st.conn (gone_keeps_write limits x h) refl refl (λ y e. keeps_piece limits y h (Noted (note.Gone x) ∷ h) (gone_keeps limits x y h));
        holding = holding_kept limits old.holding h (Noted (note.Gone x) ∷ h) st.holding refl (λ y. (gone_keeps limits x y h).recv);
      };
    }

itself : (limits : PlainLimits) (x : ℕ) (h : Past) → KeepsStream limits x h h
itself limits x h = record { recv = refl; send = refl; high = refl; ended = refl; framed = refl; pairs = refl; recv_most = refl; send_most = refl }

pub sweeps_none : (limits : PlainLimits) (old : Flows) (ex : Exchanges) (h : Past) → Settled limits old h → SweepsExchanges None old.exchanges ex → AreSoundExchanges ex → old.exchanges.doomed ≡ []
    → NoneDoomed limits (record old { exchanges = ex }) h
sweeps_none limits old ex h settled c sound none =
    let st = settled.stands in
    record {
      none = sym st.exchanges.doomed ∙ none;
      stands = record {
        limits_are = st.limits_are;
        ranges = st.ranges;
        exchanges = swept_exchanges limits old.exchanges ex h h st.exchanges sound c.live c.last c.time (sym c.doomed ∙ st.exchanges.doomed) refl refl (λ y. itself limits y h);
        gates = st.gates;
        conn = st.conn;
        holding = st.holding;
      };
    }

pub one_fewer : (x : ℕ) (old new : List ℕ) → old ≡ x ∷ new → length new < length old
one_fewer x old new e = rw e (omega arith)

pub sweeps : (swept : Option ℕ) (old : Flows) (ex : Exchanges) → (IsNone swept ↔ (old.exchanges.doomed ≡ [])) → SweepsExchanges swept old.exchanges ex → AreSoundExchanges ex
    → Sweeps swept old (record old { exchanges = ex })
sweeps None old ex none c sound = record { goes = λ limits h s. sweeps_none limits old ex h s c sound (none.0 refl); less = tt }
sweeps (Some x) old ex none c sound = record { goes = λ limits h s. sweeps_one limits x old ex h s c sound; less = one_fewer x old.exchanges.doomed ex.doomed c.doomed }
