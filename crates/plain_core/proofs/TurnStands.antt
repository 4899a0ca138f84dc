-- Flows that a turn note leaves as they were.
use Rattle.flow_notes.specs.declared.events.PlainEvent.{PlainEvent}
use Rattle.plain_laws.proofs.Flags.{send_same, write_same}
use Rattle.exchange_core.specs.declared.exchange.Exchange.{Exchange}
use Rattle.std.proofs.Common.{refl, sym, ◌∙◌}
use Rattle.std.specs.Prelude.{Bool, None, Option, false, if◌then◌else◌, true, ℕ, ◌∷◌, ◌≡◌}
use Rattle.plain_laws.specs.Words.{Past, Alive, turn_of}
use Rattle.tape_laws.specs.Dispatches.{has, live}
use Rattle.tape_laws.specs.Flows.{request}
use Rattle.tape_laws.specs.History.{NoMark, Step}
use Rattle.tape_laws.specs.Plain.{plain_ended}
use Rattle.tape_laws.specs.declared.PlainLimits.{PlainLimits}
use Rattle.plain_core.specs.Flows.{ConnectionIs, FlowsStand, GatesAre, StreamIs, next_piece}
use Rattle.exchange_core.specs.declared.step.Piece.{Piece}
use Rattle.plain_core.specs.declared.flows.Flows.{Flows}
use Rattle.plain_core.proofs.FlowHolds.{holding_kept}

abbrev pub turned : ℕ → PlainEvent → Step NoMark
turned k e = turn_of k e

module _ (limits : PlainLimits) (x k : ℕ) (e : PlainEvent) (h : Past) where
  turn_stream : (found : Option Exchange) → plain_ended x (turned k e ∷ h) ≡ plain_ended x h
      → StreamIs limits x h found → StreamIs limits x (turned k e ∷ h) found
  turn_stream found same s = record {
    plain = s.plain;
    is = s.is;
    window = s.window;
    limit = s.limit;
    quantum = s.quantum;
    started = s.started;
    recv = s.recv;
    send = s.send;
    above = s.above ∙ sym (send_same limits (request x) (turned k e) h refl);
    ended = s.ended ∙ sym same;
    end_framed = s.end_framed;
  }

  turn_piece : plain_ended x (turned k e ∷ h) ≡ plain_ended x h
      → next_piece limits x (turned k e ∷ h) ≡ next_piece limits x h
  turn_piece same =
      cc

live_if : (a : Bool) (b c : Option Piece) → (a ≡ true → b ≡ c) → (if a then c else None) ≡ (if a then b else None)
live_if true b c f = sym (f refl)
live_if false b c f = refl

module _ (limits : PlainLimits) (k : ℕ) (e : PlainEvent) (h : Past) (flows : Flows) where
  turn_conn : ((x : ℕ) → Alive h x → plain_ended x (turned k e ∷ h) ≡ plain_ended x h) → ConnectionIs limits flows.conn h → ConnectionIs limits flows.conn (turned k e ∷ h)
  turn_conn same c = record {
    limit = c.limit;
    octets = c.octets;
    above = c.above ∙ sym (write_same limits (turned k e) h refl);
    framed_last = c.framed_last;
    ready = λ x. c.ready x ∙ live_if (has (live h) x) (next_piece limits x (turned k e ∷ h)) (next_piece limits x h) (λ t. turn_piece limits x k e h (same x t));
  }

  turn_gates : GatesAre limits flows.gates h → GatesAre limits flows.gates (turned k e ∷ h)
  turn_gates g = record {
    sound = g.sound;
    flows = g.flows;
    counts = g.counts;
    write_known = g.write_known;
    write_mark = g.write_mark ∙ sym (write_same limits (turned k e) h refl);
    write_watchers = g.write_watchers;
    write_pending = g.write_pending;
    send_known = g.send_known;
    send_mark = λ x. g.send_mark x ∙ sym (send_same limits (request x) (turned k e) h refl);
    send_watchers = g.send_watchers;
    send_pending = g.send_pending;
  }

  pub turn_stands : ((x : ℕ) → Alive h x → plain_ended x (turned k e ∷ h) ≡ plain_ended x h) → FlowsStand limits flows h → FlowsStand limits flows (turned k e ∷ h)
  turn_stands same s = record {
    limits_are = s.limits_are;
    ranges = s.ranges;
    exchanges = record {
      sound = s.exchanges.sound;
      time = s.exchanges.time;
      small = s.exchanges.small;
      most = s.exchanges.most;
      last = s.exchanges.last;
      doomed = s.exchanges.doomed;
      there = λ x is. turn_stream limits x k e h _ (same x is) (s.exchanges.there x is);
      gone = s.exchanges.gone;
    };
    gates = turn_gates s.gates;
    conn = turn_conn same s.conn;
    holding = holding_kept limits flows.holding h (turned k e ∷ h) s.holding refl (λ x. refl);
  }
