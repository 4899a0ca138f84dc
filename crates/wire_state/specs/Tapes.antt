-- What the tape of wire sessions promises to an operator, as far as it is proved.
use Rattle.flow_rules.specs.declared.ids.FlowId.{FlowId}
use Rattle.flow_notes.specs.declared.notes.Note.TheVariants as note
use Rattle.proxy_config.specs.declared.config.LimitKeys.{LimitKeys}
use Rattle.std.specs.Prelude.{None, Option, Some, [], if◌then◌else◌, ℕ, ◌==◌, ◌∷◌}
use Rattle.tape_laws.specs.Bounds.{IsBounded}
use Rattle.tape_laws.specs.Headline.{SendsItsBody}
use Rattle.tape_laws.specs.History.{AtEachMoment, Noted}
use Rattle.tape_laws.specs.Setup.{Setup}
use Rattle.wire_state.specs.Ways.{Way, WayHistory, goal_in, world_setup}

-- The connection that a flow comes from, and the one that it goes to, if any. A start note names 0 where its request goes nowhere, and
-- where it goes to connection 0: its mark tells which.
abbrev pub conn_from : FlowId → WayHistory → Option ℕ
conn_from f [] = None
conn_from f (Noted (note.Start x c s d) ∷ past) = if x == f.exchange then (if f.back then goal_in x past else Some c) else conn_from f past
conn_from f (step ∷ past) = conn_from f past

abbrev pub conn_to : FlowId → WayHistory → Option ℕ
conn_to f [] = None
conn_to f (Noted (note.Start x c s d) ∷ past) = if x == f.exchange then (if f.back then Some c else goal_in x past) else conn_to f past
conn_to f (step ∷ past) = conn_to f past

-- a session of these limits, but for what all flows from one connection hold together
abbrev pub tape_setup : LimitKeys → Setup Way
tape_setup l = record world_setup {
  recv = l.stream_window;
  send = l.send_buffer;
  write = l.write_buffer;
  quantum = l.quantum;
  overflow = l.overflow_multiple;
  comes_from = λ f past. conn_from f past;
  goes_to = λ f past. conn_to f past;
}

-- At each moment what each flow sent on is a front of the body that was read for it, and no buffer holds more than its bound: a
-- receive buffer its window, a Hold its limit, a Meter and a send buffer their limit and a quantum, a write buffer its limit and
-- one unit.
pub record Promises (l : LimitKeys) (h : WayHistory) : Type 0 where
  pub sent : AtEachMoment (SendsItsBody (tape_setup l)) h
  pub bounded : AtEachMoment (IsBounded (tape_setup l)) h
