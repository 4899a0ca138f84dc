-- What the work of a relay does to its connections, to its journal and to the relay.
use Rattle.relay_laws.specs.Pairs.{Tape}
use Rattle.relay_work.specs.Belonging.{Belong}
use Rattle.relay_work.specs.Events.{events_in, lines_of, shown_after, tape_after}
use Rattle.relay_work.specs.Live.{Live}
use Rattle.relay_work.specs.Turns.{AreTurns, Begins, LastStops, NoneStops, joined, with_all}
use Rattle.relay_work.specs.declared.turns.RelayEnded.{RelayEnded}
use Rattle.std.specs.Io.KnownBytes.{Appends}
use Rattle.std.specs.Prelude.{List, [], length, ℕ, ◌++◌, ◌≡◌, ◌≤◌, ◌⊎◌}
use Rattle.tape_laws.specs.Dispatches.{events_back}
use Rattle.tcp_relay.specs.Rests.{Rests}
use Rattle.worker_ports.specs.declared.wires.WireStep.{WireStep}
use Rattle.relay_work.specs.declared.turns.RelayEnded.TheVariants as ended

-- These steps were made, and their events dispatched: the connections tell the steps, the journal has the events' lines, and
-- the relay and the connections belong together, of the tape that goes on with these events.
pub record Does (limit : ℕ) (names : List (List ℕ)) (h : Tape) (old : Live) (steps : List WireStep) (new : Live) : Type 0 where
  pub told : new.seen.steps ≡ with_all steps old.seen.steps
  pub text : Appends old.text new.text (lines_of names (events_in steps))
  pub shown : events_back (tape_after limit steps h) ≡ shown_after (events_in steps) (events_back h)
  pub belong : Belong limit names new.relay new.seen (tape_after limit steps h)

-- Where it was cut short: the steps whose events were dispatched, the last one, if its event wasn't, and of that one's line
-- what stands in the journal and what doesn't.
pub record Cut : Type 0 where
  pub done : List WireStep
  pub last : List WireStep
  pub front : List ℕ
  pub rest : List ℕ

-- the relay stands for the tape with what was dispatched
pub record Stands (limit : ℕ) (names : List (List ℕ)) (h : Tape) (steps : List WireStep) (new : Live) : Type 0 where
  pub rests : Rests limit names new.relay (tape_after limit steps h)
  pub shown : events_back (tape_after limit steps h) ≡ shown_after (events_in steps) (events_back h)

-- The event of one step wasn't dispatched since the journal failed. Out of memory, that of one or of none wasn't, and its line
-- stands whole in the journal or isn't there; nothing is said of the relay then.
abbrev pub EndsCut : RelayEnded → (limit : ℕ) (names : List (List ℕ)) (h : Tape) (cut : Cut) (new : Live) → Type 0
EndsCut ended.Turns limit names h cut new = ⊥
EndsCut ended.Stopped limit names h cut new = ⊥
EndsCut ended.TapsFault limit names h cut new = (cut.last ≡ []) × Stands limit names h cut.done new
EndsCut ended.JournalFault limit names h cut new = (length cut.last ≡ 1) × (length (events_in cut.last) ≡ 1) × Stands limit names h cut.done new
EndsCut ended.Memory limit names h cut new = (length cut.last ≤ 1) × ((cut.front ≡ []) ⊎ (cut.rest ≡ []))

pub record DoesCut (limit : ℕ) (names : List (List ℕ)) (h : Tape) (old : Live) (end : RelayEnded) (cut : Cut) (new : Live) : Type 0 where
  pub told : new.seen.steps ≡ with_all (cut.done ++ cut.last) old.seen.steps
  pub line : lines_of names (events_in cut.last) ≡ cut.front ++ cut.rest
  pub text : Appends old.text new.text (lines_of names (events_in cut.done) ++ cut.front)
  pub ends : EndsCut end limit names h cut new

-- all turns are whole
pub record Whole (limit : ℕ) (names : List (List ℕ)) (h : Tape) (old new : Live) : Type 0 where
  pub turns : List (List WireStep)
  pub are : AreTurns limit turns h
  pub does : Does limit names h old (joined turns) new

-- after whole turns one was cut short
pub record Short (limit : ℕ) (names : List (List ℕ)) (h : Tape) (old : Live) (end : RelayEnded) (new : Live) : Type 0 where
  pub turns : List (List WireStep)
  pub part : List WireStep
  pub cut : Cut
  pub is : cut.done ≡ joined turns ++ part
  pub are : AreTurns limit turns h
  pub begins : Begins limit (part ++ cut.last) (tape_after limit (joined turns) h)
  pub does : DoesCut limit names h old end cut new
  pub none : NoneStops turns

-- so many turns, in none of which the answer was Stop
pub record AllTurns (limit : ℕ) (names : List (List ℕ)) (h : Tape) (n : ℕ) (old new : Live) : Type 0 where
  pub whole : Whole limit names h old new
  pub number : length whole.turns ≡ n
  pub none : NoneStops whole.turns

-- at most so many turns, of which the last one alone has the answer Stop
pub record UntilStop (limit : ℕ) (names : List (List ℕ)) (h : Tape) (n : ℕ) (old new : Live) : Type 0 where
  pub whole : Whole limit names h old new
  pub number : length whole.turns ≤ n
  pub last : LastStops whole.turns

abbrev pub Works : (limit : ℕ) (names : List (List ℕ)) (h : Tape) → ℕ → Live → RelayEnded → Live → Type 0
Works limit names h n old ended.Turns new = AllTurns limit names h n old new
Works limit names h n old ended.Stopped new = UntilStop limit names h n old new
Works limit names h n old end new = Short limit names h old end new

-- of each tape of which they belonged together
pub record WorksFrom (names : List (List ℕ)) (n : ℕ) (old : Live) (end : RelayEnded) (new : Live) : Type 0 where
  pub goes : (limit : ℕ) (h : Tape) → Belong limit names old.relay old.seen h → Works limit names h n old end new
