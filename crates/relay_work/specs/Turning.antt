-- One turn of a live relay.
use Rattle.flow_notes.specs.declared.events.Event.{Event}
use Rattle.relay_laws.specs.Pairs.{Tape}
use Rattle.relay_work.specs.Belonging.{Belong}
use Rattle.relay_work.specs.Events.{event_told, tape_with}
use Rattle.relay_work.specs.Live.{Live}
use Rattle.relay_work.specs.Settling.{AreCloses}
use Rattle.relay_work.specs.Turns.{AreTurns, Begins, IsTurn, NoneStops, is_stop, joined, tells_stop}
use Rattle.relay_work.specs.Works.{Cut, Does, DoesCut}
use Rattle.relay_work.specs.declared.turns.RelayEnded.{RelayEnded}
use Rattle.std.specs.Prelude.{Bool, Err, List, None, Ok, Option, Result, Some, length, ℕ, ◌++◌, ◌∷◌, ◌≡◌}
use Rattle.worker_ports.specs.declared.wires.WireStep.{WireStep}
use Rattle.worker_ports.specs.declared.wires.Wired.{Wired}
use Rattle.flow_notes.specs.declared.events.Event.TheVariants as event
use Rattle.worker_ports.specs.declared.wires.WireStep.TheVariants as step
use Rattle.worker_ports.specs.declared.wires.Wired.TheVariants as wired

-- what was told, as an event with its connection
abbrev pub event_at : Wired → Option (ℕ × Event)
event_at (wired.Accept c) = Some (c, event.Accept c)
event_at (wired.Join c cluster) = Some (c, event.Join c cluster)
event_at (wired.Read c octets) = Some (c, event.Read c octets)
event_at (wired.Lost c) = Some (c, event.Gone c)
event_at wired.Idle = None
event_at wired.Stop = None

pub record TurnedCut (limit : ℕ) (names : List (List ℕ)) (h : Tape) (old : Live) (end : RelayEnded) (new : Live) : Type 0 where
  pub cut : Cut
  pub begins : Begins limit (cut.done ++ cut.last) h
  pub does : DoesCut limit names h old end cut new

-- what was told was carried out, with closes behind it
pub record Answered (limit : ℕ) (names : List (List ℕ)) (h : Tape) (old : Live) (stops : Bool) (new : Live) : Type 0 where
  pub wired : Wired
  pub closes : List WireStep
  pub over : AreCloses closes (tape_with limit (event_told wired) h)
  pub stop : tells_stop wired ≡ stops
  pub does : Does limit names h old (step.Gave wired ∷ closes) new

abbrev pub Answers : (limit : ℕ) (names : List (List ℕ)) (h : Tape) → Live → Result Bool RelayEnded → Live → Type 0
Answers limit names h old (Ok stops) new = Answered limit names h old stops new
Answers limit names h old (Err end) new = TurnedCut limit names h old end new

pub record AnswersFrom (names : List (List ℕ)) (old : Live) (result : Result Bool RelayEnded) (new : Live) : Type 0 where
  pub goes : (limit : ℕ) (h : Tape) → Belong limit names old.relay old.seen h → Answers limit names h old result new

pub record Turned (limit : ℕ) (names : List (List ℕ)) (h : Tape) (old : Live) (stops : Bool) (new : Live) : Type 0 where
  pub steps : List WireStep
  pub is : IsTurn limit steps h
  pub stop : is_stop steps ≡ stops
  pub does : Does limit names h old steps new

abbrev pub Turns : (limit : ℕ) (names : List (List ℕ)) (h : Tape) → Live → Result Bool RelayEnded → Live → Type 0
Turns limit names h old (Ok stops) new = Turned limit names h old stops new
Turns limit names h old (Err end) new = TurnedCut limit names h old end new

pub record TurnsFrom (names : List (List ℕ)) (old : Live) (result : Result Bool RelayEnded) (new : Live) : Type 0 where
  pub goes : (limit : ℕ) (h : Tape) → Belong limit names old.relay old.seen h → Turns limit names h old result new

-- whole turns, none of which stops
pub record Turning (limit : ℕ) (names : List (List ℕ)) (h : Tape) (n : ℕ) (old new : Live) : Type 0 where
  pub turns : List (List WireStep)
  pub are : AreTurns limit turns h
  pub number : length turns ≡ n
  pub none : NoneStops turns
  pub does : Does limit names h old (joined turns) new

pub record TurningFrom (names : List (List ℕ)) (n : ℕ) (old new : Live) : Type 0 where
  pub goes : (limit : ℕ) (h : Tape) → Belong limit names old.relay old.seen h → Turning limit names h n old new
