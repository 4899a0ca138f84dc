-- A small made-up kind of session that shows what the laws need: connections 1 and 2, and exchanges between them whose requests
-- pass a Meter and whose responses pass a Hold.
use Rattle.flow_rules.specs.declared.ids.FlowId.{FlowId}
use Rattle.flow_laws.specs.Balance.{IsBalanced}
use Rattle.flow_laws.specs.Endings.{times_ended}
use Rattle.flow_laws.specs.Laws.{GoesOnSoundly}
use Rattle.flow_laws.specs.Octets.{LosesNothing}
use Rattle.flow_laws.specs.Rest.{IsResting}
use Rattle.flow_laws.specs.Suits.{IsSound}
use Rattle.flow_laws.specs.Ways.{HasLimits, HasWays}
use Rattle.std.specs.Prelude.{Bool, List, None, Option, Some, [], false, if◌then◌else◌, option_map, ℕ, ◌++◌, ◌==◌, ◌||◌, ◌∷◌, ◌≤◌}
use Rattle.tape_laws.specs.Flows.{request, response, same_flow}
use Rattle.tape_laws.specs.Headline.{Headline}
use Rattle.tape_laws.specs.History.{History, Marked, Noted, Step}
use Rattle.tape_laws.specs.Quiet.{IsQuiet}
use Rattle.tape_laws.specs.Setup.{Session, Setup}
use Rattle.tape_laws.specs.Sources.{EachLive}
use Rattle.tape_laws.specs.Units.{Demand, Hold, Meter, Pick, WantsStart}
use Rattle.flow_notes.specs.declared.events.Event.TheVariants as event
use Rattle.flow_notes.specs.declared.notes.Note.TheVariants as note

-- octets of a flow's body came, or its end; something is asked for; a unit was picked
pub data MadeMark : Type 0 where
  Came : FlowId → List ℕ → MadeMark
  Ended : FlowId → MadeMark
  Asks : List Demand → MadeMark
  Picked : Pick → MadeMark

abbrev pub Made : Type 0
Made = History MadeMark

-- the connections between which an exchange goes, by its start note
pub record Between : Type 0 where
  pub conn : ℕ
  pub to : ℕ

abbrev pub between : ℕ → Made → Option Between
between x [] = None
between x (Noted (note.Start y c s d) ∷ past) = if y == x then Some (record { conn = c; to = d }) else between x past
between x (step ∷ past) = between x past

abbrev pub made_from : FlowId → Made → Option ℕ
made_from f past = option_map (λ b. if f.back then b.to else b.conn) (between f.exchange past)

abbrev pub made_to : FlowId → Made → Option ℕ
made_to f past = option_map (λ b. if f.back then b.conn else b.to) (between f.exchange past)

abbrev pub made_body : FlowId → Made → List ℕ
made_body f [] = []
made_body f (Marked (Came g octets) ∷ past) = made_body f past ++ (if same_flow g f then octets else [])
made_body f (step ∷ past) = made_body f past

abbrev pub made_ended : FlowId → Made → Bool
made_ended f [] = false
made_ended f (Marked (Ended g) ∷ past) = same_flow g f || made_ended f past
made_ended f (step ∷ past) = made_ended f past

abbrev pub made_picks : MadeMark → Option Pick
made_picks (Picked p) = Some p
made_picks mark = None

abbrev pub made_setup : Setup MadeMark
made_setup = record {
  recv = 40000;
  together = Some 60000;
  send = 20000;
  write = 30000;
  quantum = 16384;
  overflow = 0;
  first_open = 1 ∷ 2 ∷ [];
  flows = λ x. request x ∷ response x ∷ [];
  stages = λ f past. if f.back then Hold 50000 ∷ [] else Meter 1000 500 ∷ [];
  comes_from = made_from;
  goes_to = made_to;
  stream = λ f past. f.exchange;
  body = made_body;
  ended = made_ended;
  carries = λ f past. 16384;
  head_waits = λ f past. false;
  head_ends = λ f past. false;
  trailers_wait = λ f past. false;
  waiting = λ c past. [];
  grants = λ c past. [];
  picks = made_picks;
}

abbrev pub made_asked : Step MadeMark → Made → List Demand
made_asked (Marked (Asks ds)) past = ds
made_asked step past = []

abbrev pub made_session : Session MadeMark
made_session = record {
  setup = made_setup;
  asked = made_asked;
  licensed = λ step past. Unit {0};
  may = λ step past. Unit {0};
  must_end = λ x past. false;
  leaves = λ past. Unit {0};
}

-- a tape that begins: octets come for exchange 1, arrive and move on
abbrev pub made_tape : Made
made_tape =
    Noted (note.Move (request 1) 0 3)
    ∷ Noted (note.Arrive (request 1) (7 ∷ 8 ∷ 9 ∷ []))
    ∷ Marked (Came (request 1) (7 ∷ 8 ∷ 9 ∷ []))
    ∷ Noted (note.Start 1 1 1 2)
    ∷ Marked (Asks (WantsStart 1 1 1 2 ∷ []))
    ∷ Noted (note.Turn 1 (event.Tick 0))
    ∷ []

-- all laws apply
pub record LawsApply : Type 0 where
  pub ways : HasWays made_setup
  pub limits : HasLimits made_setup
  pub begins : IsSound made_session []
  pub goes_on : (past : Made) → IsSound made_session past → GoesOnSoundly made_session past
  pub worked : IsSound made_session made_tape
  pub balance : EachLive made_setup (λ f. IsBalanced made_setup f made_tape) made_tape
  pub lost : EachLive made_setup (λ f. LosesNothing made_setup f made_tape) made_tape
  pub ends : (past : Made) → IsSound made_session past → (f : FlowId) → times_ended made_setup f past ≤ 1
  pub quiet : (past : Made) → IsSound made_session past → IsResting made_session past → IsQuiet made_session past
  pub headline : (past : Made) → IsSound made_session past → IsQuiet made_session past → Headline made_setup past
