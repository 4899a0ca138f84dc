-- What the world of a wire session's tape needs beside the notes: the stages that an exchange passes, which its start note
-- doesn't tell, whether its request goes to a connection, where that note says 0, and the stream that a request gets at its cluster,
-- of which no note says whose it is.
use Rattle.flow_rules.specs.declared.ids.FlowId.{FlowId}
use Rattle.flow_notes.specs.declared.notes.Note.{Note}
use Rattle.flow_notes.specs.declared.notes.Note.TheVariants as note
use Rattle.proxy_config.specs.declared.routes.Filter.{Filter}
use Rattle.proxy_config.specs.declared.routes.Filter.TheVariants as filter
use Rattle.std.specs.Prelude.{List, None, Option, [], false, if◌then◌else◌, not, ℕ, ◌&&◌, ◌==◌, ◌∷◌}
use Rattle.tape_laws.specs.Flows.{request, response}
use Rattle.tape_laws.specs.History.{History, Marked, Noted, Step}
use Rattle.tape_laws.specs.Setup.{Setup}
use Rattle.tape_laws.specs.Units.{Hold, Meter, StageKind}
use Rattle.tape_laws.specs.World.{received}

-- with the start of an exchange: the row of its route and the connection that its request goes to, if it has them, and the stages of
-- its request and of its response; and when its request gets its stream
pub data Way : Type 0 where
  Passes : (exchange : ℕ) → (row to : Option ℕ) → (request response : List StageKind) → Way
  Opens : (exchange stream : ℕ) → Way

abbrev pub WayStep : Type 0
WayStep = Step Way

abbrev pub WayHistory : Type 0
WayHistory = History Way

-- the stages that a flow passes
abbrev pub stages_passed : FlowId → WayHistory → List StageKind
stages_passed f [] = []
stages_passed f (Marked (Passes x row to there back) ∷ past) = if x == f.exchange then (if f.back then back else there) else stages_passed f past
stages_passed f (step ∷ past) = stages_passed f past

-- the connection that the request of an exchange goes to, if there is one
abbrev pub goal_in : ℕ → WayHistory → Option ℕ
goal_in x [] = None
goal_in x (Marked (Passes y row to there back) ∷ past) = if y == x then to else goal_in x past
goal_in x (step ∷ past) = goal_in x past

-- the stream that it has where it goes: a response's is named by its start
abbrev pub stream_to : FlowId → WayHistory → ℕ
stream_to f [] = 0
stream_to f (Noted (note.Start x c s d) ∷ past) = if f.back && (x == f.exchange) then s else stream_to f past
stream_to f (Marked (Opens x s) ∷ past) = if not f.back && (x == f.exchange) then s else stream_to f past
stream_to f (step ∷ past) = stream_to f past

-- All that a world asks of a session: the body of a flow is what was read for it. What decides what may move and be framed is left empty.
abbrev pub world_setup : Setup Way
world_setup = record {
  recv = 0;
  together = None;
  send = 0;
  write = 0;
  quantum = 0;
  overflow = 0;
  first_open = [];
  flows = λ x. request x ∷ response x ∷ [];
  stages = λ f past. stages_passed f past;
  comes_from = λ f past. None;
  goes_to = λ f past. None;
  stream = λ f past. stream_to f past;
  body = λ f past. received f past;
  ended = λ f past. false;
  carries = λ f past. 0;
  head_waits = λ f past. false;
  head_ends = λ f past. false;
  trailers_wait = λ f past. false;
  waiting = λ c past. [];
  grants = λ c past. [];
  picks = λ m. None;
}

-- the stages of one side of a route row: a Pass keeps no octets, and so is no stage
abbrev pub stages_of : List Filter → List StageKind
stages_of [] = []
stages_of (filter.Pass ∷ fs) = stages_of fs
stages_of (filter.Hold limit ∷ fs) = Hold limit ∷ stages_of fs
stages_of (filter.Meter limit rate ∷ fs) = Meter limit rate ∷ stages_of fs

-- the notes among these steps, in their order
abbrev pub shown : List WayStep → List Note
shown [] = []
shown (Noted n ∷ steps) = n ∷ shown steps
shown (Marked m ∷ steps) = shown steps

-- a history with these steps after it, the first of them first
abbrev pub after : List WayStep → WayHistory → WayHistory
after [] past = past
after (s ∷ ss) past = after ss (s ∷ past)
