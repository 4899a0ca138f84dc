-- What a log of the lengths of a wire session's buffers stands for: the lengths that the definitions on tapes give, and their greatest so far.
use Rattle.flow_rules.specs.declared.ids.FlowId.{FlowId}
use Rattle.flow_notes.specs.declared.notes.CloseCause.{CloseCause}
use Rattle.flow_notes.specs.declared.notes.Note.{Note}
use Rattle.flow_notes.specs.declared.notes.Note.TheVariants as note
use Rattle.std.specs.BTreeMap.{Updates, get}
use Rattle.std.specs.List.{list_any}
use Rattle.std.specs.Ordering.{is_eq, nat_cmp}
use Rattle.std.specs.Option.{option_map}
use Rattle.std.specs.Prelude.{Bool, IfSome, List, None, Option, Some, [], false, if◌then◌else◌, length, map, max, suc, true, ℕ, ◌+◌, ◌==◌, ◌∷◌, ◌≡◌, ◌⊎◌}
use Rattle.tape_laws.specs.Connections.{connections, was_closed}
use Rattle.tape_laws.specs.Dispatches.{started}
use Rattle.tape_laws.specs.Flows.{request, response}
use Rattle.tape_laws.specs.History.{History, NoMark, onto}
use Rattle.tape_laws.specs.Setup.{Setup}
use Rattle.tape_laws.specs.Summary.{peak}
use Rattle.tape_laws.specs.Units.{StageKind}
use Rattle.tape_laws.specs.Watermark.{kind_limit}
use Rattle.tape_laws.specs.World.{len, place}
use Rattle.tape_summary.specs.Levels.{emptied, fallen, no_level, risen}
use Rattle.tape_summary.specs.declared.level.Level.{Level}
use Rattle.wire_summary.specs.Places.{Side, Sides, bare, changed_at, framed, side_at, sides_of}
use Rattle.wire_summary.specs.declared.levels.BufferLimits.{BufferLimits}
use Rattle.wire_summary.specs.declared.levels.ExchangePlaces.{ExchangePlaces}
use Rattle.wire_summary.specs.declared.levels.Levels.{Levels}
use Rattle.wire_summary.specs.declared.levels.WriteLevel.{WriteLevel}
use Rattle.wire_summary.specs.declared.levels.WriteChange.{WriteChange}
use Rattle.flow_rules.specs.declared.ids.BufferId.TheVariants as buffer
use Rattle.flow_notes.specs.declared.notes.CloseCause.TheVariants as closed
use Rattle.wire_summary.specs.declared.places.Change.TheVariants as change
use Rattle.wire_summary.specs.declared.levels.WriteChange.TheVariants as put

-- All that a summary asks of a wire session: these limits, and the stages that each flow passes. What decides what may
-- move and be framed is left empty, since a summary counts what the notes moved.
abbrev pub shaped : BufferLimits → (FlowId → List StageKind) → Setup NoMark
shaped limits stages = record {
  recv = limits.recv;
  together = None;
  send = limits.send;
  write = limits.write;
  quantum = 0;
  overflow = 0;
  first_open = [];
  flows = λ x. request x ∷ response x ∷ [];
  stages = λ f past. stages f;
  comes_from = λ f past. None;
  goes_to = λ f past. None;
  stream = λ f past. 0;
  body = λ f past. [];
  ended = λ f past. false;
  carries = λ f past. 0;
  head_waits = λ f past. false;
  head_ends = λ f past. false;
  trailers_wait = λ f past. false;
  waiting = λ c past. [];
  grants = λ c past. [];
  picks = λ m. None;
}

-- the most octets that a place ever held
abbrev pub peak_place : Setup NoMark → FlowId → ℕ → History NoMark → ℕ
peak_place setup f p [] = 0
peak_place setup f p (step ∷ past) = max (length (place setup f p (step ∷ past))) (peak_place setup f p past)

abbrev pub place_level : Setup NoMark → FlowId → History NoMark → ℕ → Level
place_level setup f h p = record { held = length (place setup f p h); most = peak_place setup f p h }

-- levels are those of the places from p on
abbrev pub LevelsFrom : (ℕ → Level) → ℕ → List Level → Type 0
LevelsFrom level p [] = Unit {0}
LevelsFrom level p (l ∷ ls) = (l ≡ level p) × LevelsFrom level (suc p) ls

-- the levels of a flow's places are those of the history, and its stages have these limits
pub record SideIs (limits : BufferLimits) (stages : FlowId → List StageKind) (f : FlowId) (h : History NoMark) (side : Side) : Type 0 where
  pub limits_are : side.limits ≡ map kind_limit (stages f)
  pub long : length side.levels ≡ length (stages f) + 2
  pub levels_are : LevelsFrom (place_level (shaped limits stages) f h) 0 side.levels

pub record SidesAre (limits : BufferLimits) (stages : FlowId → List StageKind) (x : ℕ) (h : History NoMark) (sides : Sides) : Type 0 where
  pub request_is : SideIs limits stages (request x) h sides.request
  pub response_is : SideIs limits stages (response x) h sides.response

-- nothing came for an exchange
pub record IsUnnoted (limits : BufferLimits) (stages : FlowId → List StageKind) (x : ℕ) (h : History NoMark) : Type 0 where
  pub request_none : (p : ℕ) → place_level (shaped limits stages) (request x) h p ≡ no_level
  pub response_none : (p : ℕ) → place_level (shaped limits stages) (response x) h p ≡ no_level

-- what is kept of an exchange, if anything is
abbrev pub ExchangeIs : BufferLimits → (FlowId → List StageKind) → ℕ → History NoMark → Option ExchangePlaces → Type 0
ExchangeIs limits stages x h None = IsUnnoted limits stages x h
ExchangeIs limits stages x h (Some e) = SidesAre limits stages x h (sides_of e)

abbrev pub kept_write : Option WriteLevel → WriteLevel
kept_write None = record { level = no_level; closed = false }
kept_write (Some w) = w

abbrev pub write_level : Setup NoMark → ℕ → History NoMark → WriteLevel
write_level setup c h = record { level = record { held = len setup (buffer.Write c) h; most = peak setup (buffer.Write c) h }; closed = was_closed c h }

pub record LevelsUnder (limits : BufferLimits) (stages : FlowId → List StageKind) (levels : Levels) (h : History NoMark) : Type 0 where
  pub started_are : levels.started.items ≡ started h
  pub conns_are : levels.conns.items ≡ connections (shaped limits stages) h
  pub exchanges_are : (x : ℕ) → ExchangeIs limits stages x h (get nat_cmp levels.exchanges x)
  pub writes_are : (c : ℕ) → kept_write (get nat_cmp levels.writes c) ≡ write_level (shaped limits stages) c h

-- the limits of the stages that an exchange's request and its response pass
pub record StageLimits : Type 0 where
  pub request : List ℕ
  pub response : List ℕ

abbrev pub no_limits : StageLimits
no_limits = record { request = []; response = [] }

-- what was said of an exchange, if anything was
abbrev pub known_limits : Levels → ℕ → Option StageLimits
known_limits levels x = option_map (λ e. record { request = e.request.limits.items; response = e.response.limits.items }) (get nat_cmp levels.exchanges x)

-- these stages have the limits that were said
abbrev pub Agrees : (FlowId → List StageKind) → Levels → Type 0
Agrees stages levels =
    (x : ℕ) → IfSome (known_limits levels x) (λ l. (l.request ≡ map kind_limit (stages (request x))) × (l.response ≡ map kind_limit (stages (response x))))

-- the log stands for the history, whatever stages the flows pass of which nothing was said
pub record LevelsAre (limits : BufferLimits) (levels : Levels) (h : History NoMark) : Type 0 where
  pub limits_are : levels.limits ≡ limits
  pub goes : (stages : FlowId → List StageKind) → Agrees stages levels → LevelsUnder limits stages levels h

-- what was said of an exchange stays, and of each other one these limits are said at most
pub record LimitsGrow (old new : Levels) (said : StageLimits) : Type 0 where
  pub stay : (x : ℕ) (l : StageLimits) → known_limits old x ≡ Some l → known_limits new x ≡ Some l
  pub come : (x : ℕ) → known_limits old x ≡ None → (known_limits new x ≡ None) ⊎ (known_limits new x ≡ Some said)

-- the note moves octets of the exchange, or dooms it
abbrev pub names : Note → ℕ → Bool
names (note.Arrive f octets) x = f.exchange == x
names (note.Move f p n) x = f.exchange == x
names (note.Frame c f n last) x = f.exchange == x
names (note.Doom y why) x = y == x
names n x = false

abbrev pub named : List Note → ℕ → Bool
named ns x = list_any (λ n. names n x) ns

-- the notes were taken up; of an exchange that none of them names nothing is said
pub record LevelsGo (old : Levels) (ns : List Note) (new : Levels) : Type 0 where
  pub goes : (limits : BufferLimits) (h : History NoMark) → LevelsAre limits old h → LevelsAre limits new (onto ns h)
  pub grow : LimitsGrow old new no_limits
  pub hides : (x : ℕ) → named ns x ≡ false → known_limits old x ≡ None → known_limits new x ≡ None

-- of this exchange these limits were said, unless others were before, and of each other one what was said before
pub record SaysOf (x : ℕ) (old new : Levels) (said : StageLimits) : Type 0 where
  pub here : known_limits old x ≡ None → known_limits new x ≡ Some said
  pub others : (y : ℕ) → (x == y) ≡ false → known_limits new y ≡ known_limits old y

-- stages were said of an exchange
pub record LevelsPass (x : ℕ) (old : Levels) (said : StageLimits) (new : Levels) : Type 0 where
  pub goes : (limits : BufferLimits) (h : History NoMark) → LevelsAre limits old h → LevelsAre limits new h
  pub grow : LimitsGrow old new said
  pub says : SaysOf x old new said

-- what one step of the notes does to the log: an exchange's places are other ones, or a connection's level is
abbrev pub kept_sides : Option ExchangePlaces → Sides
kept_sides None = bare
kept_sides (Some e) = sides_of e

abbrev pub sides_in : Levels → ℕ → Sides
sides_in levels x = kept_sides (get nat_cmp levels.exchanges x)

-- the places of one exchange are these
pub record SetsSides (old : Levels) (x : ℕ) (sides : Sides) (new : Levels) : Type 0 where
  pub limits : new.limits ≡ old.limits
  pub started : new.started ≡ old.started
  pub conns : new.conns ≡ old.conns
  pub writes : new.writes ≡ old.writes
  pub here : option_map sides_of (get nat_cmp new.exchanges x) ≡ Some sides
  pub others : (y : ℕ) → is_eq (nat_cmp x y) ≡ false → get nat_cmp new.exchanges y ≡ get nat_cmp old.exchanges y

-- the level of one connection is this
pub record SetsWrite (old : Levels) (c : ℕ) (level : WriteLevel) (new : Levels) : Type 0 where
  pub limits : new.limits ≡ old.limits
  pub started : new.started ≡ old.started
  pub conns : new.conns ≡ old.conns
  pub exchanges : new.exchanges ≡ old.exchanges
  pub writes : Updates nat_cmp old.writes new.writes c (Some level)

-- what a change leaves of a write buffer's level
abbrev pub written : WriteChange → WriteLevel → WriteLevel
written (put.Put n) w = record { level = risen w.level n; closed = w.closed }
written (put.Take n) w = record { level = fallen w.level n; closed = w.closed }
written (put.Close lost) w = record { level = if lost then emptied w.level else w.level; closed = true }
written put.Lose w = record { level = if w.closed then emptied w.level else w.level; closed = w.closed }

abbrev pub write_in : Levels → ℕ → WriteLevel
write_in levels c = kept_write (get nat_cmp levels.writes c)

-- a frame leaves the send buffer of its flow, with its head into the write buffer of its connection
pub record Frames (old : Levels) (c : ℕ) (f : FlowId) (n : ℕ) (new : Levels) : Type 0 where
  pub mid : Levels
  pub sides : SetsSides old f.exchange (changed_at f.back (change.Frame n) (sides_in old f.exchange)) mid
  pub write : SetsWrite mid c (written (put.Put (framed (change.Frame n) (side_at f.back (sides_in old f.exchange)).levels + 9)) (write_in mid c)) new

abbrev pub is_lost : CloseCause → Bool
is_lost closed.Lost = true
is_lost cause = false
