-- What the marks beside a wire session's notes are tied to: its start notes, the numbers of its exchanges, and the routes of its
-- configuration.
use Rattle.exchange_core.specs.Exchange.{filters_of, side_filters}
use Rattle.flow_notes.specs.declared.notes.Note.TheVariants as note
use Rattle.proxy_config.specs.declared.config.Config.{Config}
use Rattle.std.specs.Prelude.{Bool, IfSome, List, None, Option, [], false, if◌then◌else◌, is_some, length, true, ℕ, ◌+◌, ◌<◌, ◌==◌, ◌||◌, ◌∷◌, ◌≡◌, ◌≤◌}
use Rattle.tape_laws.specs.Dispatches.{started}
use Rattle.tape_laws.specs.History.{Marked, Noted}
use Rattle.tape_laws.specs.Units.{StageKind}
use Rattle.wire_flows.specs.Flows.{Flows}
use Rattle.wire_links.specs.Links.{Links, ends_of}
use Rattle.wire_links.specs.declared.links.exchanges.Ends.{Ends}
use Rattle.wire_state.specs.Noting.{conn_number}
use Rattle.wire_state.specs.Ways.{Opens, Passes, WayHistory, WayStep, stages_of}
use Rattle.wire_state.specs.declared.wire_core.WireCore.{WireCore}

-- the request of an exchange got its stream at the cluster
abbrev pub is_opened : ℕ → WayHistory → Bool
is_opened x [] = false
is_opened x (Marked (Opens y s) ∷ past) = (y == x) || is_opened x past
is_opened x (step ∷ past) = is_opened x past

-- the row of the routes that an exchange began on, if it began on one
abbrev pub row_in : ℕ → WayHistory → Option ℕ
row_in x [] = None
row_in x (Marked (Passes y row to there back) ∷ past) = if y == x then row else row_in x past
row_in x (step ∷ past) = row_in x past

-- those of all exchanges that began in these steps, in their order
abbrev pub rows_in : List WayStep → List (Option ℕ)
rows_in [] = []
rows_in (Marked (Passes x row to there back) ∷ steps) = row ∷ rows_in steps
rows_in (step ∷ steps) = rows_in steps

-- the stages of one side of a row of the routes, none where there is no row
abbrev pub side_stages : Config → Option ℕ → Bool → List StageKind
side_stages config row back = stages_of (filters_of (side_filters back) row config)

-- The exchange x has the number that comes next, which its mark has too. It passes the stages of both sides of its row, which is one of
-- the routes, or none where it has no row. Its start note names the connection d that the request goes to, 0 where it goes nowhere.
pub record IsBegun (config : Config) (x d y : ℕ) (row to : Option ℕ) (there back : List StageKind) (past : WayHistory) : Type 0 where
  pub number : x ≡ length (started past) + 1
  pub same : y ≡ x
  pub goal : d ≡ conn_number to
  pub routed : IfSome row (λ r. r < length config.routes)
  pub request : there ≡ side_stages config row false
  pub response : back ≡ side_stages config row true

-- the number of the exchange was given, and its request has no stream yet
pub record MayOpen (x : ℕ) (past : WayHistory) : Type 0 where
  pub some : 0 < x
  pub given : x ≤ length (started past)
  pub first : is_opened x past ≡ false

-- the number of the exchange was given
abbrev pub IsGiven : ℕ → WayHistory → Type 0
IsGiven x past = (0 < x) × (x ≤ length (started past))

-- Each start note stands directly behind its mark, and each such mark before its start note: so an exchange has one, and none before
-- it starts. A request gets at most one stream, after its start. What moves octets of an exchange, or dooms it, stands behind its start.
abbrev pub AreWays : Config → WayHistory → Type 0
AreWays config [] = Unit {0}
AreWays config (Noted (note.Start x c s d) ∷ Marked (Passes y row to there back) ∷ past) = IsBegun config x d y row to there back past × AreWays config past
AreWays config (Noted (note.Start x c s d) ∷ past) = ⊥
AreWays config (Marked (Passes y row to there back) ∷ past) = ⊥
AreWays config (Marked (Opens x s) ∷ past) = MayOpen x past × AreWays config past
AreWays config (Noted (note.Arrive f octets) ∷ past) = IsGiven f.exchange past × AreWays config past
AreWays config (Noted (note.Move f p n) ∷ past) = IsGiven f.exchange past × AreWays config past
AreWays config (Noted (note.Frame c f n last) ∷ past) = IsGiven f.exchange past × AreWays config past
AreWays config (Noted (note.Doom x why) ∷ past) = IsGiven x past × AreWays config past
AreWays config (step ∷ past) = AreWays config past

-- ---- what a core keeps of them
-- its number was given, and its request has a stream exactly where it is marked
pub record HasMarks (x : ℕ) (h : WayHistory) (ends : Ends) : Type 0 where
  pub some : 0 < x
  pub given : x ≤ length (started h)
  pub opened : is_some ends.cluster_stream ≡ is_opened x h

-- The last number that was given is that of the starts, none above it has a stream, and each exchange that is linked has its marks.
pub record MarksAre (flows : Flows) (links : Links) (h : WayHistory) : Type 0 where
  pub numbers : flows.exchanges.last ≡ length (started h)
  pub unopened : (x : ℕ) → flows.exchanges.last < x → is_opened x h ≡ false
  pub ends : (x : ℕ) → IfSome (ends_of x links) (HasMarks x h)

-- the configuration, the greatest exchange before this dispatch, and the rows of those that began in it
pub record Footing : Type 0 where
  pub config : Config
  pub before : ℕ
  pub rows : List (Option ℕ)

abbrev pub footing_of : WireCore → Footing
footing_of core = record { config = core.config; before = core.before; rows = core.rows.items }

-- the same with these rows
abbrev pub with_rows : Footing → List (Option ℕ) → Footing
with_rows l rows = record { config = l.config; before = l.before; rows = rows }

-- none began yet in this dispatch
abbrev pub NoneYet : Footing → Flows → Type 0
NoneYet l flows = (l.rows ≡ []) × (l.before ≡ flows.exchanges.last)

abbrev pub NoneBegan : WireCore → Type 0
NoneBegan core = NoneYet (footing_of core) core.flows
