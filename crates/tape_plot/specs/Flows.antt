-- What a flow's places and its count stand for.
use Rattle.flow_rules.specs.declared.ids.BufferId.{BufferId}
use Rattle.flow_rules.specs.declared.ids.FlowId.{FlowId}
use Rattle.flow_rules.specs.declared.causes.Cause.{Cause}
use Rattle.std.specs.Prelude.{Bool, List, None, [], false, get_or, length, map, ℕ, ◌<◌, ◌∷◌, ◌≡◌, ◌≤◌}
use Rattle.tape_laws.specs.Dispatches.{turns}
use Rattle.tape_laws.specs.History.{History, NoMark, Noted, Step}
use Rattle.tape_laws.specs.Pauses.{pauses, resumes}
use Rattle.tape_plot.specs.Lanes.{Drawn, LaneIs, Sets, drawn_of, fresh}
use Rattle.tape_plot.specs.Levels.{at, places, relayed, shown_count, was_doomed}
use Rattle.tape_plot.specs.declared.clock.Clock.{Clock}
use Rattle.tape_plot.specs.declared.flow.Flow.{Flow}
use Rattle.tape_plot.specs.declared.flow.Place.{Place}
use Rattle.flow_notes.specs.declared.notes.Note.TheVariants as note

-- the lanes of places, and that of one place, which is fresh where octets never came to it
abbrev pub lanes_of : List Place → List Drawn
lanes_of ps = map (λ p. drawn_of p.lane) ps

abbrev pub lane_at : List Drawn → ℕ → Drawn
lane_at ds p = get_or ds p fresh

-- the lanes have the numbers of a list, each at its place
pub record LanesAre (ds : List Drawn) (P : History NoMark → List ℕ) (first : ℕ) (h : History NoMark) : Type 0 where
  pub lanes : (p : ℕ) → LaneIs (lane_at ds p) (λ v. at (P v) p) first h

-- the numbers go on with a step of the present dispatch, and are these behind it
pub record Shows (old : List Drawn) (held : List ℕ) (clock : Clock) (new : List Drawn) : Type 0 where
  pub goes : (P : History NoMark → List ℕ) (step : Step NoMark) (h : History NoMark) → LanesAre old P clock.first h
      → turns (step ∷ h) ≡ clock.turn → P (step ∷ h) ≡ held → LanesAre new P clock.first (step ∷ h)

-- The lanes up to the i-th were set, those from it on are as they were.
pub record ShownTo (old : List Drawn) (held : List ℕ) (clock : Clock) (new : List Drawn) (i : ℕ) : Type 0 where
  pub done : (p : ℕ) → p < i → Sets (lane_at old p) (at held p) clock (lane_at new p)
  pub left : (p : ℕ) → i ≤ p → lane_at new p ≡ lane_at old p

-- what is kept of a flow, after a history
pub record FlowIs (flow : Flow) (f : FlowId) (first : ℕ) (h : History NoMark) : Type 0 where
  pub held : flow.held.levels.items ≡ places f h
  pub lanes : LanesAre (lanes_of flow.places.items) (places f) first h
  pub many : length flow.places.items ≡ length (places f h)
  pub pauses : flow.pauses ≡ pauses f h
  pub resumes : flow.resumes ≡ resumes f h
  pub doomed : flow.is_doomed ≡ was_doomed f.exchange h
  pub count : LaneIs (drawn_of flow.count) (shown_count f) first h

-- before the first note
pub record IsFresh (flow : Flow) : Type 0 where
  pub held : flow.held.levels.items ≡ []
  pub lanes : lanes_of flow.places.items ≡ []
  pub pauses : flow.pauses ≡ 0
  pub resumes : flow.resumes ≡ 0
  pub doomed : flow.is_doomed ≡ false
  pub count : drawn_of flow.count ≡ fresh

-- it goes on with a note of the present dispatch: octets of a flow that isn't relayed
pub record Arrives (old : Flow) (n : ℕ) (clock : Clock) (new : Flow) : Type 0 where
  pub goes : (f : FlowId) (octets : List ℕ) (h : History NoMark) → relayed f h ≡ None → length octets ≡ n → turns h ≡ clock.turn
      → FlowIs old f clock.first h → FlowIs new f clock.first (Noted (note.Arrive f octets) ∷ h)

pub record Moves (old : Flow) (place n : ℕ) (clock : Clock) (new : Flow) : Type 0 where
  pub goes : (f : FlowId) (h : History NoMark) → turns h ≡ clock.turn → FlowIs old f clock.first h
      → FlowIs new f clock.first (Noted (note.Move f place n) ∷ h)

pub record Frames (old : Flow) (n : ℕ) (clock : Clock) (new : Flow) : Type 0 where
  pub goes : (c : ℕ) (f : FlowId) (last : Bool) (h : History NoMark) → turns h ≡ clock.turn → FlowIs old f clock.first h
      → FlowIs new f clock.first (Noted (note.Frame c f n last) ∷ h)

pub record Dooms (old : Flow) (clock : Clock) (new : Flow) : Type 0 where
  pub goes : (f : FlowId) (why : Cause) (h : History NoMark) → turns h ≡ clock.turn → FlowIs old f clock.first h
      → FlowIs new f clock.first (Noted (note.Doom f.exchange why) ∷ h)

pub record Pauses (old : Flow) (clock : Clock) (new : Flow) : Type 0 where
  pub goes : (f : FlowId) (b : BufferId) (h : History NoMark) → turns h ≡ clock.turn → FlowIs old f clock.first h
      → FlowIs new f clock.first (Noted (note.Pause f b) ∷ h)

pub record Resumes (old : Flow) (clock : Clock) (new : Flow) : Type 0 where
  pub goes : (f : FlowId) (b : BufferId) (h : History NoMark) → turns h ≡ clock.turn → FlowIs old f clock.first h
      → FlowIs new f clock.first (Noted (note.Resume f b) ∷ h)
