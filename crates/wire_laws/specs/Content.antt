-- Flow-controlled content: each octet of it enters one receive buffer or is wasted (RFC 9113 section 6.9.1).
use Rattle.h2_frames.specs.Frame.{content_of}
use Rattle.h2_frames.specs.Spelling.{stream_of}
use Rattle.proxy_config.specs.declared.config.Config.{Config}
use Rattle.std.specs.Bool.{OnTrue}
use Rattle.std.specs.Prelude.{Bool, IfSome, IsTrue, [], false, if◌then◌else◌, length, true, ℕ, ◌&&◌, ◌+◌, ◌<◌, ◌==◌, ◌∷◌, ◌≡◌, ◌≤◌}
use Rattle.tape_laws.specs.Dispatches.{is_some_of}
use Rattle.tape_laws.specs.History.{Marked, Noted}
use Rattle.tape_laws.specs.Units.{Farewell}
use Rattle.wire_laws.specs.Base.{is_open_conn}
use Rattle.wire_laws.specs.Marks.{Picked, Took, WireHistory, WireStep, taking}
use Rattle.wire_laws.specs.Streams.{conn_from, stream_from}
use Rattle.flow_notes.specs.declared.notes.Note.TheVariants as note

-- the content that came on a stream
abbrev pub content_on : ℕ → ℕ → WireHistory → ℕ
content_on c s [] = 0
content_on c s (Marked (Took d frame a reading) ∷ past) =
    (if (d == c) && (stream_of frame == s) then content_of frame else 0) + content_on c s past
content_on c s (step ∷ past) = content_on c s past

-- what became of it: body that entered a buffer, and waste
abbrev pub placed_on : ℕ → ℕ → WireHistory → ℕ
placed_on c s [] = 0
placed_on c s (Noted (note.Arrive f octets) ∷ past) =
    (if is_some_of (conn_from f past) c && (stream_from f past == s) then length octets else 0) + placed_on c s past
placed_on c s (Noted (note.Waste d t n) ∷ past) = (if (d == c) && (t == s) then n else 0) + placed_on c s past
placed_on c s (step ∷ past) = placed_on c s past

-- of the frame that was taken last all content is placed, if its connection is open
abbrev pub IsPlaced : Config → WireHistory → Type 0
IsPlaced config past = IfSome (taking past) (λ t.
    OnTrue (is_open_conn config t.conn past)
    (placed_on t.conn (stream_of t.frame) past ≡ content_on t.conn (stream_of t.frame) past))

-- waste is content of an open connection that is in no other place
pub record IsWaste (config : Config) (c s n : ℕ) (past : WireHistory) : Type 0 where
  pub opened : IsTrue (is_open_conn config c past)
  pub some : 0 < n
  pub came : placed_on c s past + n ≤ content_on c s past

-- octets go on, a unit is framed or a frame taken; only dooms and closes come before the content of a frame that is refused
abbrev pub goes_on : WireStep → Bool
goes_on (Noted (note.Move f p n)) = true
goes_on (Noted (note.Frame c f n last)) = true
goes_on (Noted (note.Credit c s n)) = true
goes_on (Noted (note.Resume f b)) = true
goes_on (Noted (note.Turn k e)) = true
goes_on (Marked (Took c frame a reading)) = true
goes_on (Marked (Picked c (Farewell code why))) = false
goes_on (Marked (Picked c u)) = true
goes_on step = false

-- a frame's content is placed before anything goes on
abbrev pub PlacesContent : Config → WireStep → WireHistory → Type 0
PlacesContent config (Noted (note.Waste c s n)) past = IsWaste config c s n past
PlacesContent config step past = OnTrue (goes_on step) (IsPlaced config past)
