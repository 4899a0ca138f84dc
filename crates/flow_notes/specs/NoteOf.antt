-- The note that words spell, if any, found word by word.
use Rattle.std.specs.Prelude.{ℕ, Bool, true, false, List, [], ◌∷◌, codes, Option, None, Some, if◌then◌else◌}
use Rattle.std.specs.Option.{option_map}
use Rattle.std.specs.Str.{bytes_eq}
use Rattle.flow_rules.specs.declared.ids.BufferId.{BufferId}
use Rattle.flow_rules.specs.declared.ids.BufferId.TheVariants as buffers
use Rattle.flow_rules.specs.declared.ids.FlowId.{FlowId}
use Rattle.flow_notes.specs.EventOf.{wire_of, plain_of}
use Rattle.flow_notes.specs.Meaning.{◌>>=◌, counted_of, number_of, u16_of, u32_of, u64_of, octets_of, flow_of}
use Rattle.flow_notes.specs.Split.{one_of, two_of, three_of, four_of}
use Rattle.flow_notes.specs.declared.events.Event.{Event}
use Rattle.flow_notes.specs.declared.events.Event.TheVariants as event
use Rattle.flow_rules.specs.declared.causes.Cause.{Cause}
use Rattle.flow_rules.specs.declared.causes.Cause.TheVariants as causes
use Rattle.flow_notes.specs.declared.notes.CloseCause.{CloseCause}
use Rattle.flow_notes.specs.declared.notes.CloseCause.TheVariants as closes
use Rattle.flow_rules.specs.declared.causes.FireKind.{FireKind}
use Rattle.flow_rules.specs.declared.causes.FireKind.TheVariants as kinds
use Rattle.flow_notes.specs.declared.notes.Note.{Note}
use Rattle.flow_notes.specs.declared.notes.Note.TheVariants as notes

unfoldable pub kind_of : List ℕ → Option FireKind
kind_of word =
    if bytes_eq word (codes "route") then Some kinds.Route
    else if bytes_eq word (codes "stream-idle") then Some kinds.StreamIdle
    else if bytes_eq word (codes "connection-idle") then Some kinds.ConnectionIdle
    else None

unfoldable pub close_of : List ℕ → Option CloseCause
close_of word =
    if bytes_eq word (codes "protocol") then Some closes.Protocol
    else if bytes_eq word (codes "lost") then Some closes.Lost
    else if bytes_eq word (codes "drained") then Some closes.Drained
    else if bytes_eq word (codes "idle") then Some closes.Idle
    else if bytes_eq word (codes "overload") then Some closes.Overload
    else if bytes_eq word (codes "flood") then Some closes.Flood
    else None

unfoldable pub last_of : List ℕ → Option Bool
last_of word =
    if bytes_eq word (codes "more") then Some false
    else if bytes_eq word (codes "end") then Some true
    else None

-- a cause of one word
unfoldable pub cause_of_one : List ℕ → Option Cause
cause_of_one word =
    if bytes_eq word (codes "done") then Some causes.Done
    else if bytes_eq word (codes "too-large") then Some causes.TooLarge
    else if bytes_eq word (codes "overload") then Some causes.Overload
    else if bytes_eq word (codes "overflow") then Some causes.Overflow
    else if bytes_eq word (codes "early-end") then Some causes.EarlyEnd
    else None

-- a cause of two words
unfoldable pub cause_of_two : List ℕ → List ℕ → Option Cause
cause_of_two word value =
    if bytes_eq word (codes "peer-reset") then option_map causes.PeerReset (u32_of value)
    else if bytes_eq word (codes "stream-error") then option_map causes.StreamError (u32_of value)
    else if bytes_eq word (codes "timeout") then option_map causes.Timeout (kind_of value)
    else if bytes_eq word (codes "conn-lost") then option_map causes.ConnLost (u32_of value)
    else if bytes_eq word (codes "refused") then option_map causes.Refused (u16_of value)
    else None

-- a cause of three words
unfoldable pub posted_of : List (List ℕ) → Option Cause
posted_of words = do
  w ← three_of words
  if bytes_eq w.0 (codes "posted") then (do
    poster ← u32_of w.1
    number ← u64_of w.2
    Some (causes.Posted poster number)) else None

abbrev pub cause_by_two : Option (List ℕ × List ℕ) → List (List ℕ) → Option Cause
cause_by_two (Some w) words = cause_of_two w.0 w.1
cause_by_two None words = posted_of words

abbrev pub cause_by_one : Option (List ℕ) → List (List ℕ) → Option Cause
cause_by_one (Some word) words = cause_of_one word
cause_by_one None words = cause_by_two (two_of words) words

unfoldable pub cause_of : List (List ℕ) → Option Cause
cause_of words = cause_by_one (one_of words) words

-- a buffer with a number behind it, of this flow
unfoldable pub numbered_of : FlowId → List ℕ → List ℕ → Option BufferId
numbered_of flow word value =
    if bytes_eq word (codes "stage") then option_map (buffers.Stage flow) (counted_of value)
    else if bytes_eq word (codes "write") then option_map buffers.Write (u32_of value)
    else None

abbrev pub buffer_by : Option (List ℕ) → FlowId → List (List ℕ) → Option BufferId
buffer_by (Some word) flow words = if bytes_eq word (codes "send") then Some (buffers.Send flow) else None
buffer_by None flow words = do
  w ← two_of words
  numbered_of flow w.0 w.1

-- a buffer that pauses this flow
unfoldable pub buffer_of : FlowId → List (List ℕ) → Option BufferId
buffer_of flow words = buffer_by (one_of words) flow words

-- a flow and a buffer that pauses it
unfoldable pub crossing_of : List (List ℕ) → Option (FlowId × BufferId)
crossing_of [] = None
crossing_of (word ∷ words) = do
  flow ← flow_of word
  buffer ← buffer_of flow words
  Some (flow, buffer)

-- each of these is given the words behind the keyword
abbrev pub any_by : Option Event → List (List ℕ) → Option Event
any_by (Some happens) words = Some happens
any_by None words = option_map event.Plain (plain_of words)

-- an event of either kind of session
unfoldable pub any_of : List (List ℕ) → List (List ℕ) → Option Event
any_of names words = any_by (wire_of names words) words

unfoldable pub turn_of : List (List ℕ) → List (List ℕ) → Option Note
turn_of names [] = None
turn_of names (number ∷ words) = do
  n ← number_of 1 18446744073709551615 number
  happens ← any_of names words
  Some (notes.Turn n happens)

unfoldable pub arrive_of : List (List ℕ) → Option Note
arrive_of words = do
  w ← two_of words
  flow ← flow_of w.0
  octets ← octets_of w.1
  Some (notes.Arrive flow octets)

unfoldable pub move_of : List (List ℕ) → Option Note
move_of words = do
  w ← three_of words
  flow ← flow_of w.0
  place ← u32_of w.1
  n ← u32_of w.2
  Some (notes.Move flow place n)

unfoldable pub frame_of : List (List ℕ) → Option Note
frame_of words = do
  w ← four_of words
  conn ← u32_of w.0
  flow ← flow_of w.1
  n ← u32_of w.2
  last ← last_of w.3
  Some (notes.Frame conn flow n last)

unfoldable pub out_of : List (List ℕ) → Option Note
out_of words = do
  w ← two_of words
  conn ← u32_of w.0
  n ← counted_of w.1
  Some (notes.Out conn n)

unfoldable pub pause_of : List (List ℕ) → Option Note
pause_of words = do
  c ← crossing_of words
  Some (notes.Pause c.0 c.1)

unfoldable pub resume_of : List (List ℕ) → Option Note
resume_of words = do
  c ← crossing_of words
  Some (notes.Resume c.0 c.1)

unfoldable pub credit_of : List (List ℕ) → Option Note
credit_of words = do
  w ← three_of words
  conn ← u32_of w.0
  stream ← u32_of w.1
  n ← u32_of w.2
  Some (notes.Credit conn stream n)

unfoldable pub head_of : List (List ℕ) → Option Note
head_of words = do
  w ← three_of words
  conn ← u32_of w.0
  stream ← u32_of w.1
  octets ← octets_of w.2
  Some (notes.Head conn stream octets)

unfoldable pub answer_of : List (List ℕ) → Option Note
answer_of words = do
  w ← two_of words
  conn ← u32_of w.0
  octets ← octets_of w.1
  Some (notes.Answer conn octets)

unfoldable pub waste_of : List (List ℕ) → Option Note
waste_of words = do
  w ← three_of words
  conn ← u32_of w.0
  stream ← u32_of w.1
  n ← u32_of w.2
  Some (notes.Waste conn stream n)

unfoldable pub start_of : List (List ℕ) → Option Note
start_of words = do
  w ← four_of words
  exchange ← u64_of w.0
  conn ← u32_of w.1
  stream ← u32_of w.2
  to ← u32_of w.3
  Some (notes.Start exchange conn stream to)

unfoldable pub doom_of : List (List ℕ) → Option Note
doom_of [] = None
doom_of (exchange ∷ words) = do
  x ← u64_of exchange
  cause ← cause_of words
  Some (notes.Doom x cause)

unfoldable pub over_of : List (List ℕ) → Option Note
over_of words = do
  exchange ← one_of words
  x ← u64_of exchange
  Some (notes.Gone x)

unfoldable pub closed_of : List (List ℕ) → Option Note
closed_of words = do
  w ← three_of words
  conn ← u32_of w.0
  code ← u32_of w.1
  cause ← close_of w.2
  Some (notes.Close conn code cause)

unfoldable pub fire_of : List (List ℕ) → Option Note
fire_of words = do
  w ← two_of words
  kind ← kind_of w.0
  id ← u64_of w.1
  Some (notes.Fire kind id)

-- a note of octets that flow
unfoldable pub flow_note_of : List ℕ → List (List ℕ) → Option Note
flow_note_of keyword words =
    if bytes_eq keyword (codes "move") then move_of words
    else if bytes_eq keyword (codes "frame") then frame_of words
    else if bytes_eq keyword (codes "out") then out_of words
    else if bytes_eq keyword (codes "pause") then pause_of words
    else if bytes_eq keyword (codes "resume") then resume_of words
    else if bytes_eq keyword (codes "credit") then credit_of words
    else if bytes_eq keyword (codes "waste") then waste_of words
    else None

-- a note of a beginning or an end
unfoldable pub life_note_of : List ℕ → List (List ℕ) → Option Note
life_note_of keyword words =
    if bytes_eq keyword (codes "start") then start_of words
    else if bytes_eq keyword (codes "doom") then doom_of words
    else if bytes_eq keyword (codes "gone") then over_of words
    else if bytes_eq keyword (codes "close") then closed_of words
    else if bytes_eq keyword (codes "fire") then fire_of words
    else flow_note_of keyword words

-- a tape's line
unfoldable pub note_of : List (List ℕ) → List (List ℕ) → Option Note
note_of names [] = None
note_of names (keyword ∷ words) =
    if bytes_eq keyword (codes "turn") then turn_of names words
    else if bytes_eq keyword (codes "in") then arrive_of words
    else if bytes_eq keyword (codes "head") then head_of words
    else if bytes_eq keyword (codes "answer") then answer_of words
    else life_note_of keyword words
