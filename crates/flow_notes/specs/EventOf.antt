-- The event that words spell, if any, found word by word.
use Rattle.std.specs.Prelude.{ℕ, Bool, List, [], ◌∷◌, codes, Option, None, Some, if◌then◌else◌}
use Rattle.std.specs.Option.{option_map}
use Rattle.std.specs.Str.{bytes_eq}
use Rattle.flow_notes.specs.Name.{place_of}
use Rattle.flow_notes.specs.Meaning.{◌>>=◌, u32_of, positive_of, moment_of, count_of, piece_of, numbers_of}
use Rattle.flow_notes.specs.Split.{one_of, two_of}
use Rattle.flow_notes.specs.declared.events.Event.{Event}
use Rattle.flow_notes.specs.declared.events.Event.TheVariants as event
use Rattle.flow_notes.specs.declared.events.Job.{Job}
use Rattle.flow_notes.specs.declared.events.Job.TheVariants as jobs
use Rattle.flow_notes.specs.declared.events.PlainEvent.{PlainEvent}
use Rattle.flow_notes.specs.declared.events.PlainEvent.TheVariants as plain

-- each of these is given the words behind the keyword
unfoldable pub accept_of : List (List ℕ) → Option Event
accept_of words = do
  conn ← one_of words
  c ← u32_of conn
  Some (event.Accept c)

unfoldable pub join_of : List (List ℕ) → List (List ℕ) → Option Event
join_of names words = do
  p ← two_of words
  conn ← u32_of p.0
  cluster ← place_of names p.1
  Some (event.Join conn cluster)

unfoldable pub read_of : List (List ℕ) → Option Event
read_of words = do
  p ← two_of words
  conn ← u32_of p.0
  octets ← piece_of p.1
  Some (event.Read conn octets)

unfoldable pub gone_of : List (List ℕ) → Option Event
gone_of words = do
  conn ← one_of words
  c ← u32_of conn
  Some (event.Gone c)

unfoldable pub room_of : List (List ℕ) → Option Event
room_of words = do
  p ← two_of words
  conn ← u32_of p.0
  n ← positive_of p.1
  Some (event.Room conn n)

unfoldable pub tick_of : List (List ℕ) → Option Event
tick_of words = do
  now ← one_of words
  t ← moment_of now
  Some (event.Tick t)

-- a job of one word
unfoldable pub short_job_of : List ℕ → Option Job
short_job_of word =
    if bytes_eq word (codes "drain") then Some jobs.Drain
    else if bytes_eq word (codes "look") then Some jobs.Look
    else None

unfoldable pub cancel_of : List (List ℕ) → Option Job
cancel_of words = do
  p ← two_of words
  if bytes_eq p.0 (codes "cancel") then option_map jobs.Cancel (count_of p.1) else None

-- a job of one word, or else one of two
abbrev pub job_by : Option (List ℕ) → List (List ℕ) → Option Job
job_by (Some word) words = short_job_of word
job_by None words = cancel_of words

unfoldable pub job_of : List (List ℕ) → Option Job
job_of words = job_by (one_of words) words

unfoldable pub post_of : List (List ℕ) → Option Event
post_of (poster ∷ number ∷ words) = do
  p ← u32_of poster
  n ← count_of number
  job ← job_of words
  Some (event.Post p n job)
post_of _ = None

unfoldable pub obey_of : List (List ℕ) → Option Event
obey_of (version ∷ words) = do
  v ← count_of version
  pressures ← numbers_of words
  Some (event.Obey v pressures)
obey_of _ = None

-- a wire session's line of few octets
unfoldable pub short_of : List (List ℕ) → List ℕ → List (List ℕ) → Option Event
short_of names keyword words =
    if bytes_eq keyword (codes "accept") then accept_of words
    else if bytes_eq keyword (codes "join") then join_of names words
    else if bytes_eq keyword (codes "gone") then gone_of words
    else if bytes_eq keyword (codes "room") then room_of words
    else if bytes_eq keyword (codes "tick") then tick_of words
    else if bytes_eq keyword (codes "post") then post_of words
    else None

-- a wire session's line
unfoldable pub wire_of : List (List ℕ) → List (List ℕ) → Option Event
wire_of names [] = None
wire_of names (keyword ∷ words) =
    if bytes_eq keyword (codes "read") then read_of words
    else if bytes_eq keyword (codes "obey") then obey_of words
    else short_of names keyword words

unfoldable pub open_of : List (List ℕ) → Option PlainEvent
open_of words = do
  stream ← one_of words
  s ← positive_of stream
  Some (plain.Begin s)

unfoldable pub pair_of : List (List ℕ) → Option PlainEvent
pair_of words = do
  p ← two_of words
  first ← positive_of p.0
  second ← positive_of p.1
  Some (plain.Pair first second)

unfoldable pub body_of : List (List ℕ) → Option PlainEvent
body_of words = do
  p ← two_of words
  stream ← positive_of p.0
  octets ← piece_of p.1
  Some (plain.Body stream octets)

unfoldable pub end_of : List (List ℕ) → Option PlainEvent
end_of words = do
  stream ← one_of words
  s ← positive_of stream
  Some (plain.Finish s)

unfoldable pub reset_of : List (List ℕ) → Option PlainEvent
reset_of words = do
  stream ← one_of words
  s ← positive_of stream
  Some (plain.Cut s)

unfoldable pub plain_room_of : List (List ℕ) → Option PlainEvent
plain_room_of words = do
  n ← one_of words
  room ← positive_of n
  Some (plain.Room room)

-- a plain session's line of few octets
unfoldable pub short_plain_of : List ℕ → List (List ℕ) → Option PlainEvent
short_plain_of keyword words =
    if bytes_eq keyword (codes "open") then open_of words
    else if bytes_eq keyword (codes "pair") then pair_of words
    else if bytes_eq keyword (codes "end") then end_of words
    else if bytes_eq keyword (codes "reset") then reset_of words
    else if bytes_eq keyword (codes "room") then plain_room_of words
    else None

-- a plain session's line
unfoldable pub plain_of : List (List ℕ) → Option PlainEvent
plain_of [] = None
plain_of (keyword ∷ words) = if bytes_eq keyword (codes "in") then body_of words else short_plain_of keyword words

-- a session's line
unfoldable pub event_of : List (List ℕ) → Bool → List (List ℕ) → Option Event
event_of names is_plain words = if is_plain then option_map event.Plain (plain_of words) else wire_of names words
