-- Which exchange a stream carries, and which streams an exchange has.
use Rattle.flow_rules.specs.declared.ids.FlowId.{FlowId}
use Rattle.std.specs.Option.{option_and_then, option_map_or}
use Rattle.std.specs.Prelude.{Bool, List, None, Option, Some, [], false, filter, if◌then◌else◌, is_some, not, option_map, ℕ, ◌&&◌, ◌*◌, ◌+◌, ◌==◌, ◌||◌, ◌∷◌}
use Rattle.tape_laws.specs.Dispatches.{has, is_some_of, live}
use Rattle.tape_laws.specs.History.{Noted}
use Rattle.tape_laws.specs.Units.{FramedUnit, HeadOf}
use Rattle.wire_laws.specs.Marks.{WireHistory, just_picked}
use Rattle.wire_laws.specs.Peers.{is_client}
use Rattle.flow_notes.specs.declared.notes.Note.TheVariants as note

-- where an exchange came from, and the connection that it goes to, 0 for none
pub record Origin : Type 0 where
  pub conn : ℕ
  pub stream : ℕ
  pub to : ℕ

abbrev pub origin : ℕ → WireHistory → Option Origin
origin x [] = None
origin x (Noted (note.Start y c s d) ∷ past) = if y == x then Some (record { conn = c; stream = s; to = d }) else origin x past
origin x (step ∷ past) = origin x past

-- the exchange came from this connection, or goes to it
abbrev pub comes_from : ℕ → ℕ → WireHistory → Bool
comes_from c x past = option_map_or (λ o. o.conn == c) (origin x past) false

abbrev pub goes_to : ℕ → ℕ → WireHistory → Bool
goes_to c x past = option_map_or (λ o. (o.to == c) && not (c == 0)) (origin x past) false

-- the live exchanges that came from the connection or go to it, by number
abbrev pub exchanges_of : ℕ → WireHistory → List ℕ
exchanges_of c past = filter (λ x. comes_from c x past || goes_to c x past) (live past)

-- the exchange whose request head is framed now
abbrev pub request_of : Option FramedUnit → Option ℕ
request_of (Some (HeadOf f)) = if f.back then None else Some f.exchange
request_of u = None

abbrev pub picked_request : WireHistory → Option ℕ
picked_request past = request_of (just_picked past)

-- the stream that a request has at its cluster, 0 before its head is framed
abbrev pub up_stream : ℕ → WireHistory → ℕ
up_stream x [] = 0
up_stream x (Noted (note.Head d s octets) ∷ past) = if is_some_of (picked_request past) x then s else up_stream x past
up_stream x (step ∷ past) = up_stream x past

-- how many requests were framed on the connection
abbrev pub requests_on : ℕ → WireHistory → ℕ
requests_on c [] = 0
requests_on c (Noted (note.Head d s octets) ∷ past) =
    (if (d == c) && is_some (picked_request past) then 1 else 0) + requests_on c past
requests_on c (step ∷ past) = requests_on c past

-- the number of the next stream towards a cluster: 1, 3, 5 .. (RFC 9113 section 5.1.1)
abbrev pub next_stream_on : ℕ → WireHistory → ℕ
next_stream_on c past = 2 * requests_on c past + 1

-- the exchange that a stream of a connection belongs to, and where it is live
abbrev pub exchange_at : ℕ → ℕ → WireHistory → Option ℕ
exchange_at c s [] = None
exchange_at c s (Noted (note.Start x d t to) ∷ past) = if (d == c) && (t == s) then Some x else exchange_at c s past
exchange_at c s (Noted (note.Head d t octets) ∷ past) =
    if (d == c) && (t == s) && is_some (picked_request past) then picked_request past else exchange_at c s past
exchange_at c s (step ∷ past) = exchange_at c s past

abbrev pub live_at : ℕ → ℕ → WireHistory → Option ℕ
live_at c s past = option_and_then (λ x. if has (live past) x then Some x else None) (exchange_at c s past)

-- the flow that comes from a stream, if its exchange is live, and the one that goes to it
abbrev pub flow_from : ℕ → ℕ → WireHistory → Option FlowId
flow_from c s past = option_map (λ x. record { exchange = x; back = not (is_client c past) }) (live_at c s past)

abbrev pub flow_to : ℕ → ℕ → WireHistory → Option FlowId
flow_to c s past = option_map (λ x. record { exchange = x; back = is_client c past }) (live_at c s past)

-- a connection's number, where there is one
abbrev pub unless_0 : ℕ → Option ℕ
unless_0 c = if c == 0 then None else Some c

-- the connection that a flow comes from and the one that it goes to: a request goes to the cluster
abbrev pub conn_from : FlowId → WireHistory → Option ℕ
conn_from f past = option_and_then (λ o. unless_0 (if f.back then o.to else o.conn)) (origin f.exchange past)

abbrev pub conn_to : FlowId → WireHistory → Option ℕ
conn_to f past = option_and_then (λ o. unless_0 (if f.back then o.conn else o.to)) (origin f.exchange past)

-- the stream of an exchange at its client, and that of a flow where it comes from and where it goes, 0 for none
abbrev pub down_stream : ℕ → WireHistory → ℕ
down_stream x past = option_map_or (λ o. o.stream) (origin x past) 0

abbrev pub stream_from : FlowId → WireHistory → ℕ
stream_from f past = if f.back then up_stream f.exchange past else down_stream f.exchange past

abbrev pub stream_to : FlowId → WireHistory → ℕ
stream_to f past = if f.back then down_stream f.exchange past else up_stream f.exchange past
