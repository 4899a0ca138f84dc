-- What is seen of all connections of a relay, and what each event does to that.
use Rattle.flow_rules.specs.declared.ids.FlowId.{FlowId}
use Rattle.flow_notes.specs.declared.events.Event.{Event}
use Rattle.relay_laws.specs.Pairs.{opposite}
use Rattle.relay_laws.specs.declared.Feed.{Feed}
use Rattle.std.specs.BTreeMap.{is_at}
use Rattle.std.specs.BTreeSet.{contains, insert_key}
use Rattle.std.specs.Ordering.{nat_cmp}
use Rattle.std.specs.Set.{remove_key}
use Rattle.std.specs.Prelude.{Bool, List, None, Option, Some, [], false, if◌then◌else◌, is_none, option_map, true, ℕ, ◌&&◌, ◌+◌, ◌==◌, ◌∷◌, ◌≡◌}
use Rattle.tape_laws.specs.Flows.{request, response}
use Rattle.tcp_relay.specs.Lines.{Line, added, dropped, fed, feeds_of, held_in, is_idle_at, line_in, new_line, rises_by, taken_of}
use Rattle.tcp_relay.specs.declared.conns.Taken.{Taken}
use Rattle.tcp_relay.specs.declared.effect.Effect.{Effect}
use Rattle.tcp_relay.specs.declared.effect.Ended.{Ended}
use Rattle.tcp_relay.specs.declared.table.Table.{Table}
use Rattle.flow_notes.specs.declared.events.Event.TheVariants as event
use Rattle.tcp_relay.specs.declared.effect.Effect.TheVariants as effect

-- the limit of each write buffer, how many pairs there were, which connections are free, which are open, for which octets wait
pub record Board : Type 0 where
  pub limit : ℕ
  pub pairs : ℕ
  pub free : List ℕ
  pub lines : ℕ → Option Line
  pub waits : ℕ → Bool

abbrev pub board_of : Table → Board
board_of t = record {
  limit = t.limit;
  pairs = t.pairs;
  free = t.free.keys;
  lines = line_in t.conns;
  waits = contains nat_cmp t.waiting;
}

-- the two show the same
pub record IsSeenAs (seen board : Board) : Type 0 where
  pub limit : seen.limit ≡ board.limit
  pub pairs : seen.pairs ≡ board.pairs
  pub free : seen.free ≡ board.free
  pub lines : (c : ℕ) → seen.lines c ≡ board.lines c
  pub waits : (c : ℕ) → seen.waits c ≡ board.waits c

-- one of them is another
abbrev pub put : {A : Type 0} → ℕ → A → (ℕ → A) → ℕ → A
put c a f d = if c == d then a else f d

abbrev pub change : {A : Type 0} → ℕ → (A → A) → (ℕ → A) → ℕ → A
change c g f d = if c == d then g (f d) else f d

-- what the two of a pair feed
abbrev pub request_feed : ℕ → ℕ → Feed
request_feed x d = record { flow = request x; to = d }

abbrev pub response_feed : ℕ → ℕ → Feed
response_feed x c = record { flow = response x; to = c }

-- the flow to a connection, which is told that its write buffer drained
abbrev pub resumed_flow : Option Feed → Bool → Option FlowId
resumed_flow None drained = None
resumed_flow (Some f) drained = if drained then Some (opposite f.flow) else None

-- ---- a connection to a cluster joins
abbrev pub joined : ℕ → Board → Board
joined c b = record b { free = insert_key nat_cmp b.free c; lines = put c (Some (new_line b.limit None)) b.lines }

-- ---- a client's connection is accepted: it is paired with the first free one, or refused
abbrev pub met : ℕ → List ℕ → Board → Effect
met c [] b = effect.Refused c
met c (d ∷ ds) b = effect.Paired (b.pairs + 1) c d

abbrev pub paired : ℕ → ℕ → List ℕ → Board → Board
paired c d ds b = record b {
  pairs = b.pairs + 1;
  free = ds;
  lines = change d (option_map (fed (Some (response_feed (b.pairs + 1) c))))
      (put c (Some (new_line b.limit (Some (request_feed (b.pairs + 1) d)))) b.lines);
}

abbrev pub accepted : ℕ → List ℕ → Board → Board
accepted c [] b = b
accepted c (d ∷ ds) b = paired c d ds b

-- ---- octets are read: they go where the connection's octets go
abbrev pub carried_as : List ℕ → Option Feed → Board → Effect
carried_as octets None b = effect.Nothing
carried_as octets (Some f) b = effect.Carried f.flow f.to (rises_by octets (b.lines f.to))

abbrev pub carried : List ℕ → Option Feed → Board → Board
carried octets None b = b
carried octets (Some f) b = record b { lines = change f.to (option_map (added octets)) b.lines; waits = put f.to true b.waits }

-- ---- octets leave: a connection whose pair is doomed is closed once nothing waits for it
abbrev pub is_over : Taken → Bool
is_over t = t.is_empty && is_none t.feeds

abbrev pub left_as : ℕ → Option Taken → Effect
left_as c None = effect.Nothing
left_as c (Some t) = effect.Left (record { conn = c; n = t.n; resumed = resumed_flow t.feeds t.drained; closed = is_over t })

abbrev pub left : ℕ → ℕ → Option Taken → Board → Board
left c n None b = b
left c n (Some t) b = record b {
  lines = change c (λ line. if is_over t then None else option_map (dropped n) line) b.lines;
  waits = change c (λ w. if t.is_empty then false else w) b.waits;
}

-- ---- a connection is lost: the other one of its pair feeds nothing more, and is closed where nothing waits for it
abbrev pub parted : Option Line → Option Line
parted line = if is_idle_at line then None else option_map (fed None) line

abbrev pub ends_as : Feed → (ℕ → Option Line) → Ended
ends_as f lines = record { exchange = f.flow.exchange; other = f.to; closed = is_idle_at (lines f.to) }

abbrev pub without : ℕ → Board → Board
without c b = record b { free = remove_key (is_at (nat_cmp c)) b.free; lines = put c None b.lines; waits = put c false b.waits }

abbrev pub lost_as : ℕ → Option Line → Board → Effect
lost_as c None b = effect.Nothing
lost_as c (Some line) b = effect.Lost c (option_map (λ f. ends_as f (without c b).lines) line.feeds)

abbrev pub parted_from : Option Feed → Board → Board
parted_from None b = b
parted_from (Some f) b = record b { lines = change f.to parted b.lines }

abbrev pub lost : ℕ → Option Line → Board → Board
lost c None b = b
lost c (Some line) b = parted_from line.feeds (without c b)

-- ---- what an event does, and how the connections are seen then
abbrev pub effect_of : Event → Board → Effect
effect_of (event.Accept c) b = met c b.free b
effect_of (event.Read c octets) b = carried_as octets (feeds_of (b.lines c)) b
effect_of (event.Room c n) b = left_as c (taken_of n (b.lines c))
effect_of (event.Gone c) b = lost_as c (b.lines c) b
effect_of e b = effect.Nothing

abbrev pub board_after : Event → Board → Board
board_after (event.Accept c) b = accepted c b.free b
board_after (event.Join c cluster) b = joined c b
board_after (event.Read c octets) b = carried octets (feeds_of (b.lines c)) b
board_after (event.Room c n) b = left c n (taken_of n (b.lines c)) b
board_after (event.Gone c) b = lost c (b.lines c) b
board_after e b = b

pub record Takes (e : Event) (old : Board) (done : Effect) (new : Board) : Type 0 where
  pub is : done ≡ effect_of e old
  pub board : IsSeenAs new (board_after e old)

-- ---- what is seen of one connection
-- how much waits where its octets go to, if that is above
abbrev pub held_past : Option Feed → Board → Option ℕ
held_past None b = None
held_past (Some f) b = held_in (b.lines f.to)

abbrev pub held_at : ℕ → Board → Option ℕ
held_at c b = held_past (feeds_of (b.lines c)) b

-- it is in a live pair, and what it feeds isn't above
abbrev pub is_reading : Option Feed → Board → Bool
is_reading None b = false
is_reading (Some f) b = is_none (held_in (b.lines f.to))

-- how much waits where the octets of a read would go to, if that is above
abbrev pub held_for : Event → Board → Option ℕ
held_for (event.Read c octets) b = held_at c b
held_for e b = None
