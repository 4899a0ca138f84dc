-- How often a core holds its flows back, and what its tape says of that.
use Rattle.exchange_core.specs.Flow.{Flow}
use Rattle.filter_chain.specs.Chain.{place_at}
use Rattle.filter_chain.specs.Place.{Place, is_source, kind_of}
use Rattle.flow_gate.specs.Board.{lows, pending_on}
use Rattle.flow_rules.specs.declared.ids.BufferId.{BufferId}
use Rattle.flow_rules.specs.declared.ids.BufferId.TheVariants as buffer
use Rattle.flow_notes.specs.declared.notes.Note.TheVariants as note
use Rattle.flow_rules.specs.declared.ids.FlowId.{FlowId}
use Rattle.paged_map.specs.PagedMap.{PagedMap, value_at}
use Rattle.proxy_config.specs.declared.config.LimitKeys.{LimitKeys}
use Rattle.std.specs.Option.{option_map, option_map_or}
use Rattle.std.specs.Prelude.{Bool, IfSome, IsSome, List, Option, Some, [], false, if◌then◌else◌, is_some, length, min, true, zero, ℕ, ◌+◌, ◌<◌, ◌≡◌, ◌⊎◌}
use Rattle.tape_laws.specs.Dispatches.{has, live}
use Rattle.tape_laws.specs.Headline.{CountsItsSources}
use Rattle.tape_laws.specs.History.{EachFollows, Noted}
use Rattle.tape_laws.specs.Pauses.{count, pauses, resumes}
use Rattle.tape_laws.specs.Sources.{disabled}
use Rattle.tape_laws.specs.Watermark.{above}
use Rattle.tape_laws.specs.World.{place}
use Rattle.wire_flows.specs.Flows.{Flows, flow_in, goes_to, is_live_in}
use Rattle.wire_flows.specs.Sound.{IsSound, buffer_of}
use Rattle.wire_flows.specs.Writes.{ChangesWrite, KeepsLows, KeepsOtherLows, Write, lowered, raised, watchers_on, write_at}
use Rattle.wire_state.specs.Tapes.{conn_to, tape_setup}
use Rattle.wire_state.specs.Ways.{WayHistory, WayStep, world_setup}
use Rattle.wire_state.specs.declared.conn.Conn.{Conn}
use Rattle.wm_buffer.specs.Buffer.{Buffer}
use Rattle.wm_buffer.specs.Watermark.{above_after}

-- its Meters and its send buffer are above where those of the tape are
abbrev pub AreOver : LimitKeys → FlowId → WayHistory → Flow → Type 0
AreOver l f h flow = (p : ℕ) (x : Place) → place_at flow.chain.places p ≡ Some x → is_source x.kind ≡ true → x.above ≡ above (tape_setup l) (buffer_of f p (kind_of x.kind)) h

-- A flow was paused as often as it was resumed, and once more for each of its sources that is above, and for each that drained of
-- which it wasn't told yet.
abbrev pub IsBalanced : LimitKeys → Flows → FlowId → WayHistory → Type 0
IsBalanced l flows f h = pauses f h ≡ resumes f h + (disabled (tape_setup l) f h + lows flows.gates f)

-- and it goes where its start note says
pub record IsCounted (l : LimitKeys) (flows : Flows) (f : FlowId) (h : WayHistory) (flow : Flow) : Type 0 where
  pub paused : IsBalanced l flows f h
  pub over : AreOver l f h flow
  pub goes : goes_to flows f ≡ conn_to f h

-- a connection is there, and its write buffer is above
abbrev pub is_above_at : ℕ → PagedMap Conn → Bool
is_above_at c conns = option_map_or (λ conn. conn.outlet.write.above) (value_at c conns) false

-- its write buffer holds flows back
abbrev pub holds_back : ℕ → Flows → Bool
holds_back c flows = option_map_or (λ w. w.above) (write_at c flows) false

-- Of which buffer's drain somebody may still be to be told: of the write buffer of this connection, and of Meters of this exchange,
-- which overflowed.
abbrev pub MayLag : Option ℕ → Option ℕ → BufferId → Type 0
MayLag conn exchange (buffer.Write c) = conn ≡ Some c
MayLag conn exchange (buffer.Stage f p) = exchange ≡ Some f.exchange
MayLag conn exchange b = ⊥

-- octets leave a receive buffer only while the count of its flow is 0, and then all that are there, up to a quantum
pub record LeavesFirst (l : LimitKeys) (f : FlowId) (n : ℕ) (past : WayHistory) : Type 0 where
  pub readable : count f past ≡ 0
  pub all : n ≡ min l.quantum (length (place world_setup f 0 past))

-- Before each dispatch each flow's count was the number of its sources that were above, and what left a receive buffer did so by the
-- count.
abbrev pub Heeds : LimitKeys → WayStep → WayHistory → Type 0
Heeds l (Noted (note.Turn k e)) past = CountsItsSources (tape_setup l) past
Heeds l (Noted (note.Move f zero n)) past = LeavesFirst l f n past
Heeds l step past = Unit {0}

abbrev pub EachHeeds : LimitKeys → WayHistory → Type 0
EachHeeds l h = EachFollows (Heeds l) h

pub record Counts (l : LimitKeys) (conn exchange : Option ℕ) (conns : PagedMap Conn) (flows : Flows) (h : WayHistory) : Type 0 where
  pub sound : IsSound flows
  pub each : (f : FlowId) → IfSome (flow_in flows f) (IsCounted l flows f h)
  -- no flow of an exchange with a number above the last was paused or resumed
  pub unpaused : (f : FlowId) → flows.exchanges.last < f.exchange → (pauses f h ≡ 0) × (resumes f h ≡ 0)
  pub living : (x : ℕ) → has (live h) x ≡ is_live_in flows x
  -- a write buffer is above where that of the tape is, and holds its flows back then
  pub over : (c : ℕ) → is_above_at c conns ≡ above (tape_setup l) (buffer.Write c) h
  pub marks : (c : ℕ) → holds_back c flows ≡ is_above_at c conns
  pub known : (c : ℕ) → is_some (value_at c conns) ≡ true → IsSome (write_at c flows)
  pub told : (b : BufferId) → (pending_on flows.gates b ≡ []) ⊎ MayLag conn exchange b
  pub turns : EachHeeds l h

-- octets went into a write buffer that wasn't above, and it rose, or it didn't
pub record Grows (is_risen : Bool) (old new : Buffer) : Type 0 where
  pub low : old.above ≡ false
  pub above : new.above ≡ above_after old.limit old.above (length new.octets)
  pub rose : is_risen ≡ new.above

-- the flows that go to a connection are to be told that its write buffer drained, where it did
abbrev pub eased : Bool → List FlowId → Write → Write
eased is_drained watchers write = if is_drained then lowered watchers write else write

-- Octets left the write buffer of a connection, and it drained, or it didn't.
pub record Frees (c : ℕ) (is_drained : Bool) (old new : Buffer) (before after : Flows) : Type 0 where
  pub above : new.above ≡ above_after old.limit old.above (length new.octets)
  pub drains : old.above ≡ true → new.above ≡ false → is_drained ≡ true
  pub stays : new.above ≡ true → is_drained ≡ false
  pub writes : ChangesWrite c (option_map (eased is_drained (watchers_on c before)) (write_at c before)) before after
  pub lows : KeepsOtherLows (buffer.Write c) before after
  pub rest : after.exchanges ≡ before.exchanges
  pub sound : IsSound before → IsSound after

-- Octets went into the write buffer of a connection, which wasn't above. It rose, or it didn't, and from then on holds its flows
-- back.
pub record Fills (c : ℕ) (is_risen : Bool) (old new : Buffer) (before after : Flows) : Type 0 where
  pub low : old.above ≡ false
  pub above : new.above ≡ above_after old.limit old.above (length new.octets)
  pub rose : is_risen ≡ new.above
  pub writes : ChangesWrite c (option_map (raised is_risen) (write_at c before)) before after
  pub lows : KeepsLows before after
  pub sound : IsSound before → IsSound after
