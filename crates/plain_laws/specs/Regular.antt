-- What holds of each history of a plain session, of which this is owed.
use Rattle.flow_rules.specs.declared.ids.FlowId.{FlowId}
use Rattle.plain_laws.specs.Owing.{Owing, nothing, starts}
use Rattle.std.specs.Bool.{OnTrue}
use Rattle.std.specs.List.{AllByRecursion}
use Rattle.std.specs.Prelude.{List, [], false, length, map, max, nat_lt, true, ℕ, ◌++◌, ◌+◌, ◌<◌, ◌||◌, ◌∷◌, ◌≡◌, ◌≤◌, ◌⊎◌}
use Rattle.tape_laws.specs.Connections.{connections, open_connections, was_closed}
use Rattle.tape_laws.specs.Demands.{obligations}
use Rattle.tape_laws.specs.Dispatches.{before_dispatch, events_back, has, live, started}
use Rattle.tape_laws.specs.Ends.{end_framed}
use Rattle.tape_laws.specs.Flows.{request}
use Rattle.tape_laws.specs.Following.{begun}
use Rattle.tape_laws.specs.History.{History, NoMark}
use Rattle.tape_laws.specs.Pauses.{due_pauses, pauses, pending_lows, resumes}
use Rattle.tape_laws.specs.Plain.{paired_with, plain_body, plain_ended, plain_setup}
use Rattle.tape_laws.specs.PlainSession.{plain_must_end, plain_session}
use Rattle.tape_laws.specs.PlainTape.{IsPlainLawful}
use Rattle.tape_laws.specs.Quiet.{IsQuiet}
use Rattle.tape_laws.specs.Summary.{peak}
use Rattle.tape_laws.specs.Watermark.{above}
use Rattle.tape_laws.specs.World.{out, place, received}
use Rattle.tape_laws.specs.declared.PlainLimits.{PlainLimits}
use Rattle.flow_rules.specs.declared.ids.BufferId.TheVariants as buffer

-- each number is greater than those before it
abbrev pub IsRising : List ℕ → Type 0
IsRising [] = Unit {0}
IsRising (x ∷ xs) = AllByRecursion (λ y. x < y) xs × IsRising xs

-- none of the numbers is greater than the last
pub record AtMost (last : ℕ) (xs : List ℕ) : Type 0 where
  pub most : (y : ℕ) → has xs y ≡ true → y ≤ last

-- the flow is the request flow of a live stream
pub record IsLiveFlow (streams : List ℕ) (f : FlowId) : Type 0 where
  pub is : f ≡ request f.exchange
  pub live : has streams f.exchange ≡ true

-- what holds of a live stream
pub record FlowBooks (limits : PlainLimits) (owing : Owing) (x : ℕ) (h : History NoMark) : Type 0 where
  -- its send buffer is to be told at most once, and then it isn't above
  pub send_low : (pending_lows (plain_setup limits) (buffer.Send (request x)) h ≡ [])
      ⊎ ((pending_lows (plain_setup limits) (buffer.Send (request x)) h ≡ request x ∷ [])
      × (above (plain_setup limits) (buffer.Send (request x)) h ≡ false))
  pub recv_room : length (place (plain_setup limits) (request x) 0 h) ≤ limits.recv
  pub send_room : OnTrue (nat_lt 0 limits.send) (length (place (plain_setup limits) (request x) 1 h) ≤ limits.send + limits.quantum)
  pub read : plain_body x h ≡ received (request x) h ++ owing.extra x
  -- nothing is left after its end was framed, which was in this dispatch
  pub over : end_framed (plain_setup limits) (request x) h ≡ true
      → (place (plain_setup limits) (request x) 0 h ≡ []) × (place (plain_setup limits) (request x) 1 h ≡ []) × (owing.extra x ≡ [])
  pub unframed : end_framed (plain_setup limits) (request x) (before_dispatch h) ≡ false

-- nothing is known of a stream that hasn't begun
pub record IsUnborn (limits : PlainLimits) (x : ℕ) (h : History NoMark) : Type 0 where
  pub recv : place (plain_setup limits) (request x) 0 h ≡ []
  pub send : place (plain_setup limits) (request x) 1 h ≡ []
  pub low : above (plain_setup limits) (buffer.Send (request x)) h ≡ false
  pub paused : pauses (request x) h ≡ 0
  pub resumed : resumes (request x) h ≡ 0
  pub body : plain_body x h ≡ []
  pub received : received (request x) h ≡ []
  pub goes_on : plain_ended x h ≡ false
  pub alone : paired_with x h ≡ []
  pub unframed : end_framed (plain_setup limits) (request x) h ≡ false
  pub may_live : plain_must_end x h ≡ false
  pub recv_peak : peak (plain_setup limits) (buffer.Recv (request x)) h ≡ 0
  pub send_peak : peak (plain_setup limits) (buffer.Send (request x)) h ≡ 0

-- the books of all streams and of their connection
pub record Books (limits : PlainLimits) (owing : Owing) (h : History NoMark) : Type 0 where
  pub due : due_pauses (plain_setup limits) h ≡ owing.due
  pub asks : obligations (plain_session limits) h ≡ owing.asks
  pub opened : open_connections (plain_setup limits) h ≡ 0 ∷ []
  pub known : connections (plain_setup limits) h ≡ 0 ∷ []
  pub unclosed : was_closed 0 h ≡ false
  pub write_room : OnTrue (nat_lt 0 limits.write) (length (out (plain_setup limits) 0 h) ≤ limits.write + max 65536 (limits.quantum + 9))
  -- streams start in the order of their numbers
  pub rising : IsRising (live h)
  pub born : (x : ℕ) → has (live h) x ≡ true → has (started h) x ≡ true
  -- the events began these streams, and the one that is asked to start
  pub said : (x : ℕ) → has (begun (events_back h)) x ≡ (starts owing.asks x || has (started h) x)
  pub each : (x : ℕ) → has (live h) x ≡ true → FlowBooks limits owing x h
  pub unborn : (x : ℕ) → has (started h) x ≡ false → IsUnborn limits x h
  -- the flows that are still to be paused, and those that are still to be told of the write buffer, each once
  pub owed : AllByRecursion (λ o. IsLiveFlow (live h) o.flow) owing.due
  pub write_lows : AllByRecursion (IsLiveFlow (live h)) (pending_lows (plain_setup limits) (buffer.Write 0) h)
  pub write_once : IsRising (map (λ f. f.exchange) (pending_lows (plain_setup limits) (buffer.Write 0) h))
  -- a stream that isn't live has nothing to be told
  pub hushed : (x : ℕ) → has (live h) x ≡ false → pending_lows (plain_setup limits) (buffer.Send (request x)) h ≡ []

-- a lawful history, of which this is owed
pub record Regular (limits : PlainLimits) (owing : Owing) (h : History NoMark) : Type 0 where
  pub lawful : IsPlainLawful limits h
  pub books : Books limits owing h

-- a history of whole dispatches
pub record Rests (limits : PlainLimits) (h : History NoMark) : Type 0 where
  pub regular : Regular limits nothing h
  pub quiet : IsQuiet (plain_session limits) h
