-- What a session keeps, and what has to have happened for it.
use Rattle.h2_frames.specs.Frame.{Frame}
use Rattle.h2_session.specs.Acts.{act_within, block_act, opening_act}
use Rattle.h2_session.specs.Blocks.{greatest, open_block}
use Rattle.h2_session.specs.Errors.{empty_run, may_open, used_stream}
use Rattle.h2_session.specs.Happened.{Came, Happening, Side, failure, next_number, none_came, was_ended, was_opened}
use Rattle.h2_session.specs.Streams.{head_stands, is_among, is_new, is_open, open_count, opened, peer_ended, state_of, was_closed}
use Rattle.h2_session.specs.Table.{Puts, after_block, stream_at}
use Rattle.h2_session.specs.declared.act.Act.{Act}
use Rattle.h2_session.specs.declared.block.HeaderBlock.{HeaderBlock}
use Rattle.h2_session.specs.declared.streams.Stream.{Stream}
use Rattle.std.specs.Option.{option_map_or}
use Rattle.std.specs.Prelude.{Bool, IfSome, List, MatchOption, None, Option, Some, [], false, if◌then◌else◌, length, max, nat_lt, not, true, ℕ, ◌%◌, ◌&&◌, ◌++◌, ◌==◌, ◌||◌, ◌∷◌, ◌≡◌}

-- Closed streams leave nothing behind but the greatest number and the next one.
pub record Summary : Type 0 where
  pub side : Side
  pub failed : Option ℕ
  pub started : Bool
  pub block : Option HeaderBlock
  pub greatest : ℕ
  pub next : ℕ
  pub empties : ℕ
  pub streams : List (ℕ × Stream)

-- nothing happened on a stream yet
pub record IsUntouched (s : ℕ) (past : List Happening) : Type 0 where
  pub peer : peer_ended s past ≡ false
  pub ended : was_ended s past ≡ false
  pub closed : was_closed s past ≡ false
  pub head : head_stands s past ≡ false

-- the streams are different ones
abbrev pub AreDifferent : List ℕ → Type 0
AreDifferent [] = Unit {0}
AreDifferent (s ∷ streams) = (is_among s streams ≡ false) × AreDifferent streams

-- the summary is that of what happened
pub record StandsFor (past : List Happening) (v : Summary) : Type 0 where
  pub failed : v.failed ≡ failure past
  pub started : v.started ≡ not (none_came past)
  pub block : v.block ≡ open_block past
  pub greatest : v.greatest ≡ greatest past
  pub next : v.next ≡ next_number past
  pub numbered : (s : ℕ) → was_opened s past ≡ (nat_lt s v.next && (s % 2 == 1))
  pub empties : v.empties ≡ empty_run past
  pub streams : (s : ℕ) → stream_at s v.streams ≡ state_of v.side s past
  pub count : length v.streams ≡ open_count v.side past
  pub different : AreDifferent (opened v.side past)
  pub begun : (s : ℕ) → is_among s (opened v.side past) ≡ true → is_new v.side.client_side s past ≡ false
  pub untouched : (s : ℕ) → is_new v.side.client_side s past ≡ true → IsUntouched s past
  pub within : v.side.client_side ≡ true → IfSome (open_block past) (λ b. was_opened b.stream past ≡ true)

-- a stream is idle by what the session keeps
abbrev pub is_idle_in : Summary → ℕ → Bool
is_idle_in v s =
    (if v.side.client_side then not (nat_lt s v.next && (s % 2 == 1)) else nat_lt v.greatest s)
    || (not v.side.client_side && (s % 2 == 0))

abbrev pub uses_idle_in : Summary → Frame → Bool
uses_idle_in v frame = not (may_open v.side frame) && option_map_or (is_idle_in v) (used_stream frame) false

-- the happening where the stream is open, and nothing where it isn't
abbrev pub noted : Side → ℕ → Happening → List Happening → List Happening
noted side s happening past = if is_open side s past then happening ∷ past else past

-- a frame that is no connection error gives this act, and the summary after it
pub record Takes (frame : Frame) (old new : Summary) (given : Act) (past : List Happening) : Type 0 where
  pub act : given ≡ act_within old.side frame past
  pub stands : StandsFor (Came frame ∷ past) (record new { started = true })

-- a client's block begins a stream, and finds room, by what the session keeps
abbrev pub begins_in : Summary → HeaderBlock → Bool
begins_in v b = not v.side.client_side && nat_lt v.greatest b.stream

abbrev pub has_room_in : Summary → Bool
has_room_in v = nat_lt (length v.streams) v.side.max_streams

-- what a header block that ends makes of a stream, where so many are open
abbrev pub ended_state : Summary → HeaderBlock → Option Stream
ended_state v b =
    if begins_in v b
    then (if has_room_in v then Some (record { peer_ended = b.last; ended = false; head = true }) else stream_at b.stream v.streams)
    else after_block b.last (stream_at b.stream v.streams)

-- a header block ended, and gave this act
pub record EndsBlock (b : HeaderBlock) (old new : Summary) (given : Act) : Type 0 where
  pub act : given ≡ (if begins_in old b then opening_act b (has_room_in old) else block_act b (stream_at b.stream old.streams))
  pub greatest : new.greatest ≡ max old.greatest b.stream
  pub streams : Puts b.stream (ended_state old b) old.streams new.streams
  pub same : new ≡ record old { greatest = new.greatest; streams = new.streams }

-- the open block ended with these octets, and there was one
abbrev pub FinishesBlock : List ℕ → Summary → Summary → Act → Type 0
FinishesBlock more old new given = MatchOption old.block (new ≡ old)
    (λ b. EndsBlock (record { stream = b.stream; last = b.last; octets = b.octets ++ more; frames = 1 }) (record old { block = None }) new given)
