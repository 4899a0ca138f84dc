-- The states of streams (RFC 9113 section 5.1).
use Rattle.h2_frames.specs.Frame.{DataFrame, Reset}
use Rattle.h2_session.specs.Blocks.{ended_block, greatest}
use Rattle.h2_session.specs.Happened.{Came, Closed, Happening, Interim, Opened, Side, was_ended, was_opened}
use Rattle.h2_session.specs.declared.block.HeaderBlock.{HeaderBlock}
use Rattle.h2_session.specs.declared.streams.Stream.{Stream}
use Rattle.std.specs.Option.{option_map_or}
use Rattle.std.specs.Prelude.{Bool, List, None, Option, Some, [], count_by, false, if◌then◌else◌, nat_lt, not, ℕ, ◌%◌, ◌&&◌, ◌==◌, ◌||◌, ◌∷◌}

-- the block is on the stream, and ends it
abbrev pub is_on : ℕ → Option HeaderBlock → Bool
is_on s None = false
is_on s (Some b) = b.stream == s

abbrev pub is_last_on : ℕ → Option HeaderBlock → Bool
is_last_on s None = false
is_last_on s (Some b) = (b.stream == s) && b.last

-- the peer ended the stream: END_STREAM came on a DATA frame or with a header block
abbrev pub peer_ended : ℕ → List Happening → Bool
peer_ended s [] = false
peer_ended s (Came (DataFrame t last padded octets) ∷ past) = ((t == s) && last) || peer_ended s past
peer_ended s (Came frame ∷ past) = is_last_on s (ended_block frame past) || peer_ended s past
peer_ended s (happening ∷ past) = peer_ended s past

-- the peer reset the stream, or this side closed it
abbrev pub was_closed : ℕ → List Happening → Bool
was_closed s [] = false
was_closed s (Came (Reset t code) ∷ past) = (t == s) || was_closed s past
was_closed s (Closed t ∷ past) = (t == s) || was_closed s past
was_closed s (happening ∷ past) = was_closed s past

-- the last block on the stream was a whole head: it was no interim one (section 8.1)
abbrev pub head_stands : ℕ → List Happening → Bool
head_stands s [] = false
head_stands s (Came frame ∷ past) = is_on s (ended_block frame past) || head_stands s past
head_stands s (Interim t ∷ past) = not (t == s) && head_stands s past
head_stands s (happening ∷ past) = head_stands s past

-- no stream of this number began: this side didn't open it or, from a client, no block came on so great a number
abbrev pub is_new : Bool → ℕ → List Happening → Bool
is_new client_side s past = if client_side then not (was_opened s past) else nat_lt (greatest past) s

-- Towards a cluster this side opens streams; from a client the peer does, with rising odd numbers. A number that was
-- skipped isn't idle (section 5.1.1).
abbrev pub is_idle : Bool → ℕ → List Happening → Bool
is_idle client_side s past = is_new client_side s past || (not client_side && (s % 2 == 0))

-- closed: reset or closed, or ended by both
abbrev pub is_over : ℕ → List Happening → Bool
is_over s past = was_closed s past || (peer_ended s past && was_ended s past)

-- how many of these streams aren't over
abbrev pub count_of : List Happening → List ℕ → ℕ
count_of past streams = count_by (λ s. not (is_over s past)) streams

-- a block begins a client's stream, and is refused where max_streams are open (section 5.1.2)
abbrev pub begins : Side → HeaderBlock → List Happening → Bool
begins side b past = not side.client_side && nat_lt (greatest past) b.stream

abbrev pub has_room : Side → List Happening → List ℕ → Bool
has_room side past streams = nat_lt (count_of past streams) side.max_streams

-- the streams that were opened, newest first
abbrev pub opened : Side → List Happening → List ℕ
opened side [] = []
opened side (Came frame ∷ past) =
    let before = opened side past in
    option_map_or (λ b. if begins side b past && has_room side past before then b.stream ∷ before else before) (ended_block frame past) before
opened side (Opened s ∷ past) = let before = opened side past in if side.client_side then s ∷ before else before
opened side (happening ∷ past) = opened side past

abbrev pub is_among : ℕ → List ℕ → Bool
is_among s [] = false
is_among s (t ∷ streams) = (t == s) || is_among s streams

abbrev pub is_open : Side → ℕ → List Happening → Bool
is_open side s past = is_among s (opened side past) && not (is_over s past)

-- what is known of a stream that is open: open, or half-closed on one side
abbrev pub state_of : Side → ℕ → List Happening → Option Stream
state_of side s past =
    if is_open side s past
    then Some (record { peer_ended = peer_ended s past; ended = was_ended s past; head = head_stands s past })
    else None

-- how many streams are open
abbrev pub open_count : Side → List Happening → ℕ
open_count side past = count_of past (opened side past)

-- the greatest stream that the peer opened, 0 where there is none (section 6.8): towards a cluster it opens none
abbrev pub greatest_of_peer : Side → List Happening → ℕ
greatest_of_peer side past = if side.client_side then 0 else greatest past
