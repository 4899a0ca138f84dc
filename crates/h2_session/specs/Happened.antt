-- What happened on a connection so far, newest first: the frames that came, and what this side did with its streams.
use Rattle.h2_frames.specs.Frame.{Frame}
use Rattle.std.specs.Prelude.{Bool, List, None, Option, Some, [], false, if◌then◌else◌, nat_lt, true, ℕ, ◌+◌, ◌-◌, ◌==◌, ◌^◌, ◌||◌, ◌∷◌}

-- A frame that is a connection error has failed the connection, and nothing else of it counts. Ended, Closed and
-- Interim are said of open streams.
pub data Happening : Type 0 where
  Came : Frame → Happening
  Failed : (code : ℕ) → Happening
  Opened : (stream : ℕ) → Happening
  Ended : (stream : ℕ) → Happening
  Closed : (stream : ℕ) → Happening
  Interim : (stream : ℕ) → Happening

-- what a session is made with: towards a cluster or from a client, and its limits
pub record Side : Type 0 where
  pub client_side : Bool
  pub max_streams : ℕ
  pub empty_frames : ℕ

-- no frame came
abbrev pub none_came : List Happening → Bool
none_came [] = true
none_came (Came frame ∷ past) = false
none_came (happening ∷ past) = none_came past

-- the code of the connection error that came
abbrev pub failure : List Happening → Option ℕ
failure [] = None
failure (Failed code ∷ past) = Some code
failure (happening ∷ past) = failure past

-- the number of the next stream that this side opens: 1, 3, 5 ..
abbrev pub next_number : List Happening → ℕ
next_number [] = 1
next_number (Opened s ∷ past) = next_number past + 2
next_number (happening ∷ past) = next_number past

-- up to 2^31 - 1 (RFC 9113 section 5.1.1)
abbrev pub next_stream : List Happening → Option ℕ
next_stream past = let n = next_number past in if nat_lt (2 ^ 31 - 1) n then None else Some n

-- this side opened the stream, or ended it
abbrev pub was_opened : ℕ → List Happening → Bool
was_opened s [] = false
was_opened s (Opened t ∷ past) = (t == s) || was_opened s past
was_opened s (happening ∷ past) = was_opened s past

abbrev pub was_ended : ℕ → List Happening → Bool
was_ended s [] = false
was_ended s (Ended t ∷ past) = (t == s) || was_ended s past
was_ended s (happening ∷ past) = was_ended s past
