-- What clauses say of a bucket and its seats.
use Rattle.std.specs.Prelude.{◌≡◌, ℕ, ◌+◌, ◌-◌, ◌≤◌, ◌<◌, ◌^◌, List, min}
use Rattle.shared_tokens.specs.Steps.{granted, saw, taker}
use Rattle.shared_tokens.specs.declared.seats.Bucket.{Bucket}
use Rattle.shared_tokens.specs.declared.seats.PutSeat.{PutSeat}
use Rattle.shared_tokens.specs.declared.seats.TokenSeat.{TokenSeat}
use Rattle.shared_tokens.specs.declared.seats.TokenSeats.{TokenSeats}
use Rattle.shared_tokens.specs.declared.token.Token.{Token}

abbrev pub burst_of : Bucket → ℕ
burst_of bucket = bucket.burst

-- what a seat knows
abbrev pub known_of : TokenSeat → Token
known_of s = s.seat.me.0

abbrev pub put_known_of : PutSeat → Token
put_known_of s = s.seat.me.0

abbrev pub seats_in : TokenSeats → List TokenSeat
seats_in list = list.seats.items

-- a seat of the bucket
abbrev pub IsSeatOf : Bucket → TokenSeat → Type 0
IsSeatOf bucket s = s.seat.table_id ≡ bucket.table.shared.table_id

abbrev pub IsPutSeatOf : Bucket → PutSeat → Type 0
IsPutSeatOf bucket s = s.seat.table_id ≡ bucket.table.shared.table_id

-- one that has done nothing yet
abbrev pub IsNewSeat : Bucket → TokenSeat → Type 0
IsNewSeat bucket s = IsSeatOf bucket s × (known_of s ≡ taker)

-- a take that looked how many were put, and then found fewer taken
abbrev pub Granted : Token → Token → Type 0
Granted old new = (new.find < new.seen) × (new ≡ granted (saw old new.seen) new.find)

-- one that looked, and found as many taken or more
abbrev pub Refused : Token → ℕ → ℕ → Token → Type 0
Refused old put found new = (put ≤ found) × (new ≡ record (saw old put) { find = found })

-- how many of n tokens are put, where so many were found taken and so many are put
abbrev pub put_now : ℕ → ℕ → ℕ → ℕ → ℕ
put_now burst found put n = min n (min ((found + burst) - put) (2 ^ 62 - put))
