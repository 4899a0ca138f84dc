-- The ranges of numbers. A number is one word, in decimal, without a sign and without leading zeros: std's `decimal`.
use Rattle.std.specs.Prelude.{ℕ, ◌<◌, ◌^◌}
use Rattle.std.specs.Int.{IsInRange}

-- a stream has 31 bits, and stream 0 is the connection (RFC 9113 sections 4.1 and 5.1.1)
abbrev pub IsStream : ℕ → Type 0
IsStream s = IsInRange 1 2147483647 s

-- how many octets leave a write buffer at most
abbrev pub IsRoom : ℕ → Type 0
IsRoom n = IsInRange 1 2147483647 n

-- the clock, in milliseconds
abbrev pub IsMoment : ℕ → Type 0
IsMoment t = t < 2 ^ 60

-- a version, a post of a poster, an exchange that a post names
abbrev pub IsCount : ℕ → Type 0
IsCount n = n < 2 ^ 63
