-- The views at the start, and what each kind of step changes in a seat's view.
use Rattle.std.specs.Prelude.{◌≡◌, ℕ, ◌+◌, ◌-◌, ◌≤◌, ◌<◌, ◌^◌, true, false}
use Rattle.shared_tokens.specs.declared.token.Token.{Token}

-- a seat that takes, and has done nothing yet
abbrev pub taker : Token
taker = record { puts = false; seats = 1; splits = 0; granted = 0; owing = 0; total = 0; seen = 0; find = 0; looks = 0; burst = 0; all_seats = 0 }

-- the seat that puts, which has done nothing but split off the others
abbrev pub putter : ℕ → ℕ → Token
putter b n = record { puts = true; seats = 0; splits = 0; granted = 0; owing = 0; total = 0; seen = 0; find = 0; looks = 0; burst = b; all_seats = n }

-- a look
abbrev pub saw : Token → ℕ → Token
saw v found = record v { seen = found; looks = v.looks + 1 }

abbrev pub granted : Token → ℕ → Token
granted v found = record v { granted = v.granted + 1; find = found }

abbrev pub refused : Token → ℕ → Token
refused v found = record v { owing = 1; find = found }

-- one fetch that adds 1: a token is granted exactly where it found fewer taken than were seen put
abbrev pub Taken : Token → ℕ → Token → Type 0
Taken v found w = (v.granted ≤ found) × (found < v.seen → w ≡ granted v found) × (v.seen ≤ found → w ≡ refused v found)

abbrev pub gave_back : Token → Token
gave_back v = record v { owing = 0 }

-- A look by the seat that puts. What the seats that were settled with it were given is at most what it put; and where all seats
-- were settled, it put at most burst and one for each seat more.
abbrev pub SawTaken : Token → ℕ → Token → Type 0
SawTaken v found w =
    (w ≡ saw v found) × (found ≤ 2 ^ 62 + 2 ^ 20) × (v.granted ≤ v.total)
    × (v.seats ≡ v.all_seats → v.total ≤ v.granted + (v.burst + v.all_seats))

abbrev pub put_more : Token → ℕ → Token
put_more v n = record v { total = v.total + n }

abbrev pub dealt : Token → Token
dealt v = record v { splits = v.splits - 1 }

-- another seat is taken in, with all that it was given
abbrev pub both : Token → Token → Token
both v w = record v { seats = v.seats + w.seats; splits = v.splits + w.splits; granted = v.granted + w.granted; looks = v.looks + w.looks }

abbrev pub ended : Token
ended = record taker { seats = 0 }
