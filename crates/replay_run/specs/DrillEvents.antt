-- The session of a drill: n streams are opened, fed in 32 rounds, ended, and let out.
use Rattle.flow_notes.specs.declared.events.Event.{Event}
use Rattle.std.specs.List.{range_with_len}
use Rattle.std.specs.Prelude.{List, [], flat_map, map, replicate, suc, zero, ℕ, ◌%◌, ◌*◌, ◌++◌, ◌+◌, ◌/◌, ◌∷◌}
use Rattle.tape_laws.specs.declared.PlainLimits.{PlainLimits}
use Rattle.flow_notes.specs.declared.events.Event.TheVariants as event
use Rattle.flow_notes.specs.declared.events.PlainEvent.TheVariants as plain

-- in octets
abbrev pub drill_limits : PlainLimits
drill_limits = record { recv = 65535; send = 4096; write = 16384; quantum = 16384 }

-- the numbers of a linear congruential generator, which starts at n
abbrev pub next_number : ℕ → ℕ
next_number x = (1103515245 * x + 12345) % 2147483648

abbrev pub number_after : ℕ → ℕ → ℕ
number_after n zero = n
number_after n (suc k) = next_number (number_after n k)

-- the k-th draw, counted from 0
abbrev pub draw : ℕ → ℕ → ℕ
draw n k = number_after n (k + 1) / 65536

-- what a draw makes of itself: 1 to 1,024
abbrev pub amount : ℕ → ℕ
amount d = 1 + d % 1024

-- the i-th stream, counted from 0
abbrev pub stream_at : ℕ → ℕ
stream_at i = 2 * i + 1

abbrev pub opened : ℕ → Event
opened i = event.Plain (plain.Begin (stream_at i))

abbrev pub fed : ℕ → ℕ → Event
fed i d = event.Plain (plain.Body (stream_at i) (replicate (amount d) (stream_at i % 256)))

abbrev pub let_out : ℕ → Event
let_out n = event.Plain (plain.Room n)

abbrev pub ended : ℕ → Event
ended i = event.Plain (plain.Finish (stream_at i))

-- round r feeds the i-th stream by the next two draws: octets come for it, and others leave
abbrev pub fed_in : ℕ → ℕ → ℕ → List Event
fed_in n r i = let k = 2 * (r * n + i) in fed i (draw n k) ∷ let_out (amount (draw n (k + 1))) ∷ []

abbrev pub drill : ℕ → List Event
drill n =
    map opened (range_with_len 0 n)
    ++ (flat_map (λ r. flat_map (fed_in n r) (range_with_len 0 n)) (range_with_len 0 32)
    ++ (map ended (range_with_len 0 n)
    ++ replicate (3 * n) (let_out 1000000)))
