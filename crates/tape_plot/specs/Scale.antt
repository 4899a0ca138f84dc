-- Where columns and levels stand in the picture, in points.
use Rattle.std.specs.Prelude.{if◌then◌else◌, max, min, nat_le, ℕ, ◌*◌, ◌+◌, ◌-◌, ◌/◌, ◌==◌, ◌^◌}

-- how many columns of so many dispatches there are from the first to the last
abbrev pub columns_of : ℕ → ℕ → ℕ → ℕ
columns_of first end width = min ((end - first) / width + 1) (2 ^ 64 - 1)

-- where a column of so many begins, from the left: all together are 960 points wide
abbrev pub column_x : ℕ → ℕ → ℕ
column_x columns c = 190 + min (min (min c columns * 960) (2 ^ 64 - 1) / columns) 960

-- how high a level stands in a lane that is 40 points high and ends at another level
abbrev pub height_of : ℕ → ℕ → ℕ
height_of level top = if top == 0 then 0 else min (min (level * 40) (2 ^ 64 - 1) / top) 40

-- A lane ends at its limit, or at the most that it was where that is more, or where the limit is more than eight times as high.
abbrev pub top_of : ℕ → ℕ → ℕ
top_of limit most = if nat_le limit (min (most * 8) (2 ^ 64 - 1)) then max limit most else most
