-- The numbers that a session keeps are small.
use Rattle.std.specs.Prelude.{Bool, true, ℕ, ◌*◌, ◌+◌, ◌<◌, ◌^◌, ◌≡◌, ◌≤◌}

-- how many streams are open fits 32 bits: towards a cluster each took two numbers
pub record IsKept (client_side : Bool) (next streams : ℕ) : Type 0 where
  pub numbered : next ≤ 2 ^ 31 + 1
  pub paired : client_side ≡ true → 2 * streams ≤ next
  pub small : streams < 2 ^ 32
