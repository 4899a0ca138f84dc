use Rattle.std.proofs.Common.{◌≡◌, ◌<◌, None, ℕ, codes, take, true}
use Rattle.std.specs.Option.{IfSome, option_copied}
use Rattle.h2_heads.specs.Fronts.{IsFront}
use Rattle.h2_heads.specs.Malformed.{fault_at}
use Rattle.h2_heads.specs.Named.{value_of}
use Rattle.h2_heads.specs.Numbers.{is_length}
use Rattle.h2_heads.proofs.check.check.Given as goal

abbrev pub invariant-loop-place : goal.invariant-loop-place
invariant-loop-place l =
    ((k : ℕ) → k < l.place → fault_at l.message l.fields k ≡ None)
    × (option_copied l.length ≡ value_of (codes "content-length") (take l.place l.fields))
    × IfSome (option_copied l.length) (λ v. is_length v ≡ true)
    × IsFront l.front (take l.place l.fields)
