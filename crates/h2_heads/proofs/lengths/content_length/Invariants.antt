use Rattle.std.proofs.Common.{◌≡◌, ◌<◌, None, ℕ, codes, take, true}
use Rattle.std.specs.Option.{IfSome, option_copied}
use Rattle.h2_heads.specs.Malformed.{length_fault_at}
use Rattle.h2_heads.specs.Named.{value_of}
use Rattle.h2_heads.specs.Numbers.{is_length}
use Rattle.h2_heads.proofs.lengths.content_length.Given as goal

abbrev pub invariant-loop-place : goal.invariant-loop-place
invariant-loop-place l =
    ((k : ℕ) → k < l.place → length_fault_at l.list k ≡ None)
    × (option_copied l.length ≡ value_of (codes "content-length") (take l.place l.list))
    × IfSome (option_copied l.length) (λ first. is_length first ≡ true)
