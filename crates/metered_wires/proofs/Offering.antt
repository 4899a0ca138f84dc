-- What was offered to the inner connections.
use Rattle.io_ports.specs.declared.ports.Failed.{Failed}
use Rattle.metered_wires.proofs.Rises.{same_rises}
use Rattle.metered_wires.specs.Rising.{IsRising, untold}
use Rattle.std.proofs.Common.{ap, arith, subst, sym}
use Rattle.std.specs.Prelude.{Err, IfOk, List, Ok, OnErr, Result, ℕ, ◌≡◌, ◌≤◌}
use Rattle.worker_ports.specs.Wires.{Seen, offered}

pub offer_untold : (g c : ℕ) (piece : List ℕ) (old new : Seen) (r : Result ℕ Failed) → IfOk r (λ n. new ≡ offered c piece n old) → IfOk r (λ n. untold g new ≡ offered c piece n (untold g old))
offer_untold g c piece old new (Ok n) e = ap (untold g) e
offer_untold g c piece old new (Err x) e = tt

pub none_untold : (g : ℕ) (old new : Seen) (r : Result ℕ Failed) → OnErr r (new ≡ old) → OnErr r (untold g new ≡ untold g old)
none_untold g old new (Ok n) e = tt
none_untold g old new (Err x) e = ap (untold g) e

pub offer_rises : (c : ℕ) (piece : List ℕ) (old new : Seen) (r : Result ℕ Failed) → IfOk r (λ n. new ≡ offered c piece n old) → OnErr r (new ≡ old) → IsRising old → IsRising new
offer_rises c piece old new (Ok n) ok err rising = same_rises old new rising (ap (λ (s : Seen). s.live) ok) (ap (λ (s : Seen). s.held) ok) (ap (λ (s : Seen). s.greatest) ok)
offer_rises c piece old new (Err x) ok err rising = subst (λ (s : Seen). IsRising s) (sym err) rising

pub offer_below : (g c : ℕ) (piece : List ℕ) (old new : Seen) (r : Result ℕ Failed) → IfOk r (λ n. new ≡ offered c piece n old) → OnErr r (new ≡ old) → g ≤ old.greatest → g ≤ new.greatest
offer_below g c piece old new (Ok n) ok err less = let same : new.greatest ≡ old.greatest = ap (λ (s : Seen). s.greatest) ok in omega (arith, same, less)
offer_below g c piece old new (Err x) ok err less = let same : new.greatest ≡ old.greatest = ap (λ (s : Seen). s.greatest) err in omega (arith, same, less)
