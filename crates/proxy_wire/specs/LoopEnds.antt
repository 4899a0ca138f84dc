-- Why the loop beside the workers ended.
use Rattle.io_ports.specs.Faults.{Rose}
use Rattle.proxy_wire.specs.declared.end.LoopEnd.{LoopEnd}
use Rattle.std.specs.Prelude.{ℕ, ◌≡◌}
use Rattle.proxy_wire.specs.declared.end.LoopEnd.TheVariants as loops

-- it ended by a round of the site only where the site's count of faults rose
pub record EndsByFault (led : LoopEnd) (old new : ℕ) : Type 0 where
  pub rose : led ≡ loops.Round → Rose old new
