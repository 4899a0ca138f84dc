-- A close of a connection that isn't live.
use Rattle.mem_ports.specs.Memory.{WiresMemory, ended}
use Rattle.std.proofs.Common.{ap, sym, ◌∙◌}
use Rattle.std.specs.List.{list_any}
use Rattle.std.specs.Prelude.{List, [], false, if◌then◌else◌, nat_eq, ℕ, ◌++◌, ◌∷◌, ◌≡◌}
use Rattle.worker_ports.specs.Told.{with_last}
use Rattle.worker_ports.specs.Wires.{Seen, closed, is_live, without}
use Rattle.worker_ports.specs.declared.wires.WireStep.TheVariants as step

pub closed_none : (c : ℕ) (s : Seen) (live : List ℕ) → is_live c s ≡ false → live ≡ s.live → record s { live = live } ≡ closed c s
closed_none c s live none e =
    ap (λ l. record s { live = l }) e
    ∙ sym (ap (λ b. if b then record s { live = without c s.live; held = without c s.held; steps = with_last (step.Closed c) s.steps } else s) none)

pub ended_none : (c : ℕ) (w : WiresMemory) (live : List ℕ) → list_any (nat_eq c) w.live ≡ false → live ≡ w.live → record w { live = live } ≡ ended c w
ended_none c w live none e =
    ap (λ l. record w { live = l }) e
    ∙ sym (ap (λ b. if b then record w { live = without c w.live; steps = w.steps ++ step.Closed c ∷ [] } else w) none)
