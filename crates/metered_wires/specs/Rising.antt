-- Connections whose numbers rise.
use Rattle.std.specs.Prelude.{None, true, ℕ, ◌≡◌, ◌≤◌}
use Rattle.worker_ports.specs.Wires.{Seen, is_held, is_live}

-- none that is live or held has a number above the greatest
pub record IsRising (seen : Seen) : Type 0 where
  pub live : (c : ℕ) → is_live c seen ≡ true → c ≤ seen.greatest
  pub held : (c : ℕ) → is_held c seen ≡ true → c ≤ seen.greatest

-- the same connections, with another greatest number, and without what was done
abbrev pub untold : ℕ → Seen → Seen
untold greatest seen = record seen { greatest = greatest; steps = None }
