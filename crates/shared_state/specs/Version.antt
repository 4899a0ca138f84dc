-- The rule of the version word, and what each kind of step makes of a seat's view.
use Rattle.std.specs.Prelude.{◌≡◌, ℕ, ◌+◌, ◌<◌, ◌≤◌, ◌^◌, true, false, [], ◌∷◌}
use mathlib.Core.Option.{some}
use lib.ListN.{get_elem?}
use Rattle.atomic_table.specs.Table.{State}
use Rattle.shared_state.specs.declared.version_word.VersionView.{VersionView}

-- the publisher's total is the word, every other total is 0, and no look found more than the word
abbrev pub FitsWord : ℕ → ℕ → ℕ → VersionView → Type 0
FitsWord publisher word seat v = (v.publishes ≡ true → (seat ≡ publisher) × (v.total ≡ word)) × (v.publishes ≡ false → v.total ≡ 0) × (v.found ≤ word)

-- exactly one seat is the publisher's
pub record IsCounted (s : State (Unit {0}) VersionView) : Type 0 where
  pub word : ℕ
  pub words : s.words ≡ word ∷ []
  pub small : word < 2 ^ 63
  pub publisher : ℕ
  pub there : (v : VersionView) × (get_elem? s.views publisher ≡ some v) × (v.publishes ≡ true)
  pub each : (seat : ℕ) (v : VersionView) → get_elem? s.views seat ≡ some v → FitsWord publisher word seat v

-- a seat that has done nothing
abbrev pub newcomer : VersionView
newcomer = record { publishes = false; total = 0; asks = 0; found = 0 }

-- the publisher's seat at first
abbrev pub first_seat : VersionView
first_seat = record newcomer { publishes = true }

abbrev pub raised : VersionView → VersionView
raised v = record v { total = v.total + 1 }

abbrev pub looked : VersionView → ℕ → VersionView
looked v found = record v { asks = v.asks + 1; found = found }
