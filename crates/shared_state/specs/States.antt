-- The words of the clauses on states: what was published, and what was told.
use Rattle.std.specs.Prelude.{◌≡◌, ℕ, List}
use Rattle.std.specs.Arc.{arc_value}
use Rattle.shared_state.specs.declared.version_word.VersionView.{VersionView}
use Rattle.shared_state.specs.declared.publisher.Publisher.{Publisher}
use Rattle.shared_state.specs.declared.publisher.Told.{Told}
use Rattle.shared_state.specs.Seen.{published_by}

-- the pressures of versions 1, 2 and so on that were published
abbrev pub published : Publisher → List (List ℕ)
published p = published_by p.press

-- what the publisher's seat at the version word knows
abbrev pub counts : Publisher → VersionView
counts p = p.seat.me.0

-- how many resources there are
abbrev pub resources_of : Publisher → ℕ
resources_of p = (arc_value p.board).resources

-- it tells of what this publisher published last
abbrev pub IsToldBy : Publisher → Told → Type 0
IsToldBy p t = (t.entry ≡ p.last) × (t.seat.table_id ≡ p.seat.table_id)

-- it is the same publisher still
abbrev pub IsSame : Publisher → Publisher → Type 0
IsSame p q = (q.board ≡ p.board) × (q.seat.table_id ≡ p.seat.table_id)
