-- The rule over a bucket's words and all views.
use Rattle.std.specs.Prelude.{◌≡◌, ℕ, ◌+◌, ◌≤◌, ◌^◌, true, false, List, [], ◌∷◌}
use mathlib.Core.Option.{some}
use lib.ListN.{get_elem?}
use Rattle.atomic_table.specs.Table.{State}
use Rattle.shared_tokens.specs.declared.token.Token.{Token}

-- f of each view, added up
abbrev pub total : (Token → ℕ) → List Token → ℕ
total f [] = 0
total f (v ∷ vs) = f v + total f vs

abbrev pub granted_of : Token → ℕ
granted_of v = v.granted

abbrev pub owing_of : Token → ℕ
owing_of v = v.owing

-- the seats that take which it stands for, and those that it may still split off
abbrev pub room_of : Token → ℕ
room_of v = v.seats + v.splits

-- What the rule says of a seat that puts: there is one, it put what the put word says, it saw no more taken than is granted or may be
-- owed, and it knows how large the bucket is.
pub record FitsPut (burst seats putting put granted i : ℕ) (v : Token) : Type 0 where
  pub one : i ≡ putting
  pub total_is : v.total ≡ put
  pub low : v.seen ≤ granted + seats
  pub paid : v.owing ≡ 0
  pub size : (v.burst ≡ burst) × (v.all_seats ≡ seats)

-- of one that takes: it saw no more put than is, and stands for itself or, once it was settled, for none
pub record FitsTake (put : ℕ) (v : Token) : Type 0 where
  pub low : v.seen ≤ put
  pub one : v.seats ≤ 1

-- of each: only a seat that takes owes, and 1 at most; what stands for no seat was given nothing
pub record Fits (burst seats putting put granted i : ℕ) (v : Token) : Type 0 where
  pub puts : v.puts ≡ true → FitsPut burst seats putting put granted i v
  pub takes : v.puts ≡ false → FitsTake put v
  pub owes : v.owing ≤ v.seats
  pub none : v.seats ≡ 0 → v.granted ≡ 0

abbrev pub EachFits : ℕ → ℕ → ℕ → ℕ → ℕ → List Token → Type 0
EachFits burst seats putting put granted views =
    (i : ℕ) (v : Token) → get_elem? views i ≡ some v → Fits burst seats putting put granted i v

-- The words are taken, put, burst and seats. Taken is all that is granted or owed. What is granted is at most what is put, and
-- what is put is at most burst and seats above it.
pub record IsFilled (burst seats : ℕ) (s : State (Unit {0}) Token) : Type 0 where
  pub taken : ℕ
  pub put : ℕ
  pub putting : ℕ
  pub words : s.words ≡ taken ∷ put ∷ burst ∷ seats ∷ []
  pub taken_is : taken ≡ total granted_of s.views + total owing_of s.views
  pub enough : total granted_of s.views ≤ put
  pub level : put ≤ total granted_of s.views + (burst + seats)
  pub small : (put ≤ 2 ^ 62) × (burst ≤ 2 ^ 40) × (seats ≤ 2 ^ 20)
  pub room : total room_of s.views ≤ seats
  pub each : EachFits burst seats putting put (total granted_of s.views) s.views
