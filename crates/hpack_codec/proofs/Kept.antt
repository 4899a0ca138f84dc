-- What an eviction keeps.
use Rattle.std.proofs.Common.{◌≡◌, ℕ, ◌+◌, ◌-◌, ◌<◌, ◌≤◌, ◌∙◌, cond, leb, List, [], ◌∷◌, ◌++◌, refl, sym, ap, arith, sum_by, inl, inr}
use Rattle.std.proofs.lemmas.Bool.{cases_lt, le-leb, lt-leb}
use Rattle.std.proofs.lemmas.List.Sums.{sum_by-cons, sum_by-append}
use Rattle.hpack_codec.specs.declared.line.Line.{Line}
use Rattle.hpack_codec.specs.Table.{Table, line_size, kept}

-- the oldest goes where they don't fit
pub kept_without : (room : ℕ) (es : List Line) (e : Line) → room < sum_by line_size (es ++ (e ∷ [])) → kept room (es ++ (e ∷ [])) ≡ kept room es
kept_without room [] e h = let one = sum_by-cons line_size e [] in ap (λ b. cond b (e ∷ []) []) (lt-leb (line_size e) room (omega arith))
kept_without room (f ∷ es) e h = let more = sum_by-cons line_size f (es ++ (e ∷ [])) in elim (cases_lt room (line_size f)) [
  | inl small ↦ ap (λ b. cond b (f ∷ kept (room - line_size f) (es ++ (e ∷ []))) []) (lt-leb (line_size f) room small)
      ∙ sym (ap (λ b. cond b (f ∷ kept (room - line_size f) es) []) (lt-leb (line_size f) room small))
  | inr fits ↦ ap (λ x. cond (leb (line_size f) room) (f ∷ x) []) (kept_without (room - line_size f) es e (omega arith))
]

-- all stay where they fit
pub kept_all : (room : ℕ) (es : List Line) → sum_by line_size es ≤ room → kept room es ≡ es
kept_all room [] h = refl
kept_all room (e ∷ es) h = let more = sum_by-cons line_size e es in ap (λ b. cond b (e ∷ kept (room - line_size e) es) []) (le-leb (line_size e) room (omega arith)) ∙ ap (λ x. e ∷ x) (kept_all (room - line_size e) es (omega arith))

-- an entry that fits comes before what the rest of the room keeps
pub kept_before : (room : ℕ) (e : Line) (es : List Line) → line_size e ≤ room → kept room (e ∷ es) ≡ e ∷ kept (room - line_size e) es
kept_before room e es h = ap (λ b. cond b (e ∷ kept (room - line_size e) es) []) (le-leb (line_size e) room h)

pub kept_none : (room : ℕ) (e : Line) (es : List Line) → room < line_size e → kept room (e ∷ es) ≡ []
kept_none room e es h = ap (λ b. cond b (e ∷ kept (room - line_size e) es) []) (lt-leb (line_size e) room h)

pub kept_zero : (es : List Line) → kept 0 es ≡ []
kept_zero [] = refl
kept_zero (e ∷ es) = kept_none 0 e es (omega arith)

-- what is kept fits
pub kept_fits : (room : ℕ) (es : List Line) → sum_by line_size (kept room es) ≤ room
kept_fits room [] = omega arith
kept_fits room (e ∷ es) = elim (cases_lt room (line_size e)) [
  | inl small ↦ (let none = ap (sum_by line_size) (kept_none room e es small) in omega arith)
  | inr fits ↦ (let some = ap (sum_by line_size) (kept_before room e es fits) in
      let more = sum_by-cons line_size e (kept (room - line_size e) es) in
      let rest = kept_fits (room - line_size e) es in omega arith)
]

-- the last of some lines is counted in their sum
pub last_counts : (es : List Line) (e : Line) → sum_by line_size (es ++ (e ∷ [])) ≡ sum_by line_size es + line_size e
last_counts es e = omega (arith, sum_by-append line_size es (e ∷ []), sum_by-cons line_size e [])

pub same_table : (a b : Table) → a.lines ≡ b.lines → a.size ≡ b.size → a ≡ b
same_table a b l s = ap (λ x. record a { lines = x }) l ∙ ap (λ x. record { lines = b.lines; size = x }) s
