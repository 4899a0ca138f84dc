-- The rows of the static table, and the tables behind one another.
use Rattle.std.proofs.Common.{◌≡◌, ℕ, zero, suc, ◌+◌, ◌-◌, ◌<◌, ◌≤◌, ◌∙◌, List, [], ◌∷◌, ◌++◌, length, get_or, map, Some, Bor, refl, sym, ap, arith}
use Rattle.std.proofs.lemmas.List.{get_or-map}
use Rattle.std.proofs.lemmas.Option.{slice_get-get_or}
use Rattle.std.specs.List.{slice_get}
use Rattle.hpack_codec.specs.Table.{Table, line, static_table, entry_at}
use Rattle.hpack_codec.specs.declared.line.Line.{Line}

pub static_length : length static_table ≡ 61
unfolding static_table
static_length = refl

-- what a read of a list of references gives
pub now_at : (refs : List (Bor (List ℕ))) (texts : List (List ℕ)) (place : ℕ) (d : Bor (List ℕ)) → map (λ r. r.now) refs ≡ texts → place < length refs → (get_or refs place d).now ≡ get_or texts place []
now_at refs texts place d same h = sym (ap (λ xs. get_or xs place []) (sym same) ∙ get_or-map (λ (r : Bor (List ℕ)). r.now) refs place d [] h)

-- a row is its name and its value
pub row_at : (place : ℕ) (name value : List ℕ) → place < 61 → name ≡ get_or (map (λ l. l.name) static_table) place [] → value ≡ get_or (map (λ l. l.value) static_table) place [] → slice_get static_table place ≡ Some (line name value)
row_at place name value h n v =
    let d = line [] [] in
    let here : place < length static_table = omega (arith, static_length) in
    slice_get-get_or static_table place d here
    ∙ ap (λ x. Some (line x (get_or static_table place d).value)) (sym (n ∙ get_or-map (λ (l : Line). l.name) static_table place d [] here))
    ∙ ap (λ x. Some (line name x)) (sym (v ∙ get_or-map (λ (l : Line). l.value) static_table place d [] here))

pub slice_get-left : {X : Type 0} (xs ys : List X) (i : ℕ) → i < length xs → slice_get (xs ++ ys) i ≡ slice_get xs i
slice_get-left [] ys i h = absurd (omega arith)
slice_get-left (x ∷ xs) ys zero h = refl
slice_get-left (x ∷ xs) ys (suc i) h = slice_get-left xs ys i (omega arith)

pub slice_get-right : {X : Type 0} (xs ys : List X) (i n : ℕ) → n ≡ length xs + i → slice_get (xs ++ ys) n ≡ slice_get ys i
slice_get-right [] ys i n e = ap (slice_get ys) (omega arith)
slice_get-right (x ∷ xs) ys i zero e = absurd (omega arith)
slice_get-right (x ∷ xs) ys i (suc n) e = slice_get-right xs ys i n (omega arith)

at : (t : Table) (index place : ℕ) → index ≡ suc place → entry_at t index ≡ slice_get (static_table ++ t.lines) place
at t index place e = ap (entry_at t) e

pub dynamic_at : (t : Table) (index place : ℕ) → index ≡ suc (61 + place) → entry_at t index ≡ slice_get t.lines place
dynamic_at t index place e = at t index (61 + place) e ∙ slice_get-right static_table t.lines place (61 + place) (omega (arith, static_length))

pub static_at : (t : Table) (index : ℕ) → 0 < index → index ≤ 61 → entry_at t index ≡ slice_get static_table (index - 1)
static_at t index some within = at t index (index - 1) (omega arith) ∙ slice_get-left static_table t.lines (index - 1) (omega (arith, static_length))
