-- What is computed over the whole table, and what follows from it.
use Rattle.std.proofs.Common.{◌≡◌, ℕ, zero, suc, ◌+◌, ◌*◌, ◌/◌, ◌%◌, ◌^◌, ◌<◌, ◌≤◌, ◌&&◌, ◌∙◌, Bool, true, false, cond, eqb, ltb, leb, List, [], ◌∷◌, get_or, refl, sym, ap, subst, arith, ltb-true, sum_by, replicate, inl, inr}
use Rattle.std.proofs.lemmas.Bool.{and_parts, cases_lt, cases_order, le-ltb, lt-ltb, eqb-true, leb-true}
use Rattle.huffman.specs.Huffman.{rows, symbols, width, place, place_from}
use Rattle.huffman.specs.Lookup.{found_from, symbol_at, top}
use Rattle.huffman.specs.declared.tables.TheConstants.{SHORT, MIDDLE, LOW, LAST}

-- ---- tests of every number below another
abbrev pub below : (ℕ → Bool) → ℕ → Bool
below p zero = true
below p (suc n) = p n && below p n

pub below_at : (p : ℕ → Bool) (n k : ℕ) → below p n ≡ true → k < n → p k ≡ true
below_at p zero k t h = absurd (omega arith)
below_at p (suc n) k t h =
    let parts = and_parts (p n) (below p n) t in
    elim (cases_order k n) [
      | inl e ↦ ap p e ∙ parts.0
      | inr o ↦ below_at p n k parts.1 (omega arith)
    ]

-- ---- the whole table
abbrev pub sound_from : ℕ → List (ℕ × ℕ) → Bool
sound_from start [] = eqb start (2 ^ 30)
sound_from start (e ∷ rest) =
    (ltb e.0 257 && (ltb 0 e.1 && (leb e.1 30 && (eqb (start % width e.1) 0 && (eqb (place e.0).0 start && eqb (place e.0).1 e.1)))))
    && sound_from (start + width e.1) rest

-- The codes fill the numbers of 30 bits exactly, and each symbol stands once.
pub sound : sound_from 0 symbols ≡ true
unfolding place symbols rows
sound = refl

pub full : sum_by (λ e. width e.1) symbols ≡ 2 ^ 30
unfolding symbols rows
full = refl

abbrev pub place_test : ℕ → Bool
place_test s = leb (place s).1 30 && (eqb ((place s).0 % width (place s).1) 0 && leb ((place s).0 + width (place s).1) (2 ^ 30))

pub places : below place_test 257 ≡ true
unfolding place symbols rows
places = refl

-- The entry i of a table, for the numbers that begin with base + i, k bits being left.
abbrev pub entry_test : List ℕ → ℕ → ℕ → ℕ → Bool
entry_test table k base i =
    let entry = get_or table i 0 in
    leb (entry % 32 + k) 30 && (eqb (symbol_at ((base + i) * 2 ^ k)).0 (entry / 32) && eqb (symbol_at ((base + i) * 2 ^ k)).1 (entry % 32))

pub short : below (entry_test SHORT 22 0) 254 ≡ true
unfolding symbol_at symbols rows
short = refl

pub middle : below (entry_test MIDDLE 14 0xfe00) 510 ≡ true
unfolding symbol_at symbols rows
middle = refl

pub low : below (entry_test LOW 6 0xff_fe00) 502 ≡ true
unfolding symbol_at symbols rows
low = refl

pub last : below (entry_test LAST 0 0x3fff_fd80) 640 ≡ true
unfolding symbol_at symbols rows
last = refl

pub paddings : below (λ n. ltb n (symbol_at (top 30 (replicate n true))).1) 8 ≡ true
unfolding symbol_at symbols rows
paddings = refl

-- ---- from the tests
pub record Holds (e : ℕ × ℕ) (w : ℕ) : Type 0 where
  pub symbol : e.0 < 257
  pub some : 0 < e.1
  pub short : e.1 ≤ 30
  pub aligned : (place e.0).0 % width e.1 ≡ 0
  pub length : (place e.0).1 ≡ e.1
  pub from : (place e.0).0 ≤ w
  pub below : w < (place e.0).0 + width e.1

holds_head : (start : ℕ) (e : ℕ × ℕ) (w : ℕ) → (ltb e.0 257 && (ltb 0 e.1 && (leb e.1 30 && (eqb (start % width e.1) 0 && (eqb (place e.0).0 start && eqb (place e.0).1 e.1))))) ≡ true → start ≤ w → w < start + width e.1 → Holds e w
holds_head start e w t from under =
    let z = and_parts (ltb e.0 257) _ t in
    let y = and_parts (ltb 0 e.1) _ z.1 in
    let a = and_parts (leb e.1 30) _ y.1 in
    let b = and_parts (eqb (start % width e.1) 0) _ a.1 in
    let c = and_parts (eqb (place e.0).0 start) _ b.1 in
    let at : (place e.0).0 ≡ start = eqb-true _ _ c.0 in
    record {
      symbol = ltb-true _ _ z.0;
      some = ltb-true _ _ y.0;
      short = leb-true _ _ a.0;
      aligned = ap (λ x. x % width e.1) at ∙ eqb-true _ _ b.0;
      length = eqb-true _ _ c.1;
      from = omega arith;
      below = omega arith;
    }

pub holds_from : (start : ℕ) (es : List (ℕ × ℕ)) (w : ℕ) → sound_from start es ≡ true → start ≤ w → w < 2 ^ 30 → Holds (found_from start es w) w
holds_from start [] w t from under = let e : start ≡ 2 ^ 30 = eqb-true _ _ t in absurd (omega arith)
holds_from start (e ∷ rest) w t from under =
    let parts = and_parts _ (sound_from (start + width e.1) rest) t in
    elim (cases_lt w (start + width e.1)) [
      | inl h ↦ (let P : Bool → Type 0 = λ b. Holds (cond b e (found_from (start + width e.1) rest w)) w in
          subst P (sym (lt-ltb _ _ h)) (holds_head start e w parts.0 from h))
      | inr h ↦ (let P : Bool → Type 0 = λ b. Holds (cond b e (found_from (start + width e.1) rest w)) w in
          subst P (sym (le-ltb _ _ h)) (holds_from (start + width e.1) rest w parts.1 h under))
    ]

pub place_rises : (start : ℕ) (es : List (ℕ × ℕ)) (s : ℕ) → start ≤ (place_from start es s).0
place_rises start [] s = omega arith
place_rises start (e ∷ rest) s =
    elim (eqb e.0 s) as (λ b. start ≤ (cond b (start, e.1) (place_from (start + width e.1) rest s)).0) [
      | true ↦ omega arith
      | false ↦ (let h = place_rises (start + width e.1) rest s in omega arith)
    ]

pub found_at : (start : ℕ) (es : List (ℕ × ℕ)) (s w : ℕ) → sound_from start es ≡ true → (place_from start es s).0 ≤ w → w < (place_from start es s).0 + width (place_from start es s).1 → w < 2 ^ 30 → found_from start es w ≡ (s, (place_from start es s).1)
found_at start [] s w t = λ from under small. let e : start ≡ 2 ^ 30 = eqb-true _ _ t in absurd (omega arith)
found_at start (e ∷ rest) s w t =
    let parts = and_parts _ (sound_from (start + width e.1) rest) t in
    let next = start + width e.1 in
    let other = place_from next rest s in
    let Goal : Bool → Type 0 = λ b. let p : ℕ × ℕ = cond b (start, e.1) other in p.0 ≤ w → w < p.0 + width p.1 → w < 2 ^ 30 → found_from start (e ∷ rest) w ≡ (s, p.1) in
    let by : (b : Bool) → eqb e.0 s ≡ b → Goal b = λ b. elim b as (λ b. eqb e.0 s ≡ b → Goal b) [
      | true ↦ (λ same from under small.
          let is : e.0 ≡ s = eqb-true _ _ same in
          ap (λ c. cond c e (found_from next rest w)) (lt-ltb w next under) ∙ ap (λ x. (x, e.1)) is)
      | false ↦ (λ same from under small.
          let rises = place_rises next rest s in
          ap (λ c. cond c e (found_from next rest w)) (le-ltb w next (omega arith)) ∙ found_at next rest s w parts.1 from under small)
    ] in
    by (eqb e.0 s) refl

-- The symbol that a look-up finds has a code that begins there.
pub holds_at : (w : ℕ) → w < 2 ^ 30 → Holds (symbol_at w) w
unfolding symbol_at
holds_at w h = holds_from 0 symbols w sound (omega arith) h

-- A look-up where a symbol has its place finds it.
pub found : (s w : ℕ) → (place s).0 ≤ w → w < (place s).0 + width (place s).1 → w < 2 ^ 30 → symbol_at w ≡ (s, (place s).1)
unfolding symbol_at place
found s w = found_at 0 symbols s w (unfold place in sound)

pub record Placed (s : ℕ) : Type 0 where
  pub short : (place s).1 ≤ 30
  pub aligned : (place s).0 % width (place s).1 ≡ 0
  pub fits : (place s).0 + width (place s).1 ≤ 2 ^ 30

pub placed : (s : ℕ) → s < 257 → Placed s
placed s h =
    let t = below_at place_test 257 s places h in
    let a = and_parts (leb (place s).1 30) _ t in
    let b = and_parts (eqb ((place s).0 % width (place s).1) 0) _ a.1 in
    record { short = leb-true _ _ a.0; aligned = eqb-true _ _ b.0; fits = leb-true _ _ b.1 }
