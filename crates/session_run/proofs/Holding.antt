-- What is held, as it is consumed and grows.
use Rattle.std.specs.Io.KnownBytes.{Keeps}
use Rattle.memchr.specs.Find.{IsFirstByte, is_byte}
use Rattle.session_run.specs.Newlines.{BeginsWithLine, has_newline}
use Rattle.std.proofs.Common.{ap, arith, refl, subst, sym, ◌∙◌}
use Rattle.std.proofs.Math.Seq.{take-add, take-length}
use Rattle.std.proofs.lemmas.Bool.Decides.{nat_tests}
use Rattle.std.proofs.lemmas.Grind.{common_steps}
use Rattle.std.proofs.lemmas.List.{append-nil, drop-take}
use Rattle.std.specs.Io.KnownBytes.{Consumes}
use Rattle.std.specs.Prelude.{Bool, IfNone, IfSome, List, None, Option, Some, [], drop, false, length, slice_index, suc, take, true, zero, ℕ, ◌++◌, ◌+◌, ◌-◌, ◌<◌, ◌==◌, ◌∷◌, ◌≡◌, ◌≤◌}

pub skipped : (n s e : ℕ) (xs : List ℕ) → n ≤ e - s → take (e - (s + n)) (drop (s + n) xs) ≡ drop n (take (e - s) (drop s xs))
skipped n s e xs le =
    let m = e - (s + n) in
    let split : e - s ≡ n + m = omega arith in
    ap (take m) (sym (drop-drop n s xs)) ∙ sym (drop-take n m (drop s xs)) ∙ ap (λ k. drop n (take k (drop s xs))) (sym split)
  where
    drop-drop : (n s : ℕ) (xs : List ℕ) → drop n (drop s xs) ≡ drop (s + n) xs
    drop-drop n s xs = grind (arith, common_steps)

-- what was read stands behind what was held
held_more : (h n : ℕ) (old new : List ℕ) → take h new ≡ take h old → take (h + n) new ≡ take h old ++ take n (drop h new)
held_more h n old new same = take-add h n new ∙ ap (λ (f : List ℕ). f ++ take n (drop h new)) same

-- the front of the room is what was held
at_front : (s e : ℕ) (xs : List ℕ) → s ≡ 0 → take (e - s) (drop s xs) ≡ take e xs
at_front s e xs es = let z : e - s ≡ e = omega (arith, es) in ap (λ k. take k (drop s xs)) z ∙ ap (λ k. take e (drop k xs)) es

-- a read that failed leaves what was held
pub refilled : (s e : ℕ) (new old held : List ℕ) → s ≡ 0 → take e new ≡ take e old → take (e - s) (drop s old) ≡ held → take (e - s) (drop s new) ≡ held ++ []
refilled s e new old held es same h = at_front s e new es ∙ same ∙ sym (at_front s e old es) ∙ h ∙ sym (append-nil held)

-- a read that gave n octets puts them behind
pub filled : (s e n : ℕ) (new old held : List ℕ) → s ≡ 0 → take e new ≡ take e old → take (e - s) (drop s old) ≡ held → take (e + n - s) (drop s new) ≡ held ++ take n (drop e new)
filled s e n new old held es same h =
    at_front s (e + n) new es ∙ held_more e n old new same ∙ ap (λ (f : List ℕ). f ++ take n (drop e new)) (sym (at_front s e old es) ∙ h)

pub keeps_consumes : (a b : Option (List ℕ)) → Keeps a b → Consumes a b []
keeps_consumes None b k = tt
keeps_consumes (Some x) None k = k
keeps_consumes (Some x) (Some y) k = sym k

none_first : (x : ℕ) (b : Bool) → (b ≡ true → ⊥) → b ≡ false
none_first x true f = absurd (f refl)
none_first x false f = refl

-- no newline stands before place n
pub none_before : (n : ℕ) (xs : List ℕ) → ((k : ℕ) → 0 ≤ k → k < n → (slice_index xs k == 10) ≡ true → ⊥) → n ≤ length xs → has_newline (take n xs) ≡ false
none_before zero xs f le = refl
none_before (suc n) [] f le = absurd (omega arith)
none_before (suc n) (x ∷ xs) f le =
    let here : (x == 10) ≡ false = none_first x (x == 10) (λ e. f 0 (omega arith) (omega arith) e) in
    let rest : has_newline (take n xs) ≡ false = none_before n xs (λ k low high e. f (suc k) (omega arith) (omega (arith, high)) e) (omega (arith, le)) in
    rw (here) rest

-- a newline at place n parts a line from the rest
pub line_found : (n : ℕ) (xs : List ℕ) → n < length xs → slice_index xs n ≡ 10 → xs ≡ take n xs ++ 10 ∷ drop (suc n) xs
line_found n [] lt e = absurd (omega arith)
line_found zero (x ∷ xs) lt e = ap (λ (c : ℕ). c ∷ xs) e
line_found (suc n) (x ∷ xs) lt e = ap (λ (v : List ℕ). x ∷ v) (line_found n xs (omega (arith, lt)) e)

-- the answer of a search for the first newline
pub searched_none : (held xs : List ℕ) (r : Option ℕ) → held ≡ xs → IsFirstByte (is_byte 10) held r → IfNone r (has_newline xs ≡ false)
searched_none held xs None e f =
    let whole : has_newline (take (length held) held) ≡ false = none_before (length held) held (λ k low high. f k low high) (omega arith) in
    let P : List ℕ → Type 0 = λ v. has_newline v ≡ false in subst P (take-length held ∙ e) whole
searched_none held xs (Some k) e f = tt

equal_of : (a : ℕ) → (a == 10) ≡ true → a ≡ 10
equal_of a e = grind (arith, nat_tests)

pub searched_some : (held xs : List ℕ) (r : Option ℕ) → held ≡ xs → IsFirstByte (is_byte 10) held r → IfSome r (BeginsWithLine xs)
searched_some held xs None e f = tt
searched_some held xs (Some k) e f =
    let lt = f.0.high in
    let found : BeginsWithLine held k = record {
      rest = drop (suc k) held;
      is = line_found k held lt (equal_of _ f.1);
      within = lt;
      whole = none_before k held (λ i low high. f.0.before i low high) (omega (arith, lt));
    } in
    let P : List ℕ → Type 0 = λ v. BeginsWithLine v k in subst P e found
