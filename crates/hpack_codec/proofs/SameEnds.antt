-- Strings of octets that are the same where the words at their two ends are.
use Rattle.std.proofs.Common.{◌≡◌, ◌≢◌, ℕ, ◌+◌, ◌-◌, ◌≤◌, ◌<◌, ◌∙◌, ◌++◌, ◌&&◌, Bool, true, false, List, [], ◌∷◌, length, drop, take, get_or, eqb, Option, Some, None, Bor, Decides, MatchOption, option_copied, Fits, w8, refl, sym, ap, arith, inl, inr}
use Rattle.std.proofs.lemmas.Bool.{cases_lt, eq-eqb, eqb-true, false_from_ne_true}
use Rattle.std.proofs.lemmas.Bool.Decides.{Decides-and, Decides-like, same_from_decides}
use Rattle.std.proofs.lemmas.List.{drop-drop, get_or-drop, get_or-take, get_or_past, length-drop, length-take, length-take-le, take-append-drop}
use Rattle.std.proofs.lemmas.Option.{MatchOption-at_some}
use Rattle.std.proofs.lemmas.Slice.Eq.{bytes_eq-Decides}
use Rattle.std.specs.Array.{IsFirstChunk, IsWholeChunk}
use Rattle.std.specs.Int.{Width, from_le_bytes, to_le_bytes}
use Rattle.std.specs.List.{slice_get}
use Rattle.std.specs.Option.{option_eq}
use Rattle.std.specs.Str.{bytes_eq}
use Rattle.hpack_codec.specs.Words.{IsWordOf}

-- what lies behind the first k, as a part of the last k
behind : (k : ℕ) (xs : List ℕ) → k ≤ length xs → length xs ≤ k + k → drop k xs ≡ drop (k - (length xs - k)) (drop (length xs - k) xs)
behind k xs least most =
    let place : k ≡ (length xs - k) + (k - (length xs - k)) = omega arith in
    ap (λ (i : ℕ). drop i xs) place ∙ sym (drop-drop (k - (length xs - k)) (length xs - k) xs)

joined : (k : ℕ) (xs ys : List ℕ) → length xs ≡ length ys → k ≤ length xs → length xs ≤ k + k
    → (take k xs ≡ take k ys) × (drop (length xs - k) xs ≡ drop (length ys - k) ys) → xs ≡ ys
joined k xs ys len least most ends =
    let rest : drop k xs ≡ drop k ys =
    behind k xs least most
    ∙ ap (drop (k - (length xs - k))) ends.1
    ∙ ap (λ (n : ℕ). drop (k - (n - k)) (drop (length ys - k) ys)) len
    ∙ sym (behind k ys (omega arith) (omega arith)) in
    sym (take-append-drop k xs)
    ∙ ap (λ (front : List ℕ). front ++ drop k xs) ends.0
    ∙ ap (λ (back : List ℕ). take k ys ++ back) rest
    ∙ take-append-drop k ys

-- ---- a word is that of its octets alone
word_Decides : (w : Width) (xs ys : List ℕ) (m n : ℕ) → IsWordOf w xs m → IsWordOf w ys n → Decides (eqb m n) (xs ≡ ys)
word_Decides w xs ys m n p q = (
  λ t. sym p.written ∙ ap (to_le_bytes w) (eqb-true m n t) ∙ q.written,
  λ e. eq-eqb m n (p.read ∙ ap (from_le_bytes w) e ∙ sym q.read),
)

pub same_by_words : (k : ℕ) (w : Width) (xs ys : List ℕ) (a b c d : ℕ) → length xs ≡ length ys → k ≤ length xs → length xs ≤ k + k
    → IsWordOf w (take k xs) a → IsWordOf w (take k ys) b → IsWordOf w (drop (length xs - k) xs) c → IsWordOf w (drop (length ys - k) ys) d
    → (eqb a b && eqb c d) ≡ bytes_eq xs ys
same_by_words k w xs ys a b c d len least most p q r s =
    same_from_decides (eqb a b && eqb c d) (bytes_eq xs ys)
    (Decides-like (eqb a b && eqb c d)
    (joined k xs ys len least most)
    (λ (same : xs ≡ ys). (ap (take k) same, ap (λ (zs : List ℕ). drop (length zs - k) zs) same))
    (Decides-and (eqb a b) (eqb c d) (word_Decides w (take k xs) (take k ys) a b p q) (word_Decides w (drop (length xs - k) xs) (drop (length ys - k) ys) c d r s)))
    (bytes_eq-Decides xs ys)

-- ---- the words at the ends as the code reads them
abbrev pub AreOctets : List ℕ → Type 0
AreOctets xs = (i : ℕ) → get_or xs i 0 < 256

pub octets_from : (xs : List ℕ) → ((i : ℕ) → Fits w8 (get_or xs i 0)) → AreOctets xs
octets_from xs fits i = let low : Fits w8 (get_or xs i 0) = fits i in omega arith

-- k octets are written as they were read
abbrev pub RoundTrips : ℕ → Width → Type 0
RoundTrips k w = (octets : List ℕ) (n : ℕ) → length octets ≡ k → AreOctets octets → n ≡ from_le_bytes w octets → to_le_bytes w n ≡ octets

front_octets : (k : ℕ) (xs : List ℕ) → AreOctets xs → AreOctets (take k xs)
front_octets k xs all i = elim (cases_lt i k) [
  | inl low ↦ rw (get_or-take k xs i 0 low) (all i)
  | inr high ↦ rw (get_or_past (take k xs) i 0 (omega (arith, length-take k xs))) (omega arith)
]

back_octets : (k : ℕ) (xs : List ℕ) → AreOctets xs → AreOctets (drop k xs)
back_octets k xs all i = rw (get_or-drop k xs i 0) (all (k + i))

pub first_word : (k : ℕ) (w : Width) → RoundTrips k w → (xs : List ℕ) (r : Option (Bor (List ℕ))) (chunk : Bor (List ℕ)) (n : ℕ) → k ≤ length xs → AreOctets xs
    → MatchOption r (length xs < k) (λ x. IsFirstChunk xs x.now k) → r ≡ Some chunk → n ≡ from_le_bytes w chunk.now → IsWordOf w (take k xs) n
first_word k w back xs r chunk n h all cases is e =
    let same = (MatchOption-at_some (length xs < k) (λ (x : Bor (List ℕ)). IsFirstChunk xs x.now k) chunk is cases).same in
    let read : n ≡ from_le_bytes w (take k xs) = e ∙ ap (from_le_bytes w) same in
    record { read = read; written = back (take k xs) n (length-take-le k xs h) (front_octets k xs all) read }

pub last_word : (k : ℕ) (w : Width) → RoundTrips k w → (xs : List ℕ) (r : Option (Bor (List ℕ))) (chunk : Bor (List ℕ)) (n : ℕ) → k ≤ length xs → AreOctets xs
    → MatchOption r (length xs < k) (λ x. (k ≤ length xs) × IsWholeChunk (drop (length xs - k) xs) x.now k) → r ≡ Some chunk → n ≡ from_le_bytes w chunk.now
    → IsWordOf w (drop (length xs - k) xs) n
last_word k w back xs r chunk n h all cases is e =
    let same = (MatchOption-at_some (length xs < k) (λ (x : Bor (List ℕ)). (k ≤ length xs) × IsWholeChunk (drop (length xs - k) xs) x.now k) chunk is cases).1.same in
    let read : n ≡ from_le_bytes w (drop (length xs - k) xs) = e ∙ ap (from_le_bytes w) same in
    record { read = read; written = back (drop (length xs - k) xs) n (omega (arith, length-drop (length xs - k) xs)) (back_octets (length xs - k) xs all) read }

-- ---- at most one octet, and lengths that differ
copied_eq : (x y : Option (Bor ℕ)) → option_eq (λ (p q : Bor ℕ). eqb p.now q.now) x y ≡ option_eq eqb (option_copied x) (option_copied y)
copied_eq (Some x) (Some y) = refl
copied_eq (Some x) None = refl
copied_eq None (Some y) = refl
copied_eq None None = refl

and_true : (b : Bool) → b ≡ (b && true)
and_true true = refl
and_true false = refl

few_eq : (xs ys : List ℕ) → length xs ≡ length ys → length xs ≤ 1 → option_eq eqb (slice_get xs 0) (slice_get ys 0) ≡ bytes_eq xs ys
few_eq [] [] len few = refl
few_eq [] (y ∷ ys) len few = absurd (omega arith)
few_eq (x ∷ []) [] len few = absurd (omega arith)
few_eq (x ∷ []) (y ∷ []) len few = and_true (eqb x y)
few_eq (x ∷ []) (y ∷ z ∷ ys) len few = absurd (omega arith)
few_eq (x ∷ w ∷ xs) ys len few = absurd (omega arith)

pub same_by_first : (xs ys : List ℕ) (x y : Option (Bor ℕ)) → length xs ≡ length ys → length xs ≤ 1 → option_copied x ≡ slice_get xs 0 → option_copied y ≡ slice_get ys 0
    → option_eq (λ (p q : Bor ℕ). eqb p.now q.now) x y ≡ bytes_eq xs ys
same_by_first xs ys x y len few p q =
    copied_eq x y
    ∙ ap (λ (o : Option ℕ). option_eq eqb o (option_copied y)) p
    ∙ ap (λ (o : Option ℕ). option_eq eqb (slice_get xs 0) o) q
    ∙ few_eq xs ys len few

pub same_never : (xs ys : List ℕ) → length xs ≢ length ys → false ≡ bytes_eq xs ys
same_never xs ys differ = sym (false_from_ne_true (bytes_eq xs ys) (λ same. differ (ap length ((bytes_eq-Decides xs ys).0 same))))
