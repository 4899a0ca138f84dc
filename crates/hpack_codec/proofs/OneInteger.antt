-- Octets are read as an integer in one way only.
use Rattle.std.proofs.Common.{◌≡◌, ℕ, ◌+◌, ◌%◌, ◌^◌, ◌<◌, ◌≤◌, ◌∙◌, Bool, true, false, cond, eqb, ltb, leb, List, [], ◌∷◌, ◌++◌, length, Result, Ok, Err, refl, sym, ap, subst, arith, append_assoc, inl, inr}
use Rattle.std.proofs.lemmas.Bool.{eq-eqb, ne_eqb, lt-ltb, le-ltb, le-leb, lt-leb}
use Rattle.std.proofs.lemmas.List.{append-nil, length-append}
use Rattle.hpack_codec.specs.Integers.{full, value_of, BreaksInteger, IsInteger, IsTooLarge, Unfinished}
use Rattle.hpack_codec.specs.declared.fault.HpackFault.{HpackFault}
use Rattle.hpack_codec.specs.declared.fault.HpackFault.TheVariants.{BadInteger, Truncated}
use Rattle.hpack_codec.proofs.IntegerLemmas.{Onward}

-- what the octets behind these say, octet by octet
abbrev pub go : ℕ → List ℕ → List ℕ → Result (ℕ × List ℕ) HpackFault
go prefix seen [] = Err Truncated
go prefix seen (b ∷ rest) =
    cond (leb (2 ^ 32) (full prefix + value_of (seen ++ b ∷ []))) (Err BadInteger)
    (cond (ltb b 128) (Ok (full prefix + value_of (seen ++ b ∷ []), rest))
    (cond (eqb (length seen) 4) (Err BadInteger) (go prefix (seen ++ b ∷ []) rest)))

abbrev pub integer_at : ℕ → List ℕ → Result (ℕ × List ℕ) HpackFault
integer_at prefix [] = Err Truncated
integer_at prefix (first ∷ rest) = cond (ltb (first % 2 ^ prefix) (full prefix)) (Ok (first % 2 ^ prefix, rest)) (go prefix [] rest)

-- one octet that says that more follow
goes_past : (prefix : ℕ) (seen : List ℕ) (b : ℕ) (rest : List ℕ) → full prefix + value_of (seen ++ b ∷ []) < 2 ^ 32 → 128 ≤ b → length seen < 4 → go prefix seen (b ∷ rest) ≡ go prefix (seen ++ b ∷ []) rest
goes_past prefix seen b rest small on few =
    let v = full prefix + value_of (seen ++ b ∷ []) in
    let next = go prefix (seen ++ b ∷ []) rest in
    ap (λ t. cond t (Err BadInteger) (cond (ltb b 128) (Ok (v, rest)) (cond (eqb (length seen) 4) (Err BadInteger) next))) (lt-leb (2 ^ 32) v small)
    ∙ ap (λ t. cond t (Ok (v, rest)) (cond (eqb (length seen) 4) (Err BadInteger) next)) (le-ltb b 128 on)
    ∙ ap (λ t. cond t (Err BadInteger) next) (ne_eqb (length seen) 4 (λ e. omega (arith, e)))

value-front : (front more : List ℕ) → value_of front ≤ value_of (front ++ more)
value-front [] more = omega arith
value-front (b ∷ front) more = let i = value-front front more in omega arith

onward_head : (front : List ℕ) (b : ℕ) (more : List ℕ) → Onward (front ++ b ∷ more) → 128 ≤ b
onward_head [] b more all = all.0
onward_head (x ∷ front) b more all = onward_head front b more all.1

-- all octets that say that more follow
goes_on : (prefix first : ℕ) (seen more tail : List ℕ) → Unfinished prefix first (seen ++ more) → go prefix seen (more ++ tail) ≡ go prefix (seen ++ more) tail
goes_on prefix first seen [] tail u = ap (λ x. go prefix x tail) (sym (append-nil seen))
goes_on prefix first seen (b ∷ more) tail u =
    let e = append_assoc seen (b ∷ []) more in
    let P : List ℕ → Type 0 = λ x. Unfinished prefix first x in
    let less = value-front (seen ++ b ∷ []) more in
    let same = ap value_of e in
    goes_past prefix seen b (more ++ tail) (omega (arith, u.small, less, same)) (onward_head seen b more u.onward) (omega (arith, u.few, length-append seen (b ∷ more)))
    ∙ goes_on prefix first (seen ++ b ∷ []) more tail (subst P (sym e) u)
    ∙ ap (λ x. go prefix x tail) e

full_here : (prefix first : ℕ) (rest more : List ℕ) → Unfinished prefix first more → integer_at prefix (first ∷ rest) ≡ go prefix [] rest
full_here prefix first rest more u =
    ap (λ t. cond t (Ok (first % 2 ^ prefix, rest)) (go prefix [] rest)) (le-ltb (first % 2 ^ prefix) (full prefix) (omega (arith, u.is_full)))

reads : (prefix : ℕ) (octets : List ℕ) (n : ℕ) (rest : List ℕ) → IsInteger prefix octets n rest → integer_at prefix octets ≡ Ok (n, rest)
reads prefix octets n rest (inl s) =
    ap (integer_at prefix) s.whole
    ∙ ap (λ t. cond t (Ok (s.first % 2 ^ prefix, rest)) (go prefix [] rest)) (lt-ltb (s.first % 2 ^ prefix) (full prefix) (omega (arith, s.value, s.fits)))
    ∙ ap (λ x. Ok (x, rest)) (sym s.value)
reads prefix octets n rest (inr l) =
    let v = full prefix + value_of (l.more ++ l.last ∷ []) in
    let next = cond (eqb (length l.more) 4) (Err BadInteger) (go prefix (l.more ++ l.last ∷ []) rest) in
    ap (integer_at prefix) l.whole
    ∙ full_here prefix l.first (l.more ++ l.last ∷ rest) l.more l.begun
    ∙ goes_on prefix l.first [] l.more (l.last ∷ rest) l.begun
    ∙ ap (λ t. cond t (Err BadInteger) (cond (ltb l.last 128) (Ok (v, rest)) next)) (lt-leb (2 ^ 32) v (omega (arith, l.value, l.fits)))
    ∙ ap (λ t. cond t (Ok (v, rest)) next) (lt-ltb l.last 128 l.ends)
    ∙ ap (λ x. Ok (x, rest)) (sym l.value)

pub same_both : {X : Type 0} (b : Bool) (x : X) → cond b x x ≡ x
same_both true x = refl
same_both false x = refl

large : (prefix : ℕ) (octets : List ℕ) → IsTooLarge prefix octets → integer_at prefix octets ≡ Err BadInteger
large prefix octets l =
    let v = full prefix + value_of (l.more ++ l.last ∷ []) in
    let next = go prefix (l.more ++ l.last ∷ []) l.rest in
    let late = cond (ltb l.last 128) (Ok (v, l.rest)) (cond (eqb (length l.more) 4) (Err BadInteger) next) in
    ap (integer_at prefix) l.whole
    ∙ full_here prefix l.first (l.more ++ l.last ∷ l.rest) l.more l.begun
    ∙ goes_on prefix l.first [] l.more (l.last ∷ l.rest) l.begun
    ∙ elim l.over [
      | inl over ↦ ap (λ t. cond t (Err BadInteger) late) (le-leb (2 ^ 32) v over)
      | inr fifth ↦
          ap (λ t. cond (leb (2 ^ 32) v) (Err BadInteger) (cond t (Ok (v, l.rest)) (cond (eqb (length l.more) 4) (Err BadInteger) next))) (le-ltb l.last 128 fifth.1)
          ∙ ap (λ t. cond (leb (2 ^ 32) v) (Err BadInteger) (cond t (Err BadInteger) next)) (eq-eqb (length l.more) 4 fifth.0)
          ∙ same_both (leb (2 ^ 32) v) (Err BadInteger)
    ]

breaks : (prefix : ℕ) (octets : List ℕ) (fault : HpackFault) → BreaksInteger prefix octets fault → integer_at prefix octets ≡ Err fault
breaks prefix octets fault (inl cut) = elim cut.0 [
  | inl none ↦ ap (integer_at prefix) none ∙ ap Err (sym cut.1)
  | inr some ↦
      ap (integer_at prefix) some.2
      ∙ full_here prefix some.0 some.1 some.1 some.3
      ∙ ap (go prefix []) (sym (append-nil some.1))
      ∙ goes_on prefix some.0 [] some.1 [] some.3
      ∙ ap Err (sym cut.1)
]
breaks prefix octets fault (inr too) = large prefix octets too.0 ∙ ap Err (sym too.1)

-- what octets are read as
abbrev pub IntegerIs : ℕ → List ℕ → Result (ℕ × List ℕ) HpackFault → Type 0
IntegerIs prefix octets (Ok x) = IsInteger prefix octets x.0 x.1
IntegerIs prefix octets (Err e) = BreaksInteger prefix octets e

pub integer_is : (prefix : ℕ) (octets : List ℕ) (r : Result (ℕ × List ℕ) HpackFault) → IntegerIs prefix octets r → integer_at prefix octets ≡ r
integer_is prefix octets (Ok x) h = reads prefix octets x.0 x.1 h
integer_is prefix octets (Err e) h = breaks prefix octets e h

pub integer_one : (prefix : ℕ) (octets : List ℕ) (r s : Result (ℕ × List ℕ) HpackFault) → IntegerIs prefix octets r → IntegerIs prefix octets s → r ≡ s
integer_one prefix octets r s h k = sym (integer_is prefix octets r h) ∙ integer_is prefix octets s k

pub integer_some : (prefix : ℕ) (octets : List ℕ) (n : ℕ) (rest : List ℕ) → IsInteger prefix octets n rest → 0 < length octets
integer_some prefix octets n rest (inl s) = omega (arith, ap length s.whole)
integer_some prefix octets n rest (inr l) = omega (arith, ap length l.whole)
