-- Octets of an integer that are read one by one.
use Rattle.std.proofs.Common.{◌≡◌, ℕ, zero, suc, ◌+◌, ◌-◌, ◌*◌, ◌%◌, ◌^◌, ◌<◌, ◌≤◌, ◌∙◌, List, [], ◌∷◌, ◌++◌, length, take, drop, get_or, bit_and, refl, sym, ap, subst, arith, inl, inr}
use Rattle.std.proofs.lemmas.List.{take_more, drop_more, take-append-drop, take_all, length-take-le}
use Rattle.std.proofs.lemmas.Nat.{and_mask, one_shl, pow-add, pow_pos, mod_below}
use Rattle.std.proofs.Math.Nat.{pow-le-pow_right}
use Rattle.std.specs.List.{AllByRecursion}
use Rattle.hpack_codec.specs.Integers.{full, value_of, Unfinished, IsInteger, BreaksInteger}
use Rattle.hpack_codec.specs.declared.fault.HpackFault.TheVariants.{BadInteger, Truncated}

abbrev pub Onward : List ℕ → Type 0
Onward more = AllByRecursion (λ b. 128 ≤ b) more

-- one octet more
pub value-push : (more : List ℕ) (last n : ℕ) → length more ≡ n → value_of (more ++ last ∷ []) ≡ value_of more + last % 128 * 2 ^ (7 * n)
value-push [] last n e = let p : 2 ^ (7 * n) ≡ 1 = ap (λ k. 2 ^ (7 * k)) (sym e) in omega (arith, ap (λ x. last % 128 * x) p)
value-push (b ∷ more) last zero e = absurd (omega arith)
value-push (b ∷ more) last (suc n) e =
    let i = value-push more last n (omega arith) in
    let p : 2 ^ (7 * suc n) ≡ 2 ^ (7 * n) * 128 = ap (λ k. 2 ^ k) (let z : 7 * suc n ≡ 7 * n + 7 = omega arith in z) ∙ pow-add 2 (7 * n) 7 in
    omega (arith, i, ap (λ x. last % 128 * x) p)

onward-push : (more : List ℕ) (last : ℕ) → Onward more → 128 ≤ last → Onward (more ++ last ∷ [])
onward-push [] last all h = (h, all)
onward-push (b ∷ more) last all h = (all.0, onward-push more last all.1 h)

-- What holds once so many octets were read, all of which say that more follow.
pub record ReadsOn (octets : List ℕ) (most n value : ℕ) : Type 0 where
  pub here : n ≤ length octets
  pub onward : Onward (take n octets)
  pub stands : value ≡ most + value_of (take n octets)
  pub small : value < 2 ^ 32

full_small : (prefix : ℕ) → prefix ≤ 8 → full prefix < 2 ^ 32
full_small prefix h = let p = (let two : 0 < 2 = omega arith in pow-le-pow_right two h) in omega arith

pub begun : (octets : List ℕ) (prefix : ℕ) → prefix ≤ 8 → ReadsOn octets (full prefix) 0 (full prefix)
begun octets prefix h = record { here = omega arith; onward = tt; stands = omega arith; small = full_small prefix h }

pub code_value : (v b n : ℕ) → n < 5 → v + bit_and b 127 * (1 * 2 ^ (7 * n) % 2 ^ 64) ≡ v + b % 128 * 2 ^ (7 * n)
code_value v b n h = ap (λ x. v + x * (1 * 2 ^ (7 * n) % 2 ^ 64)) (and_mask b 7) ∙ ap (λ x. v + b % 128 * x) (one_shl (7 * n) 64 (omega arith))

-- ---- the octet at n
pub split_here : (octets : List ℕ) (n : ℕ) → n < length octets → octets ≡ take n octets ++ get_or octets n 0 ∷ drop (n + 1) octets
split_here octets n h = sym (take-append-drop n octets) ∙ ap (λ x. take n octets ++ x) (drop_more octets n 0 h)

pub value_with : (octets : List ℕ) (most n value x : ℕ) → n < 5 → n < length octets → ReadsOn octets most n value → x ≡ value + bit_and (get_or octets n 0) 127 * (1 * 2 ^ (7 * n) % 2 ^ 64) → x ≡ most + value_of (take n octets ++ get_or octets n 0 ∷ [])
value_with octets most n value x few h r is =
    let a = value-push (take n octets) (get_or octets n 0) n (length-take-le n octets (omega arith)) in
    let b = code_value value (get_or octets n 0) n few in
    omega (arith, a, b, r.stands)

pub unfinished : (prefix first n value : ℕ) (octets : List ℕ) → n < 5 → first % 2 ^ prefix ≡ full prefix → ReadsOn octets (full prefix) n value → Unfinished prefix first (take n octets)
unfinished prefix first n value octets few is r =
    record { is_full = is; onward = r.onward; few = omega (arith, length-take-le n octets r.here); small = omega (arith, r.stands, r.small) }

pub ends_early : (prefix first n value : ℕ) (octets : List ℕ) → n < 5 → n ≡ length octets → first % 2 ^ prefix ≡ full prefix → ReadsOn octets (full prefix) n value → BreaksInteger prefix (first ∷ octets) Truncated
ends_early prefix first n value octets few e is r =
    inl (inr (first, take n octets, ap (λ x. first ∷ x) (sym (take_all n octets (omega arith))), unfinished prefix first n value octets few is r), refl)

pub ends_here : (prefix first n value x : ℕ) (octets : List ℕ) → n < 5 → n < length octets → first % 2 ^ prefix ≡ full prefix → ReadsOn octets (full prefix) n value → x ≡ value + bit_and (get_or octets n 0) 127 * (1 * 2 ^ (7 * n) % 2 ^ 64) → x < 2 ^ 32 → get_or octets n 0 < 128 → IsInteger prefix (first ∷ octets) x (drop (n + 1) octets)
ends_here prefix first n value x octets few h is r e small end =
    inr (record {
      first = first;
      more = take n octets;
      last = get_or octets n 0;
      whole = ap (λ y. first ∷ y) (split_here octets n h);
      begun = unfinished prefix first n value octets few is r;
      ends = end;
      value = value_with octets (full prefix) n value x few h r e;
      fits = small;
    })

pub passes : (prefix first n value x : ℕ) (octets : List ℕ) → n < 5 → n < length octets → first % 2 ^ prefix ≡ full prefix → ReadsOn octets (full prefix) n value → x ≡ value + bit_and (get_or octets n 0) 127 * (1 * 2 ^ (7 * n) % 2 ^ 64) → 2 ^ 32 ≤ x → BreaksInteger prefix (first ∷ octets) BadInteger
passes prefix first n value x octets few h is r e large =
    inr (
      record {
        first = first;
        more = take n octets;
        last = get_or octets n 0;
        rest = drop (n + 1) octets;
        whole = ap (λ y. first ∷ y) (split_here octets n h);
        begun = unfinished prefix first n value octets few is r;
        over = inl (omega (arith, value_with octets (full prefix) n value x few h r e));
      },
      refl,
    )

pub reads_one_more : (most n value x : ℕ) (octets : List ℕ) → n < 5 → n < length octets → ReadsOn octets most n value → x ≡ value + bit_and (get_or octets n 0) 127 * (1 * 2 ^ (7 * n) % 2 ^ 64) → x < 2 ^ 32 → 128 ≤ get_or octets n 0 → ReadsOn octets most (n + 1) x
reads_one_more most n value x octets few h r e small on =
    let t = take_more octets n 0 h in record {
      here = omega arith;
      onward = (let P : List ℕ → Type 0 = λ y. Onward y in subst P (sym t) (onward-push (take n octets) (get_or octets n 0) r.onward on));
      stands = value_with octets most n value x few h r e ∙ ap (λ y. most + value_of y) (sym t);
      small = small;
    }

-- five octets that say that more follow
fifth : (prefix first a b c d e value : ℕ) (rest : List ℕ) → first % 2 ^ prefix ≡ full prefix → ReadsOn (a ∷ b ∷ c ∷ d ∷ e ∷ rest) (full prefix) 5 value → BreaksInteger prefix (first ∷ a ∷ b ∷ c ∷ d ∷ e ∷ rest) BadInteger
fifth prefix first a b c d e value rest is r =
    let more = a ∷ b ∷ c ∷ d ∷ [] in
    let less : full prefix + value_of more < 2 ^ 32 = omega (arith, r.stands, r.small) in
    inr (
      record {
        first = first;
        more = more;
        last = e;
        rest = rest;
        whole = refl;
        begun = record { is_full = is; onward = (r.onward.0, (r.onward.1.0, (r.onward.1.1.0, (r.onward.1.1.1.0, tt)))); few = omega arith; small = less };
        over = inr (refl, r.onward.1.1.1.1.0);
      },
      refl,
    )

pub goes_on : (prefix first value : ℕ) (octets : List ℕ) → first % 2 ^ prefix ≡ full prefix → ReadsOn octets (full prefix) 5 value → BreaksInteger prefix (first ∷ octets) BadInteger
goes_on prefix first value [] is r = absurd (omega (arith, r.here))
goes_on prefix first value (a ∷ []) is r = absurd (omega (arith, r.here))
goes_on prefix first value (a ∷ b ∷ []) is r = absurd (omega (arith, r.here))
goes_on prefix first value (a ∷ b ∷ c ∷ []) is r = absurd (omega (arith, r.here))
goes_on prefix first value (a ∷ b ∷ c ∷ d ∷ []) is r = absurd (omega (arith, r.here))
goes_on prefix first value (a ∷ b ∷ c ∷ d ∷ e ∷ rest) is r = fifth prefix first a b c d e value rest is r

-- ---- the first octet
pub low_is : (prefix b : ℕ) → prefix ≤ 8 → bit_and b (1 * 2 ^ prefix % 2 ^ 64 - 1) ≡ b % 2 ^ prefix
low_is prefix b h = ap (λ x. bit_and b (x - 1)) (one_shl prefix 64 (omega arith)) ∙ and_mask b prefix

pub most_is : (prefix : ℕ) → prefix ≤ 8 → 1 * 2 ^ prefix % 2 ^ 64 - 1 ≡ full prefix
most_is prefix h = ap (λ x. x - 1) (one_shl prefix 64 (omega arith))

pub in_prefix : (prefix first : ℕ) (octets rest : List ℕ) → prefix ≤ 8 → octets ≡ first ∷ rest → bit_and first (1 * 2 ^ prefix % 2 ^ 64 - 1) < 1 * 2 ^ prefix % 2 ^ 64 - 1 → IsInteger prefix octets (bit_and first (1 * 2 ^ prefix % 2 ^ 64 - 1)) rest
in_prefix prefix first octets rest h is fits =
    inl (record { first = first; whole = is; value = low_is prefix first h; fits = omega (arith, most_is prefix h) })

pub is_full : (prefix first : ℕ) → prefix ≤ 8 → 1 * 2 ^ prefix % 2 ^ 64 - 1 ≤ bit_and first (1 * 2 ^ prefix % 2 ^ 64 - 1) → first % 2 ^ prefix ≡ full prefix
is_full prefix first h over =
    let m = most_is prefix h in
    let l = low_is prefix first h in
    let b = mod_below first (2 ^ prefix) (pow_pos prefix) in
    omega arith
