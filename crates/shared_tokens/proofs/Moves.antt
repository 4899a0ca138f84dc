-- Each kind of step keeps the rule.
use Rattle.std.proofs.Common.{◌≡◌, ◌≢◌, ◌⊎◌, inl, inr, zero, suc, ℕ, ◌+◌, ◌-◌, ◌%◌, ◌^◌, ◌<◌, ◌≤◌, true, false, List, [], ◌∷◌, ◌++◌, get_or, set, sym, refl, ap, ◌∙◌, subst, ⊎_elim, arith, lt_of_not-le}
use mathlib.Core.Logic.{dite}
use mathlib.Core.Option.{some, some-injective, some-ne-none}
use native.Mathlib.Decide.{dec_le}
use lib.ListN.{get_elem?}
use Rattle.atomic_table.specs.Table.{Me, keeps, opening, Allows, Joins, Splits}
use Rattle.atomic_table.proofs.Lists.{at_set, at_snoc}
use Rattle.shared_tokens.specs.declared.token.Token.{Token}
use Rattle.shared_tokens.specs.Rule.{total, granted_of, owing_of, room_of, Fits, IsFilled}
use Rattle.shared_tokens.specs.Steps.{SawTaken, Taken, both, dealt, ended, gave_back, granted, put_more, putter, refused, saw, taker}
use Rattle.shared_tokens.proofs.Fits.{St, each_set, few_owed, fits_more, fits_put, puts_fit, takes_fit}
use Rattle.shared_tokens.proofs.Totals.{all_granted, part_le, total_set, total_snoc}

abbrev M : Type 0
M = Me (Unit {0}) Token

-- one view changed from v to w, and the words with it; what is put stays, and no less is granted
kept : (b n : ℕ) (s : St) (r : IsFilled b n s) (id : ℕ) (v w : Token) (words : List ℕ) (taken : ℕ) → get_elem? s.views id ≡ some v
    → words ≡ taken ∷ r.put ∷ b ∷ n ∷ []
    → taken ≡ total granted_of (set s.views id w) + total owing_of (set s.views id w)
    → total granted_of s.views ≤ total granted_of (set s.views id w) → total granted_of (set s.views id w) ≤ r.put
    → room_of w ≤ room_of v
    → Fits b n r.putting r.put (total granted_of (set s.views id w)) id w
    → IsFilled b n record { words = words; homes = s.homes; views = set s.views id w }
kept b n s r id v w words taken at words_are taken_is grows enough room fits =
    let rooms = total_set room_of s.views id v w at in let few = r.room in let level = r.level in
    record {
      taken = taken;
      put = r.put;
      putting = r.putting;
      words = words_are;
      taken_is = taken_is;
      enough = enough;
      level = omega arith;
      small = r.small;
      room = omega arith;
      each = each_set b n r.putting r.put (total granted_of (set s.views id w)) s.views id w fits
          (λ j u _ e. fits_more b n r.putting r.put (total granted_of s.views) _ j u grows (r.each j u e));
    }

pub sees_put : (b n slots id : ℕ) (me : M) → me.0.puts ≡ false → Allows (IsFilled b n) slots id me 1 (λ k. k) (λ found me'. (me'.0 ≡ saw me.0 found) × (me'.1 ≡ me.1))
sees_put b n slots id me takes s r _ at small =
    let found : ℕ = get_or s.words 1 0 in let is : found ≡ r.put = ap (λ ws. get_or ws 1 0) r.words in
    let w : Token = saw me.0 found in let mine = r.each id me.0 at in let old = mine.takes takes in let low = old.low in
    let g = total_set granted_of s.views id me.0 w at in let o = total_set owing_of s.views id me.0 w at in
    let enough = r.enough in let sum = r.taken_is in (
      w,
      keeps,
      tt,
      kept b n s r id me.0 w (set s.words 1 found) r.taken at (ap (λ ws. set ws 1 found) r.words ∙ ap (λ p. r.taken ∷ p ∷ b ∷ n ∷ []) is) (omega arith) (omega arith) (omega arith) (omega arith)
          (takes_fit b n r.putting r.put _ id w takes record { low = omega arith; one = old.one } mine.owes mine.none),
      (refl, refl),
    )

pub takes_one : (b n slots id : ℕ) (me : M) → me.0.puts ≡ false → me.0.seats ≡ 1 → me.0.owing ≡ 0
    → Allows (IsFilled b n) slots id me 0 (λ k. (k + 1) % 2 ^ 64) (λ found me'. Taken me.0 found me'.0 × (me'.1 ≡ me.1))
takes_one b n slots id me takes one paid s r _ at small =
    let found : ℕ = get_or s.words 0 0 in let is : found ≡ r.taken = ap (λ ws. get_or ws 0 0) r.words in
    let owed = few_owed b n s r in let sum = r.taken_is in let enough = r.enough in let most = r.small.0 in let few = r.small.2 in
    let mine = r.each id me.0 at in let old = mine.takes takes in let low = old.low in let part = part_le granted_of s.views id me.0 at in
    let next : ℕ = (found + 1) % 2 ^ 64 in let next_is : next ≡ found + 1 = omega arith in
    let w : Token = granted me.0 found in let d : Token = refused me.0 found in
    let wg = total_set granted_of s.views id me.0 w at in let wo = total_set owing_of s.views id me.0 w at in
    let dg = total_set granted_of s.views id me.0 d at in let do' = total_set owing_of s.views id me.0 d at in
    dite (dec_le me.0.seen found)
    (λ full. (
      d,
      keeps,
      tt,
      kept b n s r id me.0 d (set s.words 0 next) next at (ap (λ ws. set ws 0 next) r.words) (omega arith) (omega arith) (omega arith) (omega arith)
          (takes_fit b n r.putting r.put _ id d takes record { low = old.low; one = old.one } (omega arith) (λ none. absurd (omega arith))),
      ((omega arith, (λ lt. absurd (omega arith)), λ _. refl), refl),
    ))
    (λ room. let below : found < me.0.seen = lt_of_not-le room in (
      w,
      keeps,
      tt,
      kept b n s r id me.0 w (set s.words 0 next) next at (ap (λ ws. set ws 0 next) r.words) (omega arith) (omega arith) (omega arith) (omega arith)
          (takes_fit b n r.putting r.put _ id w takes record { low = old.low; one = old.one } (omega arith) (λ none. absurd (omega arith))),
      ((omega arith, (λ _. refl), λ le. absurd (omega arith)), refl),
    ))

pub gives_back : (b n slots id : ℕ) (me : M) → me.0.puts ≡ false → me.0.owing ≡ 1
    → Allows (IsFilled b n) slots id me 0 (λ k. (k + (2 ^ 64 - 1)) % 2 ^ 64) (λ _ me'. (me'.0 ≡ gave_back me.0) × (me'.1 ≡ me.1))
gives_back b n slots id me takes owes s r _ at small =
    let found : ℕ = get_or s.words 0 0 in let is : found ≡ r.taken = ap (λ ws. get_or ws 0 0) r.words in
    let there = part_le owing_of s.views id me.0 at in let sum = r.taken_is in let enough = r.enough in
    let mine = r.each id me.0 at in let old = mine.takes takes in
    let fits : found < 18446744073709551616 = small in
    let next : ℕ = (found + (2 ^ 64 - 1)) % 2 ^ 64 in let next_is : next + 1 ≡ found = omega arith in
    let w : Token = gave_back me.0 in let g = total_set granted_of s.views id me.0 w at in let o = total_set owing_of s.views id me.0 w at in (
      w,
      keeps,
      tt,
      kept b n s r id me.0 w (set s.words 0 next) next at (ap (λ ws. set ws 0 next) r.words) (omega arith) (omega arith) (omega arith) (omega arith)
          (takes_fit b n r.putting r.put _ id w takes record { low = old.low; one = old.one } (omega arith) mine.none),
      (refl, refl),
    )

pub sees_taken : (b n slots id : ℕ) (me : M) → me.0.puts ≡ true → Allows (IsFilled b n) slots id me 0 (λ k. k) (λ found me'. SawTaken me.0 found me'.0)
sees_taken b n slots id me may s r _ at small =
    let found : ℕ = get_or s.words 0 0 in let is : found ≡ r.taken = ap (λ ws. get_or ws 0 0) r.words in
    let owed = few_owed b n s r in let sum = r.taken_is in let enough = r.enough in let level = r.level in let most = r.small.0 in let few = r.small.2 in let room = r.room in
    let mine = r.each id me.0 at in let old = mine.puts may in let put_is = old.total_is in let part = part_le granted_of s.views id me.0 at in
    let burst_is = old.size.0 in let seats_is = old.size.1 in
    let w : Token = saw me.0 found in
    let g = total_set granted_of s.views id me.0 w at in let o = total_set owing_of s.views id me.0 w at in (
      w,
      keeps,
      tt,
      kept b n s r id me.0 w (set s.words 0 found) found at (ap (λ ws. set ws 0 found) r.words) (omega arith) (omega arith) (omega arith) (omega arith)
          (puts_fit b n r.putting r.put _ id w may record { one = old.one; total_is = old.total_is; low = omega arith; paid = old.paid; size = old.size } mine.owes mine.none),
      (refl, omega arith, omega arith, λ all. let whole = all_granted s.views id me.0 at (omega arith) (λ j u e. (r.each j u e).none) in omega arith),
    )

none_or_some : (k : ℕ) → (k ≡ 0) ⊎ (0 < k)
none_or_some zero = inl refl
none_or_some (suc k) = inr (omega arith)

pub puts : (b n slots id : ℕ) (me : M) (k : ℕ) → me.0.puts ≡ true → me.0.total + k ≤ 2 ^ 62 → (0 < k → me.0.total + k ≤ me.0.seen + b)
    → Allows (IsFilled b n) slots id me 1 (λ p. (p + k) % 2 ^ 64) (λ _ me'. me'.0 ≡ put_more me.0 k)
puts b n slots id me k may fits room s r _ at small =
    let found : ℕ = get_or s.words 1 0 in let is : found ≡ r.put = ap (λ ws. get_or ws 1 0) r.words in
    let sum = r.taken_is in let enough = r.enough in let level = r.level in let few = r.room in
    let mine = r.each id me.0 at in let old = mine.puts may in let tot = old.total_is in let low = old.low in let w : Token = put_more me.0 k in
    let next : ℕ = (found + k) % 2 ^ 64 in let next_is : next ≡ found + k = omega arith in
    let g = total_set granted_of s.views id me.0 w at in let o = total_set owing_of s.views id me.0 w at in let rooms = total_set room_of s.views id me.0 w at in
    let g_is : total granted_of (set s.views id w) ≡ total granted_of s.views = omega arith in (
      w,
      keeps,
      tt,
      record {
        taken = r.taken;
        put = next;
        putting = r.putting;
        words = ap (λ ws. set ws 1 next) r.words;
        taken_is = omega arith;
        enough = omega arith;
        level = ⊎_elim (λ (none : k ≡ 0). omega arith) (λ (some_put : 0 < k). let up = room some_put in omega arith) (none_or_some k);
        small = (omega arith, r.small.1, r.small.2);
        room = omega arith;
        each = each_set b n r.putting next (total granted_of (set s.views id w)) s.views id w
            (puts_fit b n r.putting next _ id w may record { one = old.one; total_is = omega arith; low = omega arith; paid = old.paid; size = old.size } mine.owes mine.none)
            (λ j u ne e. fits_more b n r.putting next (total granted_of s.views) _ j u (omega arith)
            (fits_put b n r.putting r.put next _ j u (omega arith) (λ same. ne (same ∙ sym old.one)) (r.each j u e)));
      },
      refl,
    )

pub deals : (b n id : ℕ) (v : Token) → v.puts ≡ true → 0 < v.splits → Splits (IsFilled b n) id v (dealt v) taker
deals b n id v may some_left s r at =
    let w : Token = dealt v in let vs : List Token = set s.views id w in let u : Token = taker in
    let g = total_set granted_of s.views id v w at in let o = total_set owing_of s.views id v w at in let t = total_set room_of s.views id v w at in
    let g' = total_snoc granted_of vs u in let o' = total_snoc owing_of vs u in let t' = total_snoc room_of vs u in
    let sum = r.taken_is in let enough = r.enough in let level = r.level in let few = r.room in let mine = r.each id v at in let old = mine.puts may in let low = old.low in
    let all : ℕ = total granted_of (vs ++ u ∷ []) in let same : total granted_of s.views ≤ all = omega arith in
    record {
      taken = r.taken;
      put = r.put;
      putting = r.putting;
      words = r.words;
      taken_is = omega arith;
      enough = omega arith;
      level = omega arith;
      small = r.small;
      room = omega arith;
      each = λ j x e. ⊎_elim
          (λ (was : get_elem? vs j ≡ some x). each_set b n r.putting r.put all s.views id w
          (puts_fit b n r.putting r.put all id w may record { one = old.one; total_is = old.total_is; low = omega arith; paid = old.paid; size = old.size } mine.owes mine.none)
          (λ i y _ there. fits_more b n r.putting r.put (total granted_of s.views) all i y same (r.each i y there)) j x was)
          (λ (is : u ≡ x). subst (Fits b n r.putting r.put all j) is
          (takes_fit b n r.putting r.put all j u refl record { low = omega arith; one = omega arith } (omega arith) (λ none. refl))) (at_snoc vs u x j e);
    }

-- one seat of so many was split off
pub one_dealt : (b n i : ℕ) (v w : Token) → i < n → v ≡ record (putter b n) { splits = n - i } → w ≡ dealt v → w ≡ record (putter b n) { splits = n - (i + 1) }
one_dealt b n i v w below is next = let one : (n - i) - 1 ≡ n - (i + 1) = omega arith in next ∙ ap dealt is ∙ ap (λ k. record (putter b n) { splits = k }) one

pub settles : (b n id : ℕ) (v : Token) (other : ℕ) (w : Token) → v.puts ≡ true → w.puts ≡ false → w.owing ≡ 0
    → Joins (IsFilled b n) id v other w (both v w) ended
settles b n id v other w puts takes paid s r at apart at' =
    let x : Token = both v w in let vs : List Token = set s.views id x in
    let g = total_set granted_of s.views id v x at in let o = total_set owing_of s.views id v x at in let t = total_set room_of s.views id v x at in
    let g' = total_set granted_of vs other w ended at' in let o' = total_set owing_of vs other w ended at' in let t' = total_set room_of vs other w ended at' in
    let sum = r.taken_is in let enough = r.enough in let level = r.level in let few = r.room in let mine = r.each id v at in let old = mine.puts puts in
    let all : ℕ = total granted_of (set vs other ended) in let same : total granted_of s.views ≤ all = omega arith in
    let his : Fits b n r.putting r.put (total granted_of s.views) other w =
    ⊎_elim (λ (t : (other ≡ id) × (x ≡ w)). absurd (apart t.0)) (λ (t : (other ≢ id) × (get_elem? s.views other ≡ some w)). r.each other w t.1) (at_set s.views id other x w at') in
    let low = old.low in let owes = mine.owes in let owes' = his.owes in
    record {
      taken = r.taken;
      put = r.put;
      putting = r.putting;
      words = r.words;
      taken_is = omega arith;
      enough = omega arith;
      level = omega arith;
      small = r.small;
      room = omega arith;
      each = each_set b n r.putting r.put all vs other ended (takes_fit b n r.putting r.put all other ended refl record { low = omega arith; one = omega arith } (omega arith) (λ _. refl))
          (λ j u _ e. each_set b n r.putting r.put all s.views id x
          (puts_fit b n r.putting r.put all id x puts record { one = old.one; total_is = old.total_is; low = omega arith; paid = old.paid; size = old.size }
          (omega arith) (λ none. let a = mine.none (omega arith) in let c = his.none (omega arith) in omega arith))
          (λ i y _ there. fits_more b n r.putting r.put (total granted_of s.views) all i y same (r.each i y there)) j u e);
    }

first_fits : (b n j : ℕ) (u : Token) → get_elem? (record (putter b n) { splits = n } ∷ []) j ≡ some u → Fits b n 0 0 0 j u
first_fits b n zero u e =
    let v : Token = record (putter b n) { splits = n } in
    subst (Fits b n 0 0 0 0) (some-injective v u e) (puts_fit b n 0 0 0 0 v refl record { one = refl; total_is = refl; low = omega arith; paid = refl; size = (refl, refl) } (omega arith) (λ _. refl))
first_fits b n (suc j) u e = absurd (some-ne-none u (sym e))

pub begins : (b n : ℕ) → b ≤ 2 ^ 40 → n ≤ 2 ^ 20 → IsFilled b n (opening (0 ∷ 0 ∷ b ∷ n ∷ []) [] (record (putter b n) { splits = n }))
begins b n small few = record {
  taken = 0;
  put = 0;
  putting = 0;
  words = refl;
  taken_is = refl;
  enough = omega arith;
  level = omega arith;
  small = (omega arith, small, few);
  room = omega arith;
  each = first_fits b n;
}
