-- Each step on the version word keeps its rule.
use Rattle.std.proofs.Common.{◌≡◌, ◌≢◌, ℕ, zero, suc, ◌+◌, ◌%◌, ◌^◌, ◌<◌, ◌≤◌, true, true≢false, List, [], ◌∷◌, get_or, set, sym, refl, ap, ◌∙◌, subst, ⊎_elim, arith}
use mathlib.Core.Logic.{dite}
use mathlib.Core.Option.{some, some-injective, some-ne-none}
use native.Mathlib.Decide.{ℕ_discrete}
use lib.ListN.{get_elem?}
use Rattle.atomic_table.specs.Table.{State, Me, keeps, Allows, Splits}
use Rattle.atomic_table.proofs.Lists.{at_set, at_snoc, at_longer, set_else}
use Rattle.shared_state.specs.declared.version_word.VersionView.{VersionView}
use Rattle.shared_state.specs.Version.{FitsWord, IsCounted, first_seat, newcomer, raised, looked}

abbrev St : Type 0
St = State (Unit {0}) VersionView

abbrev M : Type 0
M = Me (Unit {0}) VersionView

here_set : (l : List VersionView) (i : ℕ) (v w : VersionView) → get_elem? l i ≡ some v → get_elem? (set l i w) i ≡ some w
here_set [] i v w e = absurd (some-ne-none v (sym e))
here_set (x ∷ xs) zero v w e = refl
here_set (x ∷ xs) (suc i) v w e = here_set xs i v w e

-- the publisher's seat is still there
still : (s : St) (r : IsCounted s) (id : ℕ) (v w : VersionView) → get_elem? s.views id ≡ some v → w.publishes ≡ v.publishes → (u : VersionView) × (get_elem? (set s.views id w) r.publisher ≡ some u) × (u.publishes ≡ true)
still s r id v w at same = dite (ℕ_discrete r.publisher id)
    (λ is. (
      w,
      subst (λ (k : ℕ). get_elem? (set s.views id w) k ≡ some w) (sym is) (here_set s.views id v w at),
      same ∙ ap (λ (y : VersionView). y.publishes) (some-injective v r.there.0 (sym at ∙ subst (λ (k : ℕ). get_elem? s.views k ≡ some r.there.0) is r.there.1)) ∙ r.there.2,
    ))
    (λ ne. (r.there.0, set_else s.views id r.publisher w ne ∙ r.there.1, r.there.2))

pub looks : (slots id : ℕ) (me : M) → Allows IsCounted slots id me 0 (λ n. n) (λ found me'. (me.0.found ≤ found) × (me'.0 ≡ looked me.0 found))
looks slots id me s r _ at small =
    let found : ℕ = get_or s.words 0 0 in let is : found ≡ r.word = ap (λ ws. get_or ws 0 0) r.words in
    let w : VersionView = looked me.0 found in let mine = r.each id me.0 at in let low = mine.2 in (
      w,
      keeps,
      tt,
      record {
        word = r.word;
        words = ap (λ ws. set ws 0 found) r.words ∙ ap (λ n. n ∷ []) is;
        small = r.small;
        publisher = r.publisher;
        there = still s r id me.0 w at refl;
        each = λ j u e. ⊎_elim (λ (t : (j ≡ id) × (w ≡ u)). subst (λ (y : ℕ × VersionView). FitsWord r.publisher r.word y.0 y.1) (λ k. (sym t.0 k, t.1 k)) (mine.0, mine.1, omega arith))
            (λ (t : (j ≢ id) × (get_elem? s.views j ≡ some u)). r.each j u t.1) (at_set s.views id j w u e);
      },
      (omega arith, refl),
    )

pub raises : (slots id : ℕ) (me : M) → me.0.publishes ≡ true → me.0.total + 1 < 9223372036854775808
    → Allows IsCounted slots id me 0 (λ n. (n + 1) % 2 ^ 64) (λ found me'. (found ≡ me.0.total) × (me'.0 ≡ raised me.0))
raises slots id me may room s r _ at small =
    let found : ℕ = get_or s.words 0 0 in let is : found ≡ r.word = ap (λ ws. get_or ws 0 0) r.words in
    let mine = r.each id me.0 at in let old = mine.0 may in let total = old.1 in let low = mine.2 in
    let next : ℕ = (found + 1) % 2 ^ 64 in let next_is : next ≡ r.word + 1 = omega arith in
    let w : VersionView = raised me.0 in (
      w,
      keeps,
      tt,
      record {
        word = next;
        words = ap (λ ws. set ws 0 next) r.words;
        small = omega arith;
        publisher = r.publisher;
        there = still s r id me.0 w at refl;
        each = λ j u e. ⊎_elim (λ (t : (j ≡ id) × (w ≡ u)). subst (λ (y : ℕ × VersionView). FitsWord r.publisher next y.0 y.1) (λ k. (sym t.0 k, t.1 k)) ((λ _. (old.0, omega arith)), (λ no. absurd (true≢false (sym may ∙ no))), omega arith))
            (λ (t : (j ≢ id) × (get_elem? s.views j ≡ some u)). let f = r.each j u t.1 in let g = f.2 in ((λ p. absurd (t.0 ((f.0 p).0 ∙ sym old.0))), f.1, omega arith)) (at_set s.views id j w u e);
      },
      (is ∙ sym total, refl),
    )

pub splits : (id : ℕ) (v : VersionView) → Splits IsCounted id v v newcomer
splits id v s r at = let vs : List VersionView = set s.views id v in let t = still s r id v v at refl in record {
  word = r.word;
  words = r.words;
  small = r.small;
  publisher = r.publisher;
  there = (t.0, at_longer vs (newcomer ∷ []) r.publisher t.0 t.1, t.2);
  each = λ j u e. ⊎_elim (λ was. ⊎_elim (λ (t : (j ≡ id) × (v ≡ u)). subst (λ (y : ℕ × VersionView). FitsWord r.publisher r.word y.0 y.1) (λ k. (sym t.0 k, t.1 k)) (r.each id v at)) (λ (t : (j ≢ id) × (get_elem? s.views j ≡ some u)). r.each j u t.1) (at_set s.views id j v u was))
      (λ (is : newcomer ≡ u). subst (FitsWord r.publisher r.word j) is ((λ p. absurd (true≢false (sym p))), (λ _. refl), omega arith)) (at_snoc vs newcomer u j e);
}

pub begins : IsCounted record { words = 0 ∷ []; homes = []; views = first_seat ∷ [] }
begins = record {
  word = 0;
  words = refl;
  small = omega arith;
  publisher = 0;
  there = (first_seat, refl, refl);
  each = λ j u e. ⊎_elim (λ (none_there : get_elem? [] j ≡ some u). absurd (some-ne-none u (sym none_there)))
      (λ (is : first_seat ≡ u). subst (FitsWord 0 0 j) is ((λ _. (first_only j u e, refl)), (λ _. refl), omega arith)) (at_snoc [] first_seat u j e);
}
  where
    first_only : (j : ℕ) (u : VersionView) → get_elem? (first_seat ∷ []) j ≡ some u → j ≡ 0
    first_only zero u e = refl
    first_only (suc j) u e = absurd (some-ne-none u (sym e))
