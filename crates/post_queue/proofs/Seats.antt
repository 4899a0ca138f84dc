-- Who posts under a number, what was sent under it, and what that says of each pass after a step.
use Rattle.std.proofs.Common.{◌≡◌, ◌≢◌, ℕ, zero, suc, Bool, true, false, true≢false, cond, eqb, List, [], ◌∷◌, ◌++◌, length, set, sym, refl, ap, ◌∙◌, subst, ⊎_elim, eq-eqb, ne_eqb}
use mathlib.Core.Option.{Option, some, none, some-ne-none}
use lib.ListN.{get_elem?}
use Rattle.crossbeam_queue.proofs.Lists.{at_set}
use Rattle.flow_notes.specs.declared.events.Job.{Job}
use Rattle.post_queue.specs.declared.posts.Post.{Post}
use Rattle.post_queue.specs.declared.hand.Hand.{Hand}
use Rattle.post_queue.specs.Rule.{Fits}
use Rattle.post_queue.specs.Steps.{idle}

-- f, but x at n
abbrev pub at_put : {A : Type 0} → ℕ → A → (ℕ → A) → ℕ → A
at_put n x f p = cond (eqb n p) x (f p)

pub put_here : {A : Type 0} (n : ℕ) (x : A) (f : ℕ → A) → at_put n x f n ≡ x
put_here n x f = ap (λ b. cond b x (f n)) (eq-eqb n n refl)

pub put_else : {A : Type 0} (n : ℕ) (x : A) (f : ℕ → A) (p : ℕ) → n ≢ p → at_put n x f p ≡ f p
put_else n x f p ne = ap (λ b. cond b x (f p)) (ne_eqb n p ne)

pub some_not_none : (o : Option ℕ) (i : ℕ) → o ≡ some i → o ≢ none
some_not_none o i s n = some-ne-none i (sym s ∙ n)

pub each_set : (reader : ℕ) (seat : ℕ → Option ℕ) (sent : ℕ → List Job) (ran : List Post) (count : ℕ) (views : List Hand) (i : ℕ) (w : Hand)
    → Fits reader seat sent ran count i w
    → ((j : ℕ) (u : Hand) → j ≢ i → get_elem? views j ≡ some u → Fits reader seat sent ran count j u)
    → (j : ℕ) (u : Hand) → get_elem? (set views i w) j ≡ some u → Fits reader seat sent ran count j u
each_set reader seat sent ran count views i w here others j u e =
    ⊎_elim (λ (x : (j ≡ i) × (w ≡ u)). subst (λ (y : ℕ × Hand). Fits reader seat sent ran count y.0 y.1) (λ k. (sym x.0 k, x.1 k)) here)
    (λ (x : (j ≢ i) × (get_elem? views j ≡ some u)). others j u x.0 x.1) (at_set views i j w u e)

pub idle_fits : (reader : ℕ) (seat : ℕ → Option ℕ) (sent : ℕ → List Job) (ran : List Post) (count i : ℕ) → Fits reader seat sent ran count i idle
idle_fits reader seat sent ran count i = ((λ p. absurd (true≢false (sym p))), λ p. absurd (true≢false (sym p)))

pub at_end : (l : List Hand) (a b : Hand) (j : ℕ) → get_elem? l j ≢ some b → get_elem? (l ++ a ∷ []) j ≡ some b → j ≡ length l
at_end [] a b zero n e = refl
at_end [] a b (suc j) n e = absurd (some-ne-none b (sym e))
at_end (x ∷ xs) a b zero n e = absurd (n e)
at_end (x ∷ xs) a b (suc j) n e = ap suc (at_end xs a b j n e)
