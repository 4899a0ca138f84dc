-- The greatest state of an action's triggers, one trigger after another.
use Rattle.std.proofs.Common.{◌≡◌, ℕ, ◌+◌, ◌<◌, ◌≤◌, zero, suc, Bool, true, false, cond, List, [], ◌∷◌, drop, length, get_or, refl, sym, ap, ◌∙◌, add-one, arith}
use Rattle.std.specs.Prelude.{max, nat_eq, slice_index, map, filter}
use Rattle.std.proofs.Math.Seq.{drop-cons}
use Rattle.std.proofs.lemmas.Bool.{eq-eqb, eqb-true}
use Rattle.proxy_config.specs.declared.overload.Trigger.{Trigger}
use Rattle.overload_core.specs.States.{state_of}
use Rattle.overload_core.specs.ActionStates.{greatest_of, action_state}

decide : {G : Type 0} (b : Bool) → (b ≡ true → G) → (b ≡ false → G) → G
decide true f g = f refl
decide false f g = g refl

regroup : (x y z : ℕ) → max (max x y) z ≡ max x (max y z)
regroup x y z = omega arith

drop-nil : (i : ℕ) → drop {A = Trigger} i [] ≡ []
drop-nil zero = refl
drop-nil (suc i) = refl

drop-all : (ts : List Trigger) (i : ℕ) → length ts ≤ i → drop i ts ≡ []
drop-all [] i h = drop-nil i
drop-all (t ∷ ts) zero h = absurd (omega (arith, h))
drop-all (t ∷ ts) (suc i) h = drop-all ts i (omega (arith, h))

unequal : (m n : ℕ) → (m ≡ n → ⊥) → nat_eq m n ≡ false
unequal m n h = decide (nat_eq m n) (λ t. absurd (h (eqb-true m n t))) (λ f. f)

module _ (ps : List ℕ) (a : ℕ) where
  abbrev state : Trigger → ℕ
  state t = state_of t.form (slice_index ps t.resource)

  abbrev chosen : Trigger → List Trigger → Bool → List Trigger
  chosen t rest b = cond b (t ∷ filter (λ (u : Trigger). nat_eq u.action a) rest) (filter (λ (u : Trigger). nat_eq u.action a) rest)

  own : (t : Trigger) (rest : List Trigger) → t.action ≡ a → action_state (t ∷ rest) ps a ≡ max (state t) (action_state rest ps a)
  unfolding greatest_of
  own t rest e = ap (λ b. greatest_of (map state (chosen t rest b))) (eq-eqb t.action a e)

  foreign : (t : Trigger) (rest : List Trigger) → (t.action ≡ a → ⊥) → action_state (t ∷ rest) ps a ≡ action_state rest ps a
  foreign t rest n = ap (λ b. greatest_of (map state (chosen t rest b))) (unequal t.action a n)

  module _ (ts : List Trigger) (i most : ℕ) (d : Trigger) (h : i < length ts) (v : max most (action_state (drop i ts) ps a) ≡ action_state ts ps a) where
    next : drop i ts ≡ get_or ts i d ∷ drop (i + 1) ts
    next = rw add-one (drop-cons ts i d h)

    pub after_own : (new : ℕ) → (get_or ts i d).action ≡ a → new ≡ max most (state (get_or ts i d)) → max new (action_state (drop (i + 1) ts) ps a) ≡ action_state ts ps a
    after_own new e n =
        let o = ap (λ l. action_state l ps a) next ∙ own (get_or ts i d) (drop (i + 1) ts) e in
        ap (λ m. max m (action_state (drop (i + 1) ts) ps a)) n ∙ regroup most (state (get_or ts i d)) (action_state (drop (i + 1) ts) ps a) ∙ ap (max most) (sym o) ∙ v

    pub after_foreign : (new : ℕ) → ((get_or ts i d).action ≡ a → ⊥) → new ≡ most → max new (action_state (drop (i + 1) ts) ps a) ≡ action_state ts ps a
    after_foreign new e n =
        let o = ap (λ l. action_state l ps a) next ∙ foreign (get_or ts i d) (drop (i + 1) ts) e in
        ap (λ m. max m (action_state (drop (i + 1) ts) ps a)) n ∙ ap (max most) (sym o) ∙ v

  -- no trigger is left
  pub at_end : (ts : List Trigger) (i most : ℕ) → length ts ≤ i → max most (action_state (drop i ts) ps a) ≡ action_state ts ps a → most ≡ action_state ts ps a
  unfolding greatest_of
  at_end ts i most h v = let none = ap (λ l. action_state l ps a) (drop-all ts i h) in let m : max most 0 ≡ most = omega arith in sym m ∙ ap (max most) (sym none) ∙ v
