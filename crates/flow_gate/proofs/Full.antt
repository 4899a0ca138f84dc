-- A line in which a flow stands on each stand.
use Rattle.flow_gate.specs.Line.{is_taken, live}
use Rattle.flow_rules.specs.declared.ids.FlowId.{FlowId}
use Rattle.flow_gate.specs.declared.stands.Stand.{Stand}
use Rattle.std.proofs.Common.{arith, inl, inr, refl, subst, sym}
use Rattle.std.proofs.lemmas.Bool.{cases_Bool, false≢true}
use Rattle.std.specs.List.{AllByRecursion, cons_option}
use Rattle.std.specs.Prelude.{Bool, List, None, Option, Some, [], cond, filter, is_some, length, option_map, suc, take, true, zero, ℕ, ◌+◌, ◌∷◌, ◌≡◌, ◌≤◌}

-- a flow stands on each
abbrev pub AreTaken : List Stand → Type 0
AreTaken = AllByRecursion (λ s. is_taken s ≡ true)

-- one stand more
one_more : (p n : ℕ) (o : Option FlowId) (es : List (ℕ × FlowId)) → length es ≤ n → length (cons_option (option_map (λ f. (p, f)) o) es) ≤ n + 1
one_more p n None es few = omega (arith, few)
one_more p n (Some f) es few = omega (arith, few)

pub few_live : (ss : List Stand) → length (live ss) ≤ length ss
few_live [] = omega arith
few_live (s ∷ ss) = let more = one_more s.place (length ss) s.flow (live ss) (few_live ss) in omega (arith, more)

pub few_taken : (i : ℕ) (ss : List Stand) → length (live (take i ss)) ≤ i
few_taken zero [] = omega arith
few_taken zero (s ∷ ss) = omega arith
few_taken (suc i) [] = omega arith
few_taken (suc i) (s ∷ ss) = let more = one_more s.place i s.flow (live (take i ss)) (few_taken i ss) in omega (arith, more)

-- as many flows as stands
pub all_taken : (ss : List Stand) → length (live ss) ≡ length ss → AreTaken ss
all_taken [] full = tt
all_taken (s ∷ ss) full = let both = by_flow s.flow full in (both.0, all_taken ss both.1)
  where
    by_flow : (o : Option FlowId) → length (cons_option (option_map (λ f. (s.place, f)) o) (live ss)) ≡ suc (length ss) → (is_some o ≡ true) × (length (live ss) ≡ length ss)
    by_flow None all = absurd (let few = few_live ss in omega (arith, all, few))
    by_flow (Some f) all = (refl, omega (arith, all))

pub part_taken : (test : Stand → Bool) (ss : List Stand) → AreTaken ss → AreTaken (filter test ss)
part_taken test [] all = tt
part_taken test (s ∷ ss) all = elim (cases_Bool (test s)) [
  | inl inside ↦ subst (λ b. AreTaken (cond b (s ∷ filter test ss) (filter test ss))) (sym inside) (all.0, part_taken test ss all.1)
  | inr outside ↦ subst (λ b. AreTaken (cond b (s ∷ filter test ss) (filter test ss))) (sym outside) (part_taken test ss all.1)
]

-- so many stands hold so many flows
pub count_taken : (i : ℕ) (ss : List Stand) → AreTaken ss → i ≤ length ss → length (live (take i ss)) ≡ i
count_taken zero [] all short = refl
count_taken zero (s ∷ ss) all short = refl
count_taken (suc i) [] all short = absurd (omega (arith, short))
count_taken (suc i) (s ∷ ss) all short = by_flow s.flow all.0 (count_taken i ss all.1 (omega (arith, short)))
  where
    by_flow : (o : Option FlowId) → is_some o ≡ true → length (live (take i ss)) ≡ i → length (cons_option (option_map (λ f. (s.place, f)) o) (live (take i ss))) ≡ suc i
    by_flow None some same = absurd (false≢true some)
    by_flow (Some f) some same = omega (arith, same)
