-- What a change of an exchange's class does to the classes.
use Rattle.std.proofs.Common.{◌≡◌, ℕ, ◌+◌, ◌<◌, Bool, true, false, cond, List, [], ◌∷◌, refl, sym, ap, ◌∙◌, arith}
use Rattle.std.specs.Prelude.{◌||◌, not, nat_eq, filter, Result, Ok, Err, OnOk}
use Rattle.std.specs.List.{list_any}
use Rattle.std.proofs.lemmas.Bool.{eqb-true, eq-eqb}
use Rattle.link_lists.proofs.Memory.{either}
use Rattle.overload_core.specs.Accounts.{class_from, class_in, without, entered, in_class}

abbrev stays : ℕ → ℕ → Bool
stays e x = not (nat_eq x e)

-- a list that hasn't the exchange loses nothing
list-same : (e : ℕ) (l : List ℕ) → list_any (λ x. nat_eq x e) l ≡ false → filter (stays e) l ≡ l
list-same e [] h = refl
list-same e (x ∷ l) h = either (nat_eq x e)
    (λ t. let c : true ≡ false = sym (ap (λ b. b || list_any (λ y. nat_eq y e) l) t) ∙ h in absurd (cc))
    (λ f. ap (λ b. cond (not b) (x ∷ filter (stays e) l) (filter (stays e) l)) f ∙ ap (λ r. x ∷ r) (list-same e l (sym (ap (λ b. b || list_any (λ y. nat_eq y e) l) f) ∙ h)))

same_from : (k e : ℕ) (cs : List (List ℕ)) → 0 < k → class_from k e cs ≡ 0 → without e cs ≡ cs
unfolding class_from
same_from k e [] low h = refl
same_from k e (l ∷ cs) low h = either (list_any (λ x. nat_eq x e) l)
    (λ t. let z : k ≡ 0 = sym (ap (λ b. cond b k (class_from (k + 1) e cs)) t) ∙ h in absurd (omega (arith, z, low)))
    (λ f. λ i. list-same e l f i ∷ same_from (k + 1) e cs (omega (arith, low)) (sym (ap (λ b. cond b k (class_from (k + 1) e cs)) f) ∙ h) i)

-- nothing leaves where the exchange has no class
pub without-same : (e : ℕ) (cs : List (List ℕ)) → class_in e cs ≡ 0 → without e cs ≡ cs
without-same e cs h = same_from 1 e cs (omega arith) h

-- it keeps its place where its class is the same
pub keeps : (k e : ℕ) (cs : List (List ℕ)) → class_in e cs ≡ k → in_class k e cs ≡ cs
keeps k e cs h = ap (λ b. cond b cs (entered k e (without e cs))) (eq-eqb (class_in e cs) k h)

-- and comes last in another
pub changes : (k e : ℕ) (cs : List (List ℕ)) → (class_in e cs ≡ k → ⊥) → in_class k e cs ≡ entered k e (without e cs)
changes k e cs h = either (nat_eq (class_in e cs) k)
    (λ t. absurd (h (eqb-true (class_in e cs) k t)))
    (λ f. ap (λ b. cond b cs (entered k e (without e cs))) f)

-- a clause about a call that went well
pub on_ok : {T E A B : Type 0} (r : Result T E) → OnOk r A → (A → B) → OnOk r B
on_ok (Ok x) a f = f a
on_ok (Err e) a f = a
