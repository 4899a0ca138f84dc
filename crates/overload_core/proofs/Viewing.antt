-- What the classes are after a change of the lists.
use Rattle.std.proofs.Common.{◌≡◌, ℕ, zero, suc, ◌+◌, ◌-◌, ◌<◌, Bool, true, false, cond, List, [], ◌∷◌, ◌++◌, map, refl, sym, ap, ◌∙◌, subst, arith}
use Rattle.std.specs.Prelude.{◌||◌, not, nat_eq, filter, Option, None, Some}
use Rattle.std.specs.Map.{lookup}
use Rattle.std.specs.List.{AllByRecursion, IsDistinct, list_any}
use Rattle.std.proofs.lemmas.List.{map-append}
use denote.RawPtr.{Ptr}
use Rattle.link_lists.specs.Places.{same_ptr}
use Rattle.link_lists.specs.Lists.{has, pull, pull_from, push_at}
use Rattle.link_lists.proofs.Memory.{either, same_ptr_eq}
use Rattle.link_lists.proofs.Splits.{all_left, all_right, all_unmap}
use Rattle.overload_core.specs.declared.classes.Standing.{Standing}
use Rattle.overload_core.specs.Accounts.{appended, entered, without, class_from}
use Rattle.overload_core.specs.Tied.{Placed, placed, all_placed, classes_of}
use Rattle.overload_core.proofs.Placing.{name_of, named-list, none-named}

abbrev Nodes : Type 0
Nodes = List (Ptr × ℕ)

abbrev stays : ℕ → ℕ → Bool
stays e x = not (nat_eq x e)

abbrev numbers : Nodes → List ℕ
numbers = map (λ n. n.1)

list-kept : (k e : ℕ) (l : Nodes) → AllByRecursion (λ (a : Placed). nat_eq a.0 e ≡ false) (map (placed k) l) → filter (stays e) (numbers l) ≡ numbers l
list-kept k e [] h = refl
list-kept k e (n ∷ l) h = ap (λ b. cond (not b) (n.1 ∷ filter (stays e) (numbers l)) (filter (stays e) (numbers l))) h.0 ∙ ap (λ r. n.1 ∷ r) (list-kept k e l h.1)

-- nothing leaves where the exchange isn't there
pub all-kept : (k e : ℕ) (ls : List Nodes) → AllByRecursion (λ (a : Placed). nat_eq a.0 e ≡ false) (all_placed k ls) → without e (classes_of ls) ≡ classes_of ls
unfolding all_placed
all-kept k e [] h = refl
all-kept k e (l ∷ ls) h = let P : Placed → Type 0 = λ a. nat_eq a.0 e ≡ false in
    λ i. list-kept k e l (all_left P (map (placed k) l) (all_placed (k + 1) ls) h) i ∷ all-kept (k + 1) e ls (all_right P (map (placed k) l) (all_placed (k + 1) ls) h) i

module _ (p : Ptr) (e : ℕ) where
  -- the node is that of the exchange, and no other's
  abbrev pub Names : Placed → Type 0
  Names a = same_ptr p a.1.node ≡ nat_eq a.0 e

  abbrev IsOff : Placed → Type 0
  IsOff a = same_ptr p a.1.node ≡ false

  others : (xs : List Placed) → AllByRecursion Names xs → AllByRecursion IsOff xs → AllByRecursion (λ (a : Placed). nat_eq a.0 e ≡ false) xs
  others [] h g = tt
  others (x ∷ xs) h g = (sym h.0 ∙ g.0, others xs h.1 g.1)

  off-first : (x : Placed) (xs : List Placed) → same_ptr p x.1.node ≡ true → AllByRecursion (λ q. same_ptr x.1.node q ≡ false) (map name_of xs) → AllByRecursion IsOff xs
  off-first x xs t d = subst (λ r. AllByRecursion (λ (a : Placed). same_ptr r a.1.node ≡ false) xs) (sym (same_ptr_eq p x.1.node t)) (all_unmap name_of (λ q. same_ptr x.1.node q ≡ false) xs d)

  -- the list loses the exchange with the node
  pull-list : (k : ℕ) (l : Nodes) (rest : List Placed) → AllByRecursion Names (map (placed k) l ++ rest) → IsDistinct same_ptr (map name_of (map (placed k) l ++ rest)) → numbers (pull p l) ≡ filter (stays e) (numbers l)
  unfolding pull IsDistinct
  pull-list k [] rest h d = refl
  pull-list k (n ∷ l) rest h d = let mine = map (placed k) l in either (same_ptr p n.0)
      (λ t. let off = off-first (placed k n) (mine ++ rest) t d.0 in
      ap (λ c. numbers (cond c l (n ∷ pull p l))) t
      ∙ sym (list-kept k e l (others mine (all_left Names mine rest h.1) (all_left IsOff mine rest off)))
      ∙ sym (ap (λ b. cond (not b) (n.1 ∷ filter (stays e) (numbers l)) (filter (stays e) (numbers l))) (sym h.0 ∙ t)))
      (λ f. ap (λ c. numbers (cond c l (n ∷ pull p l))) f ∙ ap (λ r. n.1 ∷ r) (pull-list k l rest h.1 d.1)
      ∙ sym (ap (λ b. cond (not b) (n.1 ∷ filter (stays e) (numbers l)) (filter (stays e) (numbers l))) (sym h.0 ∙ f)))

  off-rest : (k : ℕ) (l : Nodes) (rest : List Placed) → has p l ≡ true → IsDistinct same_ptr (map name_of (map (placed k) l ++ rest)) → AllByRecursion IsOff rest
  unfolding has IsDistinct
  off-rest k [] rest h d = cc
  off-rest k (n ∷ l) rest h d = either (same_ptr p n.0)
      (λ t. all_right IsOff (map (placed k) l) rest (off-first (placed k n) (map (placed k) l ++ rest) t d.0))
      (λ f. off-rest k l rest (sym (ap (λ c. cond c true (has p l)) f) ∙ h) d.1)

  distinct_rest : (xs ys : List Placed) → IsDistinct same_ptr (map name_of (xs ++ ys)) → IsDistinct same_ptr (map name_of ys)
  unfolding IsDistinct
  distinct_rest [] ys d = d
  distinct_rest (x ∷ xs) ys d = distinct_rest xs ys d.1

  pub classes-pull : (k : ℕ) (ls : List Nodes) → AllByRecursion Names (all_placed k ls) → IsDistinct same_ptr (map name_of (all_placed k ls)) → classes_of (pull_from p ls) ≡ without e (classes_of ls)
  unfolding all_placed pull_from
  classes-pull k [] h d = refl
  classes-pull k (l ∷ ls) h d = let mine = map (placed k) l in let rest = all_placed (k + 1) ls in either (has p l)
      (λ t. ap (λ c. classes_of (cond c (pull p l ∷ ls) (l ∷ pull_from p ls))) t
      ∙ (λ i. pull-list k l rest h d i ∷ sym (all-kept (k + 1) e ls (others rest (all_right Names mine rest h) (off-rest k l rest t d))) i))
      (λ f. ap (λ c. classes_of (cond c (pull p l ∷ ls) (l ∷ pull_from p ls))) f
      ∙ (λ i. sym (list-kept k e l (others mine (all_left Names mine rest h) (none-named p mine (named-list k p l ∙ f)))) i ∷ classes-pull (k + 1) ls (all_right Names mine rest h) (distinct_rest mine rest d) i))

pub classes-push : (j : ℕ) (n : Ptr × ℕ) (ls : List Nodes) → classes_of (push_at j n ls) ≡ appended j n.1 (classes_of ls)
unfolding push_at appended
classes-push j n [] = refl
classes-push zero n (l ∷ ls) = ap (λ r. r ∷ classes_of ls) (map-append (λ (m : Ptr × ℕ). m.1) l (n ∷ []))
classes-push (suc j) n (l ∷ ls) = ap (λ r. numbers l ∷ r) (classes-push j n ls)

pub entered-is : (k e : ℕ) (cs : List (List ℕ)) → 0 < k → entered k e cs ≡ appended (k - 1) e cs
entered-is zero e cs h = absurd (omega (arith, h))
entered-is (suc k) e cs h = let n : k ≡ suc k - 1 = omega arith in ap (λ i. appended i e cs) n

-- the class of what a look-up finds
abbrev pub class_at : Option Standing → ℕ
class_at None = 0
class_at (Some s) = s.class

class-list : (k e : ℕ) (l : Nodes) (rest : List Placed) → class_at (lookup (λ x. nat_eq x e) (map (placed k) l ++ rest)) ≡ cond (list_any (λ x. nat_eq x e) (numbers l)) k (class_at (lookup (λ x. nat_eq x e) rest))
class-list k e [] rest = refl
class-list k e (n ∷ l) rest = let on = class-list k e l rest in either (nat_eq n.1 e)
    (λ t. ap (λ b. class_at (cond b (Some (placed k n).1) (lookup (λ x. nat_eq x e) (map (placed k) l ++ rest)))) t ∙ sym (ap (λ b. cond (b || list_any (λ x. nat_eq x e) (numbers l)) k (class_at (lookup (λ x. nat_eq x e) rest))) t))
    (λ f. ap (λ b. class_at (cond b (Some (placed k n).1) (lookup (λ x. nat_eq x e) (map (placed k) l ++ rest)))) f ∙ on ∙ sym (ap (λ b. cond (b || list_any (λ x. nat_eq x e) (numbers l)) k (class_at (lookup (λ x. nat_eq x e) rest))) f))

pub class-found : (k e : ℕ) (ls : List Nodes) → class_from k e (classes_of ls) ≡ class_at (lookup (λ x. nat_eq x e) (all_placed k ls))
unfolding class_from all_placed
class-found k e [] = refl
class-found k e (l ∷ ls) = ap (λ r. cond (list_any (λ x. nat_eq x e) (numbers l)) k r) (class-found (k + 1) e ls) ∙ sym (class-list k e l (all_placed (k + 1) ls))
