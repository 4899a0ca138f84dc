-- What becomes of the cells where one is changed.
use Rattle.std.proofs.Common.{◌≡◌, true, false, cond, List, [], ◌∷◌, length, refl, sym, ap, ◌∙◌, subst, arith}
use Rattle.std.specs.Prelude.{Option, Some, MatchOption}
use denote.RawPtr.{Ptr}
use Rattle.link_lists.specs.Places.{same_ptr}
use Rattle.link_lists.specs.Cells.{Cell, find, write, IsIn}
use Rattle.link_lists.specs.Links.{change}
use Rattle.link_lists.proofs.Memory.{either, had, IsIn-of, none_some, some_eq, find-nil, find-here, find-there, write-here, write-there, same_ptr_eq}

module _ {A V : Type 0} where
  change-here : (p : Ptr) (f : V → V) (c : Cell A V) (cs : List (Cell A V)) → same_ptr p c.0 ≡ true → change p f (c ∷ cs) ≡ (c.0, (c.1.0, f c.1.1)) ∷ cs
  unfolding change
  change-here p f c cs e = ap (λ b. cond b ((c.0, (c.1.0, f c.1.1)) ∷ cs) (c ∷ change p f cs)) e

  change-there : (p : Ptr) (f : V → V) (c : Cell A V) (cs : List (Cell A V)) → same_ptr p c.0 ≡ false → change p f (c ∷ cs) ≡ c ∷ change p f cs
  unfolding change
  change-there p f c cs e = ap (λ b. cond b ((c.0, (c.1.0, f c.1.1)) ∷ cs) (c ∷ change p f cs)) e

  change-nil : (p : Ptr) (f : V → V) → change {A = A} {V = V} p f [] ≡ []
  unfolding change
  change-nil p f = refl

  write_is_change : (p : Ptr) (f : V → V) (cs : List (Cell A V)) (c : A × V) → find p cs ≡ Some c → write p (f c.1) cs ≡ change p f cs
  write_is_change p f [] c e = absurd (none_some c (sym (find-nil p) ∙ e))
  write_is_change p f (k ∷ cs) c e = either (same_ptr p k.0)
      (λ t. let same : k.1 ≡ c = some_eq k.1 c (sym (find-here p k cs t) ∙ e) in write-here p (f c.1) k cs t ∙ (λ i. (k.0, (k.1.0, f (sym same i).1)) ∷ cs) ∙ sym (change-here p f k cs t))
      (λ u. write-there p (f c.1) k cs u ∙ ap (λ ks. k ∷ ks) (write_is_change p f cs c (sym (find-there p k cs u) ∙ e)) ∙ sym (change-there p f k cs u))

  -- a value that is read, and written back changed
  pub changed : (p : Ptr) (f : V → V) (cs : List (Cell A V)) (x : V) → IsIn p cs (λ _ v. x ≡ v) → write p (f x) cs ≡ change p f cs
  changed p f cs x h = let k = had p cs (λ _ v. x ≡ v) h in ap (λ v. write p (f v) cs) k.2 ∙ write_is_change p f cs k.0 k.1

  find-change : (p : Ptr) (f : V → V) (cs : List (Cell A V)) (c : A × V) → find p cs ≡ Some c → find p (change p f cs) ≡ Some (c.0, f c.1)
  find-change p f [] c e = absurd (none_some c (sym (find-nil p) ∙ e))
  find-change p f (k ∷ cs) c e = either (same_ptr p k.0)
      (λ t. let same : k.1 ≡ c = some_eq k.1 c (sym (find-here p k cs t) ∙ e) in ap (find p) (change-here p f k cs t) ∙ find-here p (k.0, (k.1.0, f k.1.1)) cs t ∙ (λ i. Some ((same i).0, f (same i).1)))
      (λ u. ap (find p) (change-there p f k cs u) ∙ find-there p k (change p f cs) u ∙ find-change p f cs c (sym (find-there p k cs u) ∙ e))

  find-change-other : (q p : Ptr) (f : V → V) (cs : List (Cell A V)) → same_ptr q p ≡ false → find q (change p f cs) ≡ find q cs
  find-change-other q p f [] n = ap (find q) (change-nil p f)
  find-change-other q p f (k ∷ cs) n = either (same_ptr p k.0)
      (λ t. let away : same_ptr q k.0 ≡ false = ap (same_ptr q) (sym (same_ptr_eq p k.0 t)) ∙ n in
      ap (find q) (change-here p f k cs t) ∙ find-there q (k.0, (k.1.0, f k.1.1)) cs away ∙ sym (find-there q k cs away))
      (λ u. ap (find q) (change-there p f k cs u) ∙ either (same_ptr q k.0)
      (λ t. find-here q k (change p f cs) t ∙ sym (find-here q k cs t))
      (λ v. find-there q k (change p f cs) v ∙ find-change-other q p f cs n ∙ sym (find-there q k cs v)))

  -- at the changed pointer; at another; and where it does not matter
  pub IsIn-changed : (p : Ptr) (f : V → V) (cs : List (Cell A V)) (P : A → V → Type 0) → IsIn p cs (λ a v. P a (f v)) → IsIn p (change p f cs) P
  IsIn-changed p f cs P h = let k = had p cs (λ a v. P a (f v)) h in IsIn-of p (change p f cs) (k.0.0, f k.0.1) P (find-change p f cs k.0 k.1) k.2

  pub IsIn-other : (q p : Ptr) (f : V → V) (cs : List (Cell A V)) (P : A → V → Type 0) → same_ptr q p ≡ false → IsIn q cs P → IsIn q (change p f cs) P
  IsIn-other q p f cs P n h = subst (λ (o : Option (A × V)). MatchOption o ⊥ (λ c. P c.0 c.1)) (sym (find-change-other q p f cs n)) h

  pub IsIn-kept : (q p : Ptr) (f : V → V) (cs : List (Cell A V)) (P : A → V → Type 0) → ((a : A) (v : V) → P a v → P a (f v)) → IsIn q cs P → IsIn q (change p f cs) P
  IsIn-kept q p f cs P g h = either (same_ptr q p)
      (λ t. subst (λ r. IsIn r (change p f cs) P) (sym (same_ptr_eq q p t)) (IsIn-changed p f cs P
      (let k = had q cs P h in IsIn-of p cs k.0 (λ a v. P a (f v)) (subst (λ r. find r cs ≡ Some k.0) (same_ptr_eq q p t) k.1) (g k.0.0 k.0.1 k.2))))
      (λ n. IsIn-other q p f cs P n h)

  pub IsIn-weaker : (p : Ptr) (cs : List (Cell A V)) (P Q : A → V → Type 0) → ((a : A) (v : V) → P a v → Q a v) → IsIn p cs P → IsIn p cs Q
  IsIn-weaker p cs P Q g h = let k = had p cs P h in IsIn-of p cs k.0 Q k.1 (g k.0.0 k.0.1 k.2)

  pub IsIn-both : (p : Ptr) (cs : List (Cell A V)) (P Q : A → V → Type 0) → IsIn p cs P → IsIn p cs Q → IsIn p cs (λ a v. P a v × Q a v)
  IsIn-both p cs P Q h k = let x = had p cs P h in let y = had p cs Q k in IsIn-of p cs x.0 (λ a v. P a v × Q a v) x.1
      (x.2, subst (λ (c : A × V). Q c.0 c.1) (some_eq y.0 x.0 (sym y.1 ∙ x.1)) y.2)

  pub length-change : (p : Ptr) (f : V → V) (cs : List (Cell A V)) → length (change p f cs) ≡ length cs
  length-change p f [] = ap length (change-nil p f)
  length-change p f (k ∷ cs) = either (same_ptr p k.0)
      (λ t. ap length (change-here p f k cs t))
      (λ u. let on = length-change p f cs in ap length (change-there p f k cs u) ∙ omega arith)
