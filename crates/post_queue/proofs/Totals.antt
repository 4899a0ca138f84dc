-- Sums over the views of all passes, and after one of them has changed.
use Rattle.std.proofs.Common.{◌≡◌, ℕ, zero, suc, ◌+◌, ◌≤◌, Bool, true, false, cond, List, [], ◌∷◌, ◌++◌, length, set, sym, refl, ap, subst, arith}
use mathlib.Core.Option.{some, some-injective, some-ne-none}
use lib.ListN.{get_elem?}
use Rattle.flow_notes.specs.declared.events.Job.{Job}
use Rattle.post_queue.specs.declared.posts.Post.{Post}
use Rattle.post_queue.specs.declared.hand.Known.{Known}
use Rattle.post_queue.specs.declared.hand.Hand.{Hand}
use Rattle.post_queue.specs.Rule.{total, made_by_ended, made_in, posters_in}
use Rattle.post_queue.specs.Steps.{posted}

pub length_snoc : {A : Type 0} (xs : List A) (x : A) → length (xs ++ x ∷ []) ≡ length xs + 1
length_snoc [] x = refl
length_snoc (y ∷ ys) x = let r = length_snoc ys x in omega arith

-- the total after a change of one
pub total_set : {A : Type 0} (f : A → ℕ) (l : List A) (i : ℕ) (v w : A) → get_elem? l i ≡ some v → total f (set l i w) + f v ≡ total f l + f w
total_set f [] i v w e = absurd (some-ne-none v (sym e))
total_set f (x ∷ xs) zero v w e = let is : f x ≡ f v = ap f (some-injective x v e) in omega arith
total_set f (x ∷ xs) (suc i) v w e = let r = total_set f xs i v w e in omega arith

pub total_snoc : {A : Type 0} (f : A → ℕ) (l : List A) (v : A) → total f (l ++ v ∷ []) ≡ total f l + f v
total_snoc f [] v = omega arith
total_snoc f (x ∷ xs) v = let r = total_snoc f xs v in omega arith

part_le : {A : Type 0} (f : A → ℕ) (l : List A) (i : ℕ) (v : A) → get_elem? l i ≡ some v → f v ≤ total f l
part_le f [] i v e = absurd (some-ne-none v (sym e))
part_le f (x ∷ xs) zero v e = let is : f x ≡ f v = ap f (some-injective x v e) in omega arith
part_le f (x ∷ xs) (suc i) v e = let r = part_le f xs i v e in omega arith

-- a view that tells of no poster tells of no post
none_made : (v : Hand) → posters_in v ≡ 0 → made_in v ≡ 0
none_made v h = by_cases v.posts v.made v.known h
  where
    by_cases : (b : Bool) (made : List Job) (known : List Known) → cond b 1 (length known) ≡ 0 → cond b (length made) (made_by_ended known) ≡ 0
    by_cases true made known h = let one : suc zero ≡ zero = h in absurd (omega arith)
    by_cases false made [] h = refl
    by_cases false made (k ∷ ks) h = let one : suc (length ks) ≡ 0 = h in absurd (omega arith)

none_made_by_all : (l : List Hand) → total posters_in l ≡ 0 → total made_in l ≡ 0
none_made_by_all [] h = refl
none_made_by_all (x ∷ xs) h =
    let sum : posters_in x + total posters_in xs ≡ 0 = h in let first : posters_in x ≡ 0 = omega arith in let others : total posters_in xs ≡ 0 = omega arith in
    let p = none_made x first in let q = none_made_by_all xs others in omega arith

-- where one view tells of every poster, it tells of every post
pub settles : (l : List Hand) (i : ℕ) (v : Hand) → get_elem? l i ≡ some v → total posters_in l ≡ posters_in v → total made_in l ≡ made_in v
settles [] i v e h = absurd (some-ne-none v (sym e))
settles (x ∷ xs) zero v e h =
    let is = some-injective x v e in let sum : posters_in x + total posters_in xs ≡ posters_in v = h in let same : posters_in x ≡ posters_in v = ap posters_in is in
    let q = none_made_by_all xs (omega arith) in let m : made_in x ≡ made_in v = ap made_in is in omega arith
settles (x ∷ xs) (suc i) v e h =
    let le : posters_in v ≤ total posters_in xs = part_le posters_in xs i v e in let sum : posters_in x + total posters_in xs ≡ posters_in v = h in
    let p = none_made x (omega arith) in let q = settles xs i v e (omega arith) in omega arith

pub made_more : (v : Hand) (x : Post) → v.posts ≡ true → made_in (posted v x) ≡ made_in v + 1
made_more v x may =
    subst (λ b. cond b (length (v.made ++ x.job ∷ [])) (made_by_ended v.known) ≡ cond b (length v.made) (made_by_ended v.known) + 1) (sym may) (length_snoc v.made x.job)

pub made_by_poster : (v : Hand) → v.posts ≡ true → (made_in v ≡ length v.made) × (posters_in v ≡ 1)
made_by_poster v may = (ap (λ b. cond b (length v.made) (made_by_ended v.known)) may, ap (λ b. cond b 1 (length v.known)) may)

pub made_by_runner : (v : Hand) → v.posts ≡ false → (made_in v ≡ made_by_ended v.known) × (posters_in v ≡ length v.known)
made_by_runner v quiet = (ap (λ b. cond b (length v.made) (made_by_ended v.known)) quiet, ap (λ b. cond b 1 (length v.known)) quiet)
