-- Which front fires first.
use Rattle.std.proofs.Common.{◌≡◌, ℕ, zero, suc, cond, ◌+◌, ◌<◌, ◌≤◌, inl, inr, List, [], ◌∷◌, length, slice_index_or, refl, sym, ap, ◌∙◌, arith}
use Rattle.std.specs.Prelude.{Option, None, Some, MatchOption, nat_le}
use Rattle.std.proofs.lemmas.Bool.{le-leb, lt-leb}
use denote.RawPtr.{Ptr}
use Rattle.scaled_timer.specs.declared.timers.Entry.{Entry}
use Rattle.scaled_timer.specs.declared.timers.TimerKind.{TimerKind}
use Rattle.scaled_timer.specs.declared.fronts.Front.{Front}
use Rattle.scaled_timer.specs.Due.{delay_of, delay_at}
use Rattle.scaled_timer.specs.Fronts.{due_first, NoLater}

pub delay-at : (kinds : List TimerKind) (ppm k : ℕ) (t : TimerKind) → k < length kinds → t ≡ slice_index_or kinds k t → delay_at kinds ppm k ≡ delay_of t ppm
unfolding delay_at
delay-at [] ppm k t h e = absurd (omega arith)
delay-at (u ∷ ts) ppm zero t h e = ap (λ v. delay_of v ppm) (sym e)
delay-at (u ∷ ts) ppm (suc k) t h e = delay-at ts ppm k t (omega arith) e

pub NoLater-trans : (a b c : Option Front) → NoLater a b → NoLater b c → NoLater a c
NoLater-trans a b None h k = tt
NoLater-trans None None (Some c) h k = k
NoLater-trans (Some a) None (Some c) h k = absurd k
NoLater-trans None (Some b) (Some c) h k = absurd h
NoLater-trans (Some a) (Some b) (Some c) h k = elim h [
  | inl x ↦ elim k [ inl y ↦ inl (omega arith) | inr y ↦ inl (let e = y.0 in omega (arith, e)) ]
  | inr x ↦ elim k [ inl y ↦ inl (let e = x.0 in omega (arith, e)) | inr y ↦ inr (x.0 ∙ y.0, let e = x.1 in let f = y.1 in omega (arith, e, f)) ]
]

pub some_none : {X : Type 0} (x : X) → Some x ≡ None → ⊥
some_none x e = cc

-- the first of a list, as it was read
pub read : (o : Option (Ptr × Entry)) (A : Type 0) → (A → ⊥) → (x : Entry) → MatchOption o A (λ n. Some x ≡ Some n.1) → (n : Ptr × Entry) × (o ≡ Some n) × (x ≡ n.1)
read None A f x h = absurd (f h)
read (Some n) A f x h = (n, refl, ap (λ (o : Option Entry). elim o as (λ _. Entry) [ None ↦ x | Some y ↦ y ]) h)

pub due-then : (now k d delay : ℕ) (o : Option (Ptr × Entry)) (n : Ptr × Entry) (x : Entry) → o ≡ Some n → x ≡ n.1 → d ≡ delay → x.at + delay ≤ now → Some (record { kind = k; due = x.at + delay; age = x.age }) ≡ due_first now k d o
due-then now k d delay o n x e f g h =
    sym (ap (due_first now k d) e
    ∙ (λ i. cond (nat_le ((sym f i).at + g i) now) (Some (record { kind = k; due = (sym f i).at + g i; age = (sym f i).age })) None)
    ∙ ap (λ b. cond b (Some (record { kind = k; due = x.at + delay; age = x.age })) None) (le-leb (x.at + delay) now h))

pub due-else : (now k d delay : ℕ) (o : Option (Ptr × Entry)) (n : Ptr × Entry) (x : Entry) → o ≡ Some n → x ≡ n.1 → d ≡ delay → now < x.at + delay → None ≡ due_first now k d o
due-else now k d delay o n x e f g h =
    sym (ap (due_first now k d) e
    ∙ (λ i. cond (nat_le ((sym f i).at + g i) now) (Some (record { kind = k; due = (sym f i).at + g i; age = (sym f i).age })) None)
    ∙ ap (λ b. cond b (Some (record { kind = k; due = x.at + delay; age = x.age })) None) (lt-leb (x.at + delay) now h))
