-- What the walks of a heap's functions share. Assumes `Logic`.
--     had                    what is found at a pointer
--     cells_cut, cells_mend  one value is taken out of the heap's, and put back as another
--     cells_fresh            a value of some bytes beside the heap's lies where none of them does
use Rattle.std.proofs.Common.{◌≡◌, ℕ, ◌<◌, Bool, true, false, ◌&&◌, ◌==◌, cond, List, [], ◌∷◌, ◌++◌, refl, sym, ap, ◌∙◌, subst, arith, T, eqb→eq}
use Rattle.std.specs.Prelude.{Option, None, Some, MatchOption}
use lib.Dec.{eqb_refl}
use seplogic.Ra.Ura.{Ura}
use base.Fraction.{full_share}
use mir.Syntax.{Ty}
use prog.Memory.{size}
use prog.Model.{Model}
use base.Logic.{ent, sep, via, never, never_e, snd∗}
use denote.Struct.Lending.{lent_at}
use base.Fml.{Lft, Fml, froom}
use types.Logic.{Logic, sem}
use contract.Monad.{fact, fact_i}
use types.Kit.{Item, Goal, Seq, Step, step, fpick, fpack, feq_i, feq_l, ‵, ◌⊛◌, ◌$◌, ◌∵◌, !, qed, by, move, keep, drop, use1, use2, split, fsplit, fjoin, done}
use denote.RattleType.{RattleType}
use denote.Memory.{part_at}
use denote.RawPtr.{Ptr, block_ptr, null_ptr, lies_at}
use base.Logic.{emp}
use denote.Shadow.{makes_shadow}
use Rattle.std_alloc.proofs.BoxSteps.Form.{Bx, X, τ, R}
use Rattle.std_alloc.proofs.BoxSteps.Steps.{el_room}
use mir.Val.{Val, vstruct, vcons, vnil, of_list}
use denote.RattleType.{Valss}
use denote.RawPtr.{RawPtr, ptr_val}
use denote.Steps.{nothing}
use denote.Struct.Struct.{Shape, Struct, within}
use denote.Struct.Owning.{shape}
use Rattle.std_alloc.proofs.RcSteps.{word}
use Rattle.std_alloc.specs.Box.Ownership.{box_owns}
use Rattle.std.specs.declared.alloc.Allocator.{Ghosts}
use Rattle.link_lists.specs.contracts.heap.Heap as H-type
use Rattle.link_lists.specs.Places.{same_ptr}
use Rattle.link_lists.specs.Cells.{Cell, find, write, erase, IsIn, IsFree}
use Rattle.link_lists.specs.Ownership.{cells_own, cells_lent}

true_of : (b : Bool) → T b → b ≡ true
true_of true t = refl
true_of false t = absurd t

pub same_ptr_refl : (p : Ptr) → same_ptr p p ≡ true
same_ptr_refl (block_ptr b o) = λ i. true_of (b == b) (eqb_refl b) i && true_of (o == o) (eqb_refl o) i
same_ptr_refl null_ptr = refl

both : (x y : Bool) → (x && y) ≡ true → T x × T y
both true true e = (tt, tt)
both true false e = cc
both false y e = cc

pub same_ptr_eq : (p q : Ptr) → same_ptr p q ≡ true → p ≡ q
same_ptr_eq (block_ptr b o) (block_ptr c p) e = let t = both (b == c) (o == p) e in λ i. block_ptr (eqb→eq b c t.0 i) (eqb→eq o p t.1 i)
same_ptr_eq (block_ptr b o) null_ptr e = cc
same_ptr_eq null_ptr (block_ptr c p) e = cc
same_ptr_eq null_ptr null_ptr e = refl

module _ {A V : Type 0} where
  pub none_some : (c : A × V) → None ≡ Some c → ⊥
  none_some c e = subst (λ (o : Option (A × V)). elim o as (λ _. Type 0) [ None ↦ Unit {0} | Some k ↦ ⊥ ]) e tt

  pub some_eq : (a b : A × V) → Some a ≡ Some b → a ≡ b
  some_eq a b e = ap (λ (o : Option (A × V)). elim o as (λ _. A × V) [ None ↦ a | Some c ↦ c ]) e

  had_of : (o : Option (A × V)) (P : A → V → Type 0) → MatchOption o ⊥ (λ c. P c.0 c.1) → (c : A × V) × (o ≡ Some c) × P c.0 c.1
  had_of None P h = absurd h
  had_of (Some c) P h = (c, refl, h)

  pub had : (p : Ptr) (cs : List (Cell A V)) (P : A → V → Type 0) → IsIn p cs P → (c : A × V) × (find p cs ≡ Some c) × P c.0 c.1
  had p cs = had_of (find p cs)

  pub IsIn-of : (p : Ptr) (cs : List (Cell A V)) (c : A × V) (P : A → V → Type 0) → find p cs ≡ Some c → P c.0 c.1 → IsIn p cs P
  IsIn-of p cs c P e h = subst (λ (o : Option (A × V)). MatchOption o ⊥ (λ k. P k.0 k.1)) (sym e) h

  -- by cases over the head
  pub find-here : (p : Ptr) (c : Cell A V) (cs : List (Cell A V)) → same_ptr p c.0 ≡ true → find p (c ∷ cs) ≡ Some c.1
  unfolding find
  find-here p c cs e = ap (λ b. cond b (Some c.1) (find p cs)) e

  pub find-there : (p : Ptr) (c : Cell A V) (cs : List (Cell A V)) → same_ptr p c.0 ≡ false → find p (c ∷ cs) ≡ find p cs
  unfolding find
  find-there p c cs e = ap (λ b. cond b (Some c.1) (find p cs)) e

  pub find-nil : (p : Ptr) → find {A = A} {V = V} p [] ≡ None
  unfolding find
  find-nil p = refl

  pub erase-here : (p : Ptr) (c : Cell A V) (cs : List (Cell A V)) → same_ptr p c.0 ≡ true → erase p (c ∷ cs) ≡ cs
  unfolding erase
  erase-here p c cs e = ap (λ b. cond b cs (c ∷ erase p cs)) e

  pub erase-there : (p : Ptr) (c : Cell A V) (cs : List (Cell A V)) → same_ptr p c.0 ≡ false → erase p (c ∷ cs) ≡ c ∷ erase p cs
  unfolding erase
  erase-there p c cs e = ap (λ b. cond b cs (c ∷ erase p cs)) e

  pub write-here : (p : Ptr) (w : V) (c : Cell A V) (cs : List (Cell A V)) → same_ptr p c.0 ≡ true → write p w (c ∷ cs) ≡ (c.0, (c.1.0, w)) ∷ cs
  unfolding write
  write-here p w c cs e = ap (λ b. cond b ((c.0, (c.1.0, w)) ∷ cs) (c ∷ write p w cs)) e

  pub write-there : (p : Ptr) (w : V) (c : Cell A V) (cs : List (Cell A V)) → same_ptr p c.0 ≡ false → write p w (c ∷ cs) ≡ c ∷ write p w cs
  unfolding write
  write-there p w c cs e = ap (λ b. cond b ((c.0, (c.1.0, w)) ∷ cs) (c ∷ write p w cs)) e

pub either {ℓ} : (b : Bool) {G : Type ℓ} → (b ≡ true → G) → (b ≡ false → G) → G
either true f g = f refl
either false f g = g refl

module _ (R : RattleType) {A : Type 0} (holds : A → Ty → Ptr → Fml) where
  abbrev pub Own : List (Cell A R.Denot) → Fml
  Own = cells_own R holds

  abbrev pub One : Ptr → A → R.Denot → Fml
  One p a x = box_owns (holds a) R p x

module _ {M : Type 1} {𝓤 : Ura M} (𝓛 : Logic 𝓤) (R : RattleType) {A : Type 0} (holds : A → Ty → Ptr → Fml) where
  abbrev Own' : List (Cell A R.Denot) → Fml
  Own' = cells_own R holds

  abbrev One' : Ptr → A → R.Denot → Fml
  One' p a x = box_owns (holds a) R p x

  pub cells_cut : (p : Ptr) (cs : List (Cell A R.Denot)) (c : A × R.Denot) → find p cs ≡ Some c → ent 𝓤 (sem 𝓛 (Own' cs)) (sep 𝓤 (sem 𝓛 (One' p c.0 c.1)) (sem 𝓛 (Own' (erase p cs))))
  cells_cut p [] c e = absurd (none_some c (sym (find-nil p) ∙ e))
  cells_cut p (k ∷ cs) c e = either (same_ptr p k.0)
      (λ t. let same : k.1 ≡ c = some_eq k.1 c (sym (find-here p k cs t) ∙ e) in
      subst (λ (ks : List (Cell A R.Denot)). ent 𝓤 (sem 𝓛 (Own' (k ∷ cs))) (sep 𝓤 (sem 𝓛 (One' p c.0 c.1)) (sem 𝓛 (Own' ks)))) (sym (erase-here p k cs t))
      (subst (λ (n : Cell A R.Denot). ent 𝓤 (sem 𝓛 (Own' (k ∷ cs))) (sep 𝓤 (sem 𝓛 (One' n.0 n.1.0 n.1.1)) (sem 𝓛 (Own' cs)))) (λ i. (sym (same_ptr_eq p k.0 t) i, same i))
      (qed 𝓛 (‵ (Own' (k ∷ cs)) ∷ []) ∵ fsplit ! $ done !)))
      (λ f. subst (λ (ks : List (Cell A R.Denot)). ent 𝓤 (sem 𝓛 (Own' (k ∷ cs))) (sep 𝓤 (sem 𝓛 (One' p c.0 c.1)) (sem 𝓛 (Own' ks)))) (sym (erase-there p k cs f))
      (qed 𝓛 (‵ (Own' (k ∷ cs)) ∷ []) ∵ fsplit ! $ move ! (1 ∷ []) $
      use1 𝓛 (‵ (One' p c.0 c.1) ⊛ ‵ (Own' (erase p cs))) (cells_cut p cs c (sym (find-there p k cs f) ∙ e)) $ split ! $ move ! (2 ∷ 1 ∷ []) $ fjoin ! $ move ! (1 ∷ 0 ∷ []) $ done !))

  pub cells_mend : (p : Ptr) (cs : List (Cell A R.Denot)) (c : A × R.Denot) (w : R.Denot) → find p cs ≡ Some c → ent 𝓤 (sep 𝓤 (sem 𝓛 (One' p c.0 w)) (sem 𝓛 (Own' (erase p cs)))) (sem 𝓛 (Own' (write p w cs)))
  cells_mend p [] c w e = absurd (none_some c (sym (find-nil p) ∙ e))
  cells_mend p (k ∷ cs) c w e = either (same_ptr p k.0)
      (λ t. let same : k.1 ≡ c = some_eq k.1 c (sym (find-here p k cs t) ∙ e) in
      subst (λ (ks : List (Cell A R.Denot)). ent 𝓤 (sep 𝓤 (sem 𝓛 (One' p c.0 w)) (sem 𝓛 (Own' (erase p (k ∷ cs))))) (sem 𝓛 (Own' ks))) (sym (write-here p w k cs t))
      (subst (λ (ks : List (Cell A R.Denot)). ent 𝓤 (sep 𝓤 (sem 𝓛 (One' p c.0 w)) (sem 𝓛 (Own' ks))) (sem 𝓛 (Own' ((k.0, (k.1.0, w)) ∷ cs)))) (sym (erase-here p k cs t))
      (subst (λ (n : Cell A R.Denot). ent 𝓤 (sep 𝓤 (sem 𝓛 (One' n.0 n.1.0 w)) (sem 𝓛 (Own' cs))) (sem 𝓛 (Own' ((k.0, (k.1.0, w)) ∷ cs)))) (λ i. (sym (same_ptr_eq p k.0 t) i, same i))
      (qed 𝓛 (‵ (One' k.0 k.1.0 w) ∷ ‵ (Own' cs) ∷ []) ∵ fjoin ! $ done !))))
      (λ f. subst (λ (ks : List (Cell A R.Denot)). ent 𝓤 (sep 𝓤 (sem 𝓛 (One' p c.0 w)) (sem 𝓛 (Own' (erase p (k ∷ cs))))) (sem 𝓛 (Own' ks))) (sym (write-there p w k cs f))
      (subst (λ (ks : List (Cell A R.Denot)). ent 𝓤 (sep 𝓤 (sem 𝓛 (One' p c.0 w)) (sem 𝓛 (Own' ks))) (sem 𝓛 (Own' (k ∷ write p w cs)))) (sym (erase-there p k cs f))
      (qed 𝓛 (‵ (One' p c.0 w) ∷ ‵ (Own' (k ∷ erase p cs)) ∷ []) ∵ move ! (1 ∷ []) $ fsplit ! $ move ! (2 ∷ 1 ∷ []) $
      use2 𝓛 (‵ (Own' (write p w cs))) (cells_mend p cs c w (sym (find-there p k cs f) ∙ e)) $ move ! (1 ∷ 0 ∷ []) $ fjoin ! $ done !)))

module _ (R P : RattleType) (g : Ghosts P.Denot) where
  -- the heap's own field, which takes no bytes
  abbrev pub Mark : RattleType
  Mark = Struct (shape (H-type.the_type R P g))

abbrev one_field : Shape
one_field = record { name = []; args = []; types = []; fields = RawPtr ∷ [] }

abbrev pub Word : RattleType
Word = Struct one_field

module _ {M : Type 1} {𝓤 : Ura M} {𝓛 : Logic 𝓤} {K : Type 0} {Γ : List (Item 𝓤)} {G : Goal 𝓤 𝓛.H} where
  pub word_had : K → (c : Ptr) (vs : List Val) → (vs ≡ word c ∷ [] → Seq K 𝓛 Γ G) → Seq K 𝓛 (‵ (Word.own_val (c, tt) vs) ∷ Γ) G
  word_had t c vs k = fpick t (λ vss. fsplit t $ feq_l t (λ ev. fsplit t $ feq_l t (λ e. drop t $ k (subst (λ (ws : List Val). vs ≡ vstruct (of_list (ws ++ [])) ∷ []) e ev))))

  pub word_made : K → (c : Ptr) → Step K 𝓛 (‵ (Word.own_val (c, tt) (word c ∷ [])) ∷ Γ) G Γ G
  word_made t c = step (λ s.
      nothing t $ feq_i t (List Val) (ptr_val c ∷ []) (ptr_val c ∷ []) refl $ fjoin t $ feq_i t (List Val) (word c ∷ []) (word c ∷ []) refl $ fjoin t $
      fpack t (Valss (RawPtr ∷ [])) (within one_field (c, tt) (word c ∷ [])) (ptr_val c ∷ [], tt) $ s)

-- what a `&` to a heap holds of the value at p
pub cell_seen : {M : Type 1} {𝓤 : Ura M} (𝓛 : Logic 𝓤) (R : RattleType) {A : Type 0} (κ : Lft) (p : Ptr) (cs : List (Cell A R.Denot)) (c : A × R.Denot) → find p cs ≡ Some c
    → ent 𝓤 (sem 𝓛 (cells_lent R cs κ)) (sem 𝓛 (lent_at R p c.1 κ))
cell_seen 𝓛 R κ p [] c e = absurd (none_some c (sym (find-nil p) ∙ e))
cell_seen {𝓤 = 𝓤} 𝓛 R κ p (k ∷ cs) c e = either (same_ptr p k.0)
    (λ t. let same : k.1 ≡ c = some_eq k.1 c (sym (find-here p k cs t) ∙ e) in
    subst (λ (n : Ptr × R.Denot). ent 𝓤 (sem 𝓛 (cells_lent R (k ∷ cs) κ)) (sem 𝓛 (lent_at R n.0 n.1 κ))) (λ i. (sym (same_ptr_eq p k.0 t) i, (same i).1))
    (qed 𝓛 (‵ (cells_lent R (k ∷ cs) κ) ∷ []) ∵ fsplit ! $ keep ! (0 ∷ []) $ done !))
    (λ f. via 𝓤 (sem 𝓛 (cells_lent R cs κ)) (snd∗ 𝓤 (sem 𝓛 (lent_at R k.0 k.1.1 κ)) (sem 𝓛 (cells_lent R cs κ))) (cell_seen 𝓛 R κ p cs c (sym (find-there p k cs f) ∙ e)))

-- a value of some bytes beside the heap's lies where none of them does
module _ {M : Type 1} {𝓤 : Ura M} (𝓛 : Logic 𝓤) (𝓜 : Model 𝓤 𝓛.H) (E : Bx) (some_size : 0 < size (τ E)) {A : Type 0} (holds : A → Ty → Ptr → Fml) where
  open 𝓛 use {H}

  twice : (x y : X E) (b o : ℕ) → ent 𝓤 (sep 𝓤 (sem 𝓛 (part_at (R E) full_share x b o)) (sem 𝓛 (part_at (R E) full_share y b o))) (never 𝓤)
  twice x y b o = qed 𝓛 (‵ (part_at (R E) full_share x b o) ∷ ‵ (part_at (R E) full_share y b o) ∷ []) ∵
      use1 𝓛 (‵ (froom (τ E) b o)) (el_room E 𝓛 x b o) $ move ! (1 ∷ []) $ use1 𝓛 (‵ (froom (τ E) b o)) (el_room E 𝓛 y b o) $ by ! (𝓜.room-room (τ E) (τ E) b o o o (omega arith, omega arith) (omega arith, omega arith))

  clash : (x y : X E) (b o : ℕ) (p : Ptr) → block_ptr b o ≡ p → ent 𝓤 (sep 𝓤 (sem 𝓛 (part_at (R E) full_share x b o)) (sem 𝓛 (lies_at (R E) full_share p y))) (never 𝓤)
  clash x y b o p e = subst (λ (q : Ptr). ent 𝓤 (sep 𝓤 (sem 𝓛 (part_at (R E) full_share x b o)) (sem 𝓛 (lies_at (R E) full_share q y))) (never 𝓤)) e (twice x y b o)

  pub cells_fresh : (x : X E) (b o : ℕ) (cs : List (Cell A (X E))) → ent 𝓤 (sep 𝓤 (sem 𝓛 (part_at (R E) full_share x b o)) (sem 𝓛 (cells_own (R E) holds cs))) (fact 𝓤 (IsFree (block_ptr b o) cs))
  cells_fresh x b o [] = fact_i 𝓤 (IsFree (block_ptr b o) []) _ (find-nil (block_ptr b o))
  cells_fresh x b o (c ∷ cs) = either (same_ptr (block_ptr b o) c.0)
      (λ t. via 𝓤 (never 𝓤) (qed 𝓛 (‵ (part_at (R E) full_share x b o) ∷ ‵ (cells_own (R E) holds (c ∷ cs)) ∷ []) ∵ move ! (1 ∷ []) $ fsplit ! $ fsplit ! $ keep ! (3 ∷ 0 ∷ []) $ by ! (clash x c.1.1 b o c.0 (same_ptr_eq (block_ptr b o) c.0 t))) (never_e 𝓤 _))
      (λ f. subst (λ (r : Option (A × X E)). ent 𝓤 (sep 𝓤 (sem 𝓛 (part_at (R E) full_share x b o)) (sem 𝓛 (cells_own (R E) holds (c ∷ cs)))) (fact 𝓤 (r ≡ None))) (sym (find-there (block_ptr b o) c cs f))
      (qed 𝓛 (‵ (part_at (R E) full_share x b o) ∷ ‵ (cells_own (R E) holds (c ∷ cs)) ∷ []) ∵ move ! (1 ∷ []) $ fsplit ! $ keep ! (2 ∷ 1 ∷ []) $ by ! (cells_fresh x b o cs)))

abbrev pub mark : Val
mark = vstruct (vcons (vstruct vnil) vnil)

pub mark_made : (R P : RattleType) (g : Ghosts P.Denot) {M : Type 1} {𝓤 : Ura M} (𝓛 : Logic 𝓤) → ent 𝓤 (emp 𝓤) (sem 𝓛 ((Mark R P g).own_val (tt, tt) (mark ∷ [])))
mark_made R P g 𝓛 = makes_shadow 𝓛 ((Mark R P g).own_val (tt, tt) (mark ∷ [])) (λ vss. (tt, ((λ uss. (tt, tt)), tt))) ((vstruct vnil ∷ [], tt), (refl, ((tt, (refl, tt)), tt)))
