-- `get_mut` lends one value, and the heap follows it.
use Rattle.std.proofs.Common.{◌≡◌, ℕ, List, [], ◌∷◌, ◌++◌, sym, refl, ap, subst}
use Rattle.std.specs.Prelude.{⊤, Some}
use mir.Syntax.{a_type, dcons, dnil, named}
use mir.Val.{Val, vptr}
use mir.MapTy.{inst_fn}
use mir.Raw.{raw as bare}
use base.Fraction.{full_share}
use base.Logic.{SProp, ent, sep, emp, id⊢, fst∗, never}
use base.Fml.{Lft, Fml, GName, ftrue, fsep, flft}
use seplogic.Ra.Ura.{Ura}
use types.Logic.{Logic, sem}
use types.Kit.{Item, ‵, raw, ◌⊛◌, some, later, at_ret, ◌$◌, ◌∵◌, !, qed, by, move, keep, split, split3, join, group, fsplit, fsplit3, fjoin, fjoin3, fpack, pick, use0, use1, use2, await, rewrite, feq_l, suffices, done}
use types.Run.{stop, fld, addr, of_opd, first, blocks, exec, returns, enter}
use types.ByLocal.{through, alloc_all, pass_all, free_all, look_at, get, get_in, sets, sets_last, is, env}
use types.Part.{sub, whole}
use contract.Running.{tables}
use contract.Monad.{fact, fact_i}
use contract.BorrowLft.{◌⊑◌}
use denote.Exit.{yes, no}
use denote.RattleType.{RattleType, owns}
use denote.Signature.{plain, mut_ref_to}
use denote.RawPtr.{Ptr, block_ptr, null_ptr, ptr_val, in_a_block}
use denote.Steps.{nothing, heard, opens}
use denote.Memory.{cell_at, part_at, part_of, mem}
use denote.Param.{layout, bounded}
use denote.Ref.{MutRef}
use denote.Follow.{follows, Part, lends_Part}
use denote.Triple.Walked.{Stays, stay_dropped, walk_of, Goes-dropped, Goes-spent_ref}
use Rattle.core.proofs.atomic.Steps.{tail}
use Rattle.core.proofs.alloc.Calls.{token}
use Rattle.atomic_table.proofs.Walks.{proved_at, leaves}
use Rattle.std_alloc.specs.Box.Ownership.{box_owns}
use Rattle.std_alloc.proofs.BoxSteps.Form as box
use Rattle.std_alloc.proofs.RcSteps.{word, word-Good}
use Rattle.link_lists.specs.Cells.{find, write, erase, IsIn}
use Rattle.link_lists.specs.contracts.heap.Heap as heap
use Rattle.link_lists.specs.contracts.heap.Place as place
use Rattle.link_lists.proofs.Memory.{had, IsIn-of, Own, One, cells_cut, cells_mend, Mark, word_had}
use Rattle.link_lists.specs.Lends.{with_value}
use Rattle.link_lists.specs.contracts.heap.Heap.get_mut.{ended, clauses}
use Rattle.link_lists.specs.contracts.heap.Heap.get_mut.Key.{name as #self}
use Rattle.link_lists.proofs.heap.Heap.get_mut.Statement.{statement}
use Rattle.link_lists.proofs.heap.Heap.get_mut.Code as code

module _ (X Z : RattleType) (E : box.Bx) where
  abbrev R : RattleType
  R = box.R E

  abbrev Hr : RattleType
  Hr = heap.the_row R (box.P E) E.al.g

  module _ {M : Type 1} {𝓤 : Ura M} (𝓛 : Logic 𝓤) (d : Hr.Denot) (p : Ptr) (c : E.al.row.Denot × E.row.Denot) (b o rb ro : ℕ) (vs : List Val) where
    -- all but the value
    abbrev Rest : Fml
    Rest = fsep (token E.al c.0 (bare (box.τ E)) (block_ptr b o)) (fsep (Own R (token E.al) (erase p d.cells)) (fsep ((Mark R (box.P E) E.al.g).own_val (tt, tt) vs) (cell_at full_share Hr.mir vs rb ro)))

    back : find p d.cells ≡ Some c → p ≡ block_ptr b o
        → (w : E.row.Denot) → ent 𝓤 (sep 𝓤 (sem 𝓛 ((mem R).own_at w b o)) (sem 𝓛 Rest)) (sem 𝓛 ((mem Hr).own_at (with_value d p w) rb ro))
    unfolding part_of
    back found at w =
        qed 𝓛 (‵ (part_at R full_share w b o) ∷ ‵ Rest ∷ []) ∵ move ! (1 ∷ []) $ fsplit3 ! $ move ! (3 ∷ 0 ∷ []) $ fjoin ! $
        rewrite ! 0 (λ (q : Ptr). ‵ (box_owns (token E.al c.0) R q w)) (sym at) refl $
        move ! (0 ∷ 1 ∷ []) $ use2 𝓛 (‵ (Own R (token E.al) (write p w d.cells))) (cells_mend 𝓛 R (token E.al) p d.cells c w found) $
        move ! (1 ∷ []) $ fsplit ! $ move ! (0 ∷ 2 ∷ []) $ fjoin ! $ move ! (1 ∷ 0 ∷ []) $ fjoin ! $
        fpack ! (List Val) (λ us. fsep (cell_at full_share Hr.mir us rb ro) (Hr.own_val (with_value d p w) us)) vs $ done !

pub get_mut_spec : {M : Type 1} → statement M
get_mut_spec 𝓤 𝓛 𝓜 𝓡 wired X Z L LZ g d dd met md =
    let H = 𝓛.H in let 𝓣 = tables 𝓤 H 𝓜 𝓡 𝓡.env in let E : box.Bx = record { row = X; laws = L; al = record { row = Z; laws = LZ; g = g; d = d; drops = dd } } in
    let R : RattleType = box.R E in let P : RattleType = box.P E in let Hr : RattleType = heap.the_row R P g in let Pl : RattleType = place.the_row in
    let En = ended X Z g d dd in let inst = bounded (a_type ∷ a_type ∷ []) (X, (Z, tt)) (dcons d (dcons dd dnil)) in let fn = inst_fn inst code.function in let c = clauses X Z g d dd 𝓛 𝓜.mem 𝓡.returns in
    let hs : Stays En.signature.params En.kept = (stay_dropped (mut_ref_to (0 ∷ []) tt (plain (λ _. Hr))) no, (stay_dropped (plain (λ _. Pl)) yes, tt)) in
    proved_at 𝓛 En hs c 𝓜 𝓡 (Goes-spent_ref 𝓛 3 (0 ∷ []) tt (plain (λ _. Hr)), (Goes-dropped 𝓛 3 (plain (λ _. Pl)) yes (λ κs x f. refl), tt)) (#self inst) fn (code.unfolded 𝓤 H 𝓜 𝓡 wired (X, (Z, tt)) d dd) (λ z are.
    let κs = z.0.0 in let qs = z.0.1 in let κ : Lft = κs.0 in let q = qs.0 in let t₀ : Item 𝓤 = ‵ (flft κ q) in let ts : Item 𝓤 = ‵ (flft κs.1.0 qs.1.0) ⊛ ‵ (flft κs.1.1.0 qs.1.1.0) ⊛ ‵ ftrue in
    let inX = κs.1.0 ⊑ X.lives in let inZ = κs.1.1.0 ⊑ Z.lives in
    let Post : Val → SProp 𝓤 = (walk_of 𝓛 En hs c).post z in let Run : List Val → SProp 𝓤 = λ ws. prog.Wp.WpFn 𝓤 H 𝓣.C 𝓣.Λ fn ws Post in
    let self = z.0.3.0 in let dn : Hr.Denot = self.now in let p : Ptr = z.0.3.1.0.ptr in let rb : ℕ = self.ref_ptr.0 in let ro : ℕ = self.ref_ptr.1 in let γ : GName = self.ghost_name in
    let Asked : Type 0 = IsIn p dn.cells (λ _ _. ⊤) in
    qed 𝓛 (((t₀ ⊛ ts) ⊛ ‵ (owns (MutRef (named 0) κ Hr ∷ Pl ∷ []) z.0.3 z.0.4)) ∷ raw (fact 𝓤 inX) ∷ raw (fact 𝓤 inZ) ∷ raw (fact 𝓤 Asked) ∷ []) ∵
    move ! (1 ∷ 2 ∷ 3 ∷ []) $ heard ! inX (λ leX. heard ! inZ (λ leZ. heard ! Asked (λ asked. split ! $ split ! $ move ! (2 ∷ []) $ fsplit ! $ fsplit3 ! $ feq_l ! (λ e0. move ! (2 ∷ []) $ fsplit ! $ word_had ! p z.0.4.1.0 (λ e1.
    -- [nothing; obs; bor; t₀; ts]
    keep ! (1 ∷ 2 ∷ 3 ∷ 4 ∷ []) $
    let us : List Val = vptr rb ro ∷ word p ∷ [] in
    suffices ! (Run us) (subst (λ (ws : List Val). ent 𝓤 (Run us) (Run ws)) (sym (λ i. e0 i ++ (e1 i ++ []))) (id⊢ 𝓤 (Run us))) $
    let f = had p dn.cells (λ _ _. ⊤) asked in let k = f.0 in let found = f.1 in let h : Z.Denot = k.0 in let x : X.Denot = k.1 in
    enter ! 𝓣.C 𝓣.Λ fn us Post $ alloc_all ! (λ l. pass_all ! refl ((tt, tt), (word-Good place.the_type.name p, tt)) $ let Ev = env fn.locals l in
    opens ! tt Hr {h = dn} rb ro (λ vs. move ! (1 ∷ []) $ fsplit ! $ move ! (1 ∷ []) $
    use1 𝓛 (‵ (One R (token E.al) p h x) ⊛ ‵ (Own R (token E.al) (erase p dn.cells))) (cells_cut 𝓛 R (token E.al) p dn.cells k found) $ split ! $
    in_a_block ! p (λ r. box_owns (token E.al h) R r x) (fst∗ 𝓤 (never 𝓤) (sem 𝓛 (token E.al h (bare (layout X)) null_ptr))) (λ b o at. fsplit ! $
    -- [the value; the token; the others; the mark; its cell; the open borrow; obs; auth; ts]
    let way = back X Z E 𝓛 dn p k b o rb ro vs found at in let cd = Hr.coded.code dn in let new = with_value dn p in
    first ! $ blocks ! $ sets ! (is ! (of_opd ! (get_in ! (fld ! refl (stop !)) (sub ! 0 refl (whole !)))) (ap ptr_val at)) refl (tt, tt) $ sets_last ! (addr ! (through ! refl (stop !))) refl (tt, tt) $ exec ! 𝓣.C 𝓣.Λ Ev (tail fn.body) (at_ret Ev Post) $ sets ! (of_opd ! (get ! refl)) refl (tt, tt) $
    move ! (3 ∷ 4 ∷ []) $ fjoin ! $ move ! (2 ∷ 3 ∷ 0 ∷ []) $ fjoin3 ! $ move ! (2 ∷ 3 ∷ 4 ∷ 1 ∷ 0 ∷ []) $ group ! 5 $
    use1 𝓛 (later (some (λ (δ : GName). raw (Part 𝓛 Hr R new (named 0) κ q rb ro b o γ (sem 𝓛 (Rest X Z E 𝓛 dn p k b o rb ro vs)) way x δ))))
    (lends_Part 𝓛 Hr R new (named 0) κ q rb ro b o γ (sem 𝓛 (Rest X Z E 𝓛 dn p k b o rb ro vs)) way cd cd x) $ await ! tt $ pick ! (λ δ.
    returns ! (look_at ! 0 refl) $ free_all ! refl $
    let Told : Type 0 = IsIn p dn.cells (λ _ v. x ≡ v) in
    use1 𝓛 (‵ ((MutRef (named 0) κ R).own_val (record { ref_ptr = (b, o); ghost_name = δ; now = x }) (vptr b o ∷ [])) ⊛ t₀ ⊛ ‵ (follows Hr R γ δ new)) (id⊢ 𝓤 _) $ split3 ! $
    move ! (1 ∷ 3 ∷ []) $ join ! $ use0 𝓛 (raw (fact 𝓤 Told)) (fact_i 𝓤 Told (emp 𝓤) (IsIn-of p dn.cells k (λ _ v. x ≡ v) found refl)) $ move ! (3 ∷ 0 ∷ []) $ join ! $
    nothing ! $ nothing ! $ fjoin ! $ nothing ! $ fjoin ! $ keep ! (2 ∷ 0 ∷ 3 ∷ 1 ∷ []) $
    by ! (leaves 𝓛 En hs c z (vptr b o) (record { ref_ptr = (b, o); ghost_name = δ; now = x }) (tt, (tt, tt)) (tt, (tt, tt)))))))))))))
