-- `take` makes the box again.
use Rattle.std.proofs.Common.{◌≡◌, ℕ, T, List, [], ◌∷◌, ◌++◌, sym, refl, ap, subst}
use mir.Syntax.{a_type, dcons, dnil, named}
use mir.Val.{Val, vptr, has_ty, WT}
use mir.MapTy.{inst_fn}
use base.Logic.{SProp, ent, emp, id⊢}
use base.Fml.{Lft, GName, ftrue, flft}
use types.Kit.{Item, ‵, raw, ◌⊛◌, some, later, at_ret, ◌$◌, ◌∵◌, !, qed, by, move, keep, drop, split, split3, join, fsplit, fsplit3, fjoin, fjoin3, pick, use0, use1, await, rewrite, feq_i, feq_l, suffices}
use types.Run.{stop, fld, of_opd, no_more, and_then, first, blocks, exec, returns, enter}
use types.ByLocal.{alloc_all, pass_all, free_all, look_at, get, get_in, sets, lands_last, is, env}
use types.Part.{sub, whole}
use contract.Running.{tables}
use contract.Monad.{fact, fact_i}
use contract.BorrowLft.{◌⊑◌}
use denote.Exit.{yes, no}
use denote.RattleType.{RattleType, owns}
use denote.Signature.{plain}
use denote.RawPtr.{Ptr, ptr_val}
use denote.Steps.{nothing, only, heard, opens, closes}
use denote.Param.{bounded}
use denote.Ref.{MutRef}
use denote.Triple.Clauses.{Lasts, lasts}
use denote.Triple.Spec.{triple_of}
use denote.Triple.Call.{calls_at_last}
use denote.Triple.Walked.{Stays, stay_dropped, stay_ref, walk_of, Goes-dropped, Goes-ref}
use Rattle.core.proofs.atomic.Steps.{tail}
use Rattle.core.proofs.alloc.Calls.{token, handle_tells}
use Rattle.atomic_table.proofs.Walks.{proved_at, leaves}
use Rattle.atomic_table.proofs.Calls.{fm}
use Rattle.std_alloc.proofs.BoxSteps.Form as box
use Rattle.std_alloc.proofs.BoxSteps.Steps.{box_out, box_in}
use Rattle.std_alloc.proofs.RcSteps.{word, word-Good, Ptr-Good}
use Rattle.link_lists.specs.Cells.{erase, IsIn}
use Rattle.link_lists.specs.contracts.heap.Heap as heap
use Rattle.link_lists.specs.contracts.heap.Place as place
use Rattle.link_lists.proofs.Memory.{had, IsIn-of, Own, One, cells_cut, word_had}
use Rattle.std_alloc.specs.contracts.boxed.Box.from_raw as callee
use Rattle.std_alloc.proofs.boxed.Box.from_raw.Met as callee_met
use Rattle.link_lists.specs.contracts.heap.Heap.take.{ended, clauses}
use Rattle.link_lists.specs.contracts.heap.Heap.take.Key.{name as #self}
use Rattle.link_lists.proofs.heap.Heap.take.Statement.{statement}
use Rattle.link_lists.proofs.heap.Heap.take.Code as code

pub take_spec : {M : Type 1} → statement M
take_spec 𝓤 𝓛 𝓜 𝓡 wired X Z L LZ g d dd met md =
    let H = 𝓛.H in let 𝓣 = tables 𝓤 H 𝓜 𝓡 𝓡.env in let E : box.Bx = record { row = X; laws = L; al = record { row = Z; laws = LZ; g = g; d = d; drops = dd } } in
    let R : RattleType = box.R E in let P : RattleType = box.P E in let B : RattleType = box.B E in let Hr : RattleType = heap.the_row R P g in let Pl : RattleType = place.the_row in
    let En = ended X Z g d dd in let inst = bounded (a_type ∷ a_type ∷ []) (X, (Z, tt)) (dcons d (dcons dd dnil)) in let fn = inst_fn inst code.function in let c = clauses X Z g d dd 𝓛 𝓜.mem 𝓡.returns in
    let Made = triple_of 𝓛 (callee.signature X Z g d dd) (callee.spec X Z g d dd 𝓛 𝓜.mem 𝓡.returns) in let Ce = callee.ended X Z g d dd in
    let known = callee_met.met 𝓤 𝓛 𝓜 𝓡 (code.calls-std_alloc::boxed::Box::from_raw 𝓡.env wired) X Z L LZ g d dd met md in
    let hs : Stays En.signature.params En.kept = (stay_ref (0 ∷ []) tt (plain (λ _. Hr)), (stay_dropped (plain (λ _. Pl)) yes, (stay_dropped (plain (λ _. P)) no, tt))) in
    proved_at 𝓛 En hs c 𝓜 𝓡 (Goes-ref 𝓛 3 0 tt (plain (λ _. Hr)), (Goes-dropped 𝓛 3 (plain (λ _. Pl)) yes (λ κs x f. refl), (Goes-dropped 𝓛 3 (plain (λ _. P)) no (λ κs x f. refl), tt))) (#self inst) fn (code.unfolded 𝓤 H 𝓜 𝓡 wired (X, (Z, tt)) d dd) (λ z are.
    let κs = z.0.0 in let qs = z.0.1 in let κ : Lft = κs.0 in let q = qs.0 in let t₀ : Item 𝓤 = ‵ (flft κ q) in let ts : Item 𝓤 = ‵ (flft κs.1.0 qs.1.0) ⊛ ‵ (flft κs.1.1.0 qs.1.1.0) ⊛ ‵ ftrue in
    let inX = κs.1.0 ⊑ X.lives in let inZ = κs.1.1.0 ⊑ Z.lives in
    let Post : Val → SProp 𝓤 = (walk_of 𝓛 En hs c).post z in let Run : List Val → SProp 𝓤 = λ ws. prog.Wp.WpFn 𝓤 H 𝓣.C 𝓣.Λ fn ws Post in
    let self = z.0.3.0 in let dn : Hr.Denot = self.now in let p : Ptr = z.0.3.1.0.ptr in let a : Z.Denot = z.0.3.1.1.0 in let rb : ℕ = self.ref_ptr.0 in let ro : ℕ = self.ref_ptr.1 in let γ : GName = self.ghost_name in
    let Asked : Type 0 = IsIn p dn.cells (λ k _. k ≡ a) in
    qed 𝓛 (((t₀ ⊛ ts) ⊛ ‵ (owns (MutRef (named 0) κ Hr ∷ Pl ∷ P ∷ []) z.0.3 z.0.4)) ∷ raw (fact 𝓤 inX) ∷ raw (fact 𝓤 inZ) ∷ raw (fact 𝓤 Asked) ∷ []) ∵
    move ! (1 ∷ 2 ∷ 3 ∷ []) $ heard ! inX (λ leX. heard ! inZ (λ leZ. heard ! Asked (λ asked. split ! $ split ! $ move ! (2 ∷ []) $ fsplit ! $ fsplit3 ! $ feq_l ! (λ e0. move ! (2 ∷ []) $ fsplit ! $ word_had ! p z.0.4.1.0 (λ e1. fsplit ! $
    handle_tells E.al ! a z.0.4.1.1.0 (λ hv e2 fa. keep ! (0 ∷ 2 ∷ 3 ∷ 4 ∷ 5 ∷ []) $
    -- [the handle; obs; bor; t₀; ts]
    let us : List Val = vptr rb ro ∷ word p ∷ hv ∷ [] in
    suffices ! (Run us) (subst (λ (ws : List Val). ent 𝓤 (Run us) (Run ws)) (sym (λ i. e0 i ++ (e1 i ++ (e2 i ++ [])))) (id⊢ 𝓤 (Run us))) $
    let f = had p dn.cells (λ k _. k ≡ a) asked in let k = f.0 in let found = f.1 in let x : X.Denot = k.1 in let y : Made.Ghost = ((κs.1, qs.1, tt, (a, (p, tt)), (hv ∷ [], (ptr_val p ∷ [], tt))), x) in
    enter ! 𝓣.C 𝓣.Λ fn us Post $ alloc_all ! (λ l. pass_all ! refl ((tt, tt), (word-Good place.the_type.name p, (fa, tt))) $ let Ev = env fn.locals l in
    move ! (1 ∷ 2 ∷ 3 ∷ []) $ opens ! tt Hr {h = dn} rb ro (λ vs. move ! (1 ∷ []) $ fsplit ! $ move ! (1 ∷ []) $
    use1 𝓛 (‵ (One R (token E.al) p k.0 x) ⊛ ‵ (Own R (token E.al) (erase p dn.cells))) (cells_cut 𝓛 R (token E.al) p dn.cells k found) $ split ! $
    rewrite ! 0 (λ (s : Z.Denot). ‵ (One R (token E.al) p s x)) f.2 refl $
    let less : Hr.Denot = record { mark = dn.mark; cells = erase p dn.cells } in
    -- [the box's; the others; the mark; its cell; the open borrow; obs; auth; the handle; ts]
    move ! (2 ∷ 1 ∷ []) $ fjoin ! $ move ! (2 ∷ 0 ∷ 3 ∷ 4 ∷ 5 ∷ []) $ closes ! tt Hr less vs rb ro $
    -- [obs; bor; t₀; the box's; the handle; ts]
    first ! $ blocks ! $ sets ! (of_opd ! (get ! refl)) refl fa $ sets ! (of_opd ! (get_in ! (fld ! refl (stop !)) (sub ! 0 refl (whole !)))) refl (Ptr-Good p) $ move ! (3 ∷ 4 ∷ 5 ∷ []) $
    use0 𝓛 (raw (fact 𝓤 inZ)) (fact_i 𝓤 inZ (emp 𝓤) leZ) $ join ! $ use0 𝓛 (raw (fact 𝓤 inX)) (fact_i 𝓤 inX (emp 𝓤) leX) $ join ! $
    nothing ! $ feq_i ! (List Val) (ptr_val p ∷ []) (ptr_val p ∷ []) refl $ move ! (3 ∷ 0 ∷ 1 ∷ []) $ fjoin3 ! $ move ! (2 ∷ 0 ∷ []) $ join ! $ join ! $ use1 𝓛 (raw (Made.pre y)) (id⊢ 𝓤 _) $
    calls_at_last ! (fm 𝓛 𝓜 𝓡) Made known y (and_then ! (get ! refl) (and_then ! (get ! refl) (no_more !))) (λ u.
    use1 𝓛 (later (some (λ (r : B.Denot). (ts ⊛ ‵ (B.own_val r (u ∷ []))) ⊛ some (λ (ws : Lasts Ce κs.1 (a, (p, tt))). ‵ (lasts Ce κs.1 (a, (p, tt)) ws) ⊛ (raw (fact 𝓤 (r.value ≡ x)) ⊛ raw (fact 𝓤 (r.alloc ≡ a))))))) (id⊢ 𝓤 _) $
    await ! tt $ pick ! (λ r. split ! $ move ! (1 ∷ []) $ pick ! (λ _. split3 ! $ drop ! $ move ! (1 ∷ []) $ drop ! $ heard ! (r.value ≡ x) (λ same. split ! $ move ! (1 ∷ []) $
    box_out E ! r (u ∷ []) (λ b' o' hw e' eu fw. box_in E ! r b' o' r.value e' refl $ let w' : Val = box.word E hw b' o' in let typed' = box.box_typed E hw b' o' fw in let is_word : u ≡ w' = ap only eu in
    lands_last ! refl (subst (λ (s : Val). T (has_ty (box.box_ty E) s) × WT s) (sym is_word) typed') $ exec ! 𝓣.C 𝓣.Λ Ev (tail fn.body) (at_ret Ev Post) $ sets ! (is ! (of_opd ! (get ! refl)) is_word) refl typed' $
    -- [the box; ts; obs; bor; t₀]
    move ! (4 ∷ 1 ∷ []) $ join ! $ move ! (2 ∷ 3 ∷ []) $ feq_i ! (List Val) z.0.4.0 (vptr rb ro ∷ []) e0 $ fjoin3 ! $
    let Left : Type 0 = less.cells ≡ erase p dn.cells in let Told : Type 0 = IsIn p dn.cells (λ _ v. r.value ≡ v) in
    use0 𝓛 (raw (fact 𝓤 Left)) (fact_i 𝓤 Left (emp 𝓤) refl) $ use0 𝓛 (raw (fact 𝓤 Told)) (fact_i 𝓤 Told (emp 𝓤) (IsIn-of p dn.cells k (λ _ v. r.value ≡ v) found same)) $ join ! $
    nothing ! $ nothing ! $ fjoin ! $ nothing ! $ fjoin ! $ move ! (2 ∷ 0 ∷ []) $ fjoin ! $
    returns ! (look_at ! 0 refl) $ free_all ! refl $ keep ! (2 ∷ 0 ∷ 3 ∷ 1 ∷ []) $ by ! (leaves 𝓛 En hs c z w' r (less, (tt, (tt, tt))) (tt, (tt, (tt, tt))))))))))))))))))
