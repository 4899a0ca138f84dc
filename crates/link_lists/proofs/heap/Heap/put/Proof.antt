-- `put` takes the box apart, and keeps its value behind a pointer.
use Rattle.std.proofs.Common.{◌≡◌, ℕ, ◌<◌, List, [], ◌∷◌, ◌++◌, sym, refl, ap, ◌∙◌, subst}
use mir.Syntax.{a_type, dcons, dnil, named}
use mir.Val.{Val, vptr, vstruct, of_list, has_ty}
use mir.MapTy.{inst_fn}
use mir.Raw.{raw as bare}
use base.Fraction.{full_share}
use base.Logic.{SProp, ent, sep, emp, id⊢, fst∗, never}
use base.Fml.{Lft, GName, ftrue, fsep, flft}
use types.Logic.{sem}
use types.Kit.{Item, ‵, raw, ◌⊛◌, some, later, ◌$◌, ◌∵◌, !, qed, by, move, keep, drop, split, split3, join, fsplit, fsplit3, fjoin, fjoin3, fpick, pick, use0, use1, use2, await, rewrite, feq_i, feq_l, suffices}
use types.Run.{stop, fld, of_opd, no_more, and_then, returns, enter}
use types.ByLocal.{alloc_all, pass_all, free_all, look_at, get, get_in, sets, lands_as}
use types.Part.{agg, sub, whole}
use contract.Running.{tables}
use contract.Monad.{fact, fact_i, fact_use}
use contract.BorrowLft.{◌⊑◌}
use denote.Exit.{no}
use denote.RattleType.{RattleType, owns}
use denote.Signature.{plain}
use denote.RawPtr.{Ptr, RawPtr, block_ptr, null_ptr, ptr_val, in_a_block}
use denote.Steps.{nothing, only, heard, opens, closes}
use denote.Memory.{part_at}
use denote.Param.{layout, bounded}
use denote.Ref.{MutRef}
use denote.Struct.Tuple.{Tuple}
use denote.Triple.Spec.{triple_of}
use denote.Triple.Call.{calls_at}
use denote.Triple.Walked.{Stays, stay_dropped, stay_ref, walk_of, Goes-ref}
use Rattle.core.proofs.alloc.Calls.{α, token, handle_tells, Goes-blank}
use Rattle.atomic_table.proofs.Walks.{proved_at, leaves}
use Rattle.atomic_table.proofs.Calls.{fm}
use Rattle.std_alloc.specs.Box.Ownership.{box_owns}
use Rattle.std_alloc.proofs.BoxSteps.Form as box
use Rattle.std_alloc.proofs.BoxSteps.Steps.{box_out, box_in}
use Rattle.std_alloc.proofs.ResultValues.{and_tt}
use Rattle.std_alloc.proofs.RcSteps.{word}
use Rattle.link_lists.specs.Cells.{IsFree}
use Rattle.link_lists.specs.contracts.heap.Heap as heap
use Rattle.link_lists.specs.contracts.heap.Place as place
use Rattle.link_lists.proofs.Memory.{Own}
use base.Logic.{guard_i}
use types.Kit.{given, learn}
use Rattle.std_alloc.proofs.Pairs.{pair_val, pair_of}
use Rattle.std.specs.Mem.{type_size}
use Rattle.link_lists.proofs.Memory.{cells_fresh, word_made}
use Rattle.std_alloc.specs.contracts.boxed.Box.into_raw_with_allocator as callee
use Rattle.std_alloc.proofs.boxed.Box.into_raw_with_allocator.Met as callee_met
use Rattle.link_lists.specs.contracts.heap.Heap.put.{ended, clauses}
use Rattle.link_lists.specs.contracts.heap.Heap.put.Key.{name as #self}
use Rattle.link_lists.proofs.heap.Heap.put.Statement.{statement}
use Rattle.link_lists.proofs.heap.Heap.put.Code as code

pub put_spec : {M : Type 1} → statement M
put_spec 𝓤 𝓛 𝓜 𝓡 wired X Z L LZ g d dd dx met md glue =
    let H = 𝓛.H in let 𝓣 = tables 𝓤 H 𝓜 𝓡 𝓡.env in let E : box.Bx = record { row = X; laws = L; al = record { row = Z; laws = LZ; g = g; d = d; drops = dd } } in
    let R : RattleType = box.R E in let P : RattleType = box.P E in let B : RattleType = box.B E in let Hr : RattleType = heap.the_row R P g in let Pl : RattleType = place.the_row in
    let En = ended X Z g d dd dx in let inst = bounded (a_type ∷ a_type ∷ []) (X, (Z, tt)) (dcons d (dcons dd (dcons dx dnil))) in let fn = inst_fn inst code.function in let c = clauses X Z g d dd dx 𝓛 𝓜.mem 𝓡.returns in
    let Parts = triple_of 𝓛 (callee.signature X Z g d dd dx) (callee.spec X Z g d dd dx 𝓛 𝓜.mem 𝓡.returns) in
    let known = callee_met.met 𝓤 𝓛 𝓜 𝓡 (code.calls-std_alloc::boxed::Box::into_raw_with_allocator 𝓡.env wired) X Z L LZ g d dd dx met md glue in
    let hs : Stays En.signature.params En.kept = (stay_ref (0 ∷ []) tt (plain (λ _. Hr)), (stay_dropped (plain (λ _. B)) no, tt)) in
    proved_at 𝓛 En hs c 𝓜 𝓡 (Goes-ref 𝓛 3 0 tt (plain (λ _. Hr)), (Goes-blank 𝓛 3 (plain (λ _. B)) no (λ κs x f. tt), tt)) (#self inst) fn (code.unfolded 𝓤 H 𝓜 𝓡 wired (X, (Z, tt)) d dd dx) (λ z are.
    let κs = z.0.0 in let qs = z.0.1 in let κ : Lft = κs.0 in let q = qs.0 in let t₀ : Item 𝓤 = ‵ (flft κ q) in let ts : Item 𝓤 = ‵ (flft κs.1.0 qs.1.0) ⊛ ‵ (flft κs.1.1.0 qs.1.1.0) ⊛ ‵ ftrue in
    let inX = κs.1.0 ⊑ X.lives in let inZ = κs.1.1.0 ⊑ Z.lives in
    let Post : Val → SProp 𝓤 = (walk_of 𝓛 En hs c).post z in let Run : List Val → SProp 𝓤 = λ ws. prog.Wp.WpFn 𝓤 H 𝓣.C 𝓣.Λ fn ws Post in
    let self = z.0.3.0 in let dn : Hr.Denot = self.now in let rb : ℕ = self.ref_ptr.0 in let ro : ℕ = self.ref_ptr.1 in let γ : GName = self.ghost_name in
    let v : B.Denot = z.0.3.1.0 in let a : Z.Denot = v.alloc in let x : X.Denot = v.value in
    let Asked : Type 0 = 0 < type_size R in
    qed 𝓛 (((t₀ ⊛ ts) ⊛ ‵ (owns (MutRef (named 0) κ Hr ∷ B ∷ []) z.0.3 z.0.4)) ∷ raw (fact 𝓤 inX) ∷ raw (fact 𝓤 inZ) ∷ raw (fact 𝓤 Asked) ∷ []) ∵
    move ! (1 ∷ 2 ∷ 3 ∷ []) $ heard ! inX (λ leX. heard ! inZ (λ leZ. heard ! Asked (λ asked. split ! $ split ! $ move ! (2 ∷ []) $ fsplit ! $ fsplit3 ! $ feq_l ! (λ e0. move ! (2 ∷ []) $ fsplit ! $
    box_out E ! v z.0.4.1.0 (λ b o hv e ws fa. box_in E ! v b o x e refl $ keep ! (0 ∷ 2 ∷ 3 ∷ 4 ∷ 5 ∷ []) $
    let w : Val = box.word E hv b o in let typed = box.box_typed E hv b o fa in let y : Parts.Ghost = ((κs.1, qs.1, tt, (v, tt), (w ∷ [], tt)), tt) in let us : List Val = vptr rb ro ∷ w ∷ [] in
    suffices ! (Run us) (subst (λ (vs : List Val). ent 𝓤 (Run us) (Run vs)) (sym (λ i. e0 i ++ (ws i ++ []))) (id⊢ 𝓤 (Run us))) $
    enter ! 𝓣.C 𝓣.Λ fn us Post $ alloc_all ! (λ l. pass_all ! refl ((tt, tt), (typed, tt)) $ sets ! (of_opd ! (get ! refl)) refl typed $
    nothing ! $ move ! (1 ∷ 0 ∷ []) $ fjoin ! $ move ! (4 ∷ 0 ∷ []) $ join ! $
    nothing ! $ use0 𝓛 (raw (fact 𝓤 inZ)) (fact_i 𝓤 inZ (emp 𝓤) leZ) $ join ! $ use0 𝓛 (raw (fact 𝓤 inX)) (fact_i 𝓤 inX (emp 𝓤) leX) $ join ! $ move ! (1 ∷ 0 ∷ []) $ join ! $ use1 𝓛 (raw (Parts.pre y)) (id⊢ 𝓤 _) $
    calls_at ! (fm 𝓛 𝓜 𝓡) Parts known y (and_then ! (get ! refl) (no_more !)) (λ u. let Pair = Tuple (RawPtr ∷ P ∷ []) in
    use1 𝓛 (later (some (λ (r : Ptr × Z.Denot). (ts ⊛ ‵ (Pair.own_val r (u ∷ []))) ⊛ some (λ (_ : (Unit {0} × (Unit {0} × Unit {0})) × Unit {0}).
    ‵ (fsep (fsep ftrue (fsep ftrue ftrue)) ftrue) ⊛ (raw (fact 𝓤 (r.1 ≡ a)) ⊛ ‵ (box_owns (token E.al a) R r.0 x)))))) (id⊢ 𝓤 _) $
    await ! tt $ pick ! (λ r. split ! $ move ! (1 ∷ []) $ pick ! (λ _. split3 ! $ drop ! $ heard ! (r.1 ≡ a) (λ ea.
    in_a_block ! r.0 (λ p. box_owns (token E.al a) R p x) (fst∗ 𝓤 (never 𝓤) (sem 𝓛 (token E.al a (bare (layout X)) null_ptr))) (λ b' o' e'. let p : Ptr = block_ptr b' o' in fsplit ! $
    -- [the value; the token; the tokens with the pair; obs; bor; t₀]
    move ! (3 ∷ 4 ∷ 5 ∷ []) $ opens ! tt Hr {h = dn} rb ro (λ vs. move ! (1 ∷ []) $ fsplit ! $ move ! (6 ∷ 1 ∷ []) $
    let Fresh : Type 0 = IsFree p dn.cells in
    use2 𝓛 (given Fresh (‵ (part_at R full_share x b' o') ⊛ ‵ (Own R (token E.al) dn.cells)))
    (fact_use 𝓤 _ (cells_fresh 𝓛 𝓜 E asked (token E.al) x b' o' dn.cells) (guard_i 𝓤 Fresh (sep 𝓤 (sem 𝓛 (part_at R full_share x b' o')) (sem 𝓛 (Own R (token E.al) dn.cells))))) $ learn ! (λ free. split ! $
    -- [the value; the others; the mark; its cell; the open borrow; obs; auth; the token; the tokens with the pair]
    let more : Hr.Denot = record { mark = dn.mark; cells = (p, (a, x)) ∷ dn.cells } in
    move ! (0 ∷ 7 ∷ []) $ fjoin ! $ fjoin ! $ move ! (1 ∷ 0 ∷ []) $ fjoin ! $ move ! (1 ∷ 0 ∷ []) $ closes ! tt Hr more vs rb ro $
    -- [obs; bor; t₀; the tokens with the pair]
    move ! (3 ∷ []) $ split ! $ move ! (1 ∷ []) $
    fpick ! (λ vss. fsplit ! $ feq_l ! (λ eu. fsplit ! $ feq_l ! (λ ep. fsplit ! $ rewrite ! 0 (λ (s : Z.Denot). ‵ (Z.own_val s vss.1.0)) ea refl $ handle_tells E.al ! a vss.1.0 (λ hw eh fw.
    let w' : Val = box.word E hw b' o' in let typed' = box.box_typed E hw b' o' fw in let out : Val = pair_val (word p) hw in
    let pl : Pl.Denot = record { ptr = p } in
    lands_as ! (ap only (eu ∙ (λ j. vstruct (of_list ((ep ∙ ap (λ (π : Ptr). ptr_val π ∷ []) e') j ++ (eh j ++ []))) ∷ []))) refl typed' $
    sets ! (of_opd ! (get_in ! (fld ! refl (stop !)) (sub ! 0 refl (whole !)))) refl (tt, tt) $ sets ! (of_opd ! (get_in ! (fld ! refl (stop !)) (sub ! 1 refl (whole !)))) refl fw $
    sets ! (of_opd ! (get ! refl)) refl (tt, tt) $ sets ! (agg ! (and_then ! (get ! refl) (no_more !))) refl (tt, (tt, tt)) $ sets ! (of_opd ! (get ! refl)) refl fw $
    sets ! (agg ! (and_then ! (get ! refl) (and_then ! (get ! refl) (no_more !)))) refl (and_tt (has_ty (α E.al) hw) fw.0, ((tt, tt), (fw.1, tt))) $
    -- [the handle; nothing; the tokens; obs; bor; t₀]
    move ! (0 ∷ 2 ∷ 3 ∷ 4 ∷ 5 ∷ []) $ word_made ! p $ use2 𝓛 (‵ ((Tuple (Pl ∷ P ∷ [])).own_val (pl, a) (out ∷ []))) (pair_of 𝓛 Pl P pl a (word p) hw) $
    -- [the result; ts; obs; bor; t₀]
    move ! (4 ∷ 1 ∷ []) $ join ! $ move ! (2 ∷ 3 ∷ []) $ feq_i ! (List Val) z.0.4.0 (vptr rb ro ∷ []) e0 $ fjoin3 ! $
    -- [the reference; alive; the result]
    let Added : Type 0 = more.cells ≡ (p, (a, x)) ∷ dn.cells in
    use0 𝓛 (raw (fact 𝓤 (a ≡ a))) (fact_i 𝓤 (a ≡ a) (emp 𝓤) refl) $ use0 𝓛 (raw (fact 𝓤 Added)) (fact_i 𝓤 Added (emp 𝓤) refl) $ join ! $ use0 𝓛 (raw (fact 𝓤 Fresh)) (fact_i 𝓤 Fresh (emp 𝓤) free) $ join ! $
    nothing ! $ nothing ! $ fjoin ! $ move ! (2 ∷ 0 ∷ []) $ fjoin ! $
    returns ! (look_at ! 0 refl) $ free_all ! refl $ keep ! (2 ∷ 0 ∷ 3 ∷ 1 ∷ []) $ by ! (leaves 𝓛 En hs c z out (pl, a) (more, ((tt, (tt, tt)), tt)) (tt, (tt, tt)))))))))))))))))))))
