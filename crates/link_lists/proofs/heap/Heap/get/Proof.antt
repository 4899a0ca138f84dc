-- `get` shows one value for as long as the heap is borrowed.
use Rattle.std.proofs.Common.{◌≡◌, ℕ, List, [], ◌∷◌, ◌++◌, sym, refl, ap, subst}
use Rattle.std.specs.Prelude.{⊤}
use mir.Syntax.{a_type, dcons, dnil, named}
use mir.Val.{Val, vptr}
use mir.MapTy.{inst_fn}
use base.Logic.{SProp, ent, emp, id⊢, fst∗, never}
use base.Fml.{Lft, ftrue, flft}
use types.Logic.{sem}
use types.Kit.{Item, ‵, raw, ◌⊛◌, at_ret, ◌$◌, ◌∵◌, !, qed, by, move, keep, drop, split, fsplit, fjoin, use0, use1, feq_i, feq_l, suffices}
use types.Run.{stop, fld, addr, of_opd, first, blocks, exec, returns, enter}
use types.ByLocal.{through, alloc_all, pass_all, free_all, look_at, get, get_in, sets, sets_last, is, env}
use types.Part.{sub, whole}
use contract.Running.{tables}
use contract.Monad.{fact, fact_i}
use contract.BorrowLft.{◌⊑◌}
use denote.Exit.{yes}
use denote.RattleType.{RattleType, owns}
use denote.Signature.{plain}
use denote.RawPtr.{Ptr, ptr_val, in_a_block}
use denote.Steps.{nothing, heard}
use denote.Opens.{unhide, hide}
use denote.Memory.{cell_at, part_at, part_of, mem, hidden_shr}
use denote.Param.{bounded}
use denote.Builtin.{RefOf}
use denote.Ref.{ShrRef}
use denote.Struct.Lending.{lent_at}
use denote.Triple.Walked.{Stays, stay_dropped, walk_of, Goes-dropped}
use Rattle.core.proofs.atomic.Steps.{tail}
use Rattle.atomic_table.proofs.Walks.{proved_at, leaves}
use Rattle.std_alloc.proofs.BoxSteps.Form as box
use Rattle.std_alloc.proofs.RcSteps.{word, word-Good}
use Rattle.link_lists.specs.Cells.{IsIn}
use Rattle.link_lists.specs.contracts.heap.Heap as heap
use Rattle.link_lists.specs.contracts.heap.Place as place
use Rattle.link_lists.proofs.Memory.{had, IsIn-of, word_had}
use Rattle.link_lists.specs.contracts.heap.Heap.get.{ended, clauses}
use Rattle.link_lists.specs.contracts.heap.Heap.get.Key.{name as #self}
use Rattle.link_lists.proofs.heap.Heap.get.Statement.{statement}
use Rattle.link_lists.proofs.heap.Heap.get.Code as code
use Rattle.link_lists.proofs.Memory.{cell_seen}

pub get_spec : {M : Type 1} → statement M
get_spec 𝓤 𝓛 𝓜 𝓡 wired X Z L LZ g d dd met md =
    let H = 𝓛.H in let 𝓣 = tables 𝓤 H 𝓜 𝓡 𝓡.env in let E : box.Bx = record { row = X; laws = L; al = record { row = Z; laws = LZ; g = g; d = d; drops = dd } } in
    let R : RattleType = box.R E in let P : RattleType = box.P E in let Hr : RattleType = heap.the_row R P g in let Pl : RattleType = place.the_row in
    let En = ended X Z g d dd in let inst = bounded (a_type ∷ a_type ∷ []) (X, (Z, tt)) (dcons d (dcons dd dnil)) in let fn = inst_fn inst code.function in let c = clauses X Z g d dd 𝓛 𝓜.mem 𝓡.returns in
    let ref = RefOf (0 ∷ []) tt (plain (λ _. Hr)) (λ _. tt) in
    let hs : Stays En.signature.params En.kept = (stay_dropped ref yes, (stay_dropped (plain (λ _. Pl)) yes, tt)) in
    proved_at 𝓛 En hs c 𝓜 𝓡 (Goes-dropped 𝓛 3 ref yes (λ κs x f. refl), (Goes-dropped 𝓛 3 (plain (λ _. Pl)) yes (λ κs x f. refl), tt)) (#self inst) fn (code.unfolded 𝓤 H 𝓜 𝓡 wired (X, (Z, tt)) d dd) (λ z are.
    let κs = z.0.0 in let qs = z.0.1 in let κ : Lft = κs.0 in let q = qs.0 in let alive : Item 𝓤 = ‵ (flft κ q) ⊛ ‵ (flft κs.1.0 qs.1.0) ⊛ ‵ (flft κs.1.1.0 qs.1.1.0) ⊛ ‵ ftrue in
    let inX = κs.1.0 ⊑ X.lives in let inZ = κs.1.1.0 ⊑ Z.lives in
    let Post : Val → SProp 𝓤 = (walk_of 𝓛 En hs c).post z in let Run : List Val → SProp 𝓤 = λ ws. prog.Wp.WpFn 𝓤 H 𝓣.C 𝓣.Λ fn ws Post in
    let self = z.0.3.0 in let dn : Hr.Denot = self.now in let p : Ptr = z.0.3.1.0.ptr in let rb : ℕ = self.ref_ptr.0 in let ro : ℕ = self.ref_ptr.1 in
    let Asked : Type 0 = IsIn p dn.cells (λ _ _. ⊤) in
    qed 𝓛 ((alive ⊛ ‵ (owns (ShrRef (named 0) κ Hr ∷ Pl ∷ []) z.0.3 z.0.4)) ∷ raw (fact 𝓤 inX) ∷ raw (fact 𝓤 inZ) ∷ raw (fact 𝓤 Asked) ∷ []) ∵
    move ! (1 ∷ 2 ∷ 3 ∷ []) $ heard ! inX (λ leX. heard ! inZ (λ leZ. heard ! Asked (λ asked. split ! $ move ! (1 ∷ []) $ fsplit ! $ fsplit ! $ feq_l ! (λ e0. move ! (1 ∷ []) $ fsplit ! $ word_had ! p z.0.4.1.0 (λ e1.
    -- [nothing; the loan; the tokens]
    keep ! (1 ∷ 2 ∷ []) $
    let us : List Val = vptr rb ro ∷ word p ∷ [] in
    suffices ! (Run us) (subst (λ (ws : List Val). ent 𝓤 (Run us) (Run ws)) (sym (λ i. e0 i ++ (e1 i ++ []))) (id⊢ 𝓤 (Run us))) $
    let f = had p dn.cells (λ _ _. ⊤) asked in let k = f.0 in let found = f.1 in let x : X.Denot = k.1 in
    enter ! 𝓣.C 𝓣.Λ fn us Post $ alloc_all ! (λ l. pass_all ! refl ((tt, tt), (word-Good place.the_type.name p, tt)) $ let Ev = env fn.locals l in
    unhide ! $ fsplit ! $ drop ! $ use1 𝓛 (‵ (lent_at R p x κ)) (cell_seen 𝓛 R κ p dn.cells k found) $
    in_a_block ! p (λ r. lent_at R r x κ) (fst∗ 𝓤 (never 𝓤) (sem 𝓛 (denote.Memory.shared_of R x 0 0 κ))) (λ b o at. fsplit ! $ drop ! $ hide ! $
    first ! $ blocks ! $ sets ! (is ! (of_opd ! (get_in ! (fld ! refl (stop !)) (sub ! 0 refl (whole !)))) (ap ptr_val at)) refl (tt, tt) $ sets_last ! (addr ! (through ! refl (stop !))) refl (tt, tt) $ exec ! 𝓣.C 𝓣.Λ Ev (tail fn.body) (at_ret Ev Post) $ sets ! (of_opd ! (get ! refl)) refl (tt, tt) $
    feq_i ! (List Val) (vptr b o ∷ []) (vptr b o ∷ []) refl $ fjoin ! $
    let Told : Type 0 = IsIn p dn.cells (λ _ v. x ≡ v) in
    use0 𝓛 (raw (fact 𝓤 Told)) (fact_i 𝓤 Told (emp 𝓤) (IsIn-of p dn.cells k (λ _ v. x ≡ v) found refl)) $ nothing ! $ nothing ! $ fjoin ! $ nothing ! $ fjoin ! $
    returns ! (look_at ! 0 refl) $ free_all ! refl $ keep ! (3 ∷ 0 ∷ 2 ∷ 1 ∷ []) $ by ! (leaves 𝓛 En hs c z (vptr b o) (record { ref_ptr = (b, o); now = x }) (tt, (tt, tt)) (tt, (tt, tt)))))))))))
