-- `push` notes one more node.
use Rattle.std.proofs.Common.{◌≡◌, ℕ, List, [], ◌∷◌, ◌++◌, sym, refl, subst}
use mir.Syntax.{a_type, named}
use mir.Val.{Val, vptr}
use mir.MapTy.{inst_fn}
use base.Logic.{SProp, ent, emp, id⊢}
use base.Fml.{Lft, ftrue, flft}
use types.Kit.{Item, ‵, raw, ◌⊛◌, ◌$◌, ◌∵◌, !, qed, by, move, keep, split, join, fsplit, fsplit3, fjoin, fjoin3, use0, feq_i, feq_l, suffices}
use types.Run.{of_opd, returns, enter}
use types.ByLocal.{alloc_all, pass_all, free_all, look_at, sets}
use contract.Running.{tables}
use contract.Monad.{fact, fact_i}
use contract.BorrowLft.{◌⊑◌}
use denote.Exit.{yes}
use denote.RattleType.{RattleType, owns}
use denote.Signature.{plain}
use denote.RawPtr.{Ptr}
use denote.Steps.{nothing, opens, closes}
use denote.Param.{layouts}
use denote.Builtin.{RefOf}
use denote.Ref.{MutRef, ShrRef}
use denote.Triple.Walked.{Stays, stay_dropped, stay_ref, walk_of, Goes-dropped, Goes-ref}
use Rattle.atomic_table.proofs.Walks.{proved_at, leaves}
use Rattle.std_alloc.proofs.RcSteps.{word, word-Good}
use Rattle.link_lists.proofs.Memory.{word_had}
use types.Run.{unit_lit}
use types.Kit.{flt_l}
use mir.Syntax.{w64}
use denote.Param.{param}
use denote.Builtin.{usize}
use mir.Val.{vunit, vint}
use Rattle.link_lists.specs.Notes.{ring_push}
use Rattle.link_lists.proofs.Memory.{word_had}
use Rattle.link_lists.specs.contracts.heap.Place as place
use Rattle.link_lists.specs.contracts.note.Note as note
use Rattle.link_lists.specs.contracts.note.Note.push.{ended, clauses}
use Rattle.link_lists.specs.contracts.note.Note.push.Key.{name as #self}
use Rattle.link_lists.proofs.note.Note.push.Statement.{statement}
use Rattle.link_lists.proofs.note.Note.push.Code as code

pub push_spec : {M : Type 1} → statement M
push_spec 𝓤 𝓛 𝓜 𝓡 wired X L =
    let H = 𝓛.H in let 𝓣 = tables 𝓤 H 𝓜 𝓡 𝓡.env in let R : RattleType = param 0 X in let Nr : RattleType = note.the_row R in let Pl : RattleType = place.the_row in
    let En = ended X in let inst = layouts (a_type ∷ []) (X, tt) in let fn = inst_fn inst code.function in let c = clauses X 𝓛 𝓜.mem 𝓡.returns in
    let vref = RefOf (1 ∷ []) tt (plain (λ _. R)) (λ _. tt) in
    let hs : Stays En.signature.params En.kept = (stay_ref (0 ∷ []) tt (plain (λ _. Nr)), (stay_dropped (plain (λ _. usize)) yes, (stay_dropped (plain (λ _. Pl)) yes, (stay_dropped vref yes, tt)))) in
    proved_at 𝓛 En hs c 𝓜 𝓡 (Goes-ref 𝓛 3 0 tt (plain (λ _. Nr)), (Goes-dropped 𝓛 3 (plain (λ _. usize)) yes (λ κs x f. refl), (Goes-dropped 𝓛 3 (plain (λ _. Pl)) yes (λ κs x f. refl), (Goes-dropped 𝓛 3 vref yes (λ κs x f. refl), tt)))) (#self inst) fn (code.unfolded 𝓤 H 𝓜 𝓡 wired (X, tt)) (λ z are.
    let κs = z.0.0 in let qs = z.0.1 in let κ : Lft = κs.0 in let q = qs.0 in let t₀ : Item 𝓤 = ‵ (flft κ q) in let ts : Item 𝓤 = ‵ (flft κs.1.0 qs.1.0) ⊛ ‵ (flft κs.1.1.0 qs.1.1.0) ⊛ ‵ ftrue in
    let Post : Val → SProp 𝓤 = (walk_of 𝓛 En hs c).post z in let Run : List Val → SProp 𝓤 = λ ws. prog.Wp.WpFn 𝓤 H 𝓣.C 𝓣.Λ fn ws Post in
    let self = z.0.3.0 in let dn : Nr.Denot = self.now in let rb : ℕ = self.ref_ptr.0 in let ro : ℕ = self.ref_ptr.1 in
    let k : ℕ = z.0.3.1.0 in let p : Ptr = z.0.3.1.1.0.ptr in let v = z.0.3.1.1.1.0 in
    let more : Nr.Denot = record { mark = dn.mark; rings = ring_push k (p, v.now) dn.rings } in let Told : Type 0 = more.rings ≡ ring_push k (p, v.now) dn.rings in
    qed 𝓛 (((t₀ ⊛ ts) ⊛ ‵ (owns (MutRef (named 0) κ Nr ∷ usize ∷ Pl ∷ ShrRef (named 1) κs.1.0 R ∷ []) z.0.3 z.0.4)) ∷ raw (fact 𝓤 (κs.1.1.0 ⊑ X.lives)) ∷ ‵ ftrue ∷ []) ∵
    split ! $ split ! $ move ! (2 ∷ []) $ fsplit ! $ fsplit3 ! $ feq_l ! (λ e0. move ! (2 ∷ []) $ fsplit ! $ fsplit ! $ feq_l ! (λ e1. flt_l ! (λ fits. fsplit ! $ word_had ! p z.0.4.1.1.0 (λ e2. fsplit ! $ fsplit ! $ feq_l ! (λ e3.
    -- [the loan; nothing; obs; bor; t₀; ts]
    keep ! (2 ∷ 3 ∷ 4 ∷ 5 ∷ []) $
    let us : List Val = vptr rb ro ∷ vint w64 k ∷ word p ∷ vptr v.ref_ptr.0 v.ref_ptr.1 ∷ [] in
    suffices ! (Run us) (subst (λ (ws : List Val). ent 𝓤 (Run us) (Run ws)) (sym (λ i. e0 i ++ (e1 i ++ (e2 i ++ (e3 i ++ []))))) (id⊢ 𝓤 (Run us))) $
    enter ! 𝓣.C 𝓣.Λ fn us Post $ alloc_all ! (λ l. pass_all ! refl ((tt, tt), ((tt, record { fits = fits }), (word-Good place.the_type.name p, ((tt, tt), tt)))) $
    opens ! tt Nr {h = dn} rb ro (λ vs. closes ! tt Nr more vs rb ro $
    sets ! (of_opd ! (unit_lit !)) refl (tt, tt) $
    returns ! (look_at ! 0 refl) $ free_all ! refl $
    -- [obs; bor; t₀; ts]
    feq_i ! (List Val) z.0.4.0 (vptr rb ro ∷ []) e0 $ fjoin3 ! $ nothing ! $ nothing ! $ fjoin ! $ nothing ! $ fjoin ! $ nothing ! $ fjoin ! $ move ! (1 ∷ 0 ∷ []) $ fjoin ! $ move ! (1 ∷ 2 ∷ []) $ join ! $
    use0 𝓛 (raw (fact 𝓤 Told)) (fact_i 𝓤 Told (emp 𝓤) refl) $
    feq_i ! (List Val) (vunit ∷ []) (vunit ∷ []) refl $ keep ! (2 ∷ 3 ∷ 0 ∷ 1 ∷ []) $ by ! (leaves 𝓛 En hs c z vunit tt (more, (tt, (tt, (tt, tt)))) (tt, (tt, (tt, (tt, tt)))))))))))))
