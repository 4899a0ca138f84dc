-- `new` notes no rings.
use Rattle.std.proofs.Common.{◌≡◌, [], ◌∷◌, refl}
use mir.Syntax.{a_type}
use mir.Val.{Val, vptr, vstruct, vcons, vnil, of_list, has_ty, WT}
use mir.MapTy.{inst_fn}
use base.Logic.{SProp, emp}
use base.Fml.{ftrue, flft}
use types.Kit.{Item, ‵, raw, ◌⊛◌, ◌$◌, ◌∵◌, !, qed, by, keep, split, fjoin, use0}
use types.Run.{no_more, and_then, returns, enter}
use types.ByLocal.{alloc_all, pass_all, free_all, look_at, get, sets}
use types.Part.{agg}
use contract.Running.{tables}
use contract.Monad.{fact, fact_i}
use contract.BorrowLft.{◌⊑◌}
use denote.RattleType.{RattleType}
use denote.Steps.{nothing}
use denote.Param.{layouts}
use denote.Struct.Owning.{shape}
use denote.Triple.Walked.{Stays, walk_of}
use Rattle.atomic_table.proofs.Walks.{proved_at, leaves}
use denote.Param.{param}
use denote.Shadow.{makes_shadow}
use denote.Struct.Struct.{Struct}
use Rattle.link_lists.proofs.Memory.{mark}
use Rattle.link_lists.specs.contracts.note.Note as note
use Rattle.link_lists.specs.contracts.note.Note.new.{ended, clauses}
use Rattle.link_lists.specs.contracts.note.Note.new.Key.{name as #self}
use Rattle.link_lists.proofs.note.Note.new.Statement.{statement}
use Rattle.link_lists.proofs.note.Note.new.Code as code

pub new_spec : {M : Type 1} → statement M
new_spec 𝓤 𝓛 𝓜 𝓡 wired X L =
    let H = 𝓛.H in let 𝓣 = tables 𝓤 H 𝓜 𝓡 𝓡.env in let R : RattleType = param 0 X in let Nr : RattleType = note.the_row R in
    let En = ended X in let inst = layouts (a_type ∷ []) (X, tt) in let fn = inst_fn inst code.function in let c = clauses X 𝓛 𝓜.mem 𝓡.returns in
    let hs : Stays En.signature.params En.kept = tt in let Data = Struct (shape (note.the_type R)) in
    proved_at 𝓛 En hs c 𝓜 𝓡 tt (#self inst) fn (code.unfolded 𝓤 H 𝓜 𝓡 wired (X, tt)) (λ z are.
    let κs = z.0.0 in let qs = z.0.1 in let alive : Item 𝓤 = ‵ (flft κs.0 qs.0) ⊛ ‵ ftrue in
    let Post : Val → SProp 𝓤 = (walk_of 𝓛 En hs c).post z in
    qed 𝓛 ((alive ⊛ ‵ ftrue) ∷ raw (fact 𝓤 (κs.0 ⊑ X.lives)) ∷ ‵ ftrue ∷ []) ∵ split ! $ keep ! (0 ∷ []) $
    enter ! 𝓣.C 𝓣.Λ fn [] Post $ alloc_all ! (λ l. pass_all ! refl tt $
    let empty : Nr.Denot = record { mark = record {}; rings = [] } in
    sets ! (agg ! (no_more !)) refl (tt, tt) $ sets ! (agg ! (and_then ! (get ! refl) (no_more !))) refl (tt, (tt, tt)) $
    returns ! (look_at ! 0 refl) $ free_all ! refl $ keep ! (0 ∷ []) $
    nothing ! $ use0 𝓛 (‵ (Data.own_val (tt, tt) (mark ∷ []))) (makes_shadow 𝓛 (Data.own_val (tt, tt) (mark ∷ [])) (λ vss. (tt, ((λ uss. (tt, tt)), tt))) ((mir.Val.vstruct mir.Val.vnil ∷ [], tt), (refl, ((tt, (refl, tt)), tt)))) $ fjoin ! $ nothing ! $
    use0 𝓛 (raw (fact 𝓤 (empty.rings ≡ []))) (fact_i 𝓤 (empty.rings ≡ []) (emp 𝓤) refl) $ keep ! (3 ∷ 1 ∷ 2 ∷ 0 ∷ []) $ by ! (leaves 𝓛 En hs c z mark empty tt tt)))
