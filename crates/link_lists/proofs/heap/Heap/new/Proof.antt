-- `new` owns nothing.
use Rattle.std.proofs.Common.{◌≡◌, [], ◌∷◌, refl}
use mir.Syntax.{a_type, dcons, dnil}
use mir.Val.{Val}
use mir.MapTy.{inst_fn}
use base.Logic.{SProp, emp}
use base.Fml.{ftrue, flft}
use types.Kit.{Item, ‵, raw, ◌⊛◌, ◌$◌, ◌∵◌, !, qed, by, keep, split, fjoin, use0}
use types.Run.{no_more, and_then, returns, enter}
use types.ByLocal.{alloc_all, pass_all, free_all, look_at, get, sets}
use types.Part.{agg}
use contract.Running.{tables}
use contract.Monad.{fact, fact_i}
use contract.BorrowLft.{◌⊑◌}
use denote.RattleType.{RattleType}
use denote.Steps.{nothing}
use denote.Param.{bounded}
use denote.Triple.Walked.{Stays, walk_of}
use Rattle.atomic_table.proofs.Walks.{proved_at, leaves}
use Rattle.std_alloc.proofs.BoxSteps.Form as box
use Rattle.link_lists.specs.contracts.heap.Heap as heap
use Rattle.link_lists.proofs.Memory.{Mark}
use Rattle.link_lists.proofs.Memory.{mark, mark_made}
use Rattle.link_lists.specs.contracts.heap.Heap.new.{ended, clauses}
use Rattle.link_lists.specs.contracts.heap.Heap.new.Key.{name as #self}
use Rattle.link_lists.proofs.heap.Heap.new.Statement.{statement}
use Rattle.link_lists.proofs.heap.Heap.new.Code as code

pub new_spec : {M : Type 1} → statement M
new_spec 𝓤 𝓛 𝓜 𝓡 wired X Z L LZ g d dd met md =
    let H = 𝓛.H in let 𝓣 = tables 𝓤 H 𝓜 𝓡 𝓡.env in let E : box.Bx = record { row = X; laws = L; al = record { row = Z; laws = LZ; g = g; d = d; drops = dd } } in
    let R : RattleType = box.R E in let P : RattleType = box.P E in let Hr : RattleType = heap.the_row R P g in
    let En = ended X Z g d dd in let inst = bounded (a_type ∷ a_type ∷ []) (X, (Z, tt)) (dcons d (dcons dd dnil)) in let fn = inst_fn inst code.function in let c = clauses X Z g d dd 𝓛 𝓜.mem 𝓡.returns in
    let hs : Stays En.signature.params En.kept = tt in
    proved_at 𝓛 En hs c 𝓜 𝓡 tt (#self inst) fn (code.unfolded 𝓤 H 𝓜 𝓡 wired (X, (Z, tt)) d dd) (λ z are.
    let κs = z.0.0 in let qs = z.0.1 in let alive : Item 𝓤 = ‵ (flft κs.0 qs.0) ⊛ ‵ (flft κs.1.0 qs.1.0) ⊛ ‵ ftrue in
    let inX = κs.0 ⊑ X.lives in let inZ = κs.1.0 ⊑ Z.lives in
    let Post : Val → SProp 𝓤 = (walk_of 𝓛 En hs c).post z in
    qed 𝓛 ((alive ⊛ ‵ ftrue) ∷ raw (fact 𝓤 inX) ∷ raw (fact 𝓤 inZ) ∷ ‵ ftrue ∷ []) ∵ split ! $ keep ! (0 ∷ []) $
    enter ! 𝓣.C 𝓣.Λ fn [] Post $ alloc_all ! (λ l. pass_all ! refl tt $
    let empty : Hr.Denot = record { mark = record {}; cells = [] } in
    sets ! (agg ! (no_more !)) refl (tt, tt) $ sets ! (agg ! (and_then ! (get ! refl) (no_more !))) refl (tt, (tt, tt)) $
    returns ! (look_at ! 0 refl) $ free_all ! refl $ keep ! (0 ∷ []) $
    nothing ! $ use0 𝓛 (‵ ((Mark R P g).own_val (tt, tt) (mark ∷ []))) (mark_made R P g 𝓛) $ fjoin ! $ nothing ! $
    use0 𝓛 (raw (fact 𝓤 (empty.cells ≡ []))) (fact_i 𝓤 (empty.cells ≡ []) (emp 𝓤) refl) $ keep ! (3 ∷ 1 ∷ 2 ∷ 0 ∷ []) $ by ! (leaves 𝓛 En hs c z mark empty tt tt)))
