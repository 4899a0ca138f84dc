use Rattle.std.proofs.Common.{sym, subst}
use Rattle.std.specs.Prelude.{⊤}
use Rattle.link_lists.specs.Cells.{IsIn}
use Rattle.link_lists.proofs.Memory.{had}
use Rattle.link_lists.proofs.Changes.{IsIn-both, IsIn-kept}
use Rattle.link_lists.proofs.member.unlink.Goals as goal

pub set_prev-requires : goal.set_prev-requires
set_prev-requires g c =
    let cs = c.args.heap.now.cells in
    let k = had _ _ _ (IsIn-both c.args.at.ptr cs _ _ c.link.ensures.read c.requires) in
    rw c.set_next.ensures.written (IsIn-kept c.link.result.1.ptr c.link.result.0.ptr (λ n. record n { next = c.link.result.1 }) cs (λ _ _. ⊤) (λ _ _ t. t) (subst (λ q. IsIn q.ptr cs (λ _ _. ⊤)) (sym k.2.0.1) k.2.1.1))
