use Rattle.std.specs.Prelude.{⊤}
use Rattle.link_lists.proofs.Changes.{IsIn-weaker, IsIn-kept}
use Rattle.link_lists.proofs.member.link_before.Goals as goal

pub set_link-requires : goal.set_link-requires
set_link-requires g c = rw c.set_next.ensures.written (IsIn-kept c.args.at.ptr c.link.result.0.ptr (λ n. record n { next = c.args.at }) c.args.heap.now.cells (λ _ _. ⊤) (λ _ _ t. t) c.requires.at)

pub set_prev-requires : goal.set_prev-requires
set_prev-requires g c = rw c.set_link.ensures.written (rw c.set_next.ensures.written (
    IsIn-kept c.args.end.ptr c.args.at.ptr (λ n. record n { prev = c.link.result.0; next = c.args.end }) _ (λ _ _. ⊤) (λ _ _ t. t)
    (IsIn-kept c.args.end.ptr c.link.result.0.ptr (λ n. record n { next = c.args.at }) c.args.heap.now.cells (λ _ _. ⊤) (λ _ _ t. t)
    (IsIn-weaker c.args.end.ptr c.args.heap.now.cells _ (λ _ _. ⊤) (λ _ _ _. tt) c.requires.end))))
