use Rattle.std.proofs.Common.{◌≡◌, ap, sym, ◌∙◌, subst}
use Rattle.std.specs.Prelude.{⊤, Some, is_some}
use Rattle.link_lists.specs.Cells.{IsIn, write}
use Rattle.link_lists.specs.Lists.{push_at, pull_from, node_value}
use Rattle.link_lists.specs.Notes.{seen, ring_push, ring_pull}
use Rattle.link_lists.specs.Links.{inserted}
use Rattle.link_lists.specs.Kept.{Sound}
use Rattle.link_lists.proofs.Memory.{had}
use Rattle.link_lists.proofs.Changes.{IsIn-weaker, IsIn-both, changed}
use Rattle.link_lists.proofs.Pushed.{seen-push}
use Rattle.link_lists.proofs.Moved.{sides_in, the_value, Loose-pulled, seen-pull}
use Rattle.link_lists.proofs.Swapped.{swap_at, swap_end, swap_sound}
use Rattle.link_lists.proofs.rings.Rings.swap_as.Goals as goal

pub unlink-requires : goal.unlink-requires
unlink-requires g c = let i = c.self.inside in let p = c.args.at.ptr in sides_in i.heap.cells i.ends.items i.note.rings c.self.invariant.kept p (rw c.self.view_is c.requires.node)

pub get_mut-node-requires : goal.get_mut-node-requires
get_mut-node-requires g c = let i = c.self.inside in let p = c.args.at.ptr in
    IsIn-weaker p c.unlink.new.heap.cells _ (λ _ _. ⊤) (λ _ _ _. tt) (Loose-pulled i.heap.cells i.ends.items i.note.rings c.self.invariant.kept p (rw c.self.view_is c.requires.node) c.unlink.new.heap.cells c.unlink.ensures.written).value

pub link_before-requires-clause-at : goal.link_before-requires-clause-at
link_before-requires-clause-at g c = let i = c.self.inside in let p = c.args.at.ptr in let mid = c.unlink.new.heap.cells in
    subst (λ cs. IsIn p cs (λ _ _. ⊤)) (sym ((λ j. write p (record c.get_mut-node.result.now { value = c.replace-old.ensures.after j }) mid) ∙ changed p (λ m. record m { value = Some c.args.value }) mid c.get_mut-node.result.now c.get_mut-node.ensures.value))
    (swap_at i.heap.cells i.ends.items i.note.rings c.self.invariant.kept p (rw c.self.view_is c.requires.node) c.args.ring (rw c.self.view_is c.requires.ring) c.index-end.result.now c.index-end.ensures c.unlink.new.heap.cells c.unlink.ensures.written c.args.value)

pub link_before-requires-clause-end : goal.link_before-requires-clause-end
link_before-requires-clause-end g c = let i = c.self.inside in let p = c.args.at.ptr in let mid = c.unlink.new.heap.cells in let s = c.index-end.result.now.ptr in
    subst (λ cs. IsIn s cs (λ _ m. IsIn m.prev.ptr cs (λ _ _. ⊤))) (sym ((λ j. write p (record c.get_mut-node.result.now { value = c.replace-old.ensures.after j }) mid) ∙ changed p (λ m. record m { value = Some c.args.value }) mid c.get_mut-node.result.now c.get_mut-node.ensures.value))
    (swap_end i.heap.cells i.ends.items i.note.rings c.self.invariant.kept p (rw c.self.view_is c.requires.node) c.args.ring (rw c.self.view_is c.requires.ring) c.index-end.result.now c.index-end.ensures c.unlink.new.heap.cells c.unlink.ensures.written c.args.value)

pub unwrap-requires : goal.unwrap-requires
unwrap-requires g c = let i = c.self.inside in let p = c.args.at.ptr in let mid = c.unlink.new.heap.cells in
    let k = had p mid _ (IsIn-both p mid _ _ c.get_mut-node.ensures.value (Loose-pulled i.heap.cells i.ends.items i.note.rings c.self.invariant.kept p (rw c.self.view_is c.requires.node) mid c.unlink.ensures.written).value) in
    ap is_some (c.replace-old.ensures.value ∙ ap (λ m. m.value) k.2.0 ∙ k.2.1)

pub invariant_of-self : goal.invariant_of-self
invariant_of-self g c = let i = c.self.inside in let p = c.args.at.ptr in let mid = c.unlink.new.heap.cells in let s = c.index-end.result.now.ptr in let new = c.link_before.new.heap.cells in
    subst (λ rs. Sound new i.ends.items rs) (sym (c.push.ensures ∙ ap (ring_push c.args.ring (p, c.args.value)) c.pull.ensures))
    (swap_sound i.heap.cells i.ends.items i.note.rings c.self.invariant.kept p (rw c.self.view_is c.requires.node) c.args.ring (rw c.self.view_is c.requires.ring) c.index-end.result.now c.index-end.ensures c.unlink.new.heap.cells c.unlink.ensures.written c.args.value
    c.self.invariant.count new (subst (λ cs. IsIn s cs (λ _ m. new ≡ inserted m.prev.ptr p s cs))
    ((λ j. write p (record c.get_mut-node.result.now { value = c.replace-old.ensures.after j }) mid) ∙ changed p (λ m. record m { value = Some c.args.value }) mid c.get_mut-node.result.now c.get_mut-node.ensures.value)
    c.link_before.ensures.written))

pub returns-clause-value : goal.returns-clause-value
returns-clause-value g c = let i = c.self.inside in let p = c.args.at.ptr in let mid = c.unlink.new.heap.cells in
    let x = the_value i.heap.cells i.ends.items i.note.rings c.self.invariant.kept p (rw c.self.view_is c.requires.node) in
    let k = had p mid _ (IsIn-both p mid _ _ c.get_mut-node.ensures.value (Loose-pulled i.heap.cells i.ends.items i.note.rings c.self.invariant.kept p (rw c.self.view_is c.requires.node) mid c.unlink.ensures.written).value) in
    ap (node_value p) (sym c.self.view_is) ∙ x.1 ∙ sym (c.replace-old.ensures.value ∙ ap (λ m. m.value) k.2.0 ∙ k.2.1) ∙ c.unwrap.ensures

pub returns-clause-moved : goal.returns-clause-moved
returns-clause-moved g c = let i = c.self.inside in let p = c.args.at.ptr in let k = c.args.ring in
    ap seen (c.push.ensures ∙ ap (ring_push k (p, c.args.value)) c.pull.ensures) ∙ seen-push k (p, c.args.value) (ring_pull p i.note.rings)
    ∙ ap (push_at k (p, c.args.value)) (seen-pull p i.note.rings ∙ ap (pull_from p) c.self.view_is)
