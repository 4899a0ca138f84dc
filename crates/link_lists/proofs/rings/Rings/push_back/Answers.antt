use Rattle.std.proofs.Common.{◌≡◌, refl, sym, ap, ◌∙◌, subst}
use Rattle.std.specs.Prelude.{⊤, Some}
use Rattle.link_lists.specs.Cells.{IsIn}
use Rattle.link_lists.specs.Links.{inserted}
use Rattle.link_lists.specs.Notes.{seen}
use Rattle.link_lists.specs.Lists.{push_at, has_node}
use Rattle.link_lists.specs.Kept.{Sound}
use Rattle.link_lists.proofs.Opened.{in_more}
use Rattle.link_lists.proofs.Pushed.{written, at_in, end_in, end_is, seen-push, Sound-pushed}
use Rattle.link_lists.proofs.Lone.{fresh}
use Rattle.link_lists.proofs.rings.Rings.push_back.Goals as goal

pub get_mut-node-requires : goal.get_mut-node-requires
get_mut-node-requires g c = rw c.put.ensures.added (in_more c.self.inside.heap.cells c.put.result.0.ptr c.put.result.1 c.in-Ok.whole.value c.put.ensures.fresh (λ _ _. ⊤) tt)

pub link_before-requires-clause-at : goal.link_before-requires-clause-at
link_before-requires-clause-at g c =
    let i = c.self.inside in let p = c.put.result.0.ptr in let n = record c.get_mut-node.result.now { value = Some c.args.value } in
    subst (λ cs. IsIn p cs (λ _ _. ⊤)) (sym (written p c.put.result.1 c.in-Ok.whole.value n i.heap.cells c.put.new.self.cells c.put.ensures.added))
    (at_in i.heap.cells i.ends.items i.note.rings c.self.invariant.kept c.args.ring (rw c.self.view_is c.requires) p c.put.result.1 n c.put.ensures.fresh c.args.value refl)

pub link_before-requires-clause-end : goal.link_before-requires-clause-end
link_before-requires-clause-end g c =
    let i = c.self.inside in let p = c.put.result.0.ptr in let n = record c.get_mut-node.result.now { value = Some c.args.value } in let s = c.index-end.result.now.ptr in
    subst (λ cs. IsIn s cs (λ _ m. IsIn m.prev.ptr cs (λ _ _. ⊤))) (sym (written p c.put.result.1 c.in-Ok.whole.value n i.heap.cells c.put.new.self.cells c.put.ensures.added))
    (end_in i.heap.cells i.ends.items i.note.rings c.self.invariant.kept c.args.ring (rw c.self.view_is c.requires) p c.put.result.1 n c.put.ensures.fresh c.args.value refl s
    (ap (λ p. p.ptr) c.index-end.ensures ∙ end_is i.note.rings i.ends.items c.args.ring c.index-end.result.now c.self.invariant.kept.ends_are (rw c.self.view_is c.requires)))

pub invariant_of-self : goal.invariant_of-self
invariant_of-self g c = c.self.invariant

pub invariant_of-self-2 : goal.invariant_of-self-2
invariant_of-self-2 g c =
    let i = c.self.inside in let p = c.put.result.0.ptr in let n = record c.get_mut-node.result.now { value = Some c.args.value } in let s = c.index-end.result.now.ptr in let new = c.link_before.new.heap.cells in
    subst (λ rs. Sound new i.ends.items rs) (sym c.push.ensures)
    (Sound-pushed i.heap.cells i.ends.items i.note.rings c.self.invariant.kept c.args.ring (rw c.self.view_is c.requires) p c.put.result.1 n c.put.ensures.fresh c.args.value refl s new
    (ap (λ p. p.ptr) c.index-end.ensures ∙ end_is i.note.rings i.ends.items c.args.ring c.index-end.result.now c.self.invariant.kept.ends_are (rw c.self.view_is c.requires))
    (subst (λ cs. IsIn s cs (λ _ m. new ≡ inserted m.prev.ptr p s cs)) (written p c.put.result.1 c.in-Ok.whole.value n i.heap.cells c.put.new.self.cells c.put.ensures.added) c.link_before.ensures.written)
    c.self.invariant.count)

pub returns-clause-pushed : goal.returns-clause-pushed
returns-clause-pushed g c =
    let i = c.self.inside in
    ap seen c.push.ensures ∙ seen-push c.args.ring (c.put.result.0.ptr, c.args.value) i.note.rings ∙ ap (push_at c.args.ring (c.put.result.0.ptr, c.args.value)) c.self.view_is

pub returns-clause-fresh : goal.returns-clause-fresh
returns-clause-fresh g c =
    let i = c.self.inside in
    ap (has_node c.put.result.0.ptr) (sym c.self.view_is) ∙ fresh c.put.result.0.ptr i.heap.cells i.ends.items i.note.rings c.put.ensures.fresh c.self.invariant.kept
