use Rattle.std.proofs.Common.{◌≡◌, refl, ap, sym, ◌∙◌, subst}
use Rattle.std.specs.Prelude.{IsSome}
use Rattle.link_lists.specs.Lists.{pull_from, node_value}
use Rattle.link_lists.specs.Notes.{seen, ring_pull}
use Rattle.link_lists.specs.Seen.{IsLone}
use Rattle.link_lists.proofs.Memory.{had}
use Rattle.link_lists.proofs.Changes.{IsIn-weaker, IsIn-both}
use Rattle.link_lists.proofs.Moved.{sides_in, the_value, seen-pull, Kept-pulled, Loose-pulled, count-pulled}
use Rattle.link_lists.proofs.Beside.{Sound-erased}
use Rattle.link_lists.proofs.Lone.{lone}
use Rattle.link_lists.proofs.rings.Rings.remove.Goals as goal

pub unlink-requires : goal.unlink-requires
unlink-requires g c = let i = c.self.inside in sides_in i.heap.cells i.ends.items i.note.rings c.self.invariant.kept c.args.at.ptr (rw c.self.view_is c.requires)

pub take-whole-requires : goal.take-whole-requires
take-whole-requires g c = let i = c.self.inside in let p = c.args.at.ptr in
    IsIn-weaker p c.unlink.new.heap.cells _ (λ a _. a ≡ i.alloc) (λ _ _ _. refl)
    (Loose-pulled i.heap.cells i.ends.items i.note.rings c.self.invariant.kept p (rw c.self.view_is c.requires) c.unlink.new.heap.cells c.unlink.ensures.written).value

pub unwrap-requires : goal.unwrap-requires
unwrap-requires g c = let i = c.self.inside in let p = c.args.at.ptr in let cs = c.unlink.new.heap.cells in
    let x = the_value i.heap.cells i.ends.items i.note.rings c.self.invariant.kept p (rw c.self.view_is c.requires) in
    let k = had p cs _ (IsIn-both p cs _ _ c.take-whole.ensures.value (Loose-pulled i.heap.cells i.ends.items i.note.rings c.self.invariant.kept p (rw c.self.view_is c.requires) cs c.unlink.ensures.written).value) in
    subst IsSome (sym (c.take-value.ensures.value ∙ ap (λ m. m.value) c.deref_mut.ensures.value ∙ ap (λ m. m.value) k.2.0 ∙ k.2.1)) refl

pub invariant_of-self : goal.invariant_of-self
invariant_of-self g c = let i = c.self.inside in let p = c.args.at.ptr in let cs = c.unlink.new.heap.cells in
    rw (c.take-whole.ensures.left, c.pull.ensures)
    (Sound-erased cs i.ends.items (ring_pull p i.note.rings) p (the_value i.heap.cells i.ends.items i.note.rings c.self.invariant.kept p (rw c.self.view_is c.requires)).0
    (Kept-pulled i.heap.cells i.ends.items i.note.rings c.self.invariant.kept p (rw c.self.view_is c.requires) cs c.unlink.ensures.written)
    (Loose-pulled i.heap.cells i.ends.items i.note.rings c.self.invariant.kept p (rw c.self.view_is c.requires) cs c.unlink.ensures.written)
    (count-pulled i.heap.cells i.ends.items i.note.rings c.self.invariant.kept p (rw c.self.view_is c.requires) cs c.unlink.ensures.written c.self.invariant.count))

pub returns-clause-value : goal.returns-clause-value
returns-clause-value g c = let i = c.self.inside in let p = c.args.at.ptr in let cs = c.unlink.new.heap.cells in
    let x = the_value i.heap.cells i.ends.items i.note.rings c.self.invariant.kept p (rw c.self.view_is c.requires) in
    let k = had p cs _ (IsIn-both p cs _ _ c.take-whole.ensures.value (Loose-pulled i.heap.cells i.ends.items i.note.rings c.self.invariant.kept p (rw c.self.view_is c.requires) cs c.unlink.ensures.written).value) in
    ap (node_value p) (sym c.self.view_is) ∙ x.1 ∙ sym k.2.1 ∙ ap (λ m. m.value) (sym k.2.0) ∙ ap (λ m. m.value) (sym c.deref_mut.ensures.value) ∙ sym c.take-value.ensures.value ∙ c.unwrap.ensures

pub returns-clause-left : goal.returns-clause-left
returns-clause-left g c = ap seen c.pull.ensures ∙ seen-pull c.args.at.ptr c.self.inside.note.rings ∙ ap (pull_from c.args.at.ptr) c.self.view_is

pub returns-clause-lone : goal.returns-clause-lone
returns-clause-lone g c = let i = c.self.inside in subst (IsLone c.args.at.ptr) c.self.view_is (lone c.args.at.ptr i.note.rings c.self.invariant.kept.tied.out)
