use Rattle.std.proofs.Common.{◌≡◌, ap, sym, ◌∙◌, subst}
use Rattle.std.specs.Prelude.{MatchOption}
use Rattle.link_lists.specs.Lists.{push_at, pull_from, node_value}
use Rattle.link_lists.specs.Notes.{seen, ring_put, ring_pull}
use Rattle.link_lists.specs.Kept.{Sound}
use Rattle.link_lists.specs.Seen.{IsLone}
use Rattle.link_lists.proofs.Pushed.{seen-push}
use Rattle.link_lists.proofs.Moved.{sides_in, the_value, move_at, move_end, move_sound, seen-pull}
use Rattle.link_lists.proofs.Lone.{lone}
use Rattle.link_lists.proofs.rings.Rings.move_back.Goals as goal

pub unlink-requires : goal.unlink-requires
unlink-requires g c = let i = c.self.inside in sides_in i.heap.cells i.ends.items i.note.rings c.self.invariant.kept c.args.at.ptr (rw c.self.view_is c.requires.node)

pub link_before-requires-clause-at : goal.link_before-requires-clause-at
link_before-requires-clause-at g c = let i = c.self.inside in
    move_at i.heap.cells i.ends.items i.note.rings c.self.invariant.kept c.args.at.ptr (rw c.self.view_is c.requires.node) c.args.ring (rw c.self.view_is c.requires.ring) c.index-end.result.now c.index-end.ensures c.unlink.new.heap.cells c.unlink.ensures.written

pub link_before-requires-clause-end : goal.link_before-requires-clause-end
link_before-requires-clause-end g c = let i = c.self.inside in
    move_end i.heap.cells i.ends.items i.note.rings c.self.invariant.kept c.args.at.ptr (rw c.self.view_is c.requires.node) c.args.ring (rw c.self.view_is c.requires.ring) c.index-end.result.now c.index-end.ensures c.unlink.new.heap.cells c.unlink.ensures.written

pub invariant_of-self : goal.invariant_of-self
invariant_of-self g c = let i = c.self.inside in let p = c.args.at.ptr in let k = c.args.ring in
    let x = the_value i.heap.cells i.ends.items i.note.rings c.self.invariant.kept p (rw c.self.view_is c.requires.node) in
    subst (λ rs. Sound c.link_before.new.heap.cells i.ends.items rs) (sym (c.shift.ensures ∙ ap (λ o. ring_put k p o (ring_pull p i.note.rings)) x.1))
    (move_sound i.heap.cells i.ends.items i.note.rings c.self.invariant.kept p (rw c.self.view_is c.requires.node) k (rw c.self.view_is c.requires.ring) c.index-end.result.now c.index-end.ensures c.unlink.new.heap.cells c.unlink.ensures.written
    c.self.invariant.count c.link_before.new.heap.cells c.link_before.ensures.written)

pub returns-clause-moved : goal.returns-clause-moved
returns-clause-moved g c = let i = c.self.inside in let p = c.args.at.ptr in let k = c.args.ring in
    let x = the_value i.heap.cells i.ends.items i.note.rings c.self.invariant.kept p (rw c.self.view_is c.requires.node) in
    subst (λ o. MatchOption o ⊥ (λ v. seen c.shift.new.self.rings ≡ push_at k (p, v) (pull_from p c.args.self.now))) (sym (ap (node_value p) (sym c.self.view_is) ∙ x.1))
    (ap seen (c.shift.ensures ∙ ap (λ o. ring_put k p o (ring_pull p i.note.rings)) x.1) ∙ seen-push k (p, x.0) (ring_pull p i.note.rings)
    ∙ ap (push_at k (p, x.0)) (seen-pull p i.note.rings ∙ ap (pull_from p) c.self.view_is))

pub returns-clause-lone : goal.returns-clause-lone
returns-clause-lone g c = let i = c.self.inside in subst (IsLone c.args.at.ptr) c.self.view_is (lone c.args.at.ptr i.note.rings c.self.invariant.kept.tied.out)
