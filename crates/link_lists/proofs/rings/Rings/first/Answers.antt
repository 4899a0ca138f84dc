use Rattle.std.proofs.Common.{◌≡◌, sym, ap, ◌∙◌, subst}
use Rattle.std.specs.Prelude.{MatchOption}
use Rattle.link_lists.specs.Lists.{front_of}
use Rattle.link_lists.specs.Seen.{IsLone}
use Rattle.link_lists.proofs.Pushed.{end_is}
use Rattle.link_lists.proofs.Fronts.{end_in, next_in, none_first, some_first}
use Rattle.link_lists.proofs.Lone.{lone}
use Rattle.link_lists.proofs.rings.Rings.first.Goals as goal

pub get-requires : goal.get-requires
get-requires g c = let i = c.self.inside in let k = c.args.ring in
    end_in i.heap.cells i.ends.items i.note.rings c.self.invariant.kept k (rw c.self.view_is c.requires) c.index-end.result.now.ptr
    (ap (λ p. p.ptr) c.index-end.ensures ∙ end_is i.note.rings i.ends.items k c.index-end.result.now c.self.invariant.kept.ends_are (rw c.self.view_is c.requires))

pub get-requires-2 : goal.get-requires-2
get-requires-2 g c = let i = c.self.inside in let k = c.args.ring in
    next_in i.heap.cells i.ends.items i.note.rings c.self.invariant.kept k (rw c.self.view_is c.requires) c.index-end.result.now.ptr
    (ap (λ p. p.ptr) c.index-end.ensures ∙ end_is i.note.rings i.ends.items k c.index-end.result.now c.self.invariant.kept.ends_are (rw c.self.view_is c.requires))
    c.get.result.now c.get.ensures

pub returns-then-is_some-clause-first : goal.returns-then-is_some-clause-first
returns-then-is_some-clause-first g c = let i = c.self.inside in let k = c.args.ring in
    let q = some_first i.heap.cells i.ends.items i.note.rings c.self.invariant.kept k (rw c.self.view_is c.requires) c.index-end.result.now.ptr
    (ap (λ p. p.ptr) c.index-end.ensures ∙ end_is i.note.rings i.ends.items k c.index-end.result.now c.self.invariant.kept.ends_are (rw c.self.view_is c.requires))
    c.get.result.now c.get.ensures c.get-2.result.now c.get-2.ensures (sym c.is_some.ensures ∙ c.if-is_some.true) in
    subst (λ o. MatchOption o ⊥ (λ n. n.0 ≡ c.get.result.now.next.ptr)) (sym (ap (front_of k) (sym c.self.view_is) ∙ q.1)) q.2

pub returns-then-is_some-clause-lone : goal.returns-then-is_some-clause-lone
returns-then-is_some-clause-lone g c = let i = c.self.inside in
    subst (IsLone c.get.result.now.next.ptr) c.self.view_is (lone c.get.result.now.next.ptr i.note.rings c.self.invariant.kept.tied.out)

pub returns-else-is_some-clause-first : goal.returns-else-is_some-clause-first
returns-else-is_some-clause-first g c = let i = c.self.inside in let k = c.args.ring in
    ap (front_of k) (sym c.self.view_is) ∙ none_first i.heap.cells i.ends.items i.note.rings c.self.invariant.kept k (rw c.self.view_is c.requires) c.index-end.result.now.ptr
    (ap (λ p. p.ptr) c.index-end.ensures ∙ end_is i.note.rings i.ends.items k c.index-end.result.now c.self.invariant.kept.ends_are (rw c.self.view_is c.requires))
    c.get.result.now c.get.ensures c.get-2.result.now c.get-2.ensures (sym c.is_some.ensures ∙ c.if-is_some.false)
