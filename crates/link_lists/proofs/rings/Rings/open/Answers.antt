use Rattle.std.proofs.Common.{◌≡◌, [], ◌∷◌, ◌++◌, refl, ap, sym, ◌∙◌, subst}
use Rattle.std.specs.Prelude.{⊤}
use Rattle.link_lists.specs.Links.{change}
use Rattle.link_lists.specs.Kept.{Sound}
use Rattle.link_lists.proofs.Changes.{changed}
use Rattle.link_lists.proofs.Opened.{in_more, back_again, Sound-opened}
use Rattle.link_lists.proofs.rings.Rings.open.Goals as goal

pub take-requires : goal.take-requires
take-requires g c = rw c.put.ensures.added (in_more c.self.inside.heap.cells c.put.result.0.ptr c.put.result.1 c.in_ok-end.end.value c.put.ensures.fresh (λ a _. a ≡ c.self.inside.alloc) refl)

pub invariant_of-self : goal.invariant_of-self
invariant_of-self g c = let i = c.self.inside in
    rw (c.take.ensures.left, c.put.ensures.added, c.push.ensures.items, c.if-is_err.ensures.negation)
    (subst (λ cs. Sound cs i.ends.items i.note.rings) (sym (back_again i.heap.cells c.put.result.0.ptr c.put.result.1 c.in_ok-end.end.value c.put.ensures.fresh)) c.self.invariant)

pub get_mut-end-requires : goal.get_mut-end-requires
get_mut-end-requires g c = rw c.put.ensures.added (in_more c.self.inside.heap.cells c.put.result.0.ptr c.put.result.1 c.in_ok-end.end.value c.put.ensures.fresh (λ _ _. ⊤) tt)

pub invariant_of-self-2 : goal.invariant_of-self-2
invariant_of-self-2 g c = let i = c.self.inside in let p = c.put.result.0.ptr in let n = c.in_ok-end.end.value in
    rw (c.open.ensures, c.push.ensures.items, c.if-is_err.ensures.negation)
    (subst (λ cs. Sound cs (i.ends.items ++ c.put.result.0 ∷ []) (i.note.rings ++ (p, []) ∷ []))
    (sym (changed p (λ m. record m { prev = c.put.result.0; next = c.put.result.0 }) c.put.new.self.cells c.get_mut-end.result.now c.get_mut-end.ensures.value
    ∙ ap (change p (λ m. record m { prev = c.put.result.0; next = c.put.result.0 })) c.put.ensures.added))
    (Sound-opened i.heap.cells p c.put.result.1 n c.put.ensures.fresh i.ends.items i.note.rings (ap (λ m. m.value) c.in_ok-end.ensures.ok) c.self.invariant))
