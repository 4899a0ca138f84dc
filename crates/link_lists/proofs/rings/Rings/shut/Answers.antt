use Rattle.std.proofs.Common.{◌≡◌, refl, ap, ◌∙◌, ◌+◌, ◌<◌, suc, length, arith}
use Rattle.std.specs.Option.{option_to_list}
use Rattle.std.specs.Prelude.{◌++◌}
use Rattle.link_lists.specs.Notes.{seen}
use Rattle.link_lists.proofs.Changes.{IsIn-weaker}
use Rattle.link_lists.proofs.Fronts.{ends_len}
use Rattle.link_lists.proofs.Shut.{how_many, one_fewer, end_there, Sound-less}
use Rattle.link_lists.proofs.rings.Rings.shut.Goals as goal

pub unwrap-end-requires : goal.unwrap-end-requires
unwrap-end-requires g c = let i = c.self-2.inside in
    let v : length (seen c.self.inside.note.rings) ≡ length c.args.self.now = ap length c.self.view_is in
    let l = ends_len c.self.inside.note.rings c.self.inside.ends.items c.self.invariant.kept.ends_are in let m = c.self.inside.ends.ok.0 in let w = c.in-Some.ensures in
    let n : length c.args.self.now ≡ suc c.in-Some.last = omega (arith, v, l, m, w, c.len.ensures) in
    let h = how_many i.heap.cells i.ends.items i.note.rings c.self-2.invariant c.in-Some.last c.args.self.now (c.self-2.view_is ∙ c.clear.ensures) n in let o = i.ends.ok.0 in
    let low : 0 < i.ends.len = omega (arith, h, o) in c.pop.ensures.variant.1 low

pub take-requires : goal.take-requires
take-requires g c = let i = c.self-2.inside in
    let v : length (seen c.self.inside.note.rings) ≡ length c.args.self.now = ap length c.self.view_is in
    let l = ends_len c.self.inside.note.rings c.self.inside.ends.items c.self.invariant.kept.ends_are in let m = c.self.inside.ends.ok.0 in let w = c.in-Some.ensures in
    let n : length c.args.self.now ≡ suc c.in-Some.last = omega (arith, v, l, m, w, c.len.ensures) in
    IsIn-weaker c.unwrap-end.result.ptr i.heap.cells _ (λ a _. a ≡ i.alloc) (λ _ _ _. refl) (end_there i.heap.cells i.ends.items i.note.rings c.self-2.invariant c.in-Some.last c.args.self.now (c.self-2.view_is ∙ c.clear.ensures) n c.pop.new.self.items c.unwrap-end.result (c.pop.ensures.items ∙ ap (λ o. c.pop.new.self.items ++ option_to_list o) c.unwrap-end.ensures))

pub invariant_of-self : goal.invariant_of-self
invariant_of-self g c = let i = c.self-2.inside in
    let v : length (seen c.self.inside.note.rings) ≡ length c.args.self.now = ap length c.self.view_is in
    let l = ends_len c.self.inside.note.rings c.self.inside.ends.items c.self.invariant.kept.ends_are in let m = c.self.inside.ends.ok.0 in let w = c.in-Some.ensures in
    let n : length c.args.self.now ≡ suc c.in-Some.last = omega (arith, v, l, m, w, c.len.ensures) in
    rw (c.take.ensures.left, c.shut.ensures) (Sound-less i.heap.cells i.ends.items i.note.rings c.self-2.invariant c.in-Some.last c.args.self.now (c.self-2.view_is ∙ c.clear.ensures) n c.pop.new.self.items c.unwrap-end.result (c.pop.ensures.items ∙ ap (λ o. c.pop.new.self.items ++ option_to_list o) c.unwrap-end.ensures))

pub returns : goal.returns
returns g c = let i = c.self-2.inside in
    let v : length (seen c.self.inside.note.rings) ≡ length c.args.self.now = ap length c.self.view_is in
    let l = ends_len c.self.inside.note.rings c.self.inside.ends.items c.self.invariant.kept.ends_are in let m = c.self.inside.ends.ok.0 in let w = c.in-Some.ensures in
    let n : length c.args.self.now ≡ suc c.in-Some.last = omega (arith, v, l, m, w, c.len.ensures) in
    ap (λ rs. length (seen rs) + 1) c.shut.ensures ∙ one_fewer i.heap.cells i.ends.items i.note.rings c.self-2.invariant c.in-Some.last c.args.self.now (c.self-2.view_is ∙ c.clear.ensures) n
