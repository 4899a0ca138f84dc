use Rattle.std.proofs.Common.{ap, sym, ◌∙◌, subst}
use Rattle.std.specs.Prelude.{⊤, is_some}
use Rattle.std.specs.Option.{option_copied}
use Rattle.link_lists.specs.Lists.{node_value}
use Rattle.link_lists.specs.Seen.{IsLone}
use Rattle.link_lists.proofs.Memory.{had}
use Rattle.link_lists.proofs.Changes.{IsIn-weaker, IsIn-both}
use Rattle.link_lists.proofs.Moved.{the_value}
use Rattle.link_lists.proofs.Lone.{lone}
use Rattle.link_lists.proofs.rings.Rings.get.Goals as goal

pub get-requires : goal.get-requires
get-requires g c = let i = c.self.inside in
    IsIn-weaker c.args.at.ptr i.heap.cells _ (λ _ _. ⊤) (λ _ _ _. tt) (the_value i.heap.cells i.ends.items i.note.rings c.self.invariant.kept c.args.at.ptr (rw c.self.view_is c.requires)).2

pub unwrap-requires : goal.unwrap-requires
unwrap-requires g c = let i = c.self.inside in let p = c.args.at.ptr in
    let x = the_value i.heap.cells i.ends.items i.note.rings c.self.invariant.kept p (rw c.self.view_is c.requires) in
    let k = had p i.heap.cells _ (IsIn-both p i.heap.cells _ _ c.get.ensures x.2) in
    c.as_ref.ensures.variant ∙ ap is_some (ap (λ m. m.value) k.2.0 ∙ k.2.1)

pub returns-clause-value : goal.returns-clause-value
returns-clause-value g c = let i = c.self.inside in let p = c.args.at.ptr in
    let x = the_value i.heap.cells i.ends.items i.note.rings c.self.invariant.kept p (rw c.self.view_is c.requires) in
    let k = had p i.heap.cells _ (IsIn-both p i.heap.cells _ _ c.get.ensures x.2) in
    ap (node_value p) (sym c.self.view_is) ∙ x.1 ∙ sym (ap (λ m. m.value) k.2.0 ∙ k.2.1) ∙ sym c.as_ref.ensures.value ∙ ap option_copied c.unwrap.ensures

pub returns-clause-lone : goal.returns-clause-lone
returns-clause-lone g c = let i = c.self.inside in subst (IsLone c.args.at.ptr) c.self.view_is (lone c.args.at.ptr i.note.rings c.self.invariant.kept.tied.out)
