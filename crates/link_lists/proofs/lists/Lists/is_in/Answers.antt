use Rattle.std.proofs.Common.{sym, ap, ◌∙◌}
use Rattle.std.specs.Prelude.{is_some, not, ◌||◌}
use Rattle.link_lists.specs.Lists.{has_node, contains_id}
use Rattle.link_lists.proofs.Memory.{either}
use Rattle.link_lists.proofs.Stored.{storing}
use Rattle.link_lists.proofs.Calls.{in_rings, aside_in, listed_value, retired_value}
use Rattle.link_lists.proofs.lists.Lists.is_in.Goals as goal

pub get-requires : goal.get-requires
get-requires g c = either (has_node c.args.node.now c.args.self.now.lists)
    (λ t. in_rings c.self.inside.rings c.args.self.now (storing c.self.inside.rings c.args.self.now c.self.view_is c.self.invariant) c.node.inside.place.ptr c.args.node.now c.node.view_is t)
    (λ f. aside_in c.self.inside.rings c.args.self.now (storing c.self.inside.rings c.args.self.now c.self.view_is c.self.invariant) c.node.inside.place.ptr c.args.node.now c.node.view_is (sym (ap (λ b. b || contains_id c.args.node.now c.args.self.now.retired) f) ∙ c.requires))

pub returns-clause-listed : goal.returns-clause-listed
returns-clause-listed g c = either (has_node c.args.node.now c.args.self.now.lists)
    (λ t. let v = listed_value c.self.inside.rings c.args.self.now (storing c.self.inside.rings c.args.self.now c.self.view_is c.self.invariant) c.node.inside.place.ptr c.args.node.now c.node.view_is c.get.ensures.lone t c.get.result.now c.get.ensures.value in c.is_some.ensures ∙ ap is_some v.1 ∙ sym t)
    (λ f. let v = retired_value c.self.inside.rings c.args.self.now (storing c.self.inside.rings c.args.self.now c.self.view_is c.self.invariant) c.node.inside.place.ptr c.args.node.now c.node.view_is c.get.ensures.lone (sym (ap (λ b. b || contains_id c.args.node.now c.args.self.now.retired) f) ∙ c.requires) c.get.result.now c.get.ensures.value in c.is_some.ensures ∙ ap is_some v.0 ∙ sym f)

pub returns-clause-retired : goal.returns-clause-retired
returns-clause-retired g c = either (has_node c.args.node.now c.args.self.now.lists)
    (λ t. let v = listed_value c.self.inside.rings c.args.self.now (storing c.self.inside.rings c.args.self.now c.self.view_is c.self.invariant) c.node.inside.place.ptr c.args.node.now c.node.view_is c.get.ensures.lone t c.get.result.now c.get.ensures.value in c.is_some.ensures ∙ ap is_some v.1 ∙ sym (ap not v.2))
    (λ f. let r = sym (ap (λ b. b || contains_id c.args.node.now c.args.self.now.retired) f) ∙ c.requires in
    let v = retired_value c.self.inside.rings c.args.self.now (storing c.self.inside.rings c.args.self.now c.self.view_is c.self.invariant) c.node.inside.place.ptr c.args.node.now c.node.view_is c.get.ensures.lone r c.get.result.now c.get.ensures.value in c.is_some.ensures ∙ ap is_some v.0 ∙ sym (ap not r))
