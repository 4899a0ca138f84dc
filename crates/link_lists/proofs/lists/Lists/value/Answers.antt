use Rattle.std.proofs.Common.{sym, ap, ◌∙◌}
use Rattle.std.specs.Prelude.{is_some}
use Rattle.std.specs.Option.{option_copied}
use Rattle.link_lists.proofs.Stored.{storing}
use Rattle.link_lists.proofs.Calls.{in_rings, value_there}
use Rattle.link_lists.proofs.lists.Lists.value.Goals as goal

pub get-requires : goal.get-requires
get-requires g c = in_rings c.self.inside.rings c.args.self.now (storing c.self.inside.rings c.args.self.now c.self.view_is c.self.invariant) c.node.inside.place.ptr c.args.node.now c.node.view_is c.requires

pub unwrap-requires : goal.unwrap-requires
unwrap-requires g c = c.as_ref.ensures.variant ∙ ap is_some (value_there c.self.inside.rings c.args.self.now (storing c.self.inside.rings c.args.self.now c.self.view_is c.self.invariant) c.node.inside.place.ptr c.args.node.now c.node.view_is c.get.ensures.lone c.requires c.get.result.now c.get.ensures.value).2

pub returns : goal.returns
returns g c = let v = value_there c.self.inside.rings c.args.self.now (storing c.self.inside.rings c.args.self.now c.self.view_is c.self.invariant) c.node.inside.place.ptr c.args.node.now c.node.view_is c.get.ensures.lone c.requires c.get.result.now c.get.ensures.value in v.1 ∙ sym v.2 ∙ sym c.as_ref.ensures.value ∙ ap option_copied c.unwrap.ensures
