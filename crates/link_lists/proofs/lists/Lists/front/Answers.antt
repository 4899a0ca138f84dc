use Rattle.std.proofs.Common.{◌≡◌, sym, refl, ◌∙◌, subst}
use Rattle.std.specs.Prelude.{None, Some, MatchOption}
use Rattle.std.specs.Option.{option_copied}
use Rattle.link_lists.proofs.Stored.{storing}
use Rattle.link_lists.proofs.Calls.{in_rings, no_first, the_first, inner}
use Rattle.link_lists.proofs.lists.Lists.front.Goals as goal

pub returns-in_err-place : goal.returns-in_err-place
returns-in_err-place g c = subst (λ o. MatchOption o (c.from_residual.result ≡ None) (λ n. option_copied c.from_residual.result ≡ Some n.1))
    (sym (no_first c.self.inside.rings c.args.self.now (storing c.self.inside.rings c.args.self.now c.self.view_is c.self.invariant) c.args.list c.in_err-place.ensures.first)) c.from_residual.ensures

pub get-requires : goal.get-requires
get-requires g c = let p = c.in_ok-place.place.ptr in
    let f = the_first c.self.inside.rings c.args.self.now (storing c.self.inside.rings c.args.self.now c.self.view_is c.self.invariant) c.args.list p c.in_ok-place.ensures.first c.in_ok-place.ensures.lone in in_rings c.self.inside.rings c.args.self.now (storing c.self.inside.rings c.args.self.now c.self.view_is c.self.invariant) p p refl f.3

pub returns : goal.returns
returns g c = let p = c.in_ok-place.place.ptr in
    let f = the_first c.self.inside.rings c.args.self.now (storing c.self.inside.rings c.args.self.now c.self.view_is c.self.invariant) c.args.list p c.in_ok-place.ensures.first c.in_ok-place.ensures.lone in
    subst (λ o. MatchOption o (c.as_ref.result ≡ None) (λ n. option_copied c.as_ref.result ≡ Some n.1)) (sym f.1)
    (c.as_ref.ensures.value ∙ inner c.get.result.now (Some f.0) (sym c.get.ensures.value ∙ f.2))
