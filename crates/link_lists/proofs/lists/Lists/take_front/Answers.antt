use Rattle.std.proofs.Common.{◌≡◌, refl, sym, ◌∙◌, subst, [], ◌∷◌, ◌++◌}
use Rattle.std.specs.Prelude.{⊤, Some, MatchOption}
use Rattle.link_lists.specs.Lists.{pull_from}
use Rattle.link_lists.specs.Seen.{shown}
use Rattle.link_lists.proofs.Stored.{storing, shows, steady}
use Rattle.link_lists.proofs.Calls.{in_rings, no_first, the_first, put_aside, inner}
use Rattle.link_lists.proofs.lists.Lists.take_front.Goals as goal

pub returns-in_err-place-clause-some : goal.returns-in_err-place-clause-some
returns-in_err-place-clause-some g c = subst (λ o. MatchOption o ⊤ (λ n. (c.from_residual.result ≡ Some n.1) × (c.args.self.now ≡ record { lists = pull_from n.0 c.args.self.now.lists; retired = c.args.self.now.retired ++ n.0 ∷ [] })))
    (sym (no_first c.self.inside.rings c.args.self.now (storing c.self.inside.rings c.args.self.now c.self.view_is c.self.invariant) c.args.list c.in_err-place.ensures.first)) tt

pub swap_back-requires-clause-node : goal.swap_back-requires-clause-node
swap_back-requires-clause-node g c = let p = c.in_ok-place.place.ptr in
    let f = the_first c.self.inside.rings c.args.self.now (storing c.self.inside.rings c.args.self.now c.self.view_is c.self.invariant) c.args.list p c.in_ok-place.ensures.first c.in_ok-place.ensures.lone in in_rings c.self.inside.rings c.args.self.now (storing c.self.inside.rings c.args.self.now c.self.view_is c.self.invariant) p p refl f.3

pub invariant_of-self : goal.invariant_of-self
invariant_of-self g c = let p = c.in_ok-place.place.ptr in let s = c.args.self.now in
    let f = the_first c.self.inside.rings s (storing c.self.inside.rings c.args.self.now c.self.view_is c.self.invariant) c.args.list p c.in_ok-place.ensures.first c.in_ok-place.ensures.lone in
    steady c.swap_back.new.self (record { lists = pull_from p s.lists; retired = s.retired ++ p ∷ [] }) (put_aside c.self.inside.rings s (storing c.self.inside.rings c.args.self.now c.self.view_is c.self.invariant) p c.in_ok-place.ensures.lone f.3 c.swap_back.new.self c.swap_back.ensures.moved)

pub returns-clause-none : goal.returns-clause-none
returns-clause-none g c = λ e. let p = c.in_ok-place.place.ptr in
    let f = the_first c.self.inside.rings c.args.self.now (storing c.self.inside.rings c.args.self.now c.self.view_is c.self.invariant) c.args.list p c.in_ok-place.ensures.first c.in_ok-place.ensures.lone in let h = sym e ∙ f.1 in absurd (cc)

pub returns-clause-some : goal.returns-clause-some
returns-clause-some g c = let p = c.in_ok-place.place.ptr in let s = c.args.self.now in
    let f = the_first c.self.inside.rings s (storing c.self.inside.rings c.args.self.now c.self.view_is c.self.invariant) c.args.list p c.in_ok-place.ensures.first c.in_ok-place.ensures.lone in
    subst (λ o. MatchOption o ⊤ (λ n. (c.swap_back.result ≡ Some n.1) × (shown c.swap_back.new.self ≡ record { lists = pull_from n.0 s.lists; retired = s.retired ++ n.0 ∷ [] }))) (sym f.1) (
      inner c.swap_back.result (Some f.0) (sym c.swap_back.ensures.value ∙ f.2),
      shows c.swap_back.new.self (record { lists = pull_from p s.lists; retired = s.retired ++ p ∷ [] }) (put_aside c.self.inside.rings s (storing c.self.inside.rings c.args.self.now c.self.view_is c.self.invariant) p c.in_ok-place.ensures.lone f.3 c.swap_back.new.self c.swap_back.ensures.moved),
    )
