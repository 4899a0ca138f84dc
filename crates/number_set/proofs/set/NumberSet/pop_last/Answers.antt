use Rattle.number_set.proofs.Searching.{popped}
use Rattle.number_set.proofs.Sorted.{rises_front}
use Rattle.number_set.proofs.set.NumberSet.pop_last.Goals as goal
use Rattle.number_set.specs.NumberSet.{NumberSet, Rises}
use Rattle.std.proofs.Common.{ap, arith, subst, sym, ◌∙◌}
use Rattle.std.specs.Prelude.{IfSome, None, Option, Some, length, option_to_list, slice_get, take, ℕ, ◌+◌, ◌-◌, ◌≡◌}
use Rattle.std.specs.Vec.{vec_len}

rest : (c : goal.After-pop) → c.pop.new.self.items ≡ take (length c.self.inside.items.items - 1) c.self.inside.items.items
rest c =
    let long : vec_len c.self.inside.items - 1 ≡ length c.self.inside.items.items - 1 = omega (arith, c.self.inside.items.ok.0) in
    c.pop.ensures.rest ∙ ap (λ n. take n c.self.inside.items.items) long

fewer_by : (r : Option ℕ) (m n : ℕ) → m + length (option_to_list r) ≡ n → IfSome r (λ x. m + 1 ≡ n)
fewer_by None m n e = tt
fewer_by (Some x) m n e = omega (arith, e)

pub invariant_of-self : goal.invariant_of-self
invariant_of-self c = record {
  order = subst Rises (sym (rest c)) (rises_front (length c.self.inside.items.items - 1) c.self.inside.items.items c.self.invariant.order);
  room = omega (arith, c.pop.new.self.ok.0, c.pop.new.self.ok.1);
}

pub returns-clause-last : goal.returns-clause-last
returns-clause-last c =
    popped c.self.inside.items.items c.pop.result (vec_len c.self.inside.items) (omega (arith, c.self.inside.items.ok.0)) c.pop.ensures.variant c.pop.ensures.value
    ∙ ap (λ (n : NumberSet). slice_get n.items (length n.items - 1)) c.self.view_is

pub returns-clause-items : goal.returns-clause-items
returns-clause-items c = rest c ∙ ap (λ (n : NumberSet). take (length n.items - 1) n.items) c.self.view_is

pub returns-clause-fewer : goal.returns-clause-fewer
returns-clause-fewer c =
    fewer_by c.pop.result (length c.pop.new.self.items) (length c.args.self.now.items)
    (omega (arith, c.pop.ensures.len, c.pop.new.self.ok.0, c.self.inside.items.ok.0, ap (λ (n : NumberSet). length n.items) c.self.view_is))
