use Rattle.std.proofs.Common.{ap, arith, subst, sym, ◌∙◌}
use Rattle.std.specs.Prelude.{false, true}
use Rattle.number_set.proofs.Counted.{count_of, members_of}
use Rattle.number_set.proofs.Searching.{has_gap, marked_found, marked_gap, marked_in, marked_out}
use Rattle.number_set.proofs.Sorted.{rises_marked}
use Rattle.number_set.proofs.set.NumberSet.mark.Goals as goal
use Rattle.number_set.specs.NumberSet.{IsFoundAt, IsGapAt, NumberSet, Rises, marked}

pub place_in-requires : goal.place_in-requires
place_in-requires c = subst Rises (sym c.as_slice.ensures.value) c.self.invariant.order

pub invariant_of-self : goal.invariant_of-self
invariant_of-self c =
    let found : IsFoundAt c.self.inside.items.items c.args.number c.in-Ok.index =
    subst (λ xs. IsFoundAt xs c.args.number c.in-Ok.index) c.as_slice.ensures.value c.in-Ok.ensures in
    record {
      order = subst Rises (sym (c.take_out.ensures.items ∙ marked_out c.self.inside.items.items c.args.number c.in-Ok.index found c.self.invariant.order)) (rises_marked c.self.inside.items.items c.args.number false c.self.invariant.order);
      room = omega (arith, c.take_out.new.items.ok.0, c.take_out.new.items.ok.1);
    }

pub take_out-requires : goal.take_out-requires
take_out-requires c =
    let found : IsFoundAt c.self.inside.items.items c.args.number c.in-Ok.index =
    subst (λ xs. IsFoundAt xs c.args.number c.in-Ok.index) c.as_slice.ensures.value c.in-Ok.ensures in
    found.within

pub put_in-requires-clause-within : goal.put_in-requires-clause-within
put_in-requires-clause-within c =
    let gap : IsGapAt c.self.inside.items.items c.args.number c.in-Err.index =
    subst (λ xs. IsGapAt xs c.args.number c.in-Err.index) c.as_slice.ensures.value c.in-Err.ensures in
    gap.within

pub put_in-requires-clause-room : goal.put_in-requires-clause-room
put_in-requires-clause-room c =
    let gap : IsGapAt c.self.inside.items.items c.args.number c.in-Err.index =
    subst (λ xs. IsGapAt xs c.args.number c.in-Err.index) c.as_slice.ensures.value c.in-Err.ensures in
    (rw (← c.self.view_is) at c.requires) c.if-is_there.true (has_gap c.self.inside.items.items c.args.number c.in-Err.index gap.below gap.above)

pub invariant_of-self-then-is_there : goal.invariant_of-self-then-is_there
invariant_of-self-then-is_there c =
    let gap : IsGapAt c.self.inside.items.items c.args.number c.in-Err.index =
    subst (λ xs. IsGapAt xs c.args.number c.in-Err.index) c.as_slice.ensures.value c.in-Err.ensures in
    record {
      order = subst Rises (sym (c.put_in.ensures.items ∙ marked_in c.self.inside.items.items c.args.number c.in-Err.index gap)) (rises_marked c.self.inside.items.items c.args.number true c.self.invariant.order);
      room = omega (arith, c.put_in.new.items.ok.0, c.put_in.new.items.ok.1);
    }

pub returns-in-Ok-clause-items : goal.returns-in-Ok-clause-items
returns-in-Ok-clause-items c =
    let found : IsFoundAt c.self.inside.items.items c.args.number c.in-Ok.index =
    subst (λ xs. IsFoundAt xs c.args.number c.in-Ok.index) c.as_slice.ensures.value c.in-Ok.ensures in
    c.take_out.ensures.items ∙ marked_out c.self.inside.items.items c.args.number c.in-Ok.index found c.self.invariant.order
    ∙ ap (λ b. marked c.args.number b c.self.inside.items.items) (sym c.if-not-is_there.true)
    ∙ ap (λ (n : NumberSet). marked c.args.number c.args.is_there n.items) c.self.view_is

pub returns-else-not-is_there-clause-items : goal.returns-else-not-is_there-clause-items
returns-else-not-is_there-clause-items c =
    let found : IsFoundAt c.self.inside.items.items c.args.number c.in-Ok.index =
    subst (λ xs. IsFoundAt xs c.args.number c.in-Ok.index) c.as_slice.ensures.value c.in-Ok.ensures in
    ap (λ (n : NumberSet). n.items) (sym c.self.view_is) ∙ sym (marked_found c.self.inside.items.items c.args.number c.in-Ok.index found c.self.invariant.order)
    ∙ ap (λ b. marked c.args.number b c.self.inside.items.items) (sym c.if-not-is_there.false)
    ∙ ap (λ (n : NumberSet). marked c.args.number c.args.is_there n.items) c.self.view_is

pub returns-in-Err-clause-items : goal.returns-in-Err-clause-items
returns-in-Err-clause-items c =
    let gap : IsGapAt c.self.inside.items.items c.args.number c.in-Err.index =
    subst (λ xs. IsGapAt xs c.args.number c.in-Err.index) c.as_slice.ensures.value c.in-Err.ensures in
    c.put_in.ensures.items ∙ marked_in c.self.inside.items.items c.args.number c.in-Err.index gap
    ∙ ap (λ b. marked c.args.number b c.self.inside.items.items) (sym c.if-is_there.true)
    ∙ ap (λ (n : NumberSet). marked c.args.number c.args.is_there n.items) c.self.view_is

pub returns-else-is_there-clause-items : goal.returns-else-is_there-clause-items
returns-else-is_there-clause-items c =
    let gap : IsGapAt c.self.inside.items.items c.args.number c.in-Err.index =
    subst (λ xs. IsGapAt xs c.args.number c.in-Err.index) c.as_slice.ensures.value c.in-Err.ensures in
    ap (λ (n : NumberSet). n.items) (sym c.self.view_is) ∙ sym (marked_gap c.self.inside.items.items c.args.number c.in-Err.index gap c.self.invariant.order)
    ∙ ap (λ b. marked c.args.number b c.self.inside.items.items) (sym c.if-is_there.false)
    ∙ ap (λ (n : NumberSet). marked c.args.number c.args.is_there n.items) c.self.view_is

pub returns-in-Ok-clause-members : goal.returns-in-Ok-clause-members
returns-in-Ok-clause-members c = members_of c.args.self.now.items c.take_out.new.items.items c.args.number c.args.is_there (subst (λ (n : NumberSet). Rises n.items) c.self.view_is c.self.invariant.order) (returns-in-Ok-clause-items c)

pub returns-in-Ok-clause-len : goal.returns-in-Ok-clause-len
returns-in-Ok-clause-len c = count_of c.args.self.now.items c.take_out.new.items.items c.args.number c.args.is_there (subst (λ (n : NumberSet). Rises n.items) c.self.view_is c.self.invariant.order) (returns-in-Ok-clause-items c)

pub returns-else-not-is_there-clause-members : goal.returns-else-not-is_there-clause-members
returns-else-not-is_there-clause-members c = members_of c.args.self.now.items c.args.self.now.items c.args.number c.args.is_there (subst (λ (n : NumberSet). Rises n.items) c.self.view_is c.self.invariant.order) (returns-else-not-is_there-clause-items c)

pub returns-else-not-is_there-clause-len : goal.returns-else-not-is_there-clause-len
returns-else-not-is_there-clause-len c = count_of c.args.self.now.items c.args.self.now.items c.args.number c.args.is_there (subst (λ (n : NumberSet). Rises n.items) c.self.view_is c.self.invariant.order) (returns-else-not-is_there-clause-items c)

pub returns-in-Err-clause-members : goal.returns-in-Err-clause-members
returns-in-Err-clause-members c = members_of c.args.self.now.items c.put_in.new.items.items c.args.number c.args.is_there (subst (λ (n : NumberSet). Rises n.items) c.self.view_is c.self.invariant.order) (returns-in-Err-clause-items c)

pub returns-in-Err-clause-len : goal.returns-in-Err-clause-len
returns-in-Err-clause-len c = count_of c.args.self.now.items c.put_in.new.items.items c.args.number c.args.is_there (subst (λ (n : NumberSet). Rises n.items) c.self.view_is c.self.invariant.order) (returns-in-Err-clause-items c)

pub returns-else-is_there-clause-members : goal.returns-else-is_there-clause-members
returns-else-is_there-clause-members c = members_of c.args.self.now.items c.args.self.now.items c.args.number c.args.is_there (subst (λ (n : NumberSet). Rises n.items) c.self.view_is c.self.invariant.order) (returns-else-is_there-clause-items c)

pub returns-else-is_there-clause-len : goal.returns-else-is_there-clause-len
returns-else-is_there-clause-len c = count_of c.args.self.now.items c.args.self.now.items c.args.number c.args.is_there (subst (λ (n : NumberSet). Rises n.items) c.self.view_is c.self.invariant.order) (returns-else-is_there-clause-items c)
