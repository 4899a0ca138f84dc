use Rattle.exchange_core.proofs.Untouched.{frameable_seen, read_some, unit_seen}
use Rattle.exchange_core.proofs.exchanges.Exchanges.unit_of.Goals as goal
use Rattle.exchange_core.specs.Units.{next_unit}
use Rattle.flow_rules.specs.declared.unit.Unit.{Unit as NextUnit}
use Rattle.std.proofs.Common.{ap, sym, w64, ◌∙◌}
use Rattle.std.proofs.lemmas.Int.{to_z-of_z}
use mir.Val.{of_z, to_z}
use Rattle.std.specs.Prelude.{None, Some, ◌≡◌}

pub returns-in-Some-clause-unit : goal.returns-in-Some-clause-unit
returns-in-Some-clause-unit c = let same : to_z w64 (of_z w64 c.args.room) ≡ c.args.room = to_z-of_z w64 c.args.room (assumption c.ranges.room) in
    ap (λ (u : NextUnit). Some u) (c.next_unit.ensures.unit ∙ ap (λ z. next_unit z c.args.frame c.in-Some.flow.now) same)
    ∙ sym (read_some (next_unit c.args.room c.args.frame) (λ now flow. unit_seen now flow c.args.room c.args.frame) (Some c.in-Some.flow.now) _ c.in-Some.ensures)

pub returns-in-Some-clause-frameable : goal.returns-in-Some-clause-frameable
returns-in-Some-clause-frameable c = rw c.in-Some.ensures.same (frameable_seen c.in-Some.ensures.now c.in-Some.flow.now c.next_unit.result c.next_unit.ensures.frameable)

pub returns-in-None-clause-unit : goal.returns-in-None-clause-unit
returns-in-None-clause-unit c = sym (read_some (next_unit c.args.room c.args.frame) (λ now flow. unit_seen now flow c.args.room c.args.frame) None _ c.in-None.ensures)
