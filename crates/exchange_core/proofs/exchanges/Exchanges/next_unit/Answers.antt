use Rattle.exchange_core.proofs.Untouched.{frameable_seen, unit_seen}
use Rattle.exchange_core.proofs.exchanges.Exchanges.next_unit.Goals as goal
use Rattle.exchange_core.specs.Units.{next_unit}
use Rattle.flow_rules.specs.declared.unit.Unit.{Unit as NextUnit}
use Rattle.std.proofs.Common.{ap, sym, w64, ◌∙◌}
use Rattle.std.proofs.lemmas.Int.{to_z-of_z}
use mir.Val.{of_z, to_z}
use Rattle.std.specs.Prelude.{Some, option_map, ◌≡◌}

pub returns-clause-unit : goal.returns-clause-unit
returns-clause-unit c = let same : to_z w64 (of_z w64 c.args.room) ≡ c.args.room = to_z-of_z w64 c.args.room (assumption c.ranges.room) in
    ap (λ (u : NextUnit). Some u) (c.next_unit.ensures.unit ∙ ap (λ z. next_unit z c.args.frame c.flow.result.now) same ∙ sym (unit_seen c.flow.ensures.now c.flow.result.now c.args.room c.args.frame))
    ∙ sym (ap (option_map (next_unit c.args.room c.args.frame)) c.flow.ensures.same)

pub returns-clause-frameable : goal.returns-clause-frameable
returns-clause-frameable c = rw c.flow.ensures.same (frameable_seen c.flow.ensures.now c.flow.result.now c.next_unit.result c.next_unit.ensures.frameable)
