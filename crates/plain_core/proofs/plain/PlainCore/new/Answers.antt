-- A core before its first event.
use Rattle.std.proofs.Common.{false, refl}
use Rattle.plain_core.proofs.StepFirst.{core_rests}
use Rattle.plain_core.proofs.plain.PlainCore.new.Goals as goal

pub returns : goal.returns
returns c =
    core_rests c.args.limits
    (record { alloc = c.args.alloc; config = c.in_ok-of_defaults.field-0; turn = 0; flows = c.in_ok-new.field-0; pairs = c.new-2.result; agenda = c.new-3.result; failed = false })
    c.in_ok-new.ensures refl c.new-2.ensures.empty c.in_ok-of_defaults.ensures.in_range.routes c.new-3.ensures refl
