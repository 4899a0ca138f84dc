use Rattle.std.proofs.Common.{subst, sym}
use Rattle.std.specs.Prelude.{Option, ℕ}
use Rattle.wire_state.specs.Worlds.{TellsAll}
use Rattle.wire_steps.proofs.steps.settle.Goals as goal

pub returns-in-Some-clause-octets : goal.returns-in-Some-clause-octets
returns-in-Some-clause-octets c = subst (λ (o : Option ℕ). TellsAll o c.tell_all.result c.args.core.now c.args.notes.now c.tell_all.new.core c.tell_all.new.notes) (sym c.in-Some.is) c.tell_all.ensures.octets

pub returns-in-None-clause-octets : goal.returns-in-None-clause-octets
returns-in-None-clause-octets c = subst (λ (o : Option ℕ). TellsAll o c.go_to_rest.result c.args.core.now c.args.notes.now c.go_to_rest.new.core c.go_to_rest.new.notes) (sym c.in-None.is)
    (record { goes = λ h g start t. c.go_to_rest.ensures.octets.goes h g start t })
