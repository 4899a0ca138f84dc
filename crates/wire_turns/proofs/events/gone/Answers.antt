use Rattle.flow_notes.specs.declared.events.Event.TheVariants as event
use Rattle.std.proofs.Common.{refl}
use Rattle.wire_turns.proofs.events.gone.Goals as goal
use Rattle.wire_state.proofs.Turned.{turns_some}

pub returns-clause-octets : goal.returns-clause-octets
returns-clause-octets c = turns_some _ c.args.number (event.Gone c.args.number) c.args.core.now _ c.args.notes.now _ c.in_ok-lose.ensures.octets refl
