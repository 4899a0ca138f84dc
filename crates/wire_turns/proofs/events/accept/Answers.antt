use Rattle.flow_notes.specs.declared.events.Event.TheVariants as event
use Rattle.std.proofs.Common.{refl}
use Rattle.wire_turns.proofs.events.accept.Goals as goal
use Rattle.wire_state.proofs.Turned.{turns_accepted, turns_same}

pub returns-then-is_known-clause-octets : goal.returns-then-is_known-clause-octets
returns-then-is_known-clause-octets c = turns_same _ (event.Accept c.args.number) (event.Accept c.args.number) refl tt tt c.args.core.now c.args.notes.now

pub returns-clause-octets : goal.returns-clause-octets
returns-clause-octets c =
    turns_accepted _ c.greet_client.result c.args.number c.args.core.now c.take_client.new.core _ c.args.notes.now _ c.in_ok-take_client.ensures.octets c.greet_client.ensures.octets
