use Rattle.std.proofs.Common.{ap, refl}
use Rattle.std.specs.Prelude.{None, Ok}
use Rattle.wire_turns.proofs.events.take_event.Goals as goal
use Rattle.wire_state.proofs.Turned.{turns_joined, turns_kept, turns_none, turns_of, turns_same}
use Rattle.wire_state.specs.Worlds.{eased_by}

pub returns-in-Accept-clause-octets : goal.returns-in-Accept-clause-octets
returns-in-Accept-clause-octets c = rw c.in-Accept.is (turns_none c.accept.result c.eases_none.result _ c.args.core.now _ c.args.notes.now _ c.accept.ensures.octets refl c.eases_none.ensures.done c.eases_none.ensures.none)

pub returns-in-Join-clause-octets : goal.returns-in-Join-clause-octets
returns-in-Join-clause-octets c = rw c.in-Join.is (turns_none c.join.result c.eases_none-in-Join.result _ c.args.core.now _ c.args.notes.now _ (turns_joined c.join.result _ _ c.args.core.now _ c.args.notes.now c.join.ensures.octets) refl c.eases_none-in-Join.ensures.done c.eases_none-in-Join.ensures.none)

pub returns-in-Read-clause-octets : goal.returns-in-Read-clause-octets
returns-in-Read-clause-octets c = turns_none c.read.result c.eases_none-in-Read.result c.args.event.now c.args.core.now _ c.args.notes.now _ (turns_kept c.read.result c.args.event.now _ c.in-Read.is tt tt c.args.core.now _ c.args.notes.now c.read.ensures.octets) (ap eased_by c.in-Read.is) c.eases_none-in-Read.ensures.done c.eases_none-in-Read.ensures.none

pub returns-in-Gone-clause-octets : goal.returns-in-Gone-clause-octets
returns-in-Gone-clause-octets c = rw c.in-Gone.is c.gone.ensures.octets

pub returns-in-Room-clause-octets : goal.returns-in-Room-clause-octets
returns-in-Room-clause-octets c = rw c.in-Room.is c.room.ensures.octets

pub returns-in-Tick-clause-octets : goal.returns-in-Tick-clause-octets
returns-in-Tick-clause-octets c = turns_none c.tick.result c.eases_none-in-Tick.result c.args.event.now c.args.core.now _ c.args.notes.now _ (turns_kept c.tick.result c.args.event.now _ c.in-Tick.is tt tt c.args.core.now _ c.args.notes.now c.tick.ensures.octets) (ap eased_by c.in-Tick.is) c.eases_none-in-Tick.ensures.done c.eases_none-in-Tick.ensures.none

pub returns-in-Post-clause-octets : goal.returns-in-Post-clause-octets
returns-in-Post-clause-octets c = turns_none c.post.result c.eases_none-in-Post.result c.args.event.now c.args.core.now _ c.args.notes.now _ (turns_of c.post.result c.args.event.now _ c.in-Post.is tt tt c.args.core.now _ c.args.notes.now _ c.post.ensures.octets) (ap eased_by c.in-Post.is) c.eases_none-in-Post.ensures.done c.eases_none-in-Post.ensures.none

pub returns-in-Obey-clause-octets : goal.returns-in-Obey-clause-octets
returns-in-Obey-clause-octets c = turns_none c.obey.result c.eases_none-in-Obey.result c.args.event.now c.args.core.now _ c.args.notes.now _ (turns_kept c.obey.result c.args.event.now _ c.in-Obey.is tt tt c.args.core.now _ c.args.notes.now c.obey.ensures.octets) (ap eased_by c.in-Obey.is) c.eases_none-in-Obey.ensures.done c.eases_none-in-Obey.ensures.none

pub returns-in-Plain-clause-octets : goal.returns-in-Plain-clause-octets
returns-in-Plain-clause-octets c = turns_none {A = Unit {0}} {E = Unit {0}} (Ok tt) (Ok None) c.args.event.now c.args.core.now _ c.args.notes.now _ (turns_same tt c.args.event.now _ c.in-Plain.is tt tt c.args.core.now c.args.notes.now) (ap eased_by c.in-Plain.is) refl refl
