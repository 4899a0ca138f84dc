use Rattle.wire_out.proofs.moves.note_pause.Goals as goal
use Rattle.wire_state.proofs.Idle.{nothing_paid}

pub returns-in-Some-clause-paid : goal.returns-in-Some-clause-paid
returns-in-Some-clause-paid c = rw c.in-Some.is c.note.ensures.paid

pub returns-in-None-clause-paid : goal.returns-in-None-clause-paid
returns-in-None-clause-paid c = rw c.in-None.is (nothing_paid c.args.notes.now)
