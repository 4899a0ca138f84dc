use Rattle.flow_notes.specs.declared.notes.Note.TheVariants as note
use Rattle.std.specs.Prelude.{[], ◌∷◌}
use Rattle.wire_ends.proofs.dooms.note_doom.Goals as goal
use Rattle.wire_state.proofs.Idle.{paid}
use Rattle.wire_state.proofs.Notings.{appends_of}

pub returns-clause-appends : goal.returns-clause-appends
returns-clause-appends c = appends_of c.push.result c.args.notes.now (note.Doom c.args.exchange c.args.cause ∷ []) c.push.new.self (tt, tt) c.push.ensures.ok c.push.ensures.err

pub returns-clause-paid : goal.returns-clause-paid
returns-clause-paid c = paid c.push.result (note.Doom c.args.exchange c.args.cause ∷ []) c.args.notes.now c.push.new.self c.push.ensures.ok
