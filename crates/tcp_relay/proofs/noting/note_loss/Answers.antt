use Rattle.std.specs.Prelude.{[], ◌∷◌}
use Rattle.tcp_relay.proofs.Fronts.{stopped}
use Rattle.tcp_relay.proofs.noting.note_loss.Goals as goal
use Rattle.tcp_relay.specs.Effects.{ended_of}
use Rattle.flow_notes.specs.declared.notes.CloseCause.TheVariants as closed
use Rattle.flow_notes.specs.declared.notes.Note.TheVariants as note

pub returns-in_err-note_close : goal.returns-in_err-note_close
returns-in_err-note_close c =
    stopped _ c.note_close.result c.from_residual.result _ c.args.notes.now (note.Close c.args.conn 0 closed.Lost ∷ []) (ended_of c.args.conn c.args.ended) c.note_close.new.notes
    c.in_err-note_close.was c.note_close.ensures c.from_residual.ensures.1
