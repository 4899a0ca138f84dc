-- The notes of an event, and the connections after it, are those of the tape.
use Rattle.flow_notes.specs.declared.events.Event.{Event}
use Rattle.relay_laws.specs.Dispatch.{dispatch_notes}
use Rattle.relay_laws.specs.Pairs.{Tape}
use Rattle.std.specs.Prelude.{ℕ, ◌+◌, ◌∷◌, ◌≡◌}
use Rattle.tape_laws.specs.Dispatches.{turns}
use Rattle.tape_laws.specs.History.{onto}
use Rattle.tcp_relay.specs.Board.{board_after, effect_of}
use Rattle.tcp_relay.specs.Effects.{notes_of}
use Rattle.tcp_relay.specs.Stands.{tape_board}
use Rattle.flow_notes.specs.declared.notes.Note.TheVariants as note

pub record Tied (limit : ℕ) (e : Event) (h : Tape) : Type 0 where
  pub notes : dispatch_notes limit e h ≡ note.Turn (turns h + 1) e ∷ notes_of e (effect_of e (tape_board limit h))
  pub board : tape_board limit (onto (dispatch_notes limit e h) h) ≡ board_after e (tape_board limit h)
