-- The notes of the dispatch stand behind the text.
use Rattle.std.proofs.Common.{refl, ◌∙◌}
use Rattle.replay_run.proofs.Playing.{event_played, no_notes, notes_spelled, turn_spelled, unnamed}
use Rattle.replay_run.proofs.play.Play.event.Goals as goal

pub dispatch-requires : goal.dispatch-requires
dispatch-requires c = λ well. no_notes _ _ _ c.clear.ensures c.requires.follows

pub append_notes-requires : goal.append_notes-requires
append_notes-requires c = notes_spelled _ _ c.requires.names (turn_spelled _ _ _ _ _ c.clear.ensures c.in-Ok.ensures.ok c.requires.event)

pub returns : goal.returns
returns c = event_played c.args.self.now c.args.event.now c.dispatch.new.self c.note_all.new.self _ c.dispatch.new.notes _ _ _ c.clear.ensures c.in-Ok.ensures.ok c.in_ok-note_all.ensures refl refl refl
    (c.in_ok-append_notes.ensures.ok ∙ unnamed c.args.text.now _ c.dispatch.new.notes c.requires.names)
