-- The notes of the dispatch stand behind the text, or the event reads a paused flow.
use Rattle.std.proofs.Common.{ap, refl, ◌∙◌, ◌++◌, List, ℕ}
use Rattle.tape_summary.specs.NotesText.{notes_text}
use Rattle.relay_run.proofs.Playing.{event_held_back, event_lost, event_played, notes_spelled}
use Rattle.relay_run.proofs.play.RelayPlay.event.Goals as goal

pub append_notes-requires : goal.append_notes-requires
append_notes-requires c = notes_spelled c.args.self.now c.args.event.now c.dispatch.new.self _ c.dispatch.new.notes _ c.clear.ensures c.names.ensures c.requires c.in-Ok.ensures.ok

pub returns-in_ok-append_notes-in-Ok : goal.returns-in_ok-append_notes-in-Ok
returns-in_ok-append_notes-in-Ok c = event_played c.args.self.now c.args.event.now c.dispatch.new.self c.note_all.new.self _ c.dispatch.new.notes _ _ _ c.clear.ensures c.in-Ok.ensures.ok c.in_ok-note_all-in-Ok.ensures refl refl refl
    (c.in_ok-append_notes-in-Ok.ensures.ok ∙ ap (λ (v : List (List ℕ)). c.args.text.now ++ notes_text v c.dispatch.new.notes) c.names.ensures)

pub returns-in-Err-Paused : goal.returns-in-Err-Paused
returns-in-Err-Paused c = event_held_back c.args.self.now c.args.event.now c.dispatch.new.self _ c.dispatch.new.notes _ c.args.text.now c.dispatch.result _ _ c.clear.ensures c.in-Err-Paused.is c.in-Err-Paused.field-0-is c.dispatch.ensures.paused
