-- The notes of the dispatch stand behind the text.
use Rattle.wire_run.proofs.Playing.{event_played, notes_spelled}
use Rattle.wire_run.proofs.play.WirePlay.event.Goals as goal

pub append_notes-requires : goal.append_notes-requires
append_notes-requires c = notes_spelled c.args.self.now c.dispatch.new.self c.args.event.now c.names.result.now c.in_ok-dispatch.ensures c.requires.event c.names.ensures

pub returns : goal.returns
returns c = event_played c.args.self.now c.dispatch.new.self c.args.event.now c.names.result.now _ _ c.in_ok-dispatch.ensures c.requires.event c.names.ensures c.in_ok-append_notes.ensures.ok
