-- The resumes are those of the flows that are told next.
use Rattle.plain_core.proofs.Resumes.{told_noted}
use Rattle.plain_core.proofs.noting.note_resumes.Goals as goal

pub returns-clause-told : goal.returns-clause-told
returns-clause-told c =
    told_noted c.args.flows.now c.next_told-told.result c.lows.result c.args.notes.now c.push_resumes.new.self c.lows.ensures c.next_told-told.ensures c.in_ok-push_resumes.ensures.ok
