-- A row of pauses or resumes names no cluster.
use Rattle.tape_summary.proofs.Telling.{passage_told, pauses_named, resumes_named}
use Rattle.tape_summary.proofs.notes_text.tell_passage.Goals as goal

pub returns-in-Pauses-clause-ok : goal.returns-in-Pauses-clause-ok
returns-in-Pauses-clause-ok c = passage_told c.args.names.now c.args.passage _ c.args.into.now _ _ c.in-Pauses.is c.tell_pauses.ensures.ok (pauses_named c.args.names.now c.in-Pauses.flows.now c.in-Pauses.buffer)

pub returns-in-Resumes-clause-ok : goal.returns-in-Resumes-clause-ok
returns-in-Resumes-clause-ok c = passage_told c.args.names.now c.args.passage _ c.args.into.now _ _ c.in-Resumes.is c.tell_resumes.ensures.ok (resumes_named c.args.names.now c.in-Resumes.flows.now c.in-Resumes.buffer)
