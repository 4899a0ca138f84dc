use Rattle.wire_out.proofs.controls.note_waiting.Goals as goal

pub returns-in-Answer-clause-paid : goal.returns-in-Answer-clause-paid
returns-in-Answer-clause-paid c = rw c.in-Answer.is c.note_answer.ensures.paid

pub returns-in-Reply-clause-paid : goal.returns-in-Reply-clause-paid
returns-in-Reply-clause-paid c = rw c.in-Reply.is c.note_head.ensures.paid
