-- By how reading stopped.
use Rattle.tape_plot.proofs.Sayings.{reads_failed, reads_nothing, reads_refused, reads_tape}
use Rattle.tape_plot.proofs.tape.read_tape.Goals as goal

pub returns-in_default-clause-reads : goal.returns-in_default-clause-reads
returns-in_default-clause-reads g c = reads_nothing _ _ c.ended.ensures

pub returns-in-End-clause-reads : goal.returns-in-End-clause-reads
returns-in-End-clause-reads g c = reads_tape _ _ c.in-Ok.tape c.read_lines.new.tape _ _ c.in-Ok.ensures c.in-End.ensures.goes

pub returns-in-Failed-clause-reads : goal.returns-in-Failed-clause-reads
returns-in-Failed-clause-reads g c = reads_failed _ _ _ c.in-Ok.tape c.read_lines.new.tape _ _ c.in-Failed.status _ c.in-Ok.ensures c.in-Failed.ensures.goes c.in-Failed.ensures.caused c.ended-in-Failed.ensures

pub returns-in-Refused-clause-reads : goal.returns-in-Refused-clause-reads
returns-in-Refused-clause-reads g c =
    reads_refused _ _ c.in-Ok.tape c.read_lines.new.tape _ _ c.in-Refused.refusal c.saturating_add.result c.in-Ok.ensures c.in-Refused.ensures.goes c.saturating_add.ensures
