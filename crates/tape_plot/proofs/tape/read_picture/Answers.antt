-- The picture is that of the tape that was read.
use Rattle.std.proofs.lemmas.Result.{err_from_is_err_and}
use Rattle.tape_plot.proofs.Picturing.{pictured, reads_undrawn}
use Rattle.tape_plot.proofs.tape.read_picture.Goals as goal

pub returns-in-Ok-clause-reads : goal.returns-in-Ok-clause-reads
returns-in-Ok-clause-reads g c = pictured _ _ c.args.choice.now c.in_ok-tape.tape c.in-Ok.text c.in_ok-tape.ensures.reads c.in-Ok.ensures

pub returns-clause-reads : goal.returns-clause-reads
returns-clause-reads g c = reads_undrawn _ _ c.args.choice.now.first c.args.choice.now.last c.in_ok-tape.tape _ c.in_ok-tape.ensures.reads c.ended.ensures

pub returns-in_err-tape-clause-reads : goal.returns-in_err-tape-clause-reads
returns-in_err-tape-clause-reads g c = let p = err_from_is_err_and c.from_residual.result c.from_residual.ensures.1 in rw (p.1, p.2) c.in_err-tape.ensures.reads

pub returns-in_err-tape-clause-refused : goal.returns-in_err-tape-clause-refused
returns-in_err-tape-clause-refused g c = let p = err_from_is_err_and c.from_residual.result c.from_residual.ensures.1 in rw (p.1, p.2) c.in_err-tape.ensures.refused
