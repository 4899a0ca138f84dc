-- The pieces so far are what was read.
use Rattle.session_config.proofs.Reading.{read_much, read_stop}
use Rattle.session_config.proofs.load.load_text.Goals as goal
use Rattle.std.proofs.Common.{arith, refl}
use Rattle.std.proofs.lemmas.Result.{err_from_is_err_and}

pub returns-in_err-read_piece-clause-reads : goal.returns-in_err-read_piece-clause-reads
returns-in_err-read_piece-clause-reads g c =
    let p = err_from_is_err_and c.from_residual.result c.from_residual.ensures.1 in
    rw (p.1, p.2) (read_stop _ _ _ _ _ _ _ refl c.loop-text.invariant.consumed c.loop-text.invariant.short c.in_err-read_piece.ensures.reads)

pub returns-then-len-gt-MOST-clause-reads : goal.returns-then-len-gt-MOST-clause-reads
returns-then-len-gt-MOST-clause-reads g c =
    let much = c.if-len-gt-MOST.true in
    let count = c.len.ensures in
    read_much _ _ _ _ _ _ _ refl c.loop-text.invariant.consumed c.in_ok-read_piece.ensures.reads (omega (arith, much, count))
