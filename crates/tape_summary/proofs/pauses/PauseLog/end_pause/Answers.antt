-- The pause at the place, if there is one.
use Rattle.tape_summary.proofs.Pausing.{ended_past, ended_set}
use Rattle.tape_summary.proofs.pauses.PauseLog.end_pause.Goals as goal
use Rattle.std.proofs.Common.{arith, sym}
use Rattle.std.proofs.lemmas.Option.{slice_get_read}

pub returns-then-place-len-clause-pauses : goal.returns-then-place-len-clause-pauses
returns-then-place-len-clause-pauses c =
    ended_set c.args.self.now.pauses.items c.args.place c.args.self.now.turn c.index_mut.result.now (slice_get_read c.args.self.now.pauses.items c.args.self.now.pauses.len c.args.place c.index_mut.result.now c.args.self.now.pauses.ok.0 (omega (arith, c.len.ensures, c.if-place-len.true)) c.index_mut.ensures.value)

pub returns-else-place-len-clause-pauses : goal.returns-else-place-len-clause-pauses
returns-else-place-len-clause-pauses c = sym (ended_past c.args.self.now.pauses.items c.args.place c.args.self.now.turn (omega (arith, c.len.ensures, c.args.self.now.pauses.ok.0, c.if-place-len.false)))
