use Rattle.std.proofs.Common.{◌≤◌, Ok}
use Rattle.session_run.specs.Kinds.{kind_of}
use Rattle.session_run.specs.Runs.{Steps, to_go}
use Rattle.session_run.proofs.run.Run.play_all.Given as goal

abbrev pub invariant-loop-status : goal.invariant-loop-status
invariant-loop-status g l = record {
  steps : Steps (kind_of g.P.Player.stands g.P.Player.refuses g.P.Player.can_end g.P.Player.sums) l.fn.self l.self (g.S.Source.left l.fn.session) (g.S.Source.left l.session) (g.K.Sink.contents l.fn.out) (g.K.Sink.contents l.out) (Ok tt);
  session : g.S.Source.faults l.fn.session ≤ g.S.Source.faults l.session;
  out : g.K.Sink.faults l.fn.out ≤ g.K.Sink.faults l.out;
}

abbrev pub decreases-loop-status : goal.decreases-loop-status
decreases-loop-status g l = to_go l.self
