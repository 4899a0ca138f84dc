-- By how the line went.
use Rattle.std.proofs.Common.{refl}
use Rattle.session_run.proofs.Running.{is_playing, line_as, line_judged, line_lost, line_on, line_refused, may_play}
use Rattle.session_run.proofs.run.Run.take_line.Goals as goal

pub line-requires : goal.line-requires
line-requires g c = let k = c.requires.run in is_playing c.args.self.now k.0 k.1 k.2 k.3

pub returns-in-Some-clause-takes : goal.returns-in-Some-clause-takes
returns-in-Some-clause-takes g c = line_judged c.args.self.now c.args.n _ c.in-Some.status c.requires.line c.in-Some.is c.judge.ensures

pub returns-in-Ok-Refused-clause-takes : goal.returns-in-Ok-Refused-clause-takes
returns-in-Ok-Refused-clause-takes g c = line_refused c.args.self.now _ c.args.n c.requires.line (may_play c.args.self.now.read c.args.n _ c.in_default.is c.judge.ensures)
    (line_as _ _ _ _ c.args.n _ _ _ _ c.held.ensures.held c.in-Ok-Refused.field-0-is c.in-Ok-Refused.ensures) refl

pub returns-in-Err-clause-takes : goal.returns-in-Err-clause-takes
returns-in-Err-clause-takes g c = line_lost c.args.self.now _ _ c.in-Err.field-0 c.in-Err.ensures refl

pub returns-clause-takes : goal.returns-clause-takes
returns-clause-takes g c = line_on c.args.self.now _ c.args.n c.requires.line (line_as _ _ _ _ c.args.n _ _ _ _ c.held.ensures.held c.in-Ok-On.field-0-is c.in-Ok-On.ensures) c.skip.ensures refl refl
