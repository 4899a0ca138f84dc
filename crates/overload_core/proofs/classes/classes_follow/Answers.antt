use Rattle.overload_core.proofs.Following.{begun, started, dropped}
use Rattle.overload_core.proofs.Turning.{turned}
use Rattle.overload_core.proofs.classes.classes_follow.Goals as goal

pub returns-clause-begins : goal.returns-clause-begins
returns-clause-begins c = begun

pub returns-clause-starts : goal.returns-clause-starts
returns-clause-starts c = started

pub returns-clause-drops : goal.returns-clause-drops
returns-clause-drops c = dropped

pub returns-clause-ends : goal.returns-clause-ends
returns-clause-ends c = λ start ends live touched held alive classes h turn. turned start ends live touched held alive turn classes h
