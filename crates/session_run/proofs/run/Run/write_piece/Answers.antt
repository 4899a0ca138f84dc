-- A short text waits.
use Rattle.session_run.proofs.Running.{unwritten}
use Rattle.session_run.proofs.run.Run.write_piece.Goals as goal

pub returns-then-len-lt-PIECE-clause-writes : goal.returns-then-len-lt-PIECE-clause-writes
returns-then-len-lt-PIECE-clause-writes g c = unwritten c.args.self.now _
