-- The exchange passes the stages of its row; another note starts none.
use Rattle.wire_run.proofs.Staging.{other_passes, pass_told}
use Rattle.wire_run.proofs.play.pass.Goals as goal

pub returns : goal.returns
returns c = pass_told _ _ _ _ c.args.note.now c.pass.result _ _ c.row-row.result _ _ _ _ c.in-Start.is c.row-row.ensures c.in_ok-request_limits.ensures c.in_ok-response_limits.ensures c.pass.ensures

pub returns-in_default : goal.returns-in_default
returns-in_default c = other_passes _ _ c.args.note.now _ c.in_default.not-Start
