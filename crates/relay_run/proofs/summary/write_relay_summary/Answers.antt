-- What the log shows is the summary.
use Rattle.std.proofs.Common.{◌∙◌}
use Rattle.relay_run.proofs.Summing.{summary_ends}
use Rattle.relay_run.proofs.summary.write_relay_summary.Goals as goal

pub returns-clause-ok : goal.returns-clause-ok
returns-clause-ok c = summary_ends c.args.log.now c.turns.result c.args.into.now _ _ _ _
    c.turns.ensures (c.in_ok-text.ensures ∙ c.as_slice.ensures) c.in_ok-put_writes.ensures c.in_ok-put_pauses.ensures c.in_ok-put_done.ensures
