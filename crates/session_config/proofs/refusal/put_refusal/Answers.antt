-- Its pieces are the line.
use Rattle.session_config.proofs.Telling.{line_told}
use Rattle.std.proofs.Common.{◌∙◌}
use Rattle.session_config.proofs.refusal.put_refusal.Goals as goal

pub returns-clause-ok : goal.returns-clause-ok
returns-clause-ok c = line_told c.push_all-4.result c.args.fault.now c.number.result _ _ _ _ _ _ _ c.in_ok-push_all.ensures.ok c.in_ok-push_all-2.ensures.ok (c.as_bytes.ensures.value ∙ c.format.ensures.text) c.number.ensures
    c.in_ok-push_all-3.ensures.ok c.in_ok-put_key.ensures.ok c.push_all-4.ensures.ok
