use Rattle.std.proofs.Common.{sym, ◌∙◌}
use Rattle.h2_heads.proofs.Passes.{all_usual_plain}
use Rattle.h2_heads.proofs.names.all_plain.Goals as goal

pub returns-then-all_usual : goal.returns-then-all_usual
returns-then-all_usual c =
    sym (all_usual_plain c.args.octets.now (sym c.all_usual.ensures ∙ c.if-all_usual.true))
