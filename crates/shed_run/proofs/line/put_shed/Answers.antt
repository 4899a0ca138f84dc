-- Word by word.
use Rattle.shed_run.proofs.Spelling.{line_spelled}
use Rattle.shed_run.proofs.line.put_shed.Goals as goal
use Rattle.std.proofs.Common.{ap, ◌∙◌}
use Rattle.std.proofs.lemmas.Result.{on_ok_weaker}
use Rattle.std.specs.Fmt.{decimal}
use Rattle.std.specs.Prelude.{codes, ◌++◌}

pub returns-clause-ok : goal.returns-clause-ok
returns-clause-ok c =
    on_ok_weaker c.push_all-2.result
    (λ e. line_spelled c.args.number c.args.point c.args.conn c.args.state c.args.into.now c.put_behind.new.into c.push_all.new.self c.point_word.result.now c.put_number.new.into c.put_behind-2.new.into c.push_all-2.new.self
    c.in_ok-put_behind.ensures.ok c.point_word.ensures c.in_ok-push_all.ensures.ok (c.in_ok-put_number.ensures.ok ∙ ap (λ n. c.push_all.new.self ++ decimal n) c.from.ensures)
    (c.in_ok-put_behind-2.ensures.ok ∙ ap (λ n. c.put_number.new.into ++ (codes " " ++ decimal n)) c.from-2.ensures) e)
    c.push_all-2.ensures.ok
