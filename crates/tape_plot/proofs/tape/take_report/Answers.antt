-- The line is what was read of it.
use Rattle.flow_notes.specs.Line.{newline}
use Rattle.std.proofs.Common.{subst}
use Rattle.std.specs.Prelude.{IfSome, Option, ◌++◌, ◌≡◌}
use Rattle.tape_plot.specs.Lines.{line_text}
use Rattle.tape_plot.specs.declared.report.Line.{Line}
use Rattle.tape_plot.proofs.tape.take_report.Goals as goal

pub returns-clause-sums : goal.returns-clause-sums
returns-clause-sums c =
    let text = subst (λ (v : Option Line). IfSome v (λ l. c.args.line.now ++ newline ≡ line_text l)) c.in-Some.is c.in_ok-report.ensures in
    (c.in-Some.report, text, c.part_behind.ensures, c.in_ok-sum.ensures.tells)
