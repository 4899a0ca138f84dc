-- What is read of a wire session's line is no plain event.
use Rattle.std.proofs.Common.{◌≡◌, false, rules}
use Rattle.flow_notes.specs.Split.{words_in}
use Rattle.flow_notes.proofs.EventLines.{wire_spelled}
use Rattle.flow_notes.proofs.reading.event.session_line.Goals as goal

pub returns-then-not-plain-clause-spelled : goal.returns-then-not-plain-clause-spelled
returns-then-not-plain-clause-spelled c =
    let side : c.args.plain ≡ false = search rules in
    wire_spelled c.args.names.now (words_in c.args.line.now) c.args.plain c.wire_line.result side c.wire_line.ensures.spelled
