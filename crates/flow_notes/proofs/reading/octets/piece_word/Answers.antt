-- A word of so many digits spells half as many octets.
use Rattle.flow_notes.proofs.Octets.{piece_spelled}
use Rattle.flow_notes.proofs.reading.octets.piece_word.Goals as goal

pub returns-clause-spelled : goal.returns-clause-spelled
returns-clause-spelled c = piece_spelled c.args.word.now c.octets_word.result c.if-word.false c.octets_word.ensures.spelled
