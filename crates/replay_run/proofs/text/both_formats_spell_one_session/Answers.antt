-- By the law of the two formats.
use Rattle.replay_run.proofs.TwoFormats.{in_both, quantum_of_one}
use Rattle.replay_run.proofs.text.both_formats_spell_one_session.Goals as goal

pub returns-clause-quantum : goal.returns-clause-quantum
returns-clause-quantum c = quantum_of_one

pub returns-clause-same : goal.returns-clause-same
returns-clause-same c = in_both
