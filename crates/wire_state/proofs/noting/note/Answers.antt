use Rattle.std.specs.Prelude.{[], ◌∷◌}
use Rattle.wire_state.proofs.Idle.{idle, paid}
use Rattle.wire_state.proofs.noting.note.Goals as goal

pub returns-clause-paid : goal.returns-clause-paid
returns-clause-paid c = paid c.push.result (c.args.note ∷ []) c.args.notes.now c.push.new.self c.push.ensures.ok

pub returns-clause-idle : goal.returns-clause-idle
returns-clause-idle c = λ i. idle c.push.result c.args.note c.args.notes.now c.push.new.self c.push.ensures.ok i
