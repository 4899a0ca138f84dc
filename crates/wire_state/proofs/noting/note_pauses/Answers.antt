use Rattle.flow_rules.specs.declared.ids.BufferId.TheVariants as buffer
use Rattle.flow_rules.specs.declared.ids.FlowId.{FlowId}
use Rattle.flow_notes.specs.declared.notes.Note.TheVariants as note
use Rattle.std.proofs.Common.{subst}
use Rattle.std.specs.Prelude.{List, map}
use Rattle.wire_state.proofs.Idle.{paid}
use Rattle.wire_state.proofs.Notings.{appends_of, pauses_are_steps}
use Rattle.wire_state.proofs.noting.note_pauses.Goals as goal
use Rattle.wire_state.specs.Noting.{pauses_of}
use Rattle.wire_state.specs.Worlds.{Pays}

pub returns-clause-notes : goal.returns-clause-notes
returns-clause-notes c =
    appends_of c.push_pauses.result c.args.notes.now (map (λ f. note.Pause f (buffer.Write c.args.conn)) c.watchers.result) c.push_pauses.new.self (pauses_are_steps c.args.conn c.watchers.result) c.push_pauses.ensures.ok c.push_pauses.ensures.err

pub returns-clause-paid : goal.returns-clause-paid
returns-clause-paid c = subst (λ (fs : List FlowId). Pays c.push_pauses.result (pauses_of c.args.conn fs) c.args.notes.now c.push_pauses.new.self) c.watchers.ensures
    (paid c.push_pauses.result (map (λ f. note.Pause f (buffer.Write c.args.conn)) c.watchers.result) c.args.notes.now c.push_pauses.new.self c.push_pauses.ensures.ok)
