use Rattle.std.proofs.Common.{ap, subst, sym}
use Rattle.std.specs.Prelude.{Bool}
use Rattle.wire_flows.specs.Writes.{watchers_on}
use Rattle.wire_out.proofs.drains.note_risen.Goals as goal
use Rattle.wire_state.proofs.Idle.{owed_none}
use Rattle.wire_state.specs.Noting.{risen_of}
use Rattle.wire_state.specs.Worlds.{Pays}

pub returns-then-rose-clause-octets : goal.returns-then-rose-clause-octets
returns-then-rose-clause-octets c =
    subst (λ (b : Bool). Pays c.note_pauses.result (risen_of b c.args.conn (watchers_on c.args.conn c.args.core.now.flows)) c.args.notes.now c.note_pauses.new.notes) (sym c.if-rose.true) c.note_pauses.ensures.paid

pub returns-clause-octets : goal.returns-clause-octets
returns-clause-octets c =
    let watchers = watchers_on c.args.conn c.args.core.now.flows in
    owed_none (risen_of c.args.rose c.args.conn watchers) c.args.notes.now (ap (λ (b : Bool). risen_of b c.args.conn watchers) c.if-rose.false)
