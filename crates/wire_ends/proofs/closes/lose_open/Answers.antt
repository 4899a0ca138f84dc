use Rattle.wire_ends.proofs.closes.lose_open.Goals as goal
use Rattle.wire_state.proofs.Turned.{lost_told}
use Rattle.wire_state.specs.Marks.{footing_of}

pub returns-clause-octets : goal.returns-clause-octets
returns-clause-octets c = record {
  goes = λ h g before k is s left fresh none.
      let old = c.args.core.now in
      let turned = lost_told old.conns old.flows old.links h g left {l = footing_of old} none k c.args.number c.requires.open before c.args.notes.now is s in
      c.note.ensures.paid.goes h g before _ _ _ (c.in_ok-end_conn.ensures.octets.goes h g before _ (c.shut_lost.ensures.octets.goes h g before c.args.notes.now turned));
}
