use Rattle.wire_state.proofs.Telling.{all_told}
use Rattle.wire_steps.proofs.steps.drain_told.Goals as goal

pub returns-clause-octets : goal.returns-clause-octets
returns-clause-octets c = record {
  goes = λ h g start t.
      let k = c.args.core.now in
      c.go_to_rest.ensures.octets.goes h g start (c.in_ok-drain_where.ensures.octets.goes h g start c.args.notes.now (all_told c.args.conn k.conns k.flows k.links c.requires.told h g start c.args.notes.now t));
}
