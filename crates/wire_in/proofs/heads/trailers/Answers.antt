use Rattle.wire_in.proofs.heads.trailers.Goals as goal
use Rattle.wire_state.proofs.Results.{on_ok}

pub returns-clause-octets : goal.returns-clause-octets
returns-clause-octets c = record {
  goes = λ h g start t.
      let ended = c.in_ok-finish.ensures.octets.goes h g start _ (c.in_ok-ask_run.ensures.octets.goes h g start c.args.notes.now t) in
      on_ok c.flow_ended.result (c.flow_ended.ensures.octets.goes h g start _ ended);
}
