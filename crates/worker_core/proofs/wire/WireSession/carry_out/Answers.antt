use Rattle.worker_core.proofs.wire.WireSession.carry_out.Goals as goal

pub returns-clause-octets : goal.returns-clause-octets
returns-clause-octets c = λ done. record { goes = λ h g s left fresh. done.in_ok-carry_out.ensures.octets.goes h g done.args.notes.now _ done.in_ok-note_turn.ensures.ok s left fresh }
