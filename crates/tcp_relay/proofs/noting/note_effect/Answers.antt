use Rattle.tcp_relay.proofs.Fronts.{appends_both, stopped}
use Rattle.tcp_relay.proofs.noting.note_effect.Goals as goal
use Rattle.tcp_relay.specs.Effects.{arrival_of, pause_of}

pub returns-in_err-note_arrival-in-Carried : goal.returns-in_err-note_arrival-in-Carried
returns-in_err-note_arrival-in-Carried c = rw c.in-Carried.is
    (stopped _ c.note_arrival.result c.from_residual.result _ c.args.notes.now (arrival_of c.args.event.now c.in-Carried.flow) (pause_of c.in-Carried.rose c.in-Carried.flow c.in-Carried.to) c.note_arrival.new.notes
    c.in_err-note_arrival-in-Carried.was c.note_arrival.ensures c.from_residual.ensures.1)

pub returns-in_ok-note_arrival-in-Carried : goal.returns-in_ok-note_arrival-in-Carried
returns-in_ok-note_arrival-in-Carried c = rw c.in-Carried.is
    (appends_both c.note_arrival.result c.note_pause.result _ c.args.notes.now (arrival_of c.args.event.now c.in-Carried.flow) (pause_of c.in-Carried.rose c.in-Carried.flow c.in-Carried.to) c.note_arrival.new.notes c.note_pause.new.notes
    c.in_ok-note_arrival-in-Carried.was c.note_arrival.ensures c.note_pause.ensures)
