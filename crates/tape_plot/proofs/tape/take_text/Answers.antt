-- By what the line is.
use Rattle.tape_plot.proofs.Sayings.{note_follows, sum_follows}
use Rattle.tape_plot.proofs.tape.take_text.Goals as goal

pub returns-in-Some : goal.returns-in-Some
returns-in-Some c = record {
  follows = note_follows c.args.line.now c.args.plot.now c.take_note.new.plot c.args.part c.take_note.result c.in_ok-note.field-0 c.in-Some.note c.in_ok-note.ensures c.in-Some.is c.take_note.ensures.before
      c.take_note.ensures.part c.take_note.ensures.goes c.take_note.ensures.limits;
  stops = c.take_note.ensures.stops;
}

pub returns-in-None : goal.returns-in-None
returns-in-None c = record {
  follows = sum_follows c.args.line.now c.args.plot.now c.take_report.new.plot c.args.part c.take_report.result c.in_default.not-Ended c.take_report.ensures.sums c.take_report.ensures.stays;
  stops = c.take_report.ensures.stops;
}
