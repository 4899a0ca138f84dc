-- By the kind of the note.
use Rattle.tape_plot.proofs.Passing.{when_ok}
use Rattle.tape_plot.proofs.Writing.{answer_goes, close_goes, credit_goes, head_goes, out_goes, turn_goes}
use Rattle.tape_plot.proofs.connection.Connection.note.Goals as goal

pub returns-in-Head : goal.returns-in-Head
returns-in-Head c = when_ok _ _ c.fill.result (λ w. head_goes c.args.self.now _ c.args.note.now _ _ _ _ c.args.clock.now c.in-Head.is c.len.ensures c.fill.ensures.closed w) c.fill.ensures.writes

pub returns-in-Answer : goal.returns-in-Answer
returns-in-Answer c = when_ok _ _ c.fill-in-Answer.result (λ w. answer_goes c.args.self.now _ c.args.note.now _ _ _ c.args.clock.now c.in-Answer.is c.len-in-Answer.ensures c.fill-in-Answer.ensures.closed w) c.fill-in-Answer.ensures.writes

pub returns-in-Credit : goal.returns-in-Credit
returns-in-Credit c = when_ok _ _ c.fill-in-Credit.result (λ w. credit_goes c.args.self.now _ c.args.note.now _ _ _ c.args.clock.now c.in-Credit.is c.fill-in-Credit.ensures.closed w) c.fill-in-Credit.ensures.writes

pub returns-in-Out : goal.returns-in-Out
returns-in-Out c = when_ok _ _ c.drain.result (λ w. out_goes c.args.self.now _ c.args.note.now _ _ _ c.args.clock.now c.in-Out.is c.from.ensures c.drain.ensures.closed w) c.drain.ensures.writes

pub returns-in-Close : goal.returns-in-Close
returns-in-Close c = when_ok _ _ c.close.result (λ k. close_goes c.args.self.now _ c.args.note.now _ _ _ c.args.clock.now c.in-Close.is k) c.close.ensures

pub returns-in-Turn : goal.returns-in-Turn
returns-in-Turn c = when_ok _ _ c.turn.result (λ t. turn_goes c.args.self.now _ c.args.note.now _ _ c.args.clock.now c.in-Turn.is t) c.turn.ensures
