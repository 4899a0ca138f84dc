-- The line of each status.
use Rattle.session_run.proofs.Running.{long_ends, plain_ends, refused_ends, summed_ends}
use Rattle.session_run.proofs.run.Run.last.Goals as goal

pub returns-in-Session-clause-ok : goal.returns-in-Session-clause-ok
returns-in-Session-clause-ok g c = refused_ends _ c.args.self.now c.args.status c.push_numbered.new.text _ c.in-Session.is c.push_numbered.ensures.ok

pub returns-in-TooLong-clause-ok : goal.returns-in-TooLong-clause-ok
returns-in-TooLong-clause-ok g c = long_ends _ c.args.self.now c.args.status c.push_all.new.self _ c.in-TooLong.is c.push_all.ensures.ok

pub returns-in-Done-clause-ok : goal.returns-in-Done-clause-ok
returns-in-Done-clause-ok g c = summed_ends _ c.args.self.now c.args.status _ c.summarize.result c.in-Done.is c.summarize.ensures.ok

pub returns-in_default-clause-ok : goal.returns-in_default-clause-ok
returns-in_default-clause-ok g c = plain_ends c.args.self.now c.args.status c.in_default.not-Done c.in_default.not-Session c.in_default.not-TooLong
