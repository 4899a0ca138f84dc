-- A telling keeps what the core stands for.
use Rattle.std.proofs.Common.{refl}
use Rattle.plain_core.proofs.StepRun.{settled_of}
use Rattle.plain_core.proofs.StepTell.{none_goes_on, resumes_cut, run_keeps, run_less, tell_keeps, tell_less}
use Rattle.plain_core.proofs.plain.PlainCore.tell.Goals as goal
use Rattle.plain_core.specs.declared.agenda.Task.TheVariants as task

pub note_resumes-requires : goal.note_resumes-requires
note_resumes-requires c = settled_of c.args.self.now c.args.notes.now c.requires.good

pub returns-in_err-told-clause-cut : goal.returns-in_err-told-clause-cut
returns-in_err-told-clause-cut c = resumes_cut c.args.self.now c.args.notes.now c.note_resumes.new.notes (task.Tell c.requires.top.conn) c.requires.top.is c.note_resumes.ensures.front

pub returns-in-Some-clause-ok : goal.returns-in-Some-clause-ok
returns-in-Some-clause-ok c =
    run_keeps c.args.self.now c.begin_run.new.self c.args.notes.now c.note_resumes.new.notes c.tell.new.self c.in_ok-told.told c.in-Some.flow c.requires.top.conn c.begin_run.result
    c.begin_run.ensures.rest c.requires.top.is c.in-Some.is c.begin_run.ensures.agenda c.tell.ensures.tells c.in_ok-told.ensures.told

pub returns-in-Some-clause-cut : goal.returns-in-Some-clause-cut
returns-in-Some-clause-cut c = resumes_cut c.args.self.now c.args.notes.now c.note_resumes.new.notes (task.Tell c.requires.top.conn) c.requires.top.is c.note_resumes.ensures.front

pub returns-in-Some-clause-less : goal.returns-in-Some-clause-less
returns-in-Some-clause-less c =
    run_less c.args.self.now c.begin_run.new.self c.args.notes.now c.note_resumes.new.notes c.tell.new.self c.in_ok-told.told c.in-Some.flow c.requires.top.conn c.begin_run.result
    c.begin_run.ensures.rest c.requires.top.is c.in-Some.is c.begin_run.ensures.agenda c.tell.ensures.less c.in_ok-told.ensures.told

pub returns-in-None-clause-ok : goal.returns-in-None-clause-ok
returns-in-None-clause-ok c =
    tell_keeps c.args.self.now (record c.args.self.now { flows = c.tell.new.self; agenda = c.pop.new.self }) c.args.notes.now c.note_resumes.new.notes c.tell.new.self c.in_ok-told.told c.requires.top.conn
    refl c.requires.top.is (none_goes_on c.args.self.now.agenda c.pop.new.self c.in_ok-told.told.next c.in-None.is c.pop.ensures) c.tell.ensures.tells c.in_ok-told.ensures.told

pub returns-in-None-clause-cut : goal.returns-in-None-clause-cut
returns-in-None-clause-cut c = resumes_cut c.args.self.now c.args.notes.now c.note_resumes.new.notes (task.Tell c.requires.top.conn) c.requires.top.is c.note_resumes.ensures.front

pub returns-in-None-clause-less : goal.returns-in-None-clause-less
returns-in-None-clause-less c =
    tell_less c.args.self.now (record c.args.self.now { flows = c.tell.new.self; agenda = c.pop.new.self }) c.args.notes.now c.note_resumes.new.notes c.tell.new.self c.in_ok-told.told c.requires.top.conn
    refl c.requires.top.is (none_goes_on c.args.self.now.agenda c.pop.new.self c.in_ok-told.told.next c.in-None.is c.pop.ensures) c.tell.ensures.less c.in_ok-told.ensures.told
