use Rattle.std.proofs.Common.{refl, sym}
use Rattle.overload_core.specs.Course.{all_set}
use Rattle.wire_load.proofs.load.load_follows.Goals as goal

pub returns-clause-begins : goal.returns-clause-begins
returns-clause-begins c = λ start live. c.classes_follow.ensures.begins start live

pub returns-clause-starts : goal.returns-clause-starts
returns-clause-starts c = λ ends live alive l h. c.classes_follow.ensures.starts l.accounts.start ends live alive l.accounts.classes h

pub returns-clause-drops : goal.returns-clause-drops
returns-clause-drops c = λ ends live alive l e h. c.classes_follow.ensures.drops l.accounts.start ends live alive l.accounts.classes e h

pub returns-clause-ends : goal.returns-clause-ends
returns-clause-ends c = λ ends live alive held l h turn. c.classes_follow.ensures.ends l.accounts.start ends live l.touched held alive l.accounts.classes h turn

pub returns-clause-steps : goal.returns-clause-steps
unfolding all_set
returns-clause-steps c = λ held l x. refl

pub returns-clause-at_end : goal.returns-clause-at_end
unfolding all_set
returns-clause-at_end c = λ held l e i. record l {
  accounts = record l.accounts { classes = all_set l.accounts.start held (e i) l.accounts.classes };
  touched = sym e i;
}

pub returns-clause-next : goal.returns-clause-next
returns-clause-next c = λ ends live l h. c.next_is_due.ensures l.accounts.start ends live l.accounts.classes l.actions.reset_streams h
