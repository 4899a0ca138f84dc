use Rattle.std.proofs.Common.{◌≡◌, false, sym, ap, ◌∙◌, subst}
use Rattle.std.specs.Prelude.{IfOk}
use Rattle.link_lists.specs.Lists.{push_at, has_node, contains_id}
use Rattle.link_lists.specs.Seen.{shown}
use Rattle.link_lists.proofs.Stored.{storing, shows, steady, absent-stored}
use Rattle.link_lists.proofs.Calls.{pushed}
use Rattle.link_lists.proofs.lists.Lists.insert_back.Goals as goal
use Rattle.link_lists.proofs.lists.Lists.insert_back.Goals.{in-Ok, in-Err}

pub invariant_of-self : goal.invariant_of-self
invariant_of-self g c = elim c.match-place.branch [
  | in-Ok w ↦ steady c.push_back-place.new.self (record c.args.self.now { lists = push_at c.args.list (w.in-Ok.place.ptr, c.args.value) c.args.self.now.lists }) (pushed c.self.inside.rings c.args.self.now (storing c.self.inside.rings c.args.self.now c.self.view_is c.self.invariant) c.args.list w.in-Ok.place.ptr c.args.value c.push_back-place.new.self w.in-Ok.ensures.pushed)
  | in-Err w ↦ steady c.push_back-place.new.self c.args.self.now (w.in-Err.ensures.pushed.0 ∙ (storing c.self.inside.rings c.args.self.now c.self.view_is c.self.invariant))
]

pub returns-clause-ok : goal.returns-clause-ok
returns-clause-ok g c = elim c.match-place.branch [
  | in-Ok w ↦ subst (λ r. IfOk r (λ node. shown c.push_back-place.new.self ≡ record c.args.self.now { lists = push_at c.args.list (node, c.args.value) c.args.self.now.lists })) (sym w.result-is)
      (shows c.push_back-place.new.self (record c.args.self.now { lists = push_at c.args.list (w.in-Ok.place.ptr, c.args.value) c.args.self.now.lists }) (pushed c.self.inside.rings c.args.self.now (storing c.self.inside.rings c.args.self.now c.self.view_is c.self.invariant) c.args.list w.in-Ok.place.ptr c.args.value c.push_back-place.new.self w.in-Ok.ensures.pushed))
  | in-Err w ↦ subst (λ r. IfOk r (λ node. shown c.push_back-place.new.self ≡ record c.args.self.now { lists = push_at c.args.list (node, c.args.value) c.args.self.now.lists })) (sym w.result-is) tt
]

pub returns-clause-fresh : goal.returns-clause-fresh
returns-clause-fresh g c = elim c.match-place.branch [
  | in-Ok w ↦ subst (λ r. IfOk r (λ node. (has_node node c.args.self.now.lists ≡ false) × (contains_id node c.args.self.now.retired ≡ false))) (sym w.result-is)
      (absent-stored w.in-Ok.place.ptr c.args.self.now (sym (ap (has_node w.in-Ok.place.ptr) (storing c.self.inside.rings c.args.self.now c.self.view_is c.self.invariant)) ∙ w.in-Ok.ensures.fresh))
  | in-Err w ↦ subst (λ r. IfOk r (λ node. (has_node node c.args.self.now.lists ≡ false) × (contains_id node c.args.self.now.retired ≡ false))) (sym w.result-is) tt
]
