use Rattle.std.proofs.Common.{All, List, append-nil, ap, arith, length, subst, sym, ◌++◌, ◌+◌, ◌≡◌, ◌∙◌}
use Rattle.std.proofs.lemmas.Result.{on_err_weaker}
use Rattle.std.specs.Prelude.{IfOk, OnOk}
use Rattle.post_queue.specs.Clauses.{pops_for}
use Rattle.post_queue.specs.Pass.{view}
use Rattle.post_queue.specs.Posts.{IsAllowed}
use Rattle.post_queue.specs.declared.hand.Hand.{Hand}
use Rattle.post_queue.specs.declared.passes.RunnerPass.{RunnerPass}
use Rattle.post_queue.specs.declared.posts.Post.{Post}
use Rattle.post_queue.proofs.post_box.PostBox.drain_if_any.Goals as goal

pub returns-then-finds_none-clause-ran : goal.returns-then-finds_none-clause-ran
returns-then-finds_none-clause-ran g c = c.finds_none.ensures.ran ∙ sym (append-nil _) ∙ ap (λ (l : List Post). (view c.args.pass.now.pass).ran ++ l) (sym c.empty.ensures)

pub returns-then-finds_none-clause-allowed : goal.returns-then-finds_none-clause-allowed
returns-then-finds_none-clause-allowed g c = subst (λ (l : List Post). All IsAllowed l) (sym c.empty.ensures) (λ k d lt. absurd (omega arith))

pub returns-then-finds_none-clause-pops : goal.returns-then-finds_none-clause-pops
returns-then-finds_none-clause-pops g c =
    c.finds_none.ensures.pops c.if-finds_none.true ∙ ap (λ (l : List Post). (view c.args.pass.now.pass).pops + pops_for (length l)) (sym c.empty.ensures)

pub returns-clause-ran : goal.returns-clause-ran
returns-clause-ran g c =
    subst (λ (l : List Post). IfOk c.drain.result (λ posts. (view c.drain.new.pass.pass).ran ≡ l ++ posts)) c.finds_none.ensures.ran c.drain.ensures.ran

pub returns-clause-pops : goal.returns-clause-pops
returns-clause-pops g c =
    subst (λ (v : Hand). IfOk c.drain.result (λ posts. (view c.drain.new.pass.pass).pops ≡ v.pops + pops_for (length posts))) (c.finds_none.ensures.same c.if-finds_none.false) c.drain.ensures.pops

pub returns-clause-drains : goal.returns-clause-drains
returns-clause-drains g c =
    subst (λ (v : Hand). OnOk c.drain.result ((view c.drain.new.pass.pass).drains ≡ v.drains + 1)) (c.finds_none.ensures.same c.if-finds_none.false) c.drain.ensures.drains

pub returns-clause-err : goal.returns-clause-err
returns-clause-err g c =
    on_err_weaker c.drain.result (λ e. ap (λ (p : RunnerPass). view p.pass) e ∙ c.finds_none.ensures.same c.if-finds_none.false) c.drain.ensures.err
