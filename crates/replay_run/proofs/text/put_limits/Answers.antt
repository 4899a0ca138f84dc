-- Header and limits stand behind the text.
use Rattle.flow_notes.proofs.Extending.{extends_by, extends_then}
use Rattle.replay_run.proofs.TwoFormats.{limits_put}
use Rattle.std.proofs.lemmas.Result.{err_from_is_err_and}
use Rattle.replay_run.proofs.text.put_limits.Goals as goal

pub returns-clause-ok : goal.returns-clause-ok
returns-clause-ok c = limits_put c.args.limits c.args.into.now _ _ _ _ _ _ c.from.result c.from-2.result c.from-3.result c.from-4.result c.push_all-2.result
    c.from.ensures c.from-2.ensures c.from-3.ensures c.from-4.ensures
    c.in_ok-push_all.ensures.ok c.in_ok-put_behind.ensures.ok c.in_ok-put_behind-2.ensures.ok c.in_ok-put_behind-3.ensures.ok c.in_ok-put_behind-4.ensures.ok c.push_all-2.ensures.ok

pub returns-in_err-put_behind-clause-err : goal.returns-in_err-put_behind-clause-err
returns-in_err-put_behind-clause-err c =
    let p = err_from_is_err_and c.from_residual-in_err-put_behind.result c.from_residual-in_err-put_behind.ensures.1 in
    rw p.1 (extends_then _ _ _ (extends_by _ _ _ c.in_ok-push_all.ensures.ok) c.in_err-put_behind.ensures.err)

pub returns-in_err-put_behind-2-clause-err : goal.returns-in_err-put_behind-2-clause-err
returns-in_err-put_behind-2-clause-err c =
    let p = err_from_is_err_and c.from_residual-in_err-put_behind-2.result c.from_residual-in_err-put_behind-2.ensures.1 in
    rw p.1 (extends_then _ _ _ (extends_by _ _ _ c.in_ok-push_all.ensures.ok) (extends_then _ _ _ (extends_by _ _ _ c.in_ok-put_behind.ensures.ok) c.in_err-put_behind-2.ensures.err))

pub returns-in_err-put_behind-3-clause-err : goal.returns-in_err-put_behind-3-clause-err
returns-in_err-put_behind-3-clause-err c =
    let p = err_from_is_err_and c.from_residual-in_err-put_behind-3.result c.from_residual-in_err-put_behind-3.ensures.1 in
    rw p.1 (extends_then _ _ _ (extends_by _ _ _ c.in_ok-push_all.ensures.ok) (extends_then _ _ _ (extends_by _ _ _ c.in_ok-put_behind.ensures.ok) (extends_then _ _ _ (extends_by _ _ _ c.in_ok-put_behind-2.ensures.ok) c.in_err-put_behind-3.ensures.err)))

pub returns-in_err-put_behind-4-clause-err : goal.returns-in_err-put_behind-4-clause-err
returns-in_err-put_behind-4-clause-err c =
    let p = err_from_is_err_and c.from_residual-in_err-put_behind-4.result c.from_residual-in_err-put_behind-4.ensures.1 in
    rw p.1 (extends_then _ _ _ (extends_by _ _ _ c.in_ok-push_all.ensures.ok) (extends_then _ _ _ (extends_by _ _ _ c.in_ok-put_behind.ensures.ok) (extends_then _ _ _ (extends_by _ _ _ c.in_ok-put_behind-2.ensures.ok) (extends_then _ _ _ (extends_by _ _ _ c.in_ok-put_behind-3.ensures.ok) c.in_err-put_behind-4.ensures.err))))
