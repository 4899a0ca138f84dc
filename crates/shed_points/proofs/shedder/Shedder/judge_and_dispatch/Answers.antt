-- What the event comes to was carried out.
use Rattle.shed_points.proofs.Carrying.{whole_carried}
use Rattle.shed_points.proofs.shedder.Shedder.judge_and_dispatch.Goals as goal
use Rattle.std.proofs.Common.{refl}

pub returns-clause-sheds : goal.returns-clause-sheds
returns-clause-sheds g c =
    whole_carried c.args.self.now c.judge.new.self c.args.event.now c.in_ok-verdict.verdict c.args.core.now.kind c.args.notes.now c.in_ok-verdict.ensures.judged c.dispatch_kept.new.core.kind c.dispatch_stead.new.core.kind
    c.dispatch_kept.new.notes c.dispatch_stead.new.notes c.instead.result c.args.self.now.posts c.in_ok-dispatch_kept.ensures.carries c.in_ok-dispatch_stead.ensures.carries c.instead.ensures refl
