use Rattle.std.proofs.Common.{sym, ◌∙◌}
use Rattle.link_lists.specs.Lists.{front_of}
use Rattle.scaled_timer.specs.Due.{delay_at}
use Rattle.scaled_timer.proofs.Sooner.{delay-at, read, some_none, due-then, due-else}
use Rattle.scaled_timer.proofs.fronts.front_at.Goals as goal

pub returns-then-due-now : goal.returns-then-due-now
returns-then-due-now c =
    let r = read (front_of c.args.kind c.args.lists.now.lists) _ (λ h. some_none _ h) c.in_ok-entry.entry.now c.in_ok-entry.ensures in
    due-then c.args.now c.args.kind (delay_at c.args.kinds.now c.args.ppm c.args.kind) c.delay.result (front_of c.args.kind c.args.lists.now.lists) r.0 c.in_ok-entry.entry.now r.1 r.2 (delay-at c.args.kinds.now c.args.ppm c.args.kind c.index-kinds-kind.result c.requires.kind c.index-kinds-kind.is ∙ sym c.delay.ensures.delay) c.if-due-now.true

pub returns-else-due-now : goal.returns-else-due-now
returns-else-due-now c =
    let r = read (front_of c.args.kind c.args.lists.now.lists) _ (λ h. some_none _ h) c.in_ok-entry.entry.now c.in_ok-entry.ensures in
    due-else c.args.now c.args.kind (delay_at c.args.kinds.now c.args.ppm c.args.kind) c.delay.result (front_of c.args.kind c.args.lists.now.lists) r.0 c.in_ok-entry.entry.now r.1 r.2 (delay-at c.args.kinds.now c.args.ppm c.args.kind c.index-kinds-kind.result c.requires.kind c.index-kinds-kind.is ∙ sym c.delay.ensures.delay) c.if-due-now.false
