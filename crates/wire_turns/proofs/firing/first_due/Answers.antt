use Rattle.std.proofs.Common.{ap, arith}
use Rattle.std.specs.Prelude.{List, length}
use Rattle.wire_turns.proofs.firing.first_due.Goals as goal
use Rattle.wire_state.specs.Progress.{to_go}
use Rattle.wire_timers.specs.declared.due.Due.{Due}

pub returns-in-Some-clause-go : goal.returns-in-Some-clause-go
unfolding to_go
returns-in-Some-clause-go c =
    let e = ap (λ (ds : List Due). length ds) c.in-Some.ensures.some in
    omega (arith, e)

pub returns-in-None-clause-go : goal.returns-in-None-clause-go
unfolding to_go
returns-in-None-clause-go c =
    let o = ap (λ (ds : List Due). length ds) c.in-None.ensures.none.0 in
    let n = ap (λ (ds : List Due). length ds) c.in-None.ensures.none.1 in
    omega (arith, o, n)
