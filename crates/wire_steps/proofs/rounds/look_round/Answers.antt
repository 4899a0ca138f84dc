use Rattle.std.proofs.Common.{arith}
use Rattle.wire_state.specs.Progress.{to_go}
use Rattle.wire_steps.proofs.Answering.{if_ok_map}
use Rattle.wire_steps.proofs.rounds.look_round.Goals as goal

pub returns-in-Frame-clause-go : goal.returns-in-Frame-clause-go
unfolding to_go
returns-in-Frame-clause-go c = if_ok_map c.frame_at.result (λ more g e. omega (arith, g e, c.next_work.ensures.go)) c.frame_at.ensures.go

pub returns-in-Close-clause-go : goal.returns-in-Close-clause-go
unfolding to_go
returns-in-Close-clause-go c = if_ok_map c.close_at.result (λ more g e. omega (arith, g e, c.next_work.ensures.go)) c.close_at.ensures.go
