-- Octets come for the stream.
use Rattle.replay_run.proofs.Drilling.{yields_body}
use Rattle.std.proofs.Common.{ap, ℕ, ◌%◌, ◌∙◌}
use Rattle.std.specs.Prelude.{replicate}
use Rattle.replay_run.proofs.drill.Drill.body.Goals as goal

pub returns : goal.returns
returns c =
    yields_body c.args.self.now c.args.round c.args.at c.stream_at-stream.result c.next_number-x.result c.in_ok-octets.octets c.requires.placed c.stream_at-stream.ensures c.next_number-x.ensures
    (c.in_ok-octets.ensures ∙ ap (λ (v : ℕ). replicate v (c.stream_at-stream.result % 256)) c.amount.ensures)
