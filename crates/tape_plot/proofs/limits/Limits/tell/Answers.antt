-- The limit is found by its buffer, and the others stay.
use Rattle.flow_gate.proofs.Reading.{buffer_updates}
use Rattle.flow_gate.proofs.SameIds.{same_buffer-comm}
use Rattle.std.proofs.Common.{Bool, ap, ◌∙◌}
use Rattle.std.specs.Prelude.{Some, cond}
use Rattle.tape_plot.specs.Limits.{limit_at}
use Rattle.tape_plot.proofs.limits.Limits.tell.Goals as goal

pub returns : goal.returns
returns c = record {
  each = λ d.
      buffer_updates c.args.self.now.items.entries c.insert.new.self.entries c.args.buffer (Some c.args.limit) c.in_ok-insert.ensures.updates.0 d
      ∙ ap (λ (t : Bool). cond t (Some c.args.limit) (limit_at c.args.self.now d)) (same_buffer-comm c.args.buffer d);
}
