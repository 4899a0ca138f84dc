use Rattle.flow_gate.proofs.Leaving.{leave_more, left_all, left_so_far}
use Rattle.flow_gate.proofs.gates.leave_each.Goals as goal
use Rattle.flow_gate.specs.Parts.{buffer_at}
use Rattle.std.proofs.Common.{ap, arith, length, take, ◌∙◌}
use Rattle.std.proofs.Math.Seq.{take-length}
use Rattle.std.specs.Prelude.{◌≡◌}

pub loop-watch-preserved : goal.loop-watch-preserved
loop-watch-preserved c = λ f are. leave_more f c.args.watches.now c.loop-watch.watch-index _ c.args.buffers.now c.loop-watch.buffers c.leave.new.buffers
    c.loop-watch-test.true are (c.loop-watch.invariant f are) (c.leave.ensures f)

pub returns : goal.returns
returns c = λ f are b.
    let end : c.loop-watch.watch-index ≡ length c.args.watches.now = omega arith in
    c.loop-watch.invariant f are b
    ∙ ap (λ ws. left_so_far f ws b (buffer_at c.args.buffers.now b)) (ap (λ i. take i c.args.watches.now) end ∙ take-length c.args.watches.now)
    ∙ left_all f c.args.watches.now c.args.buffers.now b are
