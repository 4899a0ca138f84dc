use Rattle.flow_gate.proofs.Holding.{held_more}
use Rattle.flow_gate.proofs.gates.held_back.Goals as goal
use Rattle.flow_gate.specs.Parts.{held, watched_in}
use Rattle.std.proofs.Common.{ap, arith, length, take, ◌∙◌}
use Rattle.std.proofs.Math.Seq.{take-length}
use Rattle.std.specs.Prelude.{◌≡◌}

pub loop-watch-preserved : goal.loop-watch-preserved
loop-watch-preserved c = record {
  counted = λ f are. held_more f c.args.watches.now c.loop-watch.watch-index _ c.args.buffers.now c.loop-watch.count c.held_by-count.result
      c.loop-watch-test.true are (c.loop-watch.invariant.counted f are) (c.held_by-count.ensures.held f);
  small = omega (arith, c.loop-watch.invariant.small, c.held_by-count.ensures.most);
}

pub returns : goal.returns
returns c = λ f are.
    let end : c.loop-watch.watch-index ≡ length c.args.watches.now = omega arith in
    c.loop-watch.invariant.counted f are
    ∙ ap (λ ws. held c.args.buffers.now f (watched_in ws)) (ap (λ i. take i c.args.watches.now) end ∙ take-length c.args.watches.now)
