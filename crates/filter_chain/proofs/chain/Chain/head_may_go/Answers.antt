use Rattle.std.proofs.Common.{◌≡◌, ◌+◌, ◌∙◌, true, false, sym, ap}
use Rattle.std.specs.Prelude.{◌&&◌, ◌||◌, not, drop}
use Rattle.std.proofs.Math.ListN.{get_or}
use Rattle.filter_chain.proofs.chain.Chain.head_may_go.Goals.{else-is_hold-via-then-is_hold+else-not-is_whole_at, else-is_hold-via-else-is_hold}
use Rattle.filter_chain.proofs.Readings.{holds_step}
use Rattle.filter_chain.specs.Place.{is_hold}
use Rattle.filter_chain.specs.Release.{holds_filled, is_whole_at}
use Rattle.filter_chain.proofs.chain.Chain.head_may_go.Goals as goal

pub returns-then-not-is_whole_at : goal.returns-then-not-is_whole_at
returns-then-not-is_whole_at c =
    let hold : is_hold (get_or c.deref-stage-items.result.now c.loop-index.index c.stage-item.result).kind ≡ true =
    ap (λ s. is_hold s.kind) (sym c.stage-item.is) ∙ (sym c.is_hold.ensures ∙ c.if-is_hold.true) in
    let unfilled : is_whole_at c.args.self.now (c.loop-index.index + 1) ≡ false = sym c.is_whole_at.ensures ∙ c.if-not-is_whole_at.true in
    let first : (not (is_hold (get_or c.deref-stage-items.result.now c.loop-index.index c.stage-item.result).kind) || is_whole_at c.args.self.now (c.loop-index.index + 1)) ≡ false =
    ap (λ b. not b || is_whole_at c.args.self.now (c.loop-index.index + 1)) hold ∙ unfilled in
    sym (sym c.loop-index.invariant.rest
    ∙ (holds_step c.args.self.now c.deref-stage-items.result.now c.loop-index.index c.stage-item.result c.loop-index.invariant.seen c.loop-index-test.true
    ∙ ap (λ b. b && holds_filled c.args.self.now ((c.loop-index.index + 1) + 1) (drop (c.loop-index.index + 1) c.args.self.now.places)) first))

pub loop-index-preserved : goal.loop-index-preserved
loop-index-preserved c =
    let same : is_hold (get_or c.deref-stage-items.result.now c.loop-index.index c.stage-item.result).kind ≡ c.is_hold.result =
    ap (λ s. is_hold s.kind) (sym c.stage-item.is) ∙ sym c.is_hold.ensures in
    let first : (not (is_hold (get_or c.deref-stage-items.result.now c.loop-index.index c.stage-item.result).kind) || is_whole_at c.args.self.now (c.loop-index.index + 1)) ≡ true =
    elim c.else-is_hold.branch [
      | else-is_hold-via-then-is_hold+else-not-is_whole_at w ↦
          ap (λ b. not b || is_whole_at c.args.self.now (c.loop-index.index + 1)) (same ∙ w.if-is_hold.true)
          ∙ (sym w.is_whole_at.ensures ∙ w.if-not-is_whole_at.false)
      | else-is_hold-via-else-is_hold w ↦
          ap (λ b. not b || is_whole_at c.args.self.now (c.loop-index.index + 1)) (same ∙ w.if-is_hold.false)
    ] in
    record {
      seen = c.loop-index.invariant.seen;
      rest = sym (holds_step c.args.self.now c.deref-stage-items.result.now c.loop-index.index c.stage-item.result c.loop-index.invariant.seen c.loop-index-test.true
          ∙ ap (λ b. b && holds_filled c.args.self.now ((c.loop-index.index + 1) + 1) (drop (c.loop-index.index + 1) c.args.self.now.places)) first)
          ∙ c.loop-index.invariant.rest;
    }
