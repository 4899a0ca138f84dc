-- Piece after piece is put.
use Rattle.std.proofs.Common.{List, ap, ℕ, ◌++◌, ◌∙◌}
use Rattle.tape_plot.proofs.Drawing.{pieces_done, pieces_next}
use Rattle.tape_plot.proofs.draw.sheet.Sheet.put_onto.Goals as goal

pub loop-piece-preserved : goal.loop-piece-preserved
loop-piece-preserved c = record {
  same = pieces_next c.args.into.now c.loop-piece.into _ c.args.self.now.pieces.items c.loop-piece.rest.now _ _ c.in-Some.ensures.cases.0
      (c.in_ok-push_all.ensures.ok ∙ ap (λ (v : List ℕ). c.loop-piece.into ++ v) c.as_slice.ensures) c.loop-piece.invariant.same;
}

pub returns : goal.returns
returns c = pieces_done c.args.into.now c.loop-piece.into c.args.self.now.pieces.items c.loop-piece.rest.now c.in_default.ensures.cases c.loop-piece.invariant.same
