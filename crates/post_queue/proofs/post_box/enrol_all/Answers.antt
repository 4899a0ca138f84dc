use Rattle.std.proofs.Common.{rules, ◌≡◌, ◌∙◌, sym, ap, subst, All}
use Rattle.std.proofs.lemmas.List.Elements.{All-push}
use Rattle.crossbeam_queue.specs.SegTies.{IsSegPassOf}
use Rattle.post_queue.specs.declared.passes.PosterPass.{PosterPass}
use Rattle.post_queue.specs.Pass.{view}
use Rattle.post_queue.specs.Steps.{poster}
use Rattle.post_queue.specs.Clauses.{AreInPlace}
use Rattle.post_queue.proofs.Places.{in_place-push}
use Rattle.post_queue.proofs.post_box.enrol_all.Goals as goal

pub loop-number-preserved : goal.loop-number-preserved
loop-number-preserved c = let new = c.enrol-pass.ensures.new in let same = sym c.push_reserved.ensures.items in record {
  first = search rules;
  len = search rules;
  room = search rules;
  each = subst (All (λ (p : PosterPass). IsSegPassOf c.args.queue.now p.pass × (view p.pass ≡ poster p.poster))) same
      (All-push (λ (p : PosterPass). IsSegPassOf c.args.queue.now p.pass × (view p.pass ≡ poster p.poster)) _ _ c.loop-number.invariant.each (new.0, new.1 ∙ ap poster (sym new.2)));
  places = subst AreInPlace same (in_place-push _ _ c.loop-number.invariant.places (new.2 ∙ sym c.loop-number.invariant.len ∙ c.loop-number.list.ok.0));
}
