use Rattle.std.proofs.Common.{rules, ◌≡◌, refl, ap, ◌∙◌, sym, subst, List, [], Some}
use Rattle.std.proofs.lemmas.List.Elements.{All-pop}
use Rattle.crossbeam_queue.specs.SegTies.{IsSegPassOf}
use Rattle.post_queue.specs.Pass.{view}
use Rattle.post_queue.specs.declared.hand.Hand.{Hand}
use Rattle.post_queue.specs.declared.passes.PosterPass.{PosterPass}
use Rattle.post_queue.proofs.Steps.{ends}
use Rattle.post_queue.proofs.Ended.{Ended, ends_none, ends_one, ends_all}
use Rattle.post_queue.proofs.close.end_all.Goals as goal

pub loop-poster-init : goal.loop-poster-init
loop-poster-init c = record { pass = (c.requires.runner.0, c.requires.runner.1, refl, refl); each = c.requires.each; ended = ends_none (view c.args.runner.now) _ c.requires.runner.2 }

pub absorb-requires-clause-queue : goal.absorb-requires-clause-queue
absorb-requires-clause-queue c =
    (c.loop-poster.invariant.pass.0, (All-pop (λ (p : PosterPass). IsSegPassOf c.args.queue.now p.pass) _ _ (Some c.in-Some.poster) c.in-Some.ensures.items c.loop-poster.invariant.each).1)

pub absorb-requires-clause-rule : goal.absorb-requires-clause-rule
absorb-requires-clause-rule c = ends _ _ _ _ c.loop-poster.invariant.pass.1 c.in-Some.poster.posts

pub loop-poster-preserved : goal.loop-poster-preserved
loop-poster-preserved c = let is = c.absorb.ensures.rule in record {
  pass = (
    c.absorb.ensures.queue.0,
    ap (λ (v : Hand). v.runs) is ∙ c.loop-poster.invariant.pass.1,
    ap (λ (v : Hand). v.ran) is ∙ c.loop-poster.invariant.pass.2,
    ap (λ (v : Hand). v.count) is ∙ c.loop-poster.invariant.pass.3,
  );
  each = (All-pop (λ (p : PosterPass). IsSegPassOf c.args.queue.now p.pass) _ _ (Some c.in-Some.poster) c.in-Some.ensures.items c.loop-poster.invariant.each).0;
  ended = subst (λ (v : Hand). Ended v c.args.passes.items c.pop.new.self.items) (sym is)
      (ends_one (view c.loop-poster.runner) _ _ _ _ c.in-Some.poster.poster_is c.in-Some.ensures.items c.loop-poster.invariant.ended);
}

pub returns-clause-known : goal.returns-clause-known
returns-clause-known c = let none_left : c.loop-poster.passes.items ≡ [] = search rules in
    (ends_all (view c.loop-poster.runner) _ (subst (λ (l : List PosterPass). Ended (view c.loop-poster.runner) c.args.passes.items l) none_left c.loop-poster.invariant.ended)).0

pub returns-clause-all : goal.returns-clause-all
returns-clause-all c = let none_left : c.loop-poster.passes.items ≡ [] = search rules in
    let all = ends_all (view c.loop-poster.runner) _ (subst (λ (l : List PosterPass). Ended (view c.loop-poster.runner) c.args.passes.items l) none_left c.loop-poster.invariant.ended) in (all.1, all.2)
