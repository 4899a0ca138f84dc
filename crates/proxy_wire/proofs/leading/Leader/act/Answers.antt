-- A look is posted to each box.
use Rattle.post_queue.specs.declared.passes.PosterPass.{PosterPass}
use Rattle.proxy_wire.proofs.Posting.{accepts_so}
use Rattle.proxy_wire.specs.Leading.{ArePosters}
use Rattle.std.proofs.Common.{List, arith, subst, sym, ◌≡◌}
use Rattle.std.proofs.lemmas.List.{with_items_is}
use Rattle.std.specs.Vec.{with_items}
use Rattle.proxy_wire.proofs.leading.Leader.act.Goals as goal

pub post_all-requires : goal.post_all-requires
post_all-requires g c = subst (λ (ps : List PosterPass). ArePosters c.args.boxes.now ps) (sym c.as_mut_slice.ensures.value) c.requires

pub returns-clause-posters : goal.returns-clause-posters
returns-clause-posters g c =
    let now = c.post_all.ensures.same in
    let before = c.requires.same in
    let whole : (with_items c.args.self.now.posters c.post_all.new.posters).items ≡ c.post_all.new.posters = with_items_is c.args.self.now.posters c.post_all.new.posters (omega (arith, now, before, c.args.self.now.posters.ok.0)) in
    subst (λ (ps : List PosterPass). ArePosters c.args.boxes.now ps) (sym whole) c.post_all.ensures

pub returns-clause-accepts : goal.returns-clause-accepts
returns-clause-accepts g c = accepts_so c.args.config.now _ _ _ _ c.is_saturated.ensures c.action_states-states.ensures.states c.as_slice.ensures
