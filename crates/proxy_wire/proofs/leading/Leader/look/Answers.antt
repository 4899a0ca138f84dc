-- What is read and published.
use Rattle.proxy_wire.proofs.Posting.{looked, looked_on, looks_on, sampled_same}
use Rattle.std.proofs.Common.{List, ap, length, sym, ℕ, ◌∙◌}
use Rattle.proxy_wire.proofs.leading.Leader.look.Goals as goal

pub publish-requires : goal.publish-requires
publish-requires g c = ap (λ (v : List ℕ). length v) c.as_slice.ensures ∙ sampled_same _ _ _ c.sample.ensures.sampled ∙ c.requires.publishes.pressures

pub returns-in-Err-clause-leads : goal.returns-in-Err-clause-leads
returns-in-Err-clause-leads g c = looked c.args.boxes.now c.args.self.now _ _ c.requires c.sample.ensures.sampled c.publish.ensures.same c.requires.posters

pub returns-clause-leads : goal.returns-clause-leads
returns-clause-leads g c = looked_on c.args.boxes.now c.args.self.now c.act.new.self _ _ _ c.requires c.sample.ensures.sampled c.publish.ensures.same c.act.ensures.same.0 c.act.ensures.same.1 c.act.ensures.posters

pub returns-clause-looks : goal.returns-clause-looks
returns-clause-looks g c = looks_on c.args.config.now c.args.self.now c.act.new.self _ _ c.in-Ok.ensures.list c.act.ensures.same.0 (c.act.ensures.same.1 ∙ sym c.as_slice.ensures) c.act.ensures.accepts
