use Rattle.std.proofs.Common.{◌∙◌, sym, ap}
use Rattle.filter_chain.proofs.Readings.{at_place, limit_is}
use Rattle.filter_chain.specs.Chain.{Chain}
use Rattle.filter_chain.specs.Stage.{place_of}
use Rattle.filter_chain.proofs.chain.Chain.limit.Goals as goal

pub returns : goal.returns
returns c =
    c.limit.ensures
    ∙ sym (limit_is c.args.self.now c.args.place (place_of c.index.result.now)
    (at_place c.args.self.now c.self.inside.stages.items c.args.place c.index.result.now (ap (λ (chain : Chain). chain.places) c.self.view_is) c.requires.first c.requires.last c.index.ensures))
