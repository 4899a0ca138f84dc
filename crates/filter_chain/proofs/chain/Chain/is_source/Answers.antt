use Rattle.std.proofs.Common.{◌∙◌, false, sym, ap}
use Rattle.std.specs.Option.{option_map_or}
use Rattle.std.specs.Prelude.{Option}
use Rattle.filter_chain.proofs.Readings.{at_place}
use Rattle.filter_chain.specs.Chain.{Chain}
use Rattle.filter_chain.specs.Place.{Place, is_source}
use Rattle.filter_chain.proofs.chain.Chain.is_source.Goals as goal

pub returns : goal.returns
returns c =
    c.is_source.ensures
    ∙ sym (ap (λ (o : Option Place). option_map_or (λ place. is_source place.kind) o false)
    (at_place c.args.self.now c.self.inside.stages.items c.args.place c.index.result.now (ap (λ (chain : Chain). chain.places) c.self.view_is) c.requires.first c.requires.last c.index.ensures))
