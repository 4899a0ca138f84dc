use Rattle.std.proofs.Common.{◌≡◌, ◌∙◌, sym, ap, subst, arith}
use Rattle.std.specs.Prelude.{[], ◌++◌, ◌∷◌}
use Rattle.filter_chain.specs.declared.stage.StageKind.TheVariants.{Send}
use Rattle.filter_chain.proofs.Changes.{AreSound}
use Rattle.filter_chain.proofs.Made.{empty_sound}
use Rattle.filter_chain.proofs.Sound.{places_sound}
use Rattle.filter_chain.specs.Chain.{IsSound, empty_chain, stages}
use Rattle.filter_chain.specs.Place.{empty_place}
use Rattle.filter_chain.specs.Stage.{places_of}
use Rattle.filter_chain.proofs.chain.Chain.new.Goals as goal

pub invariant_of-result : goal.invariant_of-result
invariant_of-result c =
    let base : IsSound (empty_chain c.args.flow c.args.filters.now c.args.send_limit c.args.now c.args.quantum) =
    empty_sound c.args.flow c.args.filters.now c.args.send_limit c.args.now c.args.quantum c.requires.filters c.requires.quantum in
    let made : places_of c.in_ok-stages.stages.items ≡ stages c.args.filters.now ++ empty_place Send c.args.send_limit ∷ [] =
    c.in_ok-stages.ensures.places ∙ ap (λ fs. stages fs ++ empty_place Send c.args.send_limit ∷ []) c.as_slice.ensures.rows in
    let there : AreSound (places_of c.in_ok-stages.stages.items) =
    subst AreSound (sym made) (places_sound (empty_chain c.args.flow c.args.filters.now c.args.send_limit c.args.now c.args.quantum) base) in
    record {
      sound = record { order = there.order; few = there.few; each = there.each; quantum = c.requires.quantum; clock = omega arith };
      ready = c.in_ok-stages.ensures.ready;
    }

pub returns-clause-sound : goal.returns-clause-sound
returns-clause-sound c = (invariant_of-result c).sound
