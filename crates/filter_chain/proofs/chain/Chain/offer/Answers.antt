use Rattle.std.proofs.Common.{◌≡◌, sym, subst, arith, All}
use Rattle.std.proofs.lemmas.List.{with_items_is}
use Rattle.std.specs.Vec.{with_items}
use Rattle.std.specs.Prelude.{Ok}
use Rattle.filter_chain.proofs.Changes.{AreSound}
use Rattle.filter_chain.proofs.Sound.{fed_sound, free_if_ok, places_sound}
use Rattle.filter_chain.specs.Stage.{IsReady, places_of}
use Rattle.filter_chain.specs.View.{chain_of}
use Rattle.filter_chain.proofs.chain.Chain.offer.Goals as goal

pub invariant_of-self-2 : goal.invariant_of-self-2
invariant_of-self-2 c =
    let was : AreSound (places_of c.deref_mut.result.now) =
    subst (λ xs. AreSound (places_of xs)) (sym c.deref_mut.ensures.value) (places_sound (chain_of c.self.inside) c.self.invariant.sound) in
    let free = free_if_ok (Ok c.in_ok-shifted.shifted) _ c.in_ok-shifted.ensures.too_large in
    let now : AreSound (places_of c.feed.new.stages) =
    subst AreSound (sym c.in_ok-shifted.ensures.gains) (fed_sound (places_of c.deref_mut.result.now) c.args.from.now.octets c.args.n c.requires free was) in
    let whole : (with_items c.self.inside.stages c.feed.new.stages).items ≡ c.feed.new.stages = with_items_is c.self.inside.stages c.feed.new.stages (omega arith) in
    let there : AreSound (places_of (with_items c.self.inside.stages c.feed.new.stages).items) = subst (λ xs. AreSound (places_of xs)) (sym whole) now in
    record {
      sound = record { order = there.order; few = there.few; each = there.each; quantum = c.self.invariant.sound.quantum; clock = c.self.invariant.sound.clock };
      ready = subst (All (IsReady c.self.inside.quantum)) (sym whole)
          (c.in_ok-shifted.ensures.ready c.self.inside.quantum (subst (All (IsReady c.self.inside.quantum)) (sym c.deref_mut.ensures.value) c.self.invariant.ready));
    }

pub returns-clause-sound : goal.returns-clause-sound
returns-clause-sound c = (invariant_of-self-2 c).sound
