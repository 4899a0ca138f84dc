use Rattle.std.proofs.Common.{◌≡◌, ◌≤◌, sym, ap, subst, arith, All}
use Rattle.std.proofs.lemmas.List.{with_items_is}
use Rattle.std.specs.Vec.{with_items}
use Rattle.filter_chain.proofs.Changes.{AreSound}
use Rattle.filter_chain.proofs.Sound.{places_sound, refilled_sound}
use Rattle.filter_chain.specs.Chain.{Chain}
use Rattle.filter_chain.specs.Stage.{IsReady, places_of}
use Rattle.filter_chain.specs.View.{chain_of}
use Rattle.filter_chain.proofs.chain.Chain.tick.Goals as goal

pub invariant_of-self : goal.invariant_of-self
invariant_of-self c =
    let was : AreSound (places_of c.deref_mut.result.now) =
    subst (λ xs. AreSound (places_of xs)) (sym c.deref_mut.ensures.value) (places_sound (chain_of c.self.inside) c.self.invariant.sound) in
    let now : AreSound (places_of c.refill_all.new.stages) =
    subst AreSound (sym c.refill_all.ensures.places) (refilled_sound c.go_on-steps.result (places_of c.deref_mut.result.now) was) in
    let whole : (with_items c.self.inside.stages c.refill_all.new.stages).items ≡ c.refill_all.new.stages = with_items_is c.self.inside.stages c.refill_all.new.stages (omega arith) in
    let there : AreSound (places_of (with_items c.self.inside.stages c.refill_all.new.stages).items) = subst (λ xs. AreSound (places_of xs)) (sym whole) now in
    let time : c.self.inside.clock.time ≡ c.args.self.now.time = ap (λ (chain : Chain). chain.time) c.self.view_is in
    let ordered : c.self.inside.clock.started ≤ c.self.inside.clock.time = c.self.invariant.sound.clock in
    record {
      sound = record { order = there.order; few = there.few; each = there.each; quantum = c.self.invariant.sound.quantum; clock = omega arith };
      ready = subst (All (IsReady c.self.inside.quantum)) (sym whole)
          (c.refill_all.ensures.ready c.self.inside.quantum (subst (All (IsReady c.self.inside.quantum)) (sym c.deref_mut.ensures.value) c.self.invariant.ready));
    }

pub returns-clause-sound : goal.returns-clause-sound
returns-clause-sound c = (invariant_of-self c).sound
