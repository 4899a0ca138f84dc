use Rattle.std.proofs.Common.{◌≡◌, ◌≤◌, ◌∙◌, length, sym, ap, subst, arith, All}
use Rattle.std.proofs.lemmas.List.{with_items_is}
use Rattle.std.specs.Vec.{with_items}
use Rattle.std.specs.Prelude.{OnOk}
use Rattle.filter_chain.proofs.Changes.{AreSound}
use Rattle.filter_chain.proofs.Outcomes.{both_ok, either_way}
use Rattle.filter_chain.proofs.Readings.{may_release_within}
use Rattle.filter_chain.proofs.Sound.{free_if_ok, passed_sound, places_sound}
use Rattle.filter_chain.specs.Chain.{Chain, octets_at, octets_in}
use Rattle.filter_chain.specs.Release.{may_release}
use Rattle.filter_chain.specs.Stage.{IsReady, places_of}
use Rattle.filter_chain.specs.View.{chain_of}
use Rattle.filter_chain.proofs.chain.Chain.release.Goals as goal

pub invariant_of-self : goal.invariant_of-self
invariant_of-self c =
    let was : AreSound (places_of c.deref_mut.result.now) =
    subst (λ xs. AreSound (places_of xs)) (sym c.deref_mut.ensures.value) (places_sound (chain_of c.self.inside) c.self.invariant.sound) in
    let within : may_release c.args.self.now c.args.place ≤ length (octets_at c.args.self.now c.args.place) = may_release_within c.args.self.now c.args.place in
    let same : octets_at c.args.self.now c.args.place ≡ octets_in (places_of c.deref_mut.result.now) c.args.place =
    ap (λ (chain : Chain). octets_at chain c.args.place) (sym c.self.view_is) ∙ ap (λ xs. octets_in (places_of xs) c.args.place) (sym c.deref_mut.ensures.value) in
    let len : length (octets_at c.args.self.now c.args.place) ≡ length (octets_in (places_of c.deref_mut.result.now) c.args.place) = ap length same in
    let few : c.args.n ≤ length (octets_in (places_of c.deref_mut.result.now) c.args.place) = omega arith in
    let moved : OnOk c.pass_on.result (AreSound (places_of c.pass_on.new.stages)) =
    both_ok c.pass_on.result (free_if_ok c.pass_on.result _ c.pass_on.ensures.too_large) c.pass_on.ensures.moves
    (λ free moves. subst AreSound (sym moves) (passed_sound (places_of c.deref_mut.result.now) c.args.place c.args.n free few was)) in
    let now : AreSound (places_of c.pass_on.new.stages) =
    either_way c.pass_on.result moved c.pass_on.ensures.err (λ s. s) (λ e. subst (λ xs. AreSound (places_of xs)) (sym e) was) in
    let whole : (with_items c.self.inside.stages c.pass_on.new.stages).items ≡ c.pass_on.new.stages = with_items_is c.self.inside.stages c.pass_on.new.stages (omega arith) in
    let there : AreSound (places_of (with_items c.self.inside.stages c.pass_on.new.stages).items) = subst (λ xs. AreSound (places_of xs)) (sym whole) now in
    record {
      sound = record { order = there.order; few = there.few; each = there.each; quantum = c.self.invariant.sound.quantum; clock = c.self.invariant.sound.clock };
      ready = subst (All (IsReady c.self.inside.quantum)) (sym whole)
          (c.pass_on.ensures.ready c.self.inside.quantum (subst (All (IsReady c.self.inside.quantum)) (sym c.deref_mut.ensures.value) c.self.invariant.ready));
    }

pub returns-clause-sound : goal.returns-clause-sound
returns-clause-sound c = (invariant_of-self c).sound
