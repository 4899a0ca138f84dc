use Rattle.std.proofs.Common.{◌≡◌, sym, subst, arith, All}
use Rattle.std.proofs.lemmas.List.{with_items_is}
use Rattle.std.specs.Vec.{with_items}
use Rattle.std.specs.Prelude.{OnOk}
use Rattle.filter_chain.proofs.Changes.{AreSound}
use Rattle.filter_chain.proofs.Outcomes.{either_way}
use Rattle.filter_chain.proofs.Sound.{loses_sound, places_sound}
use Rattle.filter_chain.specs.Stage.{IsReady, places_of}
use Rattle.filter_chain.specs.View.{chain_of}
use Rattle.std.proofs.lemmas.Result.{on_ok_weaker}
use Rattle.filter_chain.proofs.chain.Chain.frame.Goals as goal

pub invariant_of-self : goal.invariant_of-self
invariant_of-self c =
    let was : AreSound (places_of c.deref_mut.result.now) =
    subst (λ xs. AreSound (places_of xs)) (sym c.deref_mut.ensures.value) (places_sound (chain_of c.self.inside) c.self.invariant.sound) in
    let moved : OnOk c.frame_last.result (AreSound (places_of c.frame_last.new.stages)) =
    on_ok_weaker c.frame_last.result (λ loses. subst AreSound (sym loses) (loses_sound (places_of c.deref_mut.result.now) c.args.n was)) c.frame_last.ensures.loses in
    let now : AreSound (places_of c.frame_last.new.stages) =
    either_way c.frame_last.result moved c.frame_last.ensures.err (λ s. s) (λ e. subst (λ xs. AreSound (places_of xs)) (sym e.0) was) in
    let whole : (with_items c.self.inside.stages c.frame_last.new.stages).items ≡ c.frame_last.new.stages = with_items_is c.self.inside.stages c.frame_last.new.stages (omega arith) in
    let there : AreSound (places_of (with_items c.self.inside.stages c.frame_last.new.stages).items) = subst (λ xs. AreSound (places_of xs)) (sym whole) now in
    record {
      sound = record { order = there.order; few = there.few; each = there.each; quantum = c.self.invariant.sound.quantum; clock = c.self.invariant.sound.clock };
      ready = subst (All (IsReady c.self.inside.quantum)) (sym whole)
          (c.frame_last.ensures.ready c.self.inside.quantum (subst (All (IsReady c.self.inside.quantum)) (sym c.deref_mut.ensures.value) c.self.invariant.ready));
    }

pub returns-clause-sound : goal.returns-clause-sound
returns-clause-sound c = (invariant_of-self c).sound
