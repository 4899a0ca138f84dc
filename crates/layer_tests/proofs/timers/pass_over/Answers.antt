use Rattle.std.proofs.Common.{◌≡◌, false, List, [], ◌∷◌, ◌++◌, sym, subst, append-nil}
use Rattle.std.specs.List.{AllByRecursion, IsDistinct}
use Rattle.link_lists.specs.Lists.{NodeId}
use Rattle.link_lists.specs.Places.{same_ptr}
use Rattle.link_lists.proofs.Edges.{with_one}
use Rattle.link_lists.proofs.Splits.{all_both}
use Rattle.scaled_timer.specs.Timing.{Timing, IsHeld, AreHeld}
use Rattle.layer_tests.proofs.timers.pass_over.Goals as goal

-- the first goes behind the others
turned : (t : Timing) (p : NodeId) (ps : List NodeId) → AreHeld (p ∷ ps) t → AreHeld (ps ++ p ∷ []) t
unfolding IsDistinct
turned t p ps h = record {
  each = all_both (λ q. IsHeld q t) ps (p ∷ []) h.each.1 (h.each.0, tt);
  apart = with_one ps p [] (subst (AllByRecursion (λ q. same_ptr p q ≡ false)) (sym (append-nil ps)) h.apart.0) (subst (IsDistinct same_ptr) (sym (append-nil ps)) h.apart.1);
}

pub returns-in_default-push_back-clause-held : goal.returns-in_default-push_back-clause-held
returns-in_default-push_back-clause-held g c = subst (λ l. AreHeld l c.args.timers.now) (sym c.in_default-push_back.ensures.items)
    (turned c.args.timers.now c.in-Some.timer c.pop_front.new.self.items (subst (λ l. AreHeld l c.args.timers.now) c.in-Some.ensures.items c.requires))
