-- The tokens of timers that have fired are given back one after the other.
use Rattle.std.proofs.Common.{◌≡◌, ℕ, ◌+◌, ◌<◌, ◌≤◌, true, List, [], ◌∷◌, length, drop, get_or, sym, ap, ◌∙◌, subst, add-one}
use Rattle.std.specs.Prelude.{Option, None, Some}
use Rattle.std.proofs.Math.Seq.{drop-cons}
use Rattle.std.proofs.lemmas.List.{drop_all}
use denote.RawPtr.{Ptr}
use Rattle.link_lists.specs.Lists.{contains_id, without_id}
use Rattle.scaled_timer.specs.declared.fired.Fired.{Fired}
use Rattle.scaled_timer.specs.Timing.{Timing}
use Rattle.wire_timers.specs.Held.{Key, Found, Spent}
use Rattle.wire_timers.proofs.Naming.{some_is}
use Rattle.wire_timers.proofs.Holding.{TakesOut, FirstSpent, first-spent, all-spent}

module _ (find : Key → Option Ptr) (t : Timing) (fired : List Fired) (i : ℕ) (spent : Spent find t (drop i fired)) where
  pub spent-at : (d : Fired) → i < length fired → FirstSpent find t (get_or fired i d) (drop (i + 1) fired)
  spent-at d h = first-spent find t (get_or fired i d) (drop (i + 1) fired) (subst (Spent find t) (drop-cons fired i d h ∙ ap (λ n. get_or fired i d ∷ drop n fired) (sym (add-one i))) spent)

  none-spent : length fired ≤ i → Found find t.armed × (t.fired ≡ [])
  none-spent h = all-spent find t (subst (Spent find t) (drop_all i fired h) spent)

  pub found-then : length fired ≤ i → Found find t.armed
  found-then h = (none-spent h).0

  pub fired-then : (init : Timing) → length fired ≤ i → t ≡ record init { fired = t.fired } → t ≡ record init { fired = [] }
  fired-then init h others = others ∙ ap (λ l. record init { fired = l }) (none-spent h).1

module _ (find : Key → Option Ptr) (t : Timing) (f : Fired) (rest : List Fired) (first : FirstSpent find t f rest) where
  module _ (p : Ptr) (e : Some p ≡ find (f.kind, f.id)) where
    pub token-spent : contains_id p t.fired ≡ true
    token-spent = subst (λ q. contains_id q t.fired ≡ true) (sym (some_is p first.timer (e ∙ first.found))) first.fired

    pub next-spent : (new : Key → Option Ptr) (after : Timing) → TakesOut (f.kind, f.id) find new → after ≡ record t { fired = without_id p t.fired } → Spent new after rest
    next-spent new after out back = first.left new after out (subst (λ q. after ≡ record t { fired = without_id q t.fired }) (some_is p first.timer (e ∙ first.found)) back)

  pub never_none : None ≡ find (f.kind, f.id) → ⊥
  never_none e = let clash : None ≡ Some first.timer = e ∙ first.found in cc

-- all else stays
pub others-stay : (init t after : Timing) (x : List Ptr) → t ≡ record init { fired = t.fired } → after ≡ record t { fired = x } → after ≡ record init { fired = after.fired }
others-stay init t after x h back = back ∙ ap (λ (s : Timing). record s { fired = x }) h ∙ ap (λ l. record init { fired = l }) (sym (ap (λ (s : Timing). s.fired) back))
