-- What is left to do where the next flow was told that a write buffer drained.
use Rattle.exchange_core.specs.Exchange.{flow_id, goes_to as side_goes}
use Rattle.exchange_core.specs.Exchanges.{exchange_at}
use Rattle.exchange_core.specs.declared.exchange.Exchange.{Exchange}
use Rattle.flow_gate.proofs.Counting.{count-cons}
use Rattle.flow_gate.proofs.SameIds.{same_flow-comm, same_flow-refl}
use Rattle.flow_gate.specs.Board.{Board, pending_on, times, watchers_of}
use Rattle.flow_gate.specs.Changes.{Tells}
use Rattle.flow_gate.specs.Ids.{same_flow}
use Rattle.flow_rules.specs.declared.ids.BufferId.{BufferId}
use Rattle.flow_rules.specs.declared.ids.FlowId.{FlowId}
use Rattle.std.proofs.Common.{ap, arith, refl, sym, ◌∙◌}
use Rattle.std.proofs.lemmas.Option.{none-some}
use Rattle.std.specs.Option.{option_and_then, option_map_or}
use Rattle.std.specs.Prelude.{Bool, List, None, Option, Some, [], cond, false, if◌then◌else◌, is_some, not, true, ℕ, ◌&&◌, ◌*◌, ◌+◌, ◌++◌, ◌==◌, ◌∷◌, ◌≡◌, ◌≤◌}
use Rattle.wire_flows.proofs.Cases.{by_case, number_is, same_number}
use Rattle.wire_flows.proofs.Going.{all_at, go_changes}
use Rattle.wire_flows.proofs.Watched.{watcher_goes}
use Rattle.wire_flows.specs.Flows.{Flows, goes_to, is_live_in}
use Rattle.wire_flows.specs.Measure.{all_of, low_of, lows_of, to_go, way}
use Rattle.wire_flows.specs.Sound.{IsSound}
use Rattle.wire_flows.specs.Writes.{lows_on}
use Rattle.flow_rules.specs.declared.ids.BufferId.TheVariants as buffer

module _ (c : ℕ) (f : FlowId) (old : Flows) (board : Board) (s : IsSound old) (t : Tells (buffer.Write c) (f ∷ []) old.gates board) where
  abbrev after : Flows
  after = record { exchanges = old.exchanges; gates = board }

  first_pending : pending_on old.gates (buffer.Write c) ≡ f ∷ pending_on board (buffer.Write c)
  first_pending = t.pending (buffer.Write c) ∙ ap (λ b. (if b then f ∷ [] else []) ++ pending_on board (buffer.Write c)) (same_number c)

  others_pending : (d : ℕ) → (c == d) ≡ false → pending_on old.gates (buffer.Write d) ≡ pending_on board (buffer.Write d)
  others_pending d other = t.pending (buffer.Write d) ∙ ap (λ b. (if b then f ∷ [] else []) ++ pending_on board (buffer.Write d)) other

  times_first : (g : FlowId) → times g (pending_on old.gates (buffer.Write c)) ≡ cond (same_flow g f) 1 0 + times g (pending_on board (buffer.Write c))
  times_first g = ap (times g) first_pending ∙ count-cons (same_flow g) f (pending_on board (buffer.Write c))

  told_times : 1 ≤ times f (watchers_of old.gates (buffer.Write c))
  told_times = some (times f (pending_on old.gates (buffer.Write c))) (cond (same_flow f f) 1 0) (times f (pending_on board (buffer.Write c))) (times f (watchers_of old.gates (buffer.Write c)))
      (times_first f) (ap {B = ℕ} (λ b. cond b 1 0) (same_flow-refl f)) (s.gates.pending f (buffer.Write c))
    where
      some : (p o r w : ℕ) → p ≡ o + r → o ≡ 1 → p ≤ w → 1 ≤ w
      some p o r w e g l = omega (arith, e, g, l)

  pub told_goes : goes_to old f ≡ Some c
  told_goes = watcher_goes old s c f told_times

  told_exchange : (o : Option Exchange) → option_and_then (side_goes f.back) o ≡ Some c → is_some o ≡ true
  told_exchange None e = absurd (none-some c e)
  told_exchange (Some e) is = refl

  pub told_live : is_live_in old f.exchange ≡ true
  told_live = told_exchange (exchange_at old.exchanges f.exchange) told_goes

  -- of another flow as many lows are pending, and of this one one less
  low_stays : (g : FlowId) → same_flow g f ≡ false → low_of after g ≡ low_of old g
  low_stays g apart = by_target (goes_to old g)
    where
      same : (o r u : ℕ) → o ≡ 0 → u ≡ o + r → r ≡ u
      same o r u e g = omega (arith, e, g)

      by_target : (to : Option ℕ) → option_map_or (λ d. times g (lows_on d after)) to 0 ≡ option_map_or (λ d. times g (lows_on d old)) to 0
      by_target None = refl
      by_target (Some d) = by_case (c == d)
          (λ is. ap (λ x. times g (lows_on x after)) (sym (number_is c d is))
          ∙ (same (cond (same_flow g f) 1 0) (times g (lows_on c after)) (times g (lows_on c old)) (ap {B = ℕ} (λ b. cond b 1 0) apart) (times_first g)
          ∙ ap (λ x. times g (lows_on x old)) (number_is c d is)))
          (λ other. ap (times g) (sym (others_pending d other)))

  low_falls : low_of old f ≡ low_of after f + 1
  low_falls = ap (λ to. option_map_or (λ d. times f (lows_on d old)) to 0) told_goes
      ∙ (less (cond (same_flow f f) 1 0) (times f (lows_on c after)) (times f (lows_on c old)) (ap {B = ℕ} (λ b. cond b 1 0) (same_flow-refl f)) (times_first f)
      ∙ ap (λ to. option_map_or (λ d. times f (lows_on d after)) to 0 + 1) (sym told_goes))
    where
      less : (o r u : ℕ) → o ≡ 1 → u ≡ o + r → u ≡ r + 1
      less o r u e g = omega (arith, e, g)

  -- ---- of an exchange
  apart_from : (y : ℕ) (b : Bool) → (f.exchange == y) ≡ false → same_flow (flow_id y b) f ≡ false
  apart_from y b other = same_flow-comm (flow_id y b) f ∙ ap (λ t. t && (if f.back then b else not b)) other

  all_other : (y : ℕ) → (f.exchange == y) ≡ false → all_at after y ≡ all_at old y
  all_other y other = by_found (exchange_at old.exchanges y)
    where
      by_found : (o : Option Exchange) → option_map_or (all_of after y) o 0 ≡ option_map_or (all_of old y) o 0
      by_found None = refl
      by_found (Some e) = λ i. way e + 16 * (low_stays (flow_id y false) (apart_from y false other) i + low_stays (flow_id y true) (apart_from y true other) i)

  lows_fall : lows_of old f.exchange ≡ lows_of after f.exchange + 1
  lows_fall = by_side f.back refl
    where
      second : (a b a' b' : ℕ) → a ≡ a' → b ≡ b' + 1 → a + b ≡ (a' + b') + 1
      second a b a' b' e g = omega (arith, e, g)

      first : (a b a' b' : ℕ) → a ≡ a' + 1 → b ≡ b' → a + b ≡ (a' + b') + 1
      first a b a' b' e g = omega (arith, e, g)

      is_side : (b : Bool) → f.back ≡ b → flow_id f.exchange b ≡ f
      is_side b e = ap (flow_id f.exchange) (sym e)

      not_side : (a b : Bool) → f.back ≡ b → (if a then b else not b) ≡ false → same_flow (flow_id f.exchange a) f ≡ false
      not_side a b e other = (λ i. (f.exchange == f.exchange) && (if a then e i else not (e i))) ∙ (ap (λ t. (f.exchange == f.exchange) && t) other ∙ and_false (f.exchange == f.exchange))
        where
          and_false : (b : Bool) → (b && false) ≡ false
          and_false true = refl
          and_false false = refl

      by_side : (b : Bool) → f.back ≡ b → lows_of old f.exchange ≡ lows_of after f.exchange + 1
      by_side true e = second _ _ _ _ (sym (low_stays (flow_id f.exchange false) (not_side false true e refl))) (ap (low_of old) (is_side true e) ∙ (low_falls ∙ ap (λ g. low_of after g + 1) (sym (is_side true e))))
      by_side false e = first _ _ _ _ (ap (low_of old) (is_side false e) ∙ (low_falls ∙ ap (λ g. low_of after g + 1) (sym (is_side false e)))) (sym (low_stays (flow_id f.exchange true) (not_side true false e refl)))

  pub go_told : to_go after + 16 ≤ to_go old
  go_told = sums (to_go after) (to_go old) (all_at old f.exchange) (all_at after f.exchange) (go_changes f.exchange old after s.exchanges s.exchanges all_other) (at_least (exchange_at old.exchanges f.exchange) told_live)
    where
      sums : (n o a b : ℕ) → n + a ≡ o + b → b + 16 ≡ a → n + 16 ≤ o
      sums n o a b e l = omega (arith, e, l)

      more : (w l m : ℕ) → l ≡ m + 1 → (w + 16 * m) + 16 ≡ w + 16 * l
      more w l m e = omega (arith, e)

      at_least : (o : Option Exchange) → is_some o ≡ true → option_map_or (all_of after f.exchange) o 0 + 16 ≡ option_map_or (all_of old f.exchange) o 0
      at_least None some = cc
      at_least (Some e) some = more (way e) (lows_of old f.exchange) (lows_of after f.exchange) lows_fall
