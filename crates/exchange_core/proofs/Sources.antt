-- Which sources stand behind a place.
use Rattle.std.proofs.Math.Bool.{or-false}
use Rattle.std.proofs.lemmas.Bool.Decides.{nat_tests}
use Rattle.std.proofs.Common.{◌≡◌, ◌+◌, ◌<◌, ◌≤◌, ◌∙◌, ◌&&◌, ◌||◌, ℕ, suc, zero, List, [], ◌∷◌, length, Bool, true, false, refl, ap, nat_lt, arith}
use Rattle.std.proofs.lemmas.List.Folds.{list_any-append}
use Rattle.exchange_core.specs.Flow.{Flow, last_place}
use Rattle.exchange_core.specs.Moves.{is_held_at, is_target_above, later_above}
use Rattle.exchange_core.specs.State.{sources_from}
use Rattle.filter_chain.specs.Place.{Place, kind_of}
use Rattle.filter_chain.specs.declared.stage.StageKind.{StageKind}
use Rattle.filter_chain.specs.declared.stage.StageKind.TheVariants.{Hold, Meter, Send}
use Rattle.flow_gate.specs.Board.{Board, is_marked}
use Rattle.flow_rules.specs.declared.ids.BufferId.TheVariants as buffer
use Rattle.flow_rules.specs.declared.ids.FlowId.{FlowId}
use Rattle.flow_rules.specs.Sources.{SourceAt, source_of, write_source}
use Rattle.std.specs.List.{list_any}
use Rattle.std.specs.Option.{option_map_or}
use Rattle.std.specs.Prelude.{None, Option, Some, slice_get}

-- the source stands behind place q, and is above
abbrev pub is_later : Board → ℕ → SourceAt → Bool
is_later board q s = nat_lt q s.place && is_marked board s.buffer

-- the source of a place of this kind is above
abbrev pub marked_source : Board → FlowId → ℕ → StageKind → Bool
marked_source board f p kind = list_any (λ s. is_marked board s.buffer) (source_of f p (kind_of kind))

-- some source of these places, counted from k, is above and stands behind place q
abbrev pub later : Board → FlowId → ℕ → ℕ → List Place → Bool
later board f q k places = list_any (is_later board q) (sources_from f k places)

abbrev marked_at : Board → FlowId → List Place → ℕ → ℕ → Bool
marked_at board f places i p = option_map_or (λ place. marked_source board f p place.kind) (slice_get places i) false

and_none : (a : Bool) → false ≡ (a && false)
and_none true = refl
and_none false = refl

and_one : (a b : Bool) → ((a && b) || false) ≡ (a && (b || false))
and_one true b = refl
and_one false b = refl

module _ (board : Board) (f : FlowId) where
  one_source : (p q : ℕ) (kind : StageKind) → list_any (is_later board q) (source_of f p (kind_of kind)) ≡ (nat_lt q p && marked_source board f p kind)
  one_source p q Hold = and_none (nat_lt q p)
  one_source p q (Meter rate) = and_one (nat_lt q p) (is_marked board (buffer.Stage f p))
  one_source p q Send = and_one (nat_lt q p) (is_marked board (buffer.Send f))

  later_cons : (q k : ℕ) (x : Place) (xs : List Place) → later board f q k (x ∷ xs) ≡ ((nat_lt q k && marked_source board f k x.kind) || later board f q (k + 1) xs)
  later_cons q k x xs =
      cc (list_any-append (is_later board q) (source_of f k (kind_of x.kind)) (sources_from f (k + 1) xs), one_source k q x.kind)

  -- the place k is behind q, or isn't
  pub cons_behind : (q k : ℕ) (x : Place) (xs : List Place) → q < k → later board f q k (x ∷ xs) ≡ (marked_source board f k x.kind || later board f q (k + 1) xs)
  cons_behind q k x xs h =
      let e : nat_lt q k ≡ true = grind (arith, nat_tests) in
      later_cons q k x xs ∙ ap (λ b. (b && marked_source board f k x.kind) || later board f q (k + 1) xs) e

  pub cons_before : (q k : ℕ) (x : Place) (xs : List Place) → k ≤ q → later board f q k (x ∷ xs) ≡ later board f q (k + 1) xs
  cons_before q k x xs h =
      let e : nat_lt q k ≡ false = grind (arith, nat_tests) in
      later_cons q k x xs ∙ ap (λ b. (b && marked_source board f k x.kind) || later board f q (k + 1) xs) e

  -- all places from k on are behind both q and r
  far : (places : List Place) (k q r : ℕ) → q < k → r < k → later board f q k places ≡ later board f r k places
  far [] k q r h g = refl
  far (x ∷ xs) k q r h g =
      cc (cons_behind q k x xs h, far xs (k + 1) q r (omega arith) (omega arith), cons_behind r k x xs g)

  -- all places are before q
  none_behind : (places : List Place) (k q : ℕ) → k + length places ≤ q + 1 → later board f q k places ≡ false
  none_behind [] k q h = refl
  none_behind (x ∷ xs) k q h =
      cons_before q k x xs (omega arith) ∙ none_behind xs (k + 1) q (omega arith)

  -- one place more is behind q than behind p, which comes next
  behind : (places : List Place) (i k p q : ℕ) → p ≡ k + i → p ≡ q + 1 → i < length places → later board f q k places ≡ (marked_at board f places i p || later board f p k places)
  behind [] i k p q e s h = absurd (omega arith)
  behind (x ∷ xs) zero k p q e s h =
      let here : k ≡ p = omega arith in
      cons_behind q k x xs (omega arith)
      ∙ (cc (far xs (k + 1) q p (omega arith) (omega arith), cons_before p k x xs (omega arith)))
  behind (x ∷ xs) (suc i) k p q e s h =
      cc (cons_before q k x xs (omega arith), behind xs i (k + 1) p q (omega arith) s (omega arith), cons_before p k x xs (omega arith))

write_later : (board : Board) (q p : ℕ) (to : Option ℕ) → q < p → list_any (is_later board q) (write_source p to) ≡ is_target_above board to
write_later board q p None h = refl
write_later board q p (Some c) h =
    let e : nat_lt q p ≡ true = grind (arith, nat_tests) in
    ap (λ b. (b && is_marked board (buffer.Write c)) || false) e ∙ or-false (is_marked board (buffer.Write c))

-- behind a place of the chain stand the places that follow it, and the write buffer
pub parts : (board : Board) (to : Option ℕ) (flow : Flow) (q : ℕ) → q ≤ last_place flow → later_above board to flow q ≡ (later board flow.chain.flow q 1 flow.chain.places || is_target_above board to)
parts board to flow q h =
    cc (list_any-append (is_later board q) (sources_from flow.chain.flow 1 flow.chain.places) (write_source (last_place flow + 1) to), write_later board q (last_place flow + 1) to (omega arith))

or_assoc : (a b c : Bool) → ((a || b) || c) ≡ (a || (b || c))
or_assoc true b c = refl
or_assoc false b c = refl

-- behind the send buffer stands the write buffer alone
module _ (board : Board) (to : Option ℕ) (flow : Flow) where
  pub later_last : later_above board to flow (last_place flow) ≡ is_target_above board to
  later_last =
      cc (parts board to flow (last_place flow) (omega arith), none_behind board flow.chain.flow flow.chain.places 1 (last_place flow) (omega arith))

  -- behind a place stands the next one, and what is behind that
  pub later_step : (q : ℕ) → q < last_place flow → later_above board to flow q ≡ (is_held_at board flow (suc q) || later_above board to flow (suc q))
  later_step q h =
      cc (parts board to flow q (omega arith), behind board flow.chain.flow flow.chain.places q 1 (suc q) q (omega arith) (omega arith) h, or_assoc (is_held_at board flow (suc q)) (later board flow.chain.flow (suc q) 1 flow.chain.places) (is_target_above board to), parts board to flow (suc q) h)
