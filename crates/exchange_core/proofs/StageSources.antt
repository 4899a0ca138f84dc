-- The source of a place, by its kind.
use Rattle.std.proofs.Math.Bool.{or-false}
use Rattle.std.proofs.Common.{◌≡◌, ◌≢◌, ◌<◌, ◌≤◌, ℕ, suc, zero, List, [], ◌∷◌, length, Bool, true, false, refl, arith}
use Rattle.std.proofs.lemmas.Bool.{false≢true}
use Rattle.exchange_core.specs.Flow.{Flow, last_place}
use Rattle.exchange_core.specs.Moves.{is_held_at}
use Rattle.filter_chain.specs.Chain.{EndsInSend, kinds}
use Rattle.filter_chain.specs.Place.{Place, is_source, kind_of}
use Rattle.filter_chain.specs.Release.{is_source_at}
use Rattle.filter_chain.specs.declared.stage.StageKind.{StageKind}
use Rattle.filter_chain.specs.declared.stage.StageKind.TheVariants.{Hold, Meter, Send}
use Rattle.flow_gate.specs.Board.{Board, is_marked}
use Rattle.flow_rules.specs.declared.ids.BufferId.TheVariants as buffer
use Rattle.flow_rules.specs.declared.ids.FlowId.{FlowId}
use Rattle.flow_rules.specs.Sources.{source_of}
use Rattle.std.specs.List.{list_any}
use Rattle.std.specs.Option.{option_map_or}
use Rattle.std.specs.Prelude.{None, Option, Some, slice_get}

-- only the last place is the send buffer
pub last_is : (places : List Place) (i : ℕ) → suc i ≡ length places → EndsInSend (kinds places) → option_map_or (λ place. place.kind) (slice_get places i) Hold ≡ Send
last_is [] i e ends = absurd ends
last_is (x ∷ []) zero e ends = ends
last_is (x ∷ []) (suc i) e ends = absurd (omega arith)
last_is (x ∷ y ∷ ys) zero e ends = absurd (omega arith)
last_is (x ∷ y ∷ ys) (suc i) e ends = last_is (y ∷ ys) i (omega arith) ends.1

pub not_last : (places : List Place) (i : ℕ) → suc i < length places → EndsInSend (kinds places) → option_map_or (λ place. place.kind) (slice_get places i) Hold ≢ Send
not_last [] i h ends = absurd ends
not_last (x ∷ []) i h ends = absurd (omega arith)
not_last (x ∷ y ∷ ys) zero h ends = ends.0
not_last (x ∷ y ∷ ys) (suc i) h ends = not_last (y ∷ ys) i (omega arith) ends.1

-- whether the source of a place of this kind is above
abbrev held : Board → FlowId → ℕ → StageKind → Bool
held board f p kind = list_any (λ s. is_marked board s.buffer) (source_of f p (kind_of kind))

module _ (board : Board) (f : FlowId) (p : ℕ) where
  send_held_is : (o : Option Place) → option_map_or (λ place. place.kind) o Hold ≡ Send → option_map_or (λ place. held board f p place.kind) o false ≡ is_marked board (buffer.Send f)
  send_held_is None e = absurd cc
  send_held_is (Some x) e = cc (or-false (is_marked board (buffer.Send f)))

  meter_held : (kind : StageKind) → is_source kind ≡ true → kind ≢ Send → held board f p kind ≡ is_marked board (buffer.Stage f p)
  meter_held Hold source other = absurd (false≢true source)
  meter_held (Meter rate) source other = or-false (is_marked board (buffer.Stage f p))
  meter_held Send source other = absurd (other refl)

  stage_held_is : (o : Option Place) → option_map_or (λ place. is_source place.kind) o false ≡ true → option_map_or (λ place. place.kind) o Hold ≢ Send → option_map_or (λ place. held board f p place.kind) o false ≡ is_marked board (buffer.Stage f p)
  stage_held_is None source other = absurd (false≢true source)
  stage_held_is (Some x) source other = meter_held x.kind source other

-- the send buffer is held where it is above
module _ (board : Board) (flow : Flow) where
  pub send_held : (p : ℕ) → 1 ≤ p → p ≡ last_place flow → EndsInSend (kinds flow.chain.places) → is_held_at board flow p ≡ is_marked board (buffer.Send flow.chain.flow)
  send_held zero first last ends = absurd (omega arith)
  send_held (suc i) first last ends =
      send_held_is board flow.chain.flow (suc i) (slice_get flow.chain.places i) (last_is flow.chain.places i last ends)

  -- a stage that is a source is a Meter, and held where it is above
  pub stage_held : (p : ℕ) → 1 ≤ p → p < last_place flow → is_source_at flow.chain p ≡ true → EndsInSend (kinds flow.chain.places) → is_held_at board flow p ≡ is_marked board (buffer.Stage flow.chain.flow p)
  stage_held zero first stage source ends = absurd (omega arith)
  stage_held (suc i) first stage source ends =
      stage_held_is board flow.chain.flow (suc i) (slice_get flow.chain.places i) source (not_last flow.chain.places i stage ends)
