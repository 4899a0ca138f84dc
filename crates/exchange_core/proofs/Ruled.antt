-- What the stages let go is what the rules say of their flow.
use Rattle.std.proofs.Common.{◌≡◌, ◌≤◌, ◌∙◌, ◌&&◌, ◌==◌, ℕ, suc, zero, length, Bool, true, false, refl, sym, ap, min, arith}
use Rattle.std.proofs.lemmas.Option.{slice_get-map}
use Rattle.exchange_core.specs.Flow.{Flow, IsSound, octets_in}
use Rattle.exchange_core.specs.Moves.{may_release}
use Rattle.exchange_core.specs.State.{ungated}
use Rattle.exchange_core.specs.Units.{empty_before}
use Rattle.filter_chain.specs.Place.{Place, kind_of}
use Rattle.filter_chain.specs.Release.{empty_before as chain_empty_before, head_may_go, is_empty_at, is_whole_at as is_whole_for, let_go as chain_lets_go, may_release as chain_releases}
use Rattle.flow_gate.specs.Board.{Board}
use Rattle.flow_rules.specs.Kinds.{Kind, all_empty, holds_filled, let_go}
use Rattle.flow_rules.specs.State.{is_whole_at}
use Rattle.flow_rules.specs.Units.{head_may_go as rules_head_may_go}
use Rattle.std.specs.Option.{option_map_or}
use Rattle.std.specs.Prelude.{None, Option, Some, [], map, option_map, pos, slice_get}

module _ (flow : Flow) (sound : IsSound flow) where
  empty_is : flow.chain.recv_empty ≡ (length flow.recv == 0) → (p : ℕ) → (length (octets_in flow p) == 0) ≡ is_empty_at flow.chain p
  empty_is known zero = sym known
  empty_is known (suc p) = refl

  whole_is : (p : ℕ) → is_whole_at (ungated (pos 0) 0 flow) p ≡ is_whole_for flow.chain p
  whole_is p = cc (by flow.message.ended refl)
    where
      by : (ended : Bool) → flow.message.ended ≡ ended → (ended && empty_before flow p) ≡ (ended && chain_empty_before flow.chain p)
      by true e = λ i. all_empty (λ q. empty_is (sound.whole e) q i) p
      by false e = refl

  pub head_is : rules_head_may_go (ungated (pos 0) 0 flow) ≡ head_may_go flow.chain
  head_is = λ i. holds_filled (λ p. whole_is p i) 1 (map (λ place. kind_of place.kind) flow.chain.places)

  stage_is : (board : Board) (i : ℕ) → may_release board flow (suc i) ≡ chain_releases flow.chain (suc i)
  stage_is board i =
      ap (λ (o : Option Kind). option_map_or (λ kind. let_go kind (is_whole_at (ungated (pos 0) 0 flow) (suc i)) (option_map_or (λ place. place.tokens) (slice_get flow.chain.places i) 0) (min flow.chain.quantum (length (octets_in flow (suc i))))) o 0)
      (slice_get-map (λ place. kind_of place.kind) flow.chain.places i) ∙ by (slice_get flow.chain.places i) refl
    where
      by : (o : Option Place) → slice_get flow.chain.places i ≡ o
          → option_map_or (λ kind. let_go kind (is_whole_at (ungated (pos 0) 0 flow) (suc i)) (option_map_or (λ place. place.tokens) (slice_get flow.chain.places i) 0) (min flow.chain.quantum (length (octets_in flow (suc i)))))
          (option_map (λ place. kind_of place.kind) o) 0 ≡ option_map_or (λ place. chain_lets_go flow.chain (suc i) place.kind place) o 0
      by None e = refl
      by (Some place) e = λ j. let_go (kind_of place.kind) (whole_is (suc i) j) (option_map_or (λ (v : Place). v.tokens) (e j) 0) (min flow.chain.quantum (length (option_map_or (λ (v : Place). v.octets) (e j) [])))

  pub stage_releases : (board : Board) (p : ℕ) → 1 ≤ p → may_release board flow p ≡ chain_releases flow.chain p
  stage_releases board zero first = absurd (omega arith)
  stage_releases board (suc i) first = stage_is board i
