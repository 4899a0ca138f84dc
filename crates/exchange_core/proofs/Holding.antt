-- A place lets go no more than it holds.
use Rattle.std.proofs.Common.{◌≤◌, ℕ, suc, zero, length, min, Bool, true, false, arith}
use Rattle.exchange_core.specs.Flow.{Flow, octets_in}
use Rattle.exchange_core.specs.Moves.{lets_go}
use Rattle.filter_chain.specs.Chain.{Chain, place_at}
use Rattle.filter_chain.specs.Place.{Place}
use Rattle.filter_chain.specs.Release.{is_whole_at, let_go}
use Rattle.filter_chain.specs.declared.stage.StageKind.{StageKind}
use Rattle.filter_chain.specs.declared.stage.StageKind.TheVariants.{Hold, Meter, Send}
use Rattle.std.specs.Option.{option_map_or}
use Rattle.std.specs.Prelude.{None, Option, Some, [], if◌then◌else◌}

hold_few : (b : Bool) (q n : ℕ) → (if b then min q n else 0) ≤ n
hold_few true q n = omega arith
hold_few false q n = omega arith

module _ (chain : Chain) (p : ℕ) where
  let_go_few : (kind : StageKind) (place : Place) → let_go chain p kind place ≤ length place.octets
  let_go_few Hold place = hold_few (is_whole_at chain p) chain.quantum (length place.octets)
  let_go_few (Meter rate) place = omega arith
  let_go_few Send place = omega arith

  place_few : (o : Option Place) → option_map_or (λ place. let_go chain p place.kind place) o 0 ≤ length (option_map_or (λ place. place.octets) o [])
  place_few None = omega arith
  place_few (Some x) = let_go_few x.kind x

lets_go_held : (flow : Flow) (p : ℕ) → lets_go flow p ≤ length (octets_in flow p)
lets_go_held flow zero = omega arith
lets_go_held flow (suc p) = place_few flow.chain (suc p) (place_at flow.chain.places (suc p))

pub lets_go_few : (flow : Flow) (p n : ℕ) → n ≤ lets_go flow p → n ≤ length (octets_in flow p)
lets_go_few flow p n few = omega (arith, lets_go_held flow p)
