-- What octets that come for a flow leave.
use Rattle.exchange_core.specs.Effects.{arrived, received, received_by}
use Rattle.exchange_core.specs.Flow.{Flow}
use Rattle.exchange_core.specs.declared.step.Received.TheVariants.{Arrived, TooMany}
use Rattle.exchange_core.specs.declared.step.Received.{Received}
use Rattle.std.proofs.Common.{refl}
use Rattle.std.specs.Prelude.{List, Some, false, if◌then◌else◌, length, nat_le, true, ℕ, ◌+◌, ◌≡◌}

-- where they didn't arrive, the flow is as it was
pub not_received : (octets : List ℕ) (flow : Flow) (result : Received) → result ≡ received_by (length octets) (Some flow) → (result ≡ Arrived → ⊥) → received octets flow ≡ flow
not_received octets flow result = elim (nat_le (length flow.recv + length octets) flow.window)
    as (λ b. result ≡ (if b then Arrived else TooMany) → (result ≡ Arrived → ⊥) → (if b then arrived octets flow else flow) ≡ flow)
    [ true ↦ λ is other. absurd (other is) | false ↦ λ is other. refl ]
