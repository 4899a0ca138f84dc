-- What a flow is seen as: the octets on their way, from its receive buffer to its send buffer, and its message.
use Rattle.exchange_core.specs.declared.message.Message.{Message}
use Rattle.filter_chain.specs.Chain.{Chain, IsSound as IsSoundChain, octets_at, send_place}
use Rattle.filter_chain.specs.Place.{Place}
use Rattle.filter_chain.specs.declared.stage.StageKind.{StageKind}
use Rattle.filter_chain.specs.declared.stage.StageKind.TheVariants.{Hold, Meter, Send}
use Rattle.std.specs.List.{list_any}
use Rattle.std.specs.Prelude.{Bool, IsSome, List, None, false, length, nat_lt, suc, sum_by, true, zero, ℕ, ◌&&◌, ◌+◌, ◌-◌, ◌==◌, ◌≡◌}

pub record Flow : Type 0 where
  -- for how many octets its receive buffer has room, and what it holds: this is place 0
  pub window : ℕ
  pub recv : List ℕ
  -- the stages, and behind them the send buffer: places 1 and on
  pub chain : Chain
  pub message : Message
  -- how many times its limit a Meter or the send buffer may hold, 0 where that isn't asked
  pub multiple : ℕ

-- what a place holds
abbrev pub octets_in : Flow → ℕ → List ℕ
octets_in flow zero = flow.recv
octets_in flow (suc p) = octets_at flow.chain (suc p)

-- the send buffer is the last place
abbrev pub last_place : Flow → ℕ
last_place flow = send_place flow.chain

-- how many stages are before it
abbrev pub stages_of : Flow → ℕ
stages_of flow = last_place flow - 1

abbrev pub send : Flow → List ℕ
send flow = octets_in flow (last_place flow)

-- how many octets lie in its places
abbrev pub held_by : Flow → ℕ
held_by flow = length flow.recv + sum_by (λ place. length place.octets) flow.chain.places

-- some Meter of it holds octets, and may let go of more after a tick
abbrev pub is_meter : StageKind → Bool
is_meter Hold = false
is_meter (Meter rate) = true
is_meter Send = false

abbrev pub is_filled_meter : Place → Bool
is_filled_meter place = is_meter place.kind && nat_lt 0 (length place.octets)

abbrev pub meters_hold : Flow → Bool
meters_hold flow = list_any is_filled_meter flow.chain.places

-- the end came with the head alone: there is no body, and there are no trailers
pub record IsHeadAlone (flow : Flow) : Type 0 where
  pub ended : flow.message.ended ≡ true
  pub bare : flow.message.trailers ≡ None
  pub empty : held_by flow ≡ 0

-- what is true of a flow at all times
pub record IsSound (flow : Flow) : Type 0 where
  pub chain : IsSoundChain flow.chain
  -- the stages know that the end came, and whether anything is still before them
  pub ended : flow.chain.ended ≡ flow.message.ended
  pub whole : flow.message.ended ≡ true → flow.chain.recv_empty ≡ (length flow.recv == 0)
  -- trailers come with the end
  pub trailers : IsSome flow.message.trailers → flow.message.ended ≡ true
  -- nothing is behind a head that came with the end
  pub alone : IsSome flow.message.head → flow.message.head_ends ≡ true → IsHeadAlone flow
