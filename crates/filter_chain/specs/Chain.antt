-- What a chain is seen as: the places on the way of a flow, from the first stage to the send buffer.
use Rattle.std.specs.Prelude.{◌≡◌, ◌≢◌, ◌≤◌, ℕ, suc, zero, List, [], ◌∷◌, ◌++◌, length, map, slice_get, All, Bool, false, Option, None}
use Rattle.std.specs.Option.{option_map_or}
use Rattle.filter_chain.specs.Place.{IsPlace, Place, empty_place}
use Rattle.filter_chain.specs.declared.stage.StageKind.{StageKind}
use Rattle.filter_chain.specs.declared.stage.StageKind.TheVariants.{Hold, Meter, Send}
use Rattle.flow_rules.specs.declared.ids.FlowId.{FlowId}
use Rattle.proxy_config.specs.Ranges.{IsBetween}
use Rattle.proxy_config.specs.declared.routes.Filter.{Filter}
use Rattle.proxy_config.specs.declared.routes.Filter.TheVariants as filter

pub record Chain : Type 0 where
  pub flow : FlowId
  -- what one move carries at most
  pub quantum : ℕ
  -- the moment at which the Meters started, and the last that the chain was told, in ms
  pub started : ℕ
  pub time : ℕ
  -- whether the flow's end came, and whether the receive buffer before the first place was empty then or at the last
  -- move out of it
  pub ended : Bool
  pub recv_empty : Bool
  -- the stages, and then the send buffer
  pub places : List Place

-- the place with this number, counted from 1; the receive buffer is place 0
abbrev pub place_at : List Place → ℕ → Option Place
place_at places zero = None
place_at places (suc i) = slice_get places i

-- what a place holds, and whether it is above its limit
abbrev pub octets_in : List Place → ℕ → List ℕ
octets_in places p = option_map_or (λ place. place.octets) (place_at places p) []

abbrev pub above_in : List Place → ℕ → Bool
above_in places p = option_map_or (λ place. place.above) (place_at places p) false

abbrev pub octets_at : Chain → ℕ → List ℕ
octets_at chain p = octets_in chain.places p

abbrev pub above_at : Chain → ℕ → Bool
above_at chain p = above_in chain.places p

-- the limit of a place, 0 for none
abbrev pub limit_at : Chain → ℕ → ℕ
limit_at chain p = option_map_or (λ place. place.limit) (place_at chain.places p) 0

-- the send buffer is the last place
abbrev pub send_place : Chain → ℕ
send_place chain = length chain.places

-- the stages of these filters, each empty: Pass makes none
abbrev pub stages : List Filter → List Place
stages [] = []
stages (filter.Pass ∷ filters) = stages filters
stages (filter.Hold limit ∷ filters) = empty_place Hold limit ∷ stages filters
stages (filter.Meter limit rate ∷ filters) = empty_place (Meter rate) limit ∷ stages filters

abbrev pub empty_chain : FlowId → List Filter → ℕ → ℕ → ℕ → Chain
empty_chain flow filters send_limit now quantum = record {
  flow = flow;
  quantum = quantum;
  started = now;
  time = now;
  ended = false;
  recv_empty = false;
  places = stages filters ++ empty_place Send send_limit ∷ [];
}

abbrev pub kinds : List Place → List StageKind
kinds places = map (λ place. place.kind) places

-- some stages, and then one send buffer
abbrev pub EndsInSend : List StageKind → Type 0
EndsInSend [] = ⊥
EndsInSend (kind ∷ []) = kind ≡ Send
EndsInSend (kind ∷ next ∷ others) = (kind ≢ Send) × EndsInSend (next ∷ others)

-- what is true of a chain at all times
pub record IsSound (chain : Chain) : Type 0 where
  pub order : EndsInSend (kinds chain.places)
  pub few : IsBetween 1 9 (length chain.places)
  pub each : All IsPlace chain.places
  pub quantum : IsBetween 16384 1048576 chain.quantum
  pub clock : chain.started ≤ chain.time
