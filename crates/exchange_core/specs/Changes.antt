-- What each call changes: only the exchange that it names.
use Rattle.exchange_core.specs.Exchange.{begun, flow_changed, flow_id, seen_at}
use Rattle.exchange_core.specs.Exchanges.{Exchanges, exchange_at}
use Rattle.exchange_core.specs.Flow.{Flow}
use Rattle.exchange_core.specs.declared.exchange.Exchange.{Exchange}
use Rattle.exchange_core.specs.declared.start.StartSpec.{StartSpec}
use Rattle.flow_gate.specs.Board.{Board, is_open}
use Rattle.flow_gate.specs.Changes.{Forgets}
use Rattle.flow_rules.specs.declared.ids.FlowId.{FlowId}
use Rattle.proxy_config.specs.declared.config.Config.{Config}
use Rattle.std.specs.Prelude.{Bool, None, Option, Some, [], false, if◌then◌else◌, is_some, option_map, option_to_list, true, ℕ, ◌++◌, ◌+◌, ◌==◌, ◌∷◌, ◌≡◌}

-- the exchange is this one, or is no longer live; the others are as they were
pub record Changes (x : ℕ) (exchange : Option Exchange) (old new : Exchanges) : Type 0 where
  pub live : (y : ℕ) → exchange_at new y ≡ (if x == y then exchange else exchange_at old y)
  pub last : new.last ≡ old.last
  pub time : new.time ≡ old.time

-- one flow is what the change makes of it
pub record ChangesFlow (f : FlowId) (change : Flow → Flow) (old new : Exchanges) : Type 0 where
  pub flow : Changes f.exchange (option_map (flow_changed change f.back) (exchange_at old f.exchange)) old new
  pub doomed : new.doomed ≡ old.doomed

-- the number that a new exchange has, after the last one that was given
abbrev pub number_after : StartSpec → ℕ → ℕ
number_after spec last = if spec.plain then spec.from_stream else last + 1

abbrev pub number_for : StartSpec → Exchanges → ℕ
number_for spec exchanges = number_after spec exchanges.last

-- an exchange with this number began
pub record Starts (x : ℕ) (spec : StartSpec) (config : Config) (old new : Exchanges) : Type 0 where
  pub live : (y : ℕ) → exchange_at new y ≡ (if x == y then Some (begun x spec config) else exchange_at old y)
  pub doomed : new.doomed ≡ old.doomed
  pub last : new.last ≡ x
  pub time : new.time ≡ spec.now

-- the Meters of all flows went on to this moment
pub record Ticks (now : ℕ) (old new : Exchanges) : Type 0 where
  pub live : (x : ℕ) → exchange_at new x ≡ option_map (seen_at now) (exchange_at old x)
  pub doomed : new.doomed ≡ old.doomed
  pub last : new.last ≡ old.last
  pub time : new.time ≡ now

-- the exchange is doomed, and waits to be destroyed behind those doomed before
pub record Dooms (x : ℕ) (old new : Exchanges) : Type 0 where
  pub gone : Changes x None old new
  pub doomed : new.doomed ≡ old.doomed ++ x ∷ []

-- the first of the doomed was destroyed, if there is one
pub record Sweeps (swept : Option ℕ) (old new : Exchanges) : Type 0 where
  pub doomed : old.doomed ≡ option_to_list swept ++ new.doomed
  pub live : (x : ℕ) → exchange_at new x ≡ exchange_at old x
  pub last : new.last ≡ old.last
  pub time : new.time ≡ old.time

-- ---- in the gates
-- they know the flows of the exchange
abbrev pub KnowsFlows : ℕ → Exchange → Board → Type 0
KnowsFlows x exchange board =
    (is_open board (flow_id x false) ≡ true) × (is_some exchange.response ≡ true → is_open board (flow_id x true) ≡ true)

-- nothing of a flow is left where it was there
abbrev pub ForgetsIf : Bool → FlowId → Board → Board → Type 0
ForgetsIf true f old new = Forgets f old new
ForgetsIf false f old new = new ≡ old

-- nothing of the exchange is left: first the request was forgotten, then the response, if there is one
pub record ForgetsSides (x : ℕ) (both : Bool) (old new : Board) : Type 0 where
  pub between : Board
  pub request_gone : Forgets (flow_id x false) old between
  pub response_gone : ForgetsIf both (flow_id x true) between new

abbrev pub ForgetsFlows : ℕ → Exchange → Board → Board → Type 0
ForgetsFlows x exchange = ForgetsSides x (is_some exchange.response)
