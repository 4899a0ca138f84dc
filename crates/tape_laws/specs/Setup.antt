-- What the laws are told of a session's kind. A plain and a wire session differ in these records alone.
use Rattle.flow_rules.specs.declared.ids.FlowId.{FlowId}
use Rattle.std.specs.Prelude.{Bool, List, Option, ℕ}
use Rattle.tape_laws.specs.History.{History, Step}
use Rattle.tape_laws.specs.Units.{Demand, Grant, Pick, StageKind, Waiting}

-- The limits count octets, 0 for none. The functions answer from what happened so far.
pub record Setup (Mark : Type 0) : Type 0 where
  -- what each receive buffer holds at most, and those of all flows from one connection together
  pub recv : ℕ
  pub together : Option ℕ
  pub send : ℕ
  pub write : ℕ
  -- what one move carries at most
  pub quantum : ℕ
  -- how many times its limit a body buffer may hold at a dispatch's end, 0 where that isn't asked
  pub overflow : ℕ
  -- the connections that are open before the first event
  pub first_open : List ℕ
  -- the flows of an exchange, in the order in which they watch
  pub flows : ℕ → List FlowId
  -- the stages that its octets pass
  pub stages : FlowId → History Mark → List StageKind
  -- the connection that it comes from, and the one that it goes to, if any
  pub comes_from : FlowId → History Mark → Option ℕ
  pub goes_to : FlowId → History Mark → Option ℕ
  -- the stream that it has there
  pub stream : FlowId → History Mark → ℕ
  -- the body that came for it, and whether its end came
  pub body : FlowId → History Mark → List ℕ
  pub ended : FlowId → History Mark → Bool
  -- what one DATA frame of it carries at most, by its peer and the send windows
  pub carries : FlowId → History Mark → ℕ
  -- a head of it waits to be framed, it came with its flow's end, or trailers wait
  pub head_waits : FlowId → History Mark → Bool
  pub head_ends : FlowId → History Mark → Bool
  pub trailers_wait : FlowId → History Mark → Bool
  -- what waits on a connection besides its flows, and its due window updates, each in order
  pub waiting : ℕ → History Mark → List Waiting
  pub grants : ℕ → History Mark → List Grant
  -- the unit that a mark picks, if it picks one
  pub picks : Mark → Option Pick

-- a kind of session
pub record Session (Mark : Type 0) : Type 1 where
  pub setup : Setup Mark
  -- what a step asks for at once, in order, from what stood before it
  pub asked : Step Mark → History Mark → List Demand
  -- each doom, close and timer has its cause
  pub licensed : Step Mark → History Mark → Type 0
  -- what this kind of session asks of a step besides
  pub may : Step Mark → History Mark → Type 0
  -- which exchanges have to be doomed by the dispatch's end, and what else a whole dispatch leaves
  pub must_end : ℕ → History Mark → Bool
  pub leaves : History Mark → Type 0
