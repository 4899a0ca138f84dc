-- Which stream is next on the connection: the least ready one above that framed last, else the least.
use Rattle.std.specs.Prelude.{Bool, [], false, if◌then◌else◌, true, ℕ, ◌<◌, ◌==◌, ◌∷◌, ◌≡◌, ◌≤◌}
use Rattle.tape_laws.specs.Dispatches.{has, live}
use Rattle.tape_laws.specs.Framing.{next_unit}
use Rattle.flow_rules.specs.declared.unit.Unit.{Unit as FlowUnit}
use Rattle.tape_laws.specs.Flows.{request}
use Rattle.tape_laws.specs.History.{History, NoMark}
use Rattle.flow_rules.specs.Kinds.{Send}
use Rattle.flow_rules.specs.State.{FlowState}
use Rattle.flow_rules.specs.Units.{is_unit, next_unit as first_unit}
use Rattle.tape_laws.specs.Order.{framed_last}
use Rattle.tape_laws.specs.Plain.{plain_setup}
use Rattle.tape_laws.specs.World.{recv, send}
use Rattle.tape_laws.specs.declared.PlainLimits.{PlainLimits}

-- the stream's flow has a unit
abbrev pub is_ready : PlainLimits → ℕ → History NoMark → Bool
is_ready limits x h = is_unit (next_unit (plain_setup limits) (request x) h)

-- a stream as the rules see its units, by whether its end came and was framed, and by what its buffers hold
abbrev pub state_by : ℕ → Bool → Bool → ℕ → ℕ → FlowState
state_by quantum ended framed recv send = record {
  quantum = quantum;
  frame = quantum;
  count = 0;
  last = 1;
  kinds = Send ∷ [];
  len = λ p. if p == 0 then recv else send;
  limit = λ p. 0;
  tokens = λ p. 0;
  sources = [];
  is_above = λ b. false;
  ended = ended;
  end_framed = framed;
  head_waits = false;
  head_ends = false;
  trailers_wait = false;
}

abbrev pub unit_of : ℕ → Bool → Bool → ℕ → ℕ → FlowUnit
unit_of quantum ended framed recv send = first_unit (state_by quantum ended framed recv send)

-- the least ready stream above the one framed last
pub record IsNextAbove (limits : PlainLimits) (x : ℕ) (h : History NoMark) : Type 0 where
  pub lives : has (live h) x ≡ true
  pub ready : is_ready limits x h ≡ true
  pub after : framed_last (plain_setup limits) 0 h < x
  pub least : (y : ℕ) → has (live h) y ≡ true → is_ready limits y h ≡ true → framed_last (plain_setup limits) 0 h < y → x ≤ y

-- there is none, and x is the least ready stream
pub record IsNextAround (limits : PlainLimits) (x : ℕ) (h : History NoMark) : Type 0 where
  pub lives : has (live h) x ≡ true
  pub ready : is_ready limits x h ≡ true
  pub none : (y : ℕ) → has (live h) y ≡ true → is_ready limits y h ≡ true → y ≤ framed_last (plain_setup limits) 0 h
  pub least : (y : ℕ) → has (live h) y ≡ true → is_ready limits y h ≡ true → x ≤ y
