-- What is told goes on as it was where a write buffer opened, closed, rose or drained, and who is still to be told of other drains.
use Rattle.flow_gate.specs.Board.{Board, pending_on, watchers_of}
use Rattle.flow_gate.specs.Changes.{Drains, Tells}
use Rattle.flow_rules.specs.declared.ids.FlowId.{FlowId}
use Rattle.std.proofs.Common.{ap, refl, sym, ◌∙◌}
use Rattle.std.proofs.lemmas.List.{append-nil}
use Rattle.std.specs.Prelude.{Bool, List, [], false, if◌then◌else◌, true, ℕ, ◌++◌, ◌≡◌}
use Rattle.wire_flows.proofs.Going.{lows_same}
use Rattle.wire_flows.proofs.Others.{go_same}
use Rattle.wire_flows.specs.Begins.{RisesIf}
use Rattle.wire_flows.specs.Flows.{Flows}
use Rattle.wire_flows.specs.Measure.{to_go}
use Rattle.wire_flows.specs.Writes.{KeepsLows, KeepsOtherLows}
use Rattle.flow_rules.specs.declared.ids.BufferId.TheVariants as buffer

-- nobody was told
pub go_untold : (old : Flows) (board : Board) → ((d : ℕ) → pending_on board (buffer.Write d) ≡ pending_on old.gates (buffer.Write d)) → to_go (record { exchanges = old.exchanges; gates = board }) ≡ to_go old
go_untold old board same = go_same old (record { exchanges = old.exchanges; gates = board }) refl (lows_same old (record { exchanges = old.exchanges; gates = board }) (λ f. refl) same)

pub go_raised : (c : ℕ) (old : Flows) (board : Board) (rose : Bool) → RisesIf rose (buffer.Write c) old.gates board → to_go (record { exchanges = old.exchanges; gates = board }) ≡ to_go old
go_raised c old board true k = go_untold old board (λ d. k.pending (buffer.Write d))
go_raised c old board false e = go_untold old board (λ d. ap (λ b. pending_on b (buffer.Write d)) e)

-- ---- who is still to be told
pub lows_raised : (c : ℕ) (old : Flows) (board : Board) (rose : Bool) → RisesIf rose (buffer.Write c) old.gates board → KeepsLows old (record { exchanges = old.exchanges; gates = board })
lows_raised c old board true k = record { lows = k.pending }
lows_raised c old board false e = record { lows = λ b. ap (λ g. pending_on g b) e }

pub lows_drained : (c : ℕ) (old : Flows) (board : Board) → Drains (buffer.Write c) old.gates board → KeepsOtherLows (buffer.Write c) old (record { exchanges = old.exchanges; gates = board })
lows_drained c old board k = record {
  lows = λ b other. k.pending b ∙ (ap (λ t. pending_on old.gates b ++ (if t then watchers_of old.gates (buffer.Write c) else [])) other ∙ append-nil (pending_on old.gates b));
}

pub lows_told : (c : ℕ) (told : List FlowId) (old : Flows) (board : Board) → Tells (buffer.Write c) told old.gates board → KeepsOtherLows (buffer.Write c) old (record { exchanges = old.exchanges; gates = board })
lows_told c told old board k = record { lows = λ b other. sym (k.pending b ∙ ap (λ t. (if t then told else []) ++ pending_on board b) other) }
