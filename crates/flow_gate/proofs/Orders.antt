-- Whether two flows, buffers or stages compare as equal says whether they are one.
use Rattle.flow_gate.proofs.Places.{eq_by_place}
use Rattle.flow_gate.specs.Ids.{same_buffer, same_flow}
use Rattle.flow_gate.specs.Named.{as_buffer}
use Rattle.flow_rules.specs.contracts.ids.BufferIdOrd.TheImpl as buffer_ord
use Rattle.flow_rules.specs.contracts.ids.FlowIdOrd.TheImpl as flow_ord
use Rattle.flow_gate.specs.contracts.buffers.StageIdOrd.TheImpl as stage_ord
use Rattle.flow_rules.specs.declared.ids.BufferId.{BufferId}
use Rattle.flow_rules.specs.declared.ids.BufferId.TheVariants as buffer
use Rattle.flow_rules.specs.declared.ids.FlowId.{FlowId}
use Rattle.flow_gate.specs.declared.buffers.StageId.{StageId}
use Rattle.std.proofs.Common.{refl, ◌∙◌}
use Rattle.std.specs.BTreeMap.{is_at}
use Rattle.std.specs.Ordering.{bool_cmp, is_eq, nat_cmp, ordering_then}
use Rattle.std.specs.Prelude.{Bool, false, if◌then◌else◌, not, true, ◌&&◌, ◌≡◌}
use Rattle.std.specs.declared.cmp.Ordering.{Ordering}
use Rattle.std.specs.declared.cmp.Ordering.TheVariants.{Equal, Greater, Less}

abbrev pub flow_cmp : FlowId → FlowId → Ordering
flow_cmp = (flow_ord.ghosts).cmp

abbrev pub buffer_cmp : BufferId → BufferId → Ordering
buffer_cmp = (buffer_ord.ghosts).cmp

abbrev pub stage_cmp : StageId → StageId → Ordering
stage_cmp = (stage_ord.ghosts).cmp

is_eq-then : (o p : Ordering) → is_eq (ordering_then o p) ≡ (is_eq o && is_eq p)
is_eq-then Less p = refl
is_eq-then Equal p = refl
is_eq-then Greater p = refl

is_eq-bool : (a b : Bool) → is_eq (bool_cmp a b) ≡ (if a then b else not b)
is_eq-bool true true = refl
is_eq-bool true false = refl
is_eq-bool false true = refl
is_eq-bool false false = refl

pub is_at-flow : (f g : FlowId) → is_at (flow_cmp f) g ≡ same_flow f g
is_at-flow f g =
    is_eq-then (nat_cmp f.exchange g.exchange) (bool_cmp f.back g.back)
    ∙ (λ i. eq_by_place f.exchange g.exchange i && is_eq-bool f.back g.back i)

pub is_at-buffer : (b c : BufferId) → is_at (buffer_cmp b) c ≡ same_buffer b c
is_at-buffer (buffer.Recv f) (buffer.Recv g) = is_at-flow f g
is_at-buffer (buffer.Stage f i) (buffer.Stage g j) =
    is_eq-then (flow_cmp f g) (nat_cmp i j) ∙ (λ k. is_at-flow f g k && eq_by_place i j k)
is_at-buffer (buffer.Send f) (buffer.Send g) = is_at-flow f g
is_at-buffer (buffer.Write c) (buffer.Write d) = eq_by_place c d
is_at-buffer _ _ = refl

pub is_at-stage : (s t : StageId) → is_at (stage_cmp s) t ≡ same_buffer (as_buffer s) (as_buffer t)
is_at-stage s t =
    is_eq-then (flow_cmp s.flow t.flow) (nat_cmp s.stage t.stage) ∙ (λ i. is_at-flow s.flow t.flow i && eq_by_place s.stage t.stage i)
