-- Flows and buffers are told apart by their order, and by whether they are equal, as the laws do.
use Rattle.flow_rules.specs.declared.ids.BufferId.{BufferId}
use Rattle.flow_rules.specs.declared.ids.FlowId.{FlowId}
use Rattle.tape_summary.specs.Placing.{spot_cmp}
use Rattle.tape_summary.specs.declared.pauses.Spot.{Spot}
use Rattle.std.proofs.Common.{ap, arith, refl, ◌∙◌}
use Rattle.std.proofs.lemmas.Bool.Decides.{nat_tests}
use Rattle.std.specs.Bool.{beq}
use Rattle.std.specs.Ordering.{bool_cmp, is_eq, nat_cmp, ordering_then}
use Rattle.std.specs.Prelude.{Bool, false, if◌then◌else◌, not, true, ℕ, ◌&&◌, ◌==◌, ◌≡◌}
use Rattle.std.specs.declared.cmp.Ordering.{Ordering}
use Rattle.std.specs.declared.cmp.Ordering.TheVariants.{Equal, Greater, Less}
use Rattle.tape_laws.specs.Flows.{same_buffer, same_flow}
use Rattle.flow_rules.specs.declared.ids.BufferId.TheVariants as buffer
use Rattle.flow_rules.specs.contracts.ids.BufferIdOrd.TheImpl as buffer_ord
use Rattle.flow_rules.specs.contracts.ids.BufferIdPartialEq.TheImpl as buffer_eq
use Rattle.flow_rules.specs.contracts.ids.FlowIdOrd.TheImpl as flow_ord
use Rattle.flow_rules.specs.contracts.ids.FlowIdPartialEq.TheImpl as flow_eq
use Rattle.tape_summary.specs.contracts.pauses.SpotPartialEq.TheImpl as spot_eq

-- ---- the orders tell flows and buffers apart as the laws do

abbrev flow_cmp : FlowId → FlowId → Ordering
flow_cmp = (flow_ord.ghosts).cmp

abbrev buffer_cmp : BufferId → BufferId → Ordering
buffer_cmp = (buffer_ord.ghosts).cmp

then_equal : (a b : Ordering) → is_eq (ordering_then a b) ≡ (is_eq a && is_eq b)
then_equal Less b = refl
then_equal Equal b = refl
then_equal Greater b = refl

pub numbers_equal : (a b : ℕ) → is_eq (nat_cmp a b) ≡ (a == b)
numbers_equal a b = grind (arith, nat_tests)

bools_equal : (a b : Bool) → is_eq (bool_cmp a b) ≡ (if a then b else not b)
bools_equal true true = refl
bools_equal true false = refl
bools_equal false true = refl
bools_equal false false = refl

both : (a b c d : Bool) → a ≡ c → b ≡ d → (a && b) ≡ (c && d)
both a b c d p q = ap (λ v. v && b) p ∙ ap (λ v. c && v) q

flows_equal : (f g : FlowId) → is_eq (flow_cmp f g) ≡ same_flow f g
flows_equal f g =
    then_equal (nat_cmp f.exchange g.exchange) (bool_cmp f.back g.back)
    ∙ both (is_eq (nat_cmp f.exchange g.exchange)) (is_eq (bool_cmp f.back g.back)) (f.exchange == g.exchange) (if f.back then g.back else not g.back) (numbers_equal f.exchange g.exchange) (bools_equal f.back g.back)

buffers_equal : (a b : BufferId) → is_eq (buffer_cmp a b) ≡ same_buffer a b
buffers_equal (buffer.Write c) (buffer.Write d) = numbers_equal c d
buffers_equal (buffer.Send f) (buffer.Send g) = flows_equal f g
buffers_equal (buffer.Recv f) (buffer.Recv g) = flows_equal f g
buffers_equal (buffer.Stage f i) (buffer.Stage g j) =
    then_equal (flow_cmp f g) (nat_cmp i j) ∙ both (is_eq (flow_cmp f g)) (is_eq (nat_cmp i j)) (same_flow f g) (i == j) (flows_equal f g) (numbers_equal i j)
buffers_equal (buffer.Write c) (buffer.Send g) = refl
buffers_equal (buffer.Write c) (buffer.Recv g) = refl
buffers_equal (buffer.Write c) (buffer.Stage g j) = refl
buffers_equal (buffer.Send f) (buffer.Write d) = refl
buffers_equal (buffer.Send f) (buffer.Recv g) = refl
buffers_equal (buffer.Send f) (buffer.Stage g j) = refl
buffers_equal (buffer.Recv f) (buffer.Write d) = refl
buffers_equal (buffer.Recv f) (buffer.Send g) = refl
buffers_equal (buffer.Recv f) (buffer.Stage g j) = refl
buffers_equal (buffer.Stage f i) (buffer.Write d) = refl
buffers_equal (buffer.Stage f i) (buffer.Send g) = refl
buffers_equal (buffer.Stage f i) (buffer.Recv g) = refl

-- a spot is that of a note
abbrev pub same_spot : Spot → Spot → Bool
same_spot k q = same_flow k.flow q.flow && same_buffer k.buffer q.buffer

pub spots_equal : (k q : Spot) → is_eq (spot_cmp k q) ≡ same_spot k q
spots_equal k q =
    then_equal (flow_cmp k.flow q.flow) (buffer_cmp k.buffer q.buffer)
    ∙ both (is_eq (flow_cmp k.flow q.flow)) (is_eq (buffer_cmp k.buffer q.buffer)) (same_flow k.flow q.flow) (same_buffer k.buffer q.buffer) (flows_equal k.flow q.flow) (buffers_equal k.buffer q.buffer)

pub number_is : (a b : ℕ) → (a == b) ≡ true → a ≡ b
number_is a b e = grind (arith, nat_tests)

bool_is : (a b : Bool) → (if a then b else not b) ≡ true → a ≡ b
bool_is true true e = refl
bool_is true false e = cc
bool_is false true e = cc
bool_is false false e = refl

pub both_of : (a b : Bool) → (a && b) ≡ true → (a ≡ true) × (b ≡ true)
both_of true b e = (refl, e)
both_of false b e = cc

pub flow_is : (f g : FlowId) → same_flow f g ≡ true → f ≡ g
flow_is f g e =
    let k = both_of (f.exchange == g.exchange) (if f.back then g.back else not g.back) e in
    ap (λ (x : ℕ). let r : FlowId = record { exchange = x; back = f.back } in r) (number_is f.exchange g.exchange k.0)
    ∙ ap (λ (b : Bool). let r : FlowId = record { exchange = g.exchange; back = b } in r) (bool_is f.back g.back k.1)

buffer_is : (a b : BufferId) → same_buffer a b ≡ true → a ≡ b
buffer_is (buffer.Write c) (buffer.Write d) e = ap buffer.Write (number_is c d e)
buffer_is (buffer.Send f) (buffer.Send g) e = ap buffer.Send (flow_is f g e)
buffer_is (buffer.Recv f) (buffer.Recv g) e = ap buffer.Recv (flow_is f g e)
buffer_is (buffer.Stage f i) (buffer.Stage g j) e =
    let k = both_of (same_flow f g) (i == j) e in
    ap (λ v. buffer.Stage v i) (flow_is f g k.0) ∙ ap (λ v. buffer.Stage g v) (number_is i j k.1)
buffer_is (buffer.Write c) (buffer.Send g) e = cc
buffer_is (buffer.Write c) (buffer.Recv g) e = cc
buffer_is (buffer.Write c) (buffer.Stage g j) e = cc
buffer_is (buffer.Send f) (buffer.Write d) e = cc
buffer_is (buffer.Send f) (buffer.Recv g) e = cc
buffer_is (buffer.Send f) (buffer.Stage g j) e = cc
buffer_is (buffer.Recv f) (buffer.Write d) e = cc
buffer_is (buffer.Recv f) (buffer.Send g) e = cc
buffer_is (buffer.Recv f) (buffer.Stage g j) e = cc
buffer_is (buffer.Stage f i) (buffer.Write d) e = cc
buffer_is (buffer.Stage f i) (buffer.Send g) e = cc
buffer_is (buffer.Stage f i) (buffer.Recv g) e = cc

pub spot_is : (k q : Spot) → same_spot k q ≡ true → k ≡ q
spot_is k q e =
    let b = both_of (same_flow k.flow q.flow) (same_buffer k.buffer q.buffer) e in
    ap (λ (f : FlowId). let r : Spot = record { flow = f; buffer = k.buffer } in r) (flow_is k.flow q.flow b.0)
    ∙ ap (λ (a : BufferId). let r : Spot = record { flow = q.flow; buffer = a } in r) (buffer_is k.buffer q.buffer b.1)

-- ---- whether two are equal

eq_backs : (a b : Bool) → beq a b ≡ (if a then b else not b)
eq_backs true true = refl
eq_backs true false = refl
eq_backs false true = refl
eq_backs false false = refl

eq_flows : (f g : FlowId) → (flow_eq.ghosts).eq f g ≡ same_flow f g
eq_flows f g = ap (λ t. (f.exchange == g.exchange) && t) (eq_backs f.back g.back)

eq_buffers : (a b : BufferId) → (buffer_eq.ghosts).eq a b ≡ same_buffer a b
eq_buffers (buffer.Recv f) (buffer.Recv g) = eq_flows f g
eq_buffers (buffer.Stage f i) (buffer.Stage g j) = ap (λ t. t && (i == j)) (eq_flows f g)
eq_buffers (buffer.Send f) (buffer.Send g) = eq_flows f g
eq_buffers (buffer.Write c) (buffer.Write d) = refl
eq_buffers _ _ = refl

pub eq_spots : (k q : Spot) → (spot_eq.ghosts).eq k q ≡ same_spot k q
eq_spots k q = both ((flow_eq.ghosts).eq k.flow q.flow) ((buffer_eq.ghosts).eq k.buffer q.buffer) (same_flow k.flow q.flow) (same_buffer k.buffer q.buffer) (eq_flows k.flow q.flow) (eq_buffers k.buffer q.buffer)

-- ---- each is the same as itself

pub equal_is : (a b : ℕ) → a ≡ b → (a == b) ≡ true
equal_is a b e = grind (arith, nat_tests)

both_true : (a b : Bool) → a ≡ true → b ≡ true → (a && b) ≡ true
both_true a b p q = both a b true true p q

flow_itself : (f : FlowId) → same_flow f f ≡ true
flow_itself f = both_true (f.exchange == f.exchange) (if f.back then f.back else not f.back) (equal_is f.exchange f.exchange refl) (back f.back)
  where
    back : (b : Bool) → (if b then b else not b) ≡ true
    back true = refl
    back false = refl

buffer_itself : (b : BufferId) → same_buffer b b ≡ true
buffer_itself (buffer.Recv f) = flow_itself f
buffer_itself (buffer.Stage f i) = both_true (same_flow f f) (i == i) (flow_itself f) (equal_is i i refl)
buffer_itself (buffer.Send f) = flow_itself f
buffer_itself (buffer.Write c) = equal_is c c refl

pub spot_itself : (k : Spot) → same_spot k k ≡ true
spot_itself k = both_true (same_flow k.flow k.flow) (same_buffer k.buffer k.buffer) (flow_itself k.flow) (buffer_itself k.buffer)
