use Rattle.exchange_core.specs.Exchanges.{flow_at, is_send_above}
use Rattle.exchange_core.specs.Flow.{send}
use Rattle.exchange_core.specs.Units.{IsFrameable, carries_end, next_unit}
use Rattle.exchange_core.specs.Message.{head_waits}
use Rattle.flow_rules.specs.declared.unit.Unit.TheVariants.{Body}
use Rattle.h2_frames.specs.Head.{data_head}
use Rattle.std.proofs.Common.{SFits, ap, arith, refl, subst, sym, w64, ◌∙◌}
use Rattle.std.proofs.lemmas.Int.{to_z-of_z}
use Rattle.std.specs.Int.{int_min}
use Rattle.std.specs.Option.{option_and_then}
use Rattle.std.specs.Prelude.{Bool, IfSome, IsOk, IsTrue, List, Some, false, length, not, option_map, pos, take, ℕ, ◌&&◌, ◌++◌, ◌+◌, ◌-ℤ◌, ◌≡◌, ◌≤◌}
use Rattle.wire_flows.proofs.Answering.{done_same, keeps_same}
use Rattle.wire_flows.proofs.Crossings.{high_of, low_of}
use Rattle.wire_flows.proofs.Framings.{body_fits, err_of, fine, grown, headed, high_before, leaves_frame, min_within, no_piece, not_covered, sub_fits, unit_is}
use Rattle.wire_flows.proofs.flows.WireFlows.frame_body.Goals as goal
use Rattle.wire_flows.specs.Flows.{flow_in, flows_of}
use Rattle.wire_flows.specs.Moves.{is_high, is_low, piece_of}
use Rattle.wire_flows.specs.Writes.{ChangesWrite, raised, write_at}
use Rattle.wm_buffer.specs.Buffer.{AppendsOctets}
use mir.Val.{of_z, to_z}

pub next_unit-requires : goal.next_unit-requires
next_unit-requires c = rw (← c.self.view_is) at c.requires

pub same-self : goal.same-self
same-self c = refl

-- ---- something else goes next
pub returns-in_default : goal.returns-in_default
returns-in_default c = let room_same : to_z w64 (of_z w64 c.args.room) ≡ c.args.room = to_z-of_z w64 c.args.room (assumption c.ranges.room) in
    let most_same : to_z w64 (of_z w64 c.args.most) ≡ c.args.most = to_z-of_z w64 c.args.most (assumption c.ranges.most) in
    let min_same : to_z w64 (of_z w64 c.min.result) ≡ int_min c.args.room c.args.most = to_z-of_z w64 c.min.result (record { sfits = c.min.type_inv }) ∙ (c.min.ensures.value ∙ (λ i. int_min (room_same i) (most_same i))) in
    let u = unit_is (int_min c.args.room c.args.most) c.args.frame (flow_in (flows_of c.self.inside) c.args.flow) c.next_unit.result
    (c.next_unit.ensures.unit ∙ ap (λ z. option_map (next_unit z c.args.frame) (flow_in (flows_of c.self.inside) c.args.flow)) min_same) in
    rw (← c.self.view_is) (record {
      answer = sym (ap (option_and_then (λ f. piece_of (next_unit (int_min c.args.room c.args.most) c.args.frame f))) u.found ∙ (ap piece_of u.is ∙ no_piece c.next_unit.result c.in_default.not-Body));
      none = λ e. (refl, refl);
      within = tt;
      frames = tt;
      appends = tt;
      grown = tt;
      rose = tt;
      drained = tt;
      next = tt;
      live = (keeps_same (flows_of c.self.inside)).live;
      left = (keeps_same (flows_of c.self.inside)).left;
      time = refl;
      writes = tt;
      lows = λ b. refl;
      covered = fine (option_and_then (λ f. piece_of (next_unit (int_min c.args.room c.args.most) c.args.frame f)) (flow_in (flows_of c.self.inside) c.args.flow)) c.args.out.now.spare;
      less = tt;
      sound = c.self.invariant;
      err = tt;
    })

-- ---- a frame that goes
pub data_head-head-requires : goal.data_head-head-requires
data_head-head-requires c = let room_same : to_z w64 (of_z w64 c.args.room) ≡ c.args.room = to_z-of_z w64 c.args.room (assumption c.ranges.room) in
    let most_same : to_z w64 (of_z w64 c.args.most) ≡ c.args.most = to_z-of_z w64 c.args.most (assumption c.ranges.most) in
    let min_same : to_z w64 (of_z w64 c.min.result) ≡ int_min c.args.room c.args.most = to_z-of_z w64 c.min.result (record { sfits = c.min.type_inv }) ∙ (c.min.ensures.value ∙ (λ i. int_min (room_same i) (most_same i))) in
    let u = unit_is (int_min c.args.room c.args.most) c.args.frame (flow_in (flows_of c.self.inside) c.args.flow) c.next_unit.result
    (c.next_unit.ensures.unit ∙ ap (λ z. option_map (next_unit z c.args.frame) (flow_in (flows_of c.self.inside) c.args.flow)) min_same) in
    let within = body_fits (int_min c.args.room c.args.most) c.args.frame c.in-Body.n c.in-Body.last c.args.flow (flows_of c.self.inside) c.self.invariant u.flow u.found (u.is ∙ c.in-Body.is) in
    let both = min_within c.in-Body.n c.args.room c.args.most within.room_is in
    within.small

pub frame_unit-requires-clause-live : goal.frame_unit-requires-clause-live
frame_unit-requires-clause-live c = rw (← c.self.view_is) at c.requires

pub frame_unit-requires-clause-headed : goal.frame_unit-requires-clause-headed
frame_unit-requires-clause-headed c = let room_same : to_z w64 (of_z w64 c.args.room) ≡ c.args.room = to_z-of_z w64 c.args.room (assumption c.ranges.room) in
    let most_same : to_z w64 (of_z w64 c.args.most) ≡ c.args.most = to_z-of_z w64 c.args.most (assumption c.ranges.most) in
    let min_same : to_z w64 (of_z w64 c.min.result) ≡ int_min c.args.room c.args.most = to_z-of_z w64 c.min.result (record { sfits = c.min.type_inv }) ∙ (c.min.ensures.value ∙ (λ i. int_min (room_same i) (most_same i))) in
    let u = unit_is (int_min c.args.room c.args.most) c.args.frame (flow_in (flows_of c.self.inside) c.args.flow) c.next_unit.result
    (c.next_unit.ensures.unit ∙ ap (λ z. option_map (next_unit z c.args.frame) (flow_in (flows_of c.self.inside) c.args.flow)) min_same) in
    let may : IsFrameable (Body c.in-Body.n c.in-Body.last) u.flow = subst (λ r. IsFrameable r u.flow) c.in-Body.is (subst (λ o. IfSome o (λ x. IsFrameable c.next_unit.result x)) u.found c.next_unit.ensures.frameable) in
    subst (λ o. IfSome o (λ f. head_waits f.message ≡ false)) (sym u.found) may.0

pub frame_unit-requires-clause-octets : goal.frame_unit-requires-clause-octets
frame_unit-requires-clause-octets c = let room_same : to_z w64 (of_z w64 c.args.room) ≡ c.args.room = to_z-of_z w64 c.args.room (assumption c.ranges.room) in
    let most_same : to_z w64 (of_z w64 c.args.most) ≡ c.args.most = to_z-of_z w64 c.args.most (assumption c.ranges.most) in
    let min_same : to_z w64 (of_z w64 c.min.result) ≡ int_min c.args.room c.args.most = to_z-of_z w64 c.min.result (record { sfits = c.min.type_inv }) ∙ (c.min.ensures.value ∙ (λ i. int_min (room_same i) (most_same i))) in
    let u = unit_is (int_min c.args.room c.args.most) c.args.frame (flow_in (flows_of c.self.inside) c.args.flow) c.next_unit.result
    (c.next_unit.ensures.unit ∙ ap (λ z. option_map (next_unit z c.args.frame) (flow_in (flows_of c.self.inside) c.args.flow)) min_same) in
    let may : IsFrameable (Body c.in-Body.n c.in-Body.last) u.flow = subst (λ r. IsFrameable r u.flow) c.in-Body.is (subst (λ o. IfSome o (λ x. IsFrameable c.next_unit.result x)) u.found c.next_unit.ensures.frameable) in
    subst (λ o. IfSome o (λ f. c.in-Body.n ≤ length (send f))) (sym u.found) may.1

pub frame_unit-requires-clause-all : goal.frame_unit-requires-clause-all
frame_unit-requires-clause-all c = let room_same : to_z w64 (of_z w64 c.args.room) ≡ c.args.room = to_z-of_z w64 c.args.room (assumption c.ranges.room) in
    let most_same : to_z w64 (of_z w64 c.args.most) ≡ c.args.most = to_z-of_z w64 c.args.most (assumption c.ranges.most) in
    let min_same : to_z w64 (of_z w64 c.min.result) ≡ int_min c.args.room c.args.most = to_z-of_z w64 c.min.result (record { sfits = c.min.type_inv }) ∙ (c.min.ensures.value ∙ (λ i. int_min (room_same i) (most_same i))) in
    let u = unit_is (int_min c.args.room c.args.most) c.args.frame (flow_in (flows_of c.self.inside) c.args.flow) c.next_unit.result
    (c.next_unit.ensures.unit ∙ ap (λ z. option_map (next_unit z c.args.frame) (flow_in (flows_of c.self.inside) c.args.flow)) min_same) in
    let may : IsFrameable (Body c.in-Body.n c.in-Body.last) u.flow = subst (λ r. IsFrameable r u.flow) c.in-Body.is (subst (λ o. IfSome o (λ x. IsFrameable c.next_unit.result x)) u.found c.next_unit.ensures.frameable) in
    λ last. subst (λ o. IfSome o (λ f. IsTrue (carries_end c.in-Body.n f))) (sym u.found) (may.2 last)

pub overflow_sub-rest : goal.overflow_sub-rest
overflow_sub-rest c = let room_same : to_z w64 (of_z w64 c.args.room) ≡ c.args.room = to_z-of_z w64 c.args.room (assumption c.ranges.room) in
    let most_same : to_z w64 (of_z w64 c.args.most) ≡ c.args.most = to_z-of_z w64 c.args.most (assumption c.ranges.most) in
    let min_same : to_z w64 (of_z w64 c.min.result) ≡ int_min c.args.room c.args.most = to_z-of_z w64 c.min.result (record { sfits = c.min.type_inv }) ∙ (c.min.ensures.value ∙ (λ i. int_min (room_same i) (most_same i))) in
    let u = unit_is (int_min c.args.room c.args.most) c.args.frame (flow_in (flows_of c.self.inside) c.args.flow) c.next_unit.result
    (c.next_unit.ensures.unit ∙ ap (λ z. option_map (next_unit z c.args.frame) (flow_in (flows_of c.self.inside) c.args.flow)) min_same) in
    let within = body_fits (int_min c.args.room c.args.most) c.args.frame c.in-Body.n c.in-Body.last c.args.flow (flows_of c.self.inside) c.self.invariant u.flow u.found (u.is ∙ c.in-Body.is) in
    let both = min_within c.in-Body.n c.args.room c.args.most within.room_is in
    let from_same : to_z w64 (of_z w64 c.from.result) ≡ pos c.in-Body.n = to_z-of_z w64 c.from.result (record { sfits = c.from.type_inv }) ∙ c.from.ensures in
    let fits = sub_fits c.args.room c.in-Body.n (assumption c.ranges.room) both.room_is in
    let gap : to_z w64 (of_z w64 c.args.room) -ℤ to_z w64 (of_z w64 c.from.result) ≡ c.args.room -ℤ pos c.in-Body.n = λ i. room_same i -ℤ from_same i in
    let fits_raw : SFits w64 (to_z w64 (of_z w64 c.args.room) -ℤ to_z w64 (of_z w64 c.from.result)) = subst (SFits w64) (sym gap) fits in
    fits_raw

-- ---- out of memory
pub invariant_of-self : goal.invariant_of-self
invariant_of-self c = (done_same 0 (flows_of c.self.inside) c.frame_unit.new.self c.self.invariant (c.in_err-shifted.ensures {u = tt}).err.0).sound

pub returns-in_err-shifted-clause-live : goal.returns-in_err-shifted-clause-live
returns-in_err-shifted-clause-live c = rw (← c.self.view_is) (done_same 0 (flows_of c.self.inside) c.frame_unit.new.self c.self.invariant (c.in_err-shifted.ensures {u = tt}).err.0).keeps.live

pub returns-in_err-shifted-clause-left : goal.returns-in_err-shifted-clause-left
returns-in_err-shifted-clause-left c = rw (← c.self.view_is) (done_same 0 (flows_of c.self.inside) c.frame_unit.new.self c.self.invariant (c.in_err-shifted.ensures {u = tt}).err.0).keeps.left

pub returns-in_err-shifted-clause-time : goal.returns-in_err-shifted-clause-time
returns-in_err-shifted-clause-time c = rw (← c.self.view_is) (done_same 0 (flows_of c.self.inside) c.frame_unit.new.self c.self.invariant (c.in_err-shifted.ensures {u = tt}).err.0).keeps.time

pub returns-in_err-shifted-clause-lows : goal.returns-in_err-shifted-clause-lows
returns-in_err-shifted-clause-lows c = rw (← c.self.view_is) (λ b. refl)

pub returns-in_err-shifted-clause-covered : goal.returns-in_err-shifted-clause-covered
returns-in_err-shifted-clause-covered c = let room_same : to_z w64 (of_z w64 c.args.room) ≡ c.args.room = to_z-of_z w64 c.args.room (assumption c.ranges.room) in
    let most_same : to_z w64 (of_z w64 c.args.most) ≡ c.args.most = to_z-of_z w64 c.args.most (assumption c.ranges.most) in
    let min_same : to_z w64 (of_z w64 c.min.result) ≡ int_min c.args.room c.args.most = to_z-of_z w64 c.min.result (record { sfits = c.min.type_inv }) ∙ (c.min.ensures.value ∙ (λ i. int_min (room_same i) (most_same i))) in
    let u = unit_is (int_min c.args.room c.args.most) c.args.frame (flow_in (flows_of c.self.inside) c.args.flow) c.next_unit.result
    (c.next_unit.ensures.unit ∙ ap (λ z. option_map (next_unit z c.args.frame) (flow_in (flows_of c.self.inside) c.args.flow)) min_same) in
    rw (← c.self.view_is) (subst (λ o. IfSome o (λ piece. 9 + piece.n ≤ c.args.out.now.spare → IsOk c.from_residual.result)) (sym (ap (option_and_then (λ f. piece_of (next_unit (int_min c.args.room c.args.most) c.args.frame f))) u.found ∙ ap piece_of (u.is ∙ c.in-Body.is)))
    (λ few. absurd (not_covered c.frame_unit.result _ c.in_err-shifted.was (c.frame_unit.ensures.covered (omega (arith, few, headed c.args.stream c.in-Body.n c.in-Body.last c.data_head-head.result c.data_head-head.ensures))))))

pub returns-in_err-shifted-clause-sound : goal.returns-in_err-shifted-clause-sound
returns-in_err-shifted-clause-sound c = (done_same 0 (flows_of c.self.inside) c.frame_unit.new.self c.self.invariant (c.in_err-shifted.ensures {u = tt}).err.0).sound

pub returns-in_err-shifted-clause-err : goal.returns-in_err-shifted-clause-err
returns-in_err-shifted-clause-err c = rw (← c.self.view_is) (err_of (flows_of c.self.inside) c.frame_unit.new.self c.args.out.now c.frame_unit.new.out c.from_residual.result (c.in_err-shifted.ensures {u = tt}).err)

-- ---- a frame
pub mark_frame-rose-requires-clause-sound : goal.mark_frame-rose-requires-clause-sound
mark_frame-rose-requires-clause-sound c = c.self.invariant.gates

pub mark_frame-rose-requires-clause-high : goal.mark_frame-rose-requires-clause-high
mark_frame-rose-requires-clause-high c = let room_same : to_z w64 (of_z w64 c.args.room) ≡ c.args.room = to_z-of_z w64 c.args.room (assumption c.ranges.room) in
    let most_same : to_z w64 (of_z w64 c.args.most) ≡ c.args.most = to_z-of_z w64 c.args.most (assumption c.ranges.most) in
    let min_same : to_z w64 (of_z w64 c.min.result) ≡ int_min c.args.room c.args.most = to_z-of_z w64 c.min.result (record { sfits = c.min.type_inv }) ∙ (c.min.ensures.value ∙ (λ i. int_min (room_same i) (most_same i))) in
    let u = unit_is (int_min c.args.room c.args.most) c.args.frame (flow_in (flows_of c.self.inside) c.args.flow) c.next_unit.result
    (c.next_unit.ensures.unit ∙ ap (λ z. option_map (next_unit z c.args.frame) (flow_in (flows_of c.self.inside) c.args.flow)) min_same) in
    high_before c.args.flow c.args.conn (flows_of c.self.inside) c.frame_unit.new.self c.self.inside.gates c.self.invariant u.flow u.found c.frame_unit.ensures.sound c.self.invariant.gates c.in-Body.n c.in-Body.last c.in_ok-shifted.shifted.to c.in_ok-shifted.shifted.from (c.in_ok-shifted.ensures {u = tt}).frames (c.in_ok-shifted.ensures {u = tt}).from

pub mark_frame-rose-requires-clause-told : goal.mark_frame-rose-requires-clause-told
mark_frame-rose-requires-clause-told c = c.self.invariant.told c.args.flow

pub invariant_of-self-2 : goal.invariant_of-self-2
invariant_of-self-2 c = let room_same : to_z w64 (of_z w64 c.args.room) ≡ c.args.room = to_z-of_z w64 c.args.room (assumption c.ranges.room) in
    let most_same : to_z w64 (of_z w64 c.args.most) ≡ c.args.most = to_z-of_z w64 c.args.most (assumption c.ranges.most) in
    let min_same : to_z w64 (of_z w64 c.min.result) ≡ int_min c.args.room c.args.most = to_z-of_z w64 c.min.result (record { sfits = c.min.type_inv }) ∙ (c.min.ensures.value ∙ (λ i. int_min (room_same i) (most_same i))) in
    let u = unit_is (int_min c.args.room c.args.most) c.args.frame (flow_in (flows_of c.self.inside) c.args.flow) c.next_unit.result
    (c.next_unit.ensures.unit ∙ ap (λ z. option_map (next_unit z c.args.frame) (flow_in (flows_of c.self.inside) c.args.flow)) min_same) in
    let may : IsFrameable (Body c.in-Body.n c.in-Body.last) u.flow = subst (λ r. IsFrameable r u.flow) c.in-Body.is (subst (λ o. IfSome o (λ x. IsFrameable c.next_unit.result x)) u.found c.next_unit.ensures.frameable) in
    (leaves_frame c.args.flow c.args.conn (flows_of c.self.inside) c.frame_unit.new.self c.mark_frame-rose.new.gates c.self.invariant u.flow u.found c.frame_unit.ensures.sound c.mark_frame-rose.ensures.sound c.in-Body.n c.in-Body.last c.in_ok-shifted.shifted.to c.in_ok-shifted.shifted.from (c.in_ok-shifted.ensures {u = tt}).frames
    (int_min c.args.room c.args.most) c.args.frame (u.is ∙ c.in-Body.is) may (c.in_ok-shifted.ensures {u = tt}).from c.mark_frame-rose.ensures.crosses).sound

pub returns-clause-answer : goal.returns-clause-answer
returns-clause-answer c = let room_same : to_z w64 (of_z w64 c.args.room) ≡ c.args.room = to_z-of_z w64 c.args.room (assumption c.ranges.room) in
    let most_same : to_z w64 (of_z w64 c.args.most) ≡ c.args.most = to_z-of_z w64 c.args.most (assumption c.ranges.most) in
    let min_same : to_z w64 (of_z w64 c.min.result) ≡ int_min c.args.room c.args.most = to_z-of_z w64 c.min.result (record { sfits = c.min.type_inv }) ∙ (c.min.ensures.value ∙ (λ i. int_min (room_same i) (most_same i))) in
    let u = unit_is (int_min c.args.room c.args.most) c.args.frame (flow_in (flows_of c.self.inside) c.args.flow) c.next_unit.result
    (c.next_unit.ensures.unit ∙ ap (λ z. option_map (next_unit z c.args.frame) (flow_in (flows_of c.self.inside) c.args.flow)) min_same) in
    rw (← c.self.view_is) (sym (ap (option_and_then (λ f. piece_of (next_unit (int_min c.args.room c.args.most) c.args.frame f))) u.found ∙ ap piece_of (u.is ∙ c.in-Body.is)))

pub returns-clause-covered : goal.returns-clause-covered
returns-clause-covered c = rw (← c.self.view_is) (fine (option_and_then (λ f. piece_of (next_unit (int_min c.args.room c.args.most) c.args.frame f)) (flow_in (flows_of c.self.inside) c.args.flow)) c.args.out.now.spare)

pub returns-clause-within : goal.returns-clause-within
returns-clause-within c = let room_same : to_z w64 (of_z w64 c.args.room) ≡ c.args.room = to_z-of_z w64 c.args.room (assumption c.ranges.room) in
    let most_same : to_z w64 (of_z w64 c.args.most) ≡ c.args.most = to_z-of_z w64 c.args.most (assumption c.ranges.most) in
    let min_same : to_z w64 (of_z w64 c.min.result) ≡ int_min c.args.room c.args.most = to_z-of_z w64 c.min.result (record { sfits = c.min.type_inv }) ∙ (c.min.ensures.value ∙ (λ i. int_min (room_same i) (most_same i))) in
    let u = unit_is (int_min c.args.room c.args.most) c.args.frame (flow_in (flows_of c.self.inside) c.args.flow) c.next_unit.result
    (c.next_unit.ensures.unit ∙ ap (λ z. option_map (next_unit z c.args.frame) (flow_in (flows_of c.self.inside) c.args.flow)) min_same) in
    let within = body_fits (int_min c.args.room c.args.most) c.args.frame c.in-Body.n c.in-Body.last c.args.flow (flows_of c.self.inside) c.self.invariant u.flow u.found (u.is ∙ c.in-Body.is) in
    let both = min_within c.in-Body.n c.args.room c.args.most within.room_is in
    (within.frame_is, both.room_is, both.most_is, within.small)

pub returns-clause-frames : goal.returns-clause-frames
returns-clause-frames c = rw (← c.self.view_is) (c.in_ok-shifted.ensures {u = tt}).frames

pub returns-clause-appends : goal.returns-clause-appends
returns-clause-appends c = rw (← c.self.view_is) (subst (λ (head : List ℕ). IfSome (flow_in (flows_of c.self.inside) c.args.flow) (λ f. AppendsOctets c.args.out.now c.frame_unit.new.out (head ++ take c.in-Body.n (send f)))) c.data_head-head.ensures (c.in_ok-shifted.ensures {u = tt}).appends)

pub returns-clause-grown : goal.returns-clause-grown
returns-clause-grown c = let room_same : to_z w64 (of_z w64 c.args.room) ≡ c.args.room = to_z-of_z w64 c.args.room (assumption c.ranges.room) in
    let most_same : to_z w64 (of_z w64 c.args.most) ≡ c.args.most = to_z-of_z w64 c.args.most (assumption c.ranges.most) in
    let min_same : to_z w64 (of_z w64 c.min.result) ≡ int_min c.args.room c.args.most = to_z-of_z w64 c.min.result (record { sfits = c.min.type_inv }) ∙ (c.min.ensures.value ∙ (λ i. int_min (room_same i) (most_same i))) in
    let u = unit_is (int_min c.args.room c.args.most) c.args.frame (flow_in (flows_of c.self.inside) c.args.flow) c.next_unit.result
    (c.next_unit.ensures.unit ∙ ap (λ z. option_map (next_unit z c.args.frame) (flow_in (flows_of c.self.inside) c.args.flow)) min_same) in
    let may : IsFrameable (Body c.in-Body.n c.in-Body.last) u.flow = subst (λ r. IsFrameable r u.flow) c.in-Body.is (subst (λ o. IfSome o (λ x. IsFrameable c.next_unit.result x)) u.found c.next_unit.ensures.frameable) in
    grown c.args.out.now c.frame_unit.new.out c.data_head-head.result (send u.flow) c.in-Body.n (subst (λ o. IfSome o (λ f. AppendsOctets c.args.out.now c.frame_unit.new.out (c.data_head-head.result ++ take c.in-Body.n (send f)))) u.found (c.in_ok-shifted.ensures {u = tt}).appends)
    (headed c.args.stream c.in-Body.n c.in-Body.last c.data_head-head.result c.data_head-head.ensures) may.1

pub returns-clause-rose : goal.returns-clause-rose
returns-clause-rose c = c.mark_frame-rose.ensures.rose ∙ (ap is_high (c.in_ok-shifted.ensures {u = tt}).to ∙ high_of c.args.out.now.above c.frame_unit.new.out.above)

pub returns-clause-drained : goal.returns-clause-drained
returns-clause-drained c = rw (← c.self.view_is) (c.mark_frame-rose.ensures.drained ∙ (ap is_low (c.in_ok-shifted.ensures {u = tt}).from ∙ low_of (is_send_above c.self.inside.exchanges c.args.flow) (is_send_above c.frame_unit.new.self c.args.flow)))

pub returns-clause-next : goal.returns-clause-next
returns-clause-next c = let room_same : to_z w64 (of_z w64 c.args.room) ≡ c.args.room = to_z-of_z w64 c.args.room (assumption c.ranges.room) in
    let most_same : to_z w64 (of_z w64 c.args.most) ≡ c.args.most = to_z-of_z w64 c.args.most (assumption c.ranges.most) in
    let min_same : to_z w64 (of_z w64 c.min.result) ≡ int_min c.args.room c.args.most = to_z-of_z w64 c.min.result (record { sfits = c.min.type_inv }) ∙ (c.min.ensures.value ∙ (λ i. int_min (room_same i) (most_same i))) in
    let u = unit_is (int_min c.args.room c.args.most) c.args.frame (flow_in (flows_of c.self.inside) c.args.flow) c.next_unit.result
    (c.next_unit.ensures.unit ∙ ap (λ z. option_map (next_unit z c.args.frame) (flow_in (flows_of c.self.inside) c.args.flow)) min_same) in
    let within = body_fits (int_min c.args.room c.args.most) c.args.frame c.in-Body.n c.in-Body.last c.args.flow (flows_of c.self.inside) c.self.invariant u.flow u.found (u.is ∙ c.in-Body.is) in
    let both = min_within c.in-Body.n c.args.room c.args.most within.room_is in
    let from_same : to_z w64 (of_z w64 c.from.result) ≡ pos c.in-Body.n = to_z-of_z w64 c.from.result (record { sfits = c.from.type_inv }) ∙ c.from.ensures in
    let fits = sub_fits c.args.room c.in-Body.n (assumption c.ranges.room) both.room_is in
    let gap : to_z w64 (of_z w64 c.args.room) -ℤ to_z w64 (of_z w64 c.from.result) ≡ c.args.room -ℤ pos c.in-Body.n = λ i. room_same i -ℤ from_same i in
    let fits_raw : SFits w64 (to_z w64 (of_z w64 c.args.room) -ℤ to_z w64 (of_z w64 c.from.result)) = subst (SFits w64) (sym gap) fits in
    (c.in_ok-shifted.ensures {u = tt}).unit ∙ ap (λ z. option_map (next_unit z c.args.frame) (flow_at c.frame_unit.new.self c.args.flow)) (to_z-of_z w64 (to_z w64 (of_z w64 c.args.room) -ℤ to_z w64 (of_z w64 c.from.result)) fits_raw ∙ gap)

pub returns-clause-live : goal.returns-clause-live
returns-clause-live c = let room_same : to_z w64 (of_z w64 c.args.room) ≡ c.args.room = to_z-of_z w64 c.args.room (assumption c.ranges.room) in
    let most_same : to_z w64 (of_z w64 c.args.most) ≡ c.args.most = to_z-of_z w64 c.args.most (assumption c.ranges.most) in
    let min_same : to_z w64 (of_z w64 c.min.result) ≡ int_min c.args.room c.args.most = to_z-of_z w64 c.min.result (record { sfits = c.min.type_inv }) ∙ (c.min.ensures.value ∙ (λ i. int_min (room_same i) (most_same i))) in
    let u = unit_is (int_min c.args.room c.args.most) c.args.frame (flow_in (flows_of c.self.inside) c.args.flow) c.next_unit.result
    (c.next_unit.ensures.unit ∙ ap (λ z. option_map (next_unit z c.args.frame) (flow_in (flows_of c.self.inside) c.args.flow)) min_same) in
    let may : IsFrameable (Body c.in-Body.n c.in-Body.last) u.flow = subst (λ r. IsFrameable r u.flow) c.in-Body.is (subst (λ o. IfSome o (λ x. IsFrameable c.next_unit.result x)) u.found c.next_unit.ensures.frameable) in
    rw (← c.self.view_is) (leaves_frame c.args.flow c.args.conn (flows_of c.self.inside) c.frame_unit.new.self c.mark_frame-rose.new.gates c.self.invariant u.flow u.found c.frame_unit.ensures.sound c.mark_frame-rose.ensures.sound c.in-Body.n c.in-Body.last c.in_ok-shifted.shifted.to c.in_ok-shifted.shifted.from (c.in_ok-shifted.ensures {u = tt}).frames
    (int_min c.args.room c.args.most) c.args.frame (u.is ∙ c.in-Body.is) may (c.in_ok-shifted.ensures {u = tt}).from c.mark_frame-rose.ensures.crosses).live

pub returns-clause-left : goal.returns-clause-left
returns-clause-left c = let room_same : to_z w64 (of_z w64 c.args.room) ≡ c.args.room = to_z-of_z w64 c.args.room (assumption c.ranges.room) in
    let most_same : to_z w64 (of_z w64 c.args.most) ≡ c.args.most = to_z-of_z w64 c.args.most (assumption c.ranges.most) in
    let min_same : to_z w64 (of_z w64 c.min.result) ≡ int_min c.args.room c.args.most = to_z-of_z w64 c.min.result (record { sfits = c.min.type_inv }) ∙ (c.min.ensures.value ∙ (λ i. int_min (room_same i) (most_same i))) in
    let u = unit_is (int_min c.args.room c.args.most) c.args.frame (flow_in (flows_of c.self.inside) c.args.flow) c.next_unit.result
    (c.next_unit.ensures.unit ∙ ap (λ z. option_map (next_unit z c.args.frame) (flow_in (flows_of c.self.inside) c.args.flow)) min_same) in
    let may : IsFrameable (Body c.in-Body.n c.in-Body.last) u.flow = subst (λ r. IsFrameable r u.flow) c.in-Body.is (subst (λ o. IfSome o (λ x. IsFrameable c.next_unit.result x)) u.found c.next_unit.ensures.frameable) in
    rw (← c.self.view_is) (leaves_frame c.args.flow c.args.conn (flows_of c.self.inside) c.frame_unit.new.self c.mark_frame-rose.new.gates c.self.invariant u.flow u.found c.frame_unit.ensures.sound c.mark_frame-rose.ensures.sound c.in-Body.n c.in-Body.last c.in_ok-shifted.shifted.to c.in_ok-shifted.shifted.from (c.in_ok-shifted.ensures {u = tt}).frames
    (int_min c.args.room c.args.most) c.args.frame (u.is ∙ c.in-Body.is) may (c.in_ok-shifted.ensures {u = tt}).from c.mark_frame-rose.ensures.crosses).left

pub returns-clause-time : goal.returns-clause-time
returns-clause-time c = let room_same : to_z w64 (of_z w64 c.args.room) ≡ c.args.room = to_z-of_z w64 c.args.room (assumption c.ranges.room) in
    let most_same : to_z w64 (of_z w64 c.args.most) ≡ c.args.most = to_z-of_z w64 c.args.most (assumption c.ranges.most) in
    let min_same : to_z w64 (of_z w64 c.min.result) ≡ int_min c.args.room c.args.most = to_z-of_z w64 c.min.result (record { sfits = c.min.type_inv }) ∙ (c.min.ensures.value ∙ (λ i. int_min (room_same i) (most_same i))) in
    let u = unit_is (int_min c.args.room c.args.most) c.args.frame (flow_in (flows_of c.self.inside) c.args.flow) c.next_unit.result
    (c.next_unit.ensures.unit ∙ ap (λ z. option_map (next_unit z c.args.frame) (flow_in (flows_of c.self.inside) c.args.flow)) min_same) in
    let may : IsFrameable (Body c.in-Body.n c.in-Body.last) u.flow = subst (λ r. IsFrameable r u.flow) c.in-Body.is (subst (λ o. IfSome o (λ x. IsFrameable c.next_unit.result x)) u.found c.next_unit.ensures.frameable) in
    rw (← c.self.view_is) (leaves_frame c.args.flow c.args.conn (flows_of c.self.inside) c.frame_unit.new.self c.mark_frame-rose.new.gates c.self.invariant u.flow u.found c.frame_unit.ensures.sound c.mark_frame-rose.ensures.sound c.in-Body.n c.in-Body.last c.in_ok-shifted.shifted.to c.in_ok-shifted.shifted.from (c.in_ok-shifted.ensures {u = tt}).frames
    (int_min c.args.room c.args.most) c.args.frame (u.is ∙ c.in-Body.is) may (c.in_ok-shifted.ensures {u = tt}).from c.mark_frame-rose.ensures.crosses).time

pub returns-clause-lows : goal.returns-clause-lows
returns-clause-lows c = let room_same : to_z w64 (of_z w64 c.args.room) ≡ c.args.room = to_z-of_z w64 c.args.room (assumption c.ranges.room) in
    let most_same : to_z w64 (of_z w64 c.args.most) ≡ c.args.most = to_z-of_z w64 c.args.most (assumption c.ranges.most) in
    let min_same : to_z w64 (of_z w64 c.min.result) ≡ int_min c.args.room c.args.most = to_z-of_z w64 c.min.result (record { sfits = c.min.type_inv }) ∙ (c.min.ensures.value ∙ (λ i. int_min (room_same i) (most_same i))) in
    let u = unit_is (int_min c.args.room c.args.most) c.args.frame (flow_in (flows_of c.self.inside) c.args.flow) c.next_unit.result
    (c.next_unit.ensures.unit ∙ ap (λ z. option_map (next_unit z c.args.frame) (flow_in (flows_of c.self.inside) c.args.flow)) min_same) in
    let may : IsFrameable (Body c.in-Body.n c.in-Body.last) u.flow = subst (λ r. IsFrameable r u.flow) c.in-Body.is (subst (λ o. IfSome o (λ x. IsFrameable c.next_unit.result x)) u.found c.next_unit.ensures.frameable) in
    rw (← c.self.view_is) (leaves_frame c.args.flow c.args.conn (flows_of c.self.inside) c.frame_unit.new.self c.mark_frame-rose.new.gates c.self.invariant u.flow u.found c.frame_unit.ensures.sound c.mark_frame-rose.ensures.sound c.in-Body.n c.in-Body.last c.in_ok-shifted.shifted.to c.in_ok-shifted.shifted.from (c.in_ok-shifted.ensures {u = tt}).frames
    (int_min c.args.room c.args.most) c.args.frame (u.is ∙ c.in-Body.is) may (c.in_ok-shifted.ensures {u = tt}).from c.mark_frame-rose.ensures.crosses).lows

pub returns-clause-less : goal.returns-clause-less
returns-clause-less c = let room_same : to_z w64 (of_z w64 c.args.room) ≡ c.args.room = to_z-of_z w64 c.args.room (assumption c.ranges.room) in
    let most_same : to_z w64 (of_z w64 c.args.most) ≡ c.args.most = to_z-of_z w64 c.args.most (assumption c.ranges.most) in
    let min_same : to_z w64 (of_z w64 c.min.result) ≡ int_min c.args.room c.args.most = to_z-of_z w64 c.min.result (record { sfits = c.min.type_inv }) ∙ (c.min.ensures.value ∙ (λ i. int_min (room_same i) (most_same i))) in
    let u = unit_is (int_min c.args.room c.args.most) c.args.frame (flow_in (flows_of c.self.inside) c.args.flow) c.next_unit.result
    (c.next_unit.ensures.unit ∙ ap (λ z. option_map (next_unit z c.args.frame) (flow_in (flows_of c.self.inside) c.args.flow)) min_same) in
    let may : IsFrameable (Body c.in-Body.n c.in-Body.last) u.flow = subst (λ r. IsFrameable r u.flow) c.in-Body.is (subst (λ o. IfSome o (λ x. IsFrameable c.next_unit.result x)) u.found c.next_unit.ensures.frameable) in
    rw (← c.self.view_is) (leaves_frame c.args.flow c.args.conn (flows_of c.self.inside) c.frame_unit.new.self c.mark_frame-rose.new.gates c.self.invariant u.flow u.found c.frame_unit.ensures.sound c.mark_frame-rose.ensures.sound c.in-Body.n c.in-Body.last c.in_ok-shifted.shifted.to c.in_ok-shifted.shifted.from (c.in_ok-shifted.ensures {u = tt}).frames
    (int_min c.args.room c.args.most) c.args.frame (u.is ∙ c.in-Body.is) may (c.in_ok-shifted.ensures {u = tt}).from c.mark_frame-rose.ensures.crosses).less

pub returns-clause-writes : goal.returns-clause-writes
returns-clause-writes c = let room_same : to_z w64 (of_z w64 c.args.room) ≡ c.args.room = to_z-of_z w64 c.args.room (assumption c.ranges.room) in
    let most_same : to_z w64 (of_z w64 c.args.most) ≡ c.args.most = to_z-of_z w64 c.args.most (assumption c.ranges.most) in
    let min_same : to_z w64 (of_z w64 c.min.result) ≡ int_min c.args.room c.args.most = to_z-of_z w64 c.min.result (record { sfits = c.min.type_inv }) ∙ (c.min.ensures.value ∙ (λ i. int_min (room_same i) (most_same i))) in
    let u = unit_is (int_min c.args.room c.args.most) c.args.frame (flow_in (flows_of c.self.inside) c.args.flow) c.next_unit.result
    (c.next_unit.ensures.unit ∙ ap (λ z. option_map (next_unit z c.args.frame) (flow_in (flows_of c.self.inside) c.args.flow)) min_same) in
    let may : IsFrameable (Body c.in-Body.n c.in-Body.last) u.flow = subst (λ r. IsFrameable r u.flow) c.in-Body.is (subst (λ o. IfSome o (λ x. IsFrameable c.next_unit.result x)) u.found c.next_unit.ensures.frameable) in
    rw (← c.self.view_is) (subst (λ b. ChangesWrite c.args.conn (option_map (raised b) (write_at c.args.conn (flows_of c.self.inside))) (flows_of c.self.inside) (record { exchanges = c.frame_unit.new.self; gates = c.mark_frame-rose.new.gates })) (sym c.mark_frame-rose.ensures.rose) (leaves_frame c.args.flow c.args.conn (flows_of c.self.inside) c.frame_unit.new.self c.mark_frame-rose.new.gates c.self.invariant u.flow u.found c.frame_unit.ensures.sound c.mark_frame-rose.ensures.sound c.in-Body.n c.in-Body.last c.in_ok-shifted.shifted.to c.in_ok-shifted.shifted.from (c.in_ok-shifted.ensures {u = tt}).frames
    (int_min c.args.room c.args.most) c.args.frame (u.is ∙ c.in-Body.is) may (c.in_ok-shifted.ensures {u = tt}).from c.mark_frame-rose.ensures.crosses).writes)

pub returns-clause-sound : goal.returns-clause-sound
returns-clause-sound c = let room_same : to_z w64 (of_z w64 c.args.room) ≡ c.args.room = to_z-of_z w64 c.args.room (assumption c.ranges.room) in
    let most_same : to_z w64 (of_z w64 c.args.most) ≡ c.args.most = to_z-of_z w64 c.args.most (assumption c.ranges.most) in
    let min_same : to_z w64 (of_z w64 c.min.result) ≡ int_min c.args.room c.args.most = to_z-of_z w64 c.min.result (record { sfits = c.min.type_inv }) ∙ (c.min.ensures.value ∙ (λ i. int_min (room_same i) (most_same i))) in
    let u = unit_is (int_min c.args.room c.args.most) c.args.frame (flow_in (flows_of c.self.inside) c.args.flow) c.next_unit.result
    (c.next_unit.ensures.unit ∙ ap (λ z. option_map (next_unit z c.args.frame) (flow_in (flows_of c.self.inside) c.args.flow)) min_same) in
    let may : IsFrameable (Body c.in-Body.n c.in-Body.last) u.flow = subst (λ r. IsFrameable r u.flow) c.in-Body.is (subst (λ o. IfSome o (λ x. IsFrameable c.next_unit.result x)) u.found c.next_unit.ensures.frameable) in
    (leaves_frame c.args.flow c.args.conn (flows_of c.self.inside) c.frame_unit.new.self c.mark_frame-rose.new.gates c.self.invariant u.flow u.found c.frame_unit.ensures.sound c.mark_frame-rose.ensures.sound c.in-Body.n c.in-Body.last c.in_ok-shifted.shifted.to c.in_ok-shifted.shifted.from (c.in_ok-shifted.ensures {u = tt}).frames
    (int_min c.args.room c.args.most) c.args.frame (u.is ∙ c.in-Body.is) may (c.in_ok-shifted.ensures {u = tt}).from c.mark_frame-rose.ensures.crosses).sound
