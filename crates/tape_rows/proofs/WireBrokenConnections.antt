-- Tapes of wire sessions that break one law each, as it says; what stood before is lawful.
use Rattle.hpack_codec.specs.Encoding.{integer, varint}
use Rattle.hpack_codec.specs.Table.{static_table}
use Rattle.overload_core.specs.ActionStates.{greatest_of}
use Rattle.overload_core.specs.Course.{reached, stay}
use Rattle.scaled_timer.specs.Order.{in_order, placed}
use Rattle.std.proofs.Common.{ap, inl, inr}
use Rattle.std.specs.Prelude.{codes, drop, ◌∷◌}
use Rattle.tape_laws.specs.Flows.{request}
use Rattle.tape_laws.specs.History.{Marked, Noted}
use Rattle.tape_laws.specs.Units.{Control, Put}
use Rattle.tape_rows.proofs.WireFloods.{config_of_flood_of_pings, config_of_flood_of_resets, flood_of_pings, flood_of_resets}
use Rattle.tape_rows.proofs.WireGoAway.{cluster_leaves, config_of_cluster_leaves}
use Rattle.tape_rows.proofs.WireLeaving.{cancelled, config_of_cancelled, config_of_drained, config_of_lost, drained, lost}
use Rattle.tape_rows.proofs.WireOverload.{config_of_rejected, config_of_reset_by_memory, config_of_stopped, rejected, reset_by_memory, stopped}
use Rattle.tape_rows.proofs.WireTapes.{Begun, hex, picks_put}
use Rattle.tape_rows.proofs.WireTimers.{config_of_route_timeout, route_timeout}
use Rattle.wire_laws.specs.Marks.{Picked}
use Rattle.flow_notes.specs.declared.events.Event.TheVariants as event
use Rattle.flow_rules.specs.declared.causes.Cause.TheVariants as cause
use Rattle.flow_notes.specs.declared.notes.CloseCause.TheVariants as closed
use Rattle.flow_rules.specs.declared.causes.FireKind.TheVariants as kind
use Rattle.flow_notes.specs.declared.notes.Note.TheVariants as note

-- a unit for a full list, and the connection stays
pub flood_unanswered : Begun config_of_flood_of_pings (Noted (note.Turn 3 (event.Tick 0)) ∷ drop 1 flood_of_pings) → ⊥
unfolding static_table varint integer reached stay greatest_of placed in_order
flood_unanswered w = let k = w.lawful.answered.0 in cc

-- more resets than are allowed, and the connection stays
pub resets_unanswered : Begun config_of_flood_of_resets (Noted (note.Gone 2) ∷ drop 6 flood_of_resets) → ⊥
unfolding static_table varint integer reached stay greatest_of placed in_order
resets_unanswered w = let k = w.lawful.answered.0 in cc

-- an exchange of a lost connection lives on
pub loss_unanswered : Begun config_of_lost (Noted (note.Turn 5 (event.Tick 0)) ∷ drop 6 lost) → ⊥
unfolding static_table varint integer reached stay greatest_of placed in_order
loss_unanswered w = let k = w.lawful.answered.0 in cc

-- a request on a draining connection begins an exchange
pub later_stream_started : Begun config_of_drained (Noted (note.Start 2 1 3 2) ∷ drop 8 drained) → ⊥
unfolding static_table varint integer reached stay greatest_of placed in_order
later_stream_started w = w.lawful.only.0

-- a draining connection closes under its exchange
pub drained_while_alive : Begun config_of_drained (Noted (note.Close 1 0 closed.Drained) ∷ drop 8 drained) → ⊥
unfolding static_table varint integer reached stay greatest_of placed in_order
drained_while_alive w = let k = w.lawful.licensed.0.1.1 in cc

-- a draining connection without an exchange stays
pub drained_and_open : Begun config_of_drained (Noted (note.Turn 7 (event.Tick 0)) ∷ Noted (note.Gone 1) ∷ drop 4 drained) → ⊥
unfolding static_table varint integer reached stay greatest_of placed in_order
drained_and_open w = let k = w.lawful.quiet.0.framed.1.0 in cc

-- an answer goes behind a gone note
pub swept_too_early : Begun config_of_cancelled (Marked (Picked 2 (Put (Control (hex (codes "00000403000000000100000008"))))) ∷ Noted (note.Gone 1) ∷ drop 3 cancelled) → ⊥
unfolding static_table varint integer reached stay greatest_of placed in_order
swept_too_early w = let k = w.lawful.swept.0 in cc

-- a stream that the cluster's GOAWAY keeps is doomed as lost
pub kept_stream_doomed : Begun config_of_cluster_leaves (Noted (note.Doom 1 (cause.ConnLost 2)) ∷ drop 18 cluster_leaves) → ⊥
unfolding static_table varint integer reached stay greatest_of placed in_order
kept_stream_doomed w = elim w.lawful.licensed.0 [ inl a ↦ (let k = a in cc) | inr b ↦ b ]

-- a stream that the cluster's GOAWAY leaves out lives on
pub left_out_stream_kept : Begun config_of_cluster_leaves (Noted (note.Turn 5 (event.Tick 0)) ∷ drop 19 cluster_leaves) → ⊥
unfolding static_table varint integer reached stay greatest_of placed in_order
left_out_stream_kept w = let k = w.lawful.answered.0 in cc

-- a timer fires a millisecond before its time
pub fired_too_early : Begun config_of_route_timeout (Noted (note.Fire kind.Route 1) ∷ drop 8 route_timeout) → ⊥
unfolding static_table varint integer reached stay greatest_of placed in_order
fired_too_early w = let k = w.lawful.may.0.fired in cc

-- a timer that is due doesn't fire
pub fire_left_out : Begun config_of_route_timeout (Noted (note.Turn 6 (event.Tick 0)) ∷ drop 7 route_timeout) → ⊥
unfolding static_table varint integer reached stay greatest_of placed in_order
fire_left_out w = let k = w.lawful.quiet.0.leaves.fired in cc

-- a timer that isn't due fires
pub another_timer_fires : Begun config_of_route_timeout (Noted (note.Fire kind.StreamIdle 1) ∷ drop 7 route_timeout) → ⊥
unfolding static_table varint integer reached stay greatest_of placed in_order
another_timer_fires w = let k = w.lawful.may.0.fired in cc

-- a timer fires and its exchange lives on
pub timeout_unanswered : Begun config_of_route_timeout (Noted (note.Turn 6 (event.Tick 0)) ∷ drop 6 route_timeout) → ⊥
unfolding static_table varint integer reached stay greatest_of placed in_order
timeout_unanswered w = let k = w.lawful.answered.0 in cc

-- a Hold lets octets go before the body's end
pub hold_lets_go_too_early : Begun config_of_reset_by_memory (Noted (note.Move (request 1) 1 64) ∷ drop 8 reset_by_memory) → ⊥
unfolding static_table varint integer reached stay greatest_of placed in_order
hold_lets_go_too_early w = let k = w.lawful.allowed.0.last in cc

-- a connection that is rejected is greeted
pub rejected_and_greeted : Begun config_of_rejected (Marked (Picked 1 (Put (Control (hex (codes "00001204000000000000030000006400040000ffff00060000f000"))))) ∷ drop 2 rejected) → ⊥
unfolding static_table varint integer reached stay greatest_of placed in_order
rejected_and_greeted w = let k = ap picks_put w.lawful.answered.0 in cc

-- a request goes on though requests are stopped
pub stopped_and_routed : Begun config_of_stopped (Noted (note.Start 1 1 1 2) ∷ drop 5 stopped) → ⊥
unfolding static_table varint integer reached stay greatest_of placed in_order
stopped_and_routed w = let k = w.lawful.answered.0 in cc

-- an exchange is reset whose class the state doesn't clear
pub reset_too_low : Begun config_of_reset_by_memory (Noted (note.Doom 1 cause.Overload) ∷ drop 7 reset_by_memory) → ⊥
unfolding static_table varint integer reached stay greatest_of placed in_order
reset_too_low w = w.lawful.licensed.0

-- the state clears the exchange's class, and it lives on
pub memory_reset_left_out : Begun config_of_reset_by_memory (Noted (note.Turn 6 (event.Tick 0)) ∷ drop 6 reset_by_memory) → ⊥
unfolding static_table varint integer reached stay greatest_of placed in_order
memory_reset_left_out w = let k = w.lawful.answered.0 in cc
