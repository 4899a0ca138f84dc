-- Tapes of wire sessions that break one law each, as it says; what stood before is lawful.
use Rattle.h2_frames.specs.Frame.{Ping}
use Rattle.hpack_codec.specs.Encoding.{integer, varint}
use Rattle.hpack_codec.specs.Table.{static_table}
use Rattle.overload_core.specs.ActionStates.{greatest_of}
use Rattle.overload_core.specs.Course.{reached, stay}
use Rattle.scaled_timer.specs.Order.{in_order, placed}
use Rattle.std.proofs.Common.{ap, arith}
use Rattle.std.specs.Prelude.{codes, drop, false, slice_index, true, ◌==◌, ◌∷◌}
use Rattle.tape_laws.specs.Flows.{request, response}
use Rattle.tape_laws.specs.History.{Marked, Noted}
use Rattle.tape_laws.specs.Units.{Control, Farewell, HeadOf, Put}
use Rattle.tape_rows.proofs.WireBodies.{config_of_padded_body, padded_body}
use Rattle.tape_rows.proofs.WireErrors.{bad_frame, cluster_resets, config_of_bad_frame, config_of_cluster_resets, config_of_data_before_head, data_before_head}
use Rattle.tape_rows.proofs.WireFilters.{config_of_hold_413, config_of_meter, config_of_meter_and_hold, config_of_overflow, hold_413, meter, meter_and_hold, overflow}
use Rattle.tape_rows.proofs.WireRequests.{config_of_no_route, config_of_whole_exchange, no_route, whole_exchange}
use Rattle.tape_rows.proofs.WireTapes.{Begun, grants_octets, hex, refuses}
use Rattle.tape_rows.proofs.WireWindows.{config_of_send_window, config_of_two_streams, send_window, two_streams}
use Rattle.wire_laws.specs.Marks.{NoBlock, Picked, Took}
use Rattle.flow_rules.specs.declared.ids.BufferId.TheVariants as buffer
use Rattle.flow_notes.specs.declared.events.Event.TheVariants as event
use Rattle.flow_rules.specs.declared.causes.Cause.TheVariants as cause
use Rattle.flow_notes.specs.declared.notes.CloseCause.TheVariants as closed
use Rattle.flow_notes.specs.declared.notes.Note.TheVariants as note
use Rattle.h2_session.specs.declared.act.Act.TheVariants as act

-- a GOAWAY with no close behind it
pub goaway_at_will : Begun config_of_whole_exchange (Marked (Picked 1 (Farewell 0 closed.Idle)) ∷ drop 1 whole_exchange) → ⊥
unfolding static_table varint integer reached stay greatest_of placed in_order
goaway_at_will w = w.lawful.may.0.told.1

-- a connection is closed for nothing
pub close_without_cause : Begun config_of_whole_exchange (Noted (note.Close 1 1 closed.Protocol) ∷ drop 1 whole_exchange) → ⊥
unfolding static_table varint integer reached stay greatest_of placed in_order
close_without_cause w = w.lawful.licensed.0.1

-- a connection that isn't lost is closed as lost
pub lost_close_while_there : Begun config_of_whole_exchange (Noted (note.Close 1 0 closed.Lost) ∷ drop 1 whole_exchange) → ⊥
unfolding static_table varint integer reached stay greatest_of placed in_order
lost_close_while_there w = w.lawful.licensed.0.1

-- SETTINGS has no acknowledgement
pub settings_unanswered : Begun config_of_no_route (Noted (note.Turn 4 (event.Tick 0)) ∷ drop 8 no_route) → ⊥
unfolding static_table varint integer reached stay greatest_of placed in_order
settings_unanswered w = let k = w.lawful.quiet.0.framed.0 in cc

-- a control frame that waits for nobody
pub answer_from_nowhere : Begun config_of_whole_exchange (Noted (note.Answer 1 (hex (codes "000000040100000000"))) ∷ drop 1 whole_exchange) → ⊥
unfolding static_table varint integer reached stay greatest_of placed in_order
answer_from_nowhere w = w.lawful.may.0.spelled

-- a control frame with other octets than those that were put
pub answer_changed : Begun config_of_no_route (Noted (note.Answer 1 (hex (codes "000000040000000000"))) ∷ drop 7 no_route) → ⊥
unfolding static_table varint integer reached stay greatest_of placed in_order
answer_changed w = let k = w.lawful.may.0.spelled.1 in cc

-- a request goes on with another path
pub head_changed : Begun config_of_whole_exchange (Noted (note.Head 2 1 (hex (codes "00000701050000000120828684010162"))) ∷ drop 10 whole_exchange) → ⊥
unfolding static_table varint integer reached stay greatest_of placed in_order
head_changed w = let k = ap (λ xs. slice_index xs 15 == 97) w.lawful.may.0.spelled.1.2 in cc

-- a request goes on on stream 3 where 1 is next
pub head_on_another_stream : Begun config_of_whole_exchange (Noted (note.Head 2 3 (hex (codes "00000701050000000320828684010161"))) ∷ drop 10 whole_exchange) → ⊥
unfolding static_table varint integer reached stay greatest_of placed in_order
head_on_another_stream w = let k = w.lawful.may.0.spelled.1.0 in cc

-- 404 is answered as 503
pub reply_changed : Begun config_of_no_route (Noted (note.Head 1 1 (hex (codes "000006010500000001200803353033"))) ∷ drop 2 no_route) → ⊥
unfolding static_table varint integer reached stay greatest_of placed in_order
reply_changed w = let k = ap (λ xs. slice_index xs 14 == 52) w.lawful.may.0.spelled.1.1 in cc

-- an exchange begins without a request
pub start_from_nowhere : Begun config_of_whole_exchange (Noted (note.Start 2 1 3 2) ∷ drop 1 whole_exchange) → ⊥
unfolding static_table varint integer reached stay greatest_of placed in_order
start_from_nowhere w = w.lawful.only.0

-- a request begins no exchange
pub start_unanswered : Begun config_of_whole_exchange (Marked (Picked 2 (HeadOf (request 1))) ∷ drop 12 whole_exchange) → ⊥
unfolding static_table varint integer reached stay greatest_of placed in_order
start_unanswered w = let k = w.lawful.answered.0 in cc

-- a request for which there is a connection goes to none
pub start_to_nobody : Begun config_of_whole_exchange (Noted (note.Start 1 1 1 0) ∷ drop 12 whole_exchange) → ⊥
unfolding static_table varint integer reached stay greatest_of placed in_order
start_to_nobody w = let k = w.lawful.answered.0 in cc

-- the first exchange has number 2
pub start_out_of_number : Begun config_of_whole_exchange (Noted (note.Start 2 1 1 2) ∷ drop 12 whole_exchange) → ⊥
unfolding static_table varint integer reached stay greatest_of placed in_order
start_out_of_number w = let k = w.lawful.answered.0 in cc

-- a request that no route takes lives on
pub refusal_left_out : Begun config_of_no_route (Noted (note.Turn 4 (event.Tick 0)) ∷ drop 4 no_route) → ⊥
unfolding static_table varint integer reached stay greatest_of placed in_order
refusal_left_out w = let k = w.lawful.answered.0 in cc

-- a request that no route takes is refused with 503
pub refused_otherwise : Begun config_of_no_route (Noted (note.Doom 1 (cause.Refused 503)) ∷ drop 4 no_route) → ⊥
unfolding static_table varint integer reached stay greatest_of placed in_order
refused_otherwise w = let k = ap (refuses 404) w.lawful.answered.0 in cc

-- an exchange is done whose response hasn't come
pub done_too_early : Begun config_of_whole_exchange (Noted (note.Doom 1 cause.Done) ∷ drop 9 whole_exchange) → ⊥
unfolding static_table varint integer reached stay greatest_of placed in_order
done_too_early w = let k = w.lawful.licensed.0 in cc

-- an exchange of which both ends are framed is doomed as ended early
pub early_end_of_both : Begun config_of_whole_exchange (Noted (note.Doom 1 cause.EarlyEnd) ∷ drop 2 whole_exchange) → ⊥
unfolding static_table varint integer reached stay greatest_of placed in_order
early_end_of_both w = let k = w.lawful.licensed.0 in cc

-- an exchange whose response has ended lives on
pub lives_on_after_its_end : Begun config_of_whole_exchange (Noted (note.Turn 5 (event.Tick 0)) ∷ drop 2 whole_exchange) → ⊥
unfolding static_table varint integer reached stay greatest_of placed in_order
lives_on_after_its_end w = let k = w.lawful.quiet.0.ended.0 in cc

-- an exchange is cancelled without a post
pub cancelled_for_nothing : Begun config_of_whole_exchange (Noted (note.Doom 1 (cause.Posted 0 0)) ∷ drop 9 whole_exchange) → ⊥
unfolding static_table varint integer reached stay greatest_of placed in_order
cancelled_for_nothing w = w.lawful.licensed.0

-- the first window update by 5
pub credit_of_another_amount : Begun config_of_whole_exchange (Noted (note.Credit 1 0 5) ∷ drop 22 whole_exchange) → ⊥
unfolding static_table varint integer reached stay greatest_of placed in_order
credit_of_another_amount w = let k = ap (grants_octets 5) w.lawful.in_turn.0 in cc

-- the configured window is never granted
pub first_credit_left_out : Begun config_of_whole_exchange (Noted (note.Turn 2 (event.Tick 0)) ∷ drop 22 whole_exchange) → ⊥
unfolding static_table varint integer reached stay greatest_of placed in_order
first_credit_left_out w = let k = w.lawful.quiet.0.framed.0 in cc

-- waste that didn't come
pub waste_from_nowhere : Begun config_of_whole_exchange (Noted (note.Waste 1 1 5) ∷ drop 1 whole_exchange) → ⊥
unfolding static_table varint integer reached stay greatest_of placed in_order
waste_from_nowhere w = omega (arith, w.lawful.may.0.placed.came)

-- octets leave without room
pub out_from_nowhere : Begun config_of_whole_exchange (Noted (note.Out 1 5) ∷ drop 1 whole_exchange) → ⊥
unfolding static_table varint integer reached stay greatest_of placed in_order
out_from_nowhere w = w.lawful.only.0

-- an exchange is gone twice
pub gone_twice : Begun config_of_whole_exchange (Noted (note.Gone 1) ∷ whole_exchange) → ⊥
unfolding static_table varint integer reached stay greatest_of placed in_order
gone_twice w = w.lawful.doomed.0

-- a PING is taken for nothing
pub act_of_another_frame : Begun config_of_whole_exchange (Marked (Took 1 (Ping false (hex (codes "0000000000000000"))) act.Ignore NoBlock) ∷ drop 13 whole_exchange) → ⊥
unfolding static_table varint integer reached stay greatest_of placed in_order
act_of_another_frame w = let k = w.acts.0.act in cc

-- the request's head was picked, and DATA goes without it
pub head_not_framed : Begun config_of_padded_body (Noted (note.Frame 2 (request 1) 10 false) ∷ drop 19 padded_body) → ⊥
unfolding static_table varint integer reached stay greatest_of placed in_order
head_not_framed w = let k = w.lawful.answered.0 in cc

-- a window update that isn't due
pub credit_too_early : Begun config_of_padded_body (Noted (note.Credit 1 0 13) ∷ drop 13 padded_body) → ⊥
unfolding static_table varint integer reached stay greatest_of placed in_order
credit_too_early w = let k = w.lawful.in_turn.0 in cc

-- padding is neither in a buffer nor wasted
pub waste_left_out : Begun config_of_padded_body (Noted (note.Turn 4 (event.Tick 0)) ∷ drop 16 padded_body) → ⊥
unfolding static_table varint integer reached stay greatest_of placed in_order
waste_left_out w = let k = w.lawful.may.0.placed in cc

-- the last octets go without END_STREAM
pub end_left_out : Begun config_of_padded_body (Noted (note.Frame 1 (response 1) 2 false) ∷ drop 3 padded_body) → ⊥
unfolding static_table varint integer reached stay greatest_of placed in_order
end_left_out w = let k = w.lawful.ends.0.exactly in cc

-- half of a body doesn't arrive
pub body_left_out : Begun config_of_meter (Noted (note.Turn 4 (event.Tick 0)) ∷ Noted (note.Waste 1 1 5) ∷ Noted (note.Arrive (request 1) (hex (codes "0011223344"))) ∷ drop 10 meter) → ⊥
unfolding static_table varint integer reached stay greatest_of placed in_order
body_left_out w = let k = w.lawful.quiet.0.still.0.1 in cc

-- another body arrives
pub body_changed : Begun config_of_meter (Noted (note.Arrive (request 1) (hex (codes "ffffffffffffffffffff"))) ∷ drop 10 meter) → ⊥
unfolding static_table varint integer reached stay greatest_of placed in_order
body_changed w = let k = w.lawful.tied.0.0 in cc

-- END_STREAM goes with octets behind it
pub end_too_early : Begun config_of_meter (Noted (note.Frame 2 (request 1) 5 true) ∷ drop 6 meter) → ⊥
unfolding static_table varint integer reached stay greatest_of placed in_order
end_too_early w = let k = w.lawful.ends.0.exactly in cc

-- DATA goes before its head
pub data_before_its_head : Begun config_of_meter_and_hold (Noted (note.Frame 2 (request 1) 10 true) ∷ Noted (note.Move (request 1) 2 10) ∷ drop 4 meter_and_hold) → ⊥
unfolding static_table varint integer reached stay greatest_of placed in_order
data_before_its_head w = let k = w.lawful.ends.0.after_head in cc

-- a Meter lets six octets go with five tokens
pub meter_lets_more_go : Begun config_of_meter (Noted (note.Move (request 1) 1 6) ∷ drop 7 meter) → ⊥
unfolding static_table varint integer reached stay greatest_of placed in_order
meter_lets_more_go w = let k = w.lawful.allowed.0.all in cc

-- a Meter lets octets go before its 50 ms
pub meter_too_early : Begun config_of_meter (Noted (note.Move (request 1) 1 5) ∷ Noted (note.Turn 4 (event.Tick 49)) ∷ drop 5 meter) → ⊥
unfolding static_table varint integer reached stay greatest_of placed in_order
meter_too_early w = let k = w.lawful.allowed.0.last in cc

-- eleven octets in a Hold of ten
pub hold_overfilled : Begun config_of_hold_413 (Noted (note.Move (request 1) 0 11) ∷ drop 4 hold_413) → ⊥
unfolding static_table varint integer reached stay greatest_of placed in_order
hold_overfilled w = omega (arith, w.lawful.bounded.0.stages.0.0)

-- a head goes before its body has come whole to the Hold
pub head_passes_its_hold : Begun config_of_meter_and_hold (Marked (Picked 2 (HeadOf (request 1))) ∷ drop 6 meter_and_hold) → ⊥
unfolding static_table varint integer reached stay greatest_of placed in_order
head_passes_its_hold w = let k = w.lawful.ends.0 in cc

-- a send buffer rises and no pause stands
pub pause_left_out : Begun config_of_overflow (Noted (note.Frame 2 (request 1) 16 false) ∷ drop 16 overflow) → ⊥
unfolding static_table varint integer reached stay greatest_of placed in_order
pause_left_out w = let k = w.lawful.paused.0 in cc

-- a send buffer holds more than twice its limit, and its exchange lives on
pub overflow_unanswered : Begun config_of_overflow (Noted (note.Frame 2 (request 1) 17 false) ∷ drop 8 overflow) → ⊥
unfolding static_table varint integer reached stay greatest_of placed in_order
overflow_unanswered w = let k = w.lawful.answered.0 in cc

-- a doomed exchange is resumed
pub doomed_and_named : Begun config_of_overflow (Noted (note.Resume (request 1) (buffer.Send (request 1))) ∷ drop 7 overflow) → ⊥
unfolding static_table varint integer reached stay greatest_of placed in_order
doomed_and_named w = w.lawful.paused.0.1

-- ten octets go where the stream's window has four
pub sent_past_the_window : Begun config_of_send_window (Noted (note.Frame 1 (response 1) 10 true) ∷ drop 11 send_window) → ⊥
unfolding static_table varint integer reached stay greatest_of placed in_order
sent_past_the_window w = let k = w.lawful.allowed.0.all in cc

-- the write buffer drained and a flow isn't told
pub resume_left_out : Begun config_of_two_streams (Noted (note.Turn 7 (event.Tick 0)) ∷ drop 3 two_streams) → ⊥
unfolding static_table varint integer reached stay greatest_of placed in_order
resume_left_out w = let k = w.lawful.quiet.0.told.1.1.0 in cc

-- DATA goes while the write buffer is above
pub framed_while_above : Begun config_of_two_streams (Noted (note.Frame 2 (request 2) 30 false) ∷ drop 20 two_streams) → ⊥
unfolding static_table varint integer reached stay greatest_of placed in_order
framed_while_above w = let k = w.lawful.allowed.0.write.low in cc

-- octets that have room stay
pub room_unanswered : Begun config_of_two_streams (Noted (note.Turn 5 (event.Tick 0)) ∷ drop 19 two_streams) → ⊥
unfolding static_table varint integer reached stay greatest_of placed in_order
room_unanswered w = let k = w.lawful.answered.0 in cc

-- a GOAWAY before a close that doesn't come
pub goaway_and_no_close : Begun config_of_bad_frame (Noted (note.Turn 4 (event.Tick 0)) ∷ drop 5 bad_frame) → ⊥
unfolding static_table varint integer reached stay greatest_of placed in_order
goaway_and_no_close w = let k = w.lawful.answered.0 in cc

-- a connection error closes without its GOAWAY, though there is room
pub close_without_goaway : Begun config_of_bad_frame (Noted (note.Close 1 6 closed.Protocol) ∷ drop 7 bad_frame) → ⊥
unfolding static_table varint integer reached stay greatest_of placed in_order
close_without_goaway w = let k = w.lawful.may.0.told in cc

-- DATA goes before an acknowledgement that waits
pub out_of_turn : Begun config_of_cluster_resets (Marked (Picked 2 (Put (Control (hex (codes "00000403000000000100000008"))))) ∷ drop 5 cluster_resets) → ⊥
unfolding static_table varint integer reached stay greatest_of placed in_order
out_of_turn w = let k = w.lawful.in_turn.0 in cc

-- a stream that its cluster reset lives on
pub reset_unanswered : Begun config_of_cluster_resets (Noted (note.Turn 5 (event.Tick 0)) ∷ drop 6 cluster_resets) → ⊥
unfolding static_table varint integer reached stay greatest_of placed in_order
reset_unanswered w = let k = w.lawful.answered.0 in cc

-- DATA before a response's head is let be
pub fault_unanswered : Begun config_of_data_before_head (Noted (note.Waste 2 1 10) ∷ drop 9 data_before_head) → ⊥
unfolding static_table varint integer reached stay greatest_of placed in_order
fault_unanswered w = let k = w.lawful.answered.0 in cc

-- a frame is taken from a closed connection
pub taken_after_its_close : Begun config_of_bad_frame (Marked (Took 1 (Ping true (hex (codes "0000000000000000"))) act.Ignore NoBlock) ∷ drop 1 bad_frame) → ⊥
unfolding static_table varint integer reached stay greatest_of placed in_order
taken_after_its_close w = let k = w.acts.0.now in cc
