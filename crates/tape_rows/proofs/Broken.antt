-- Tapes that break one rule each, and aren't lawful.
use Rattle.std.proofs.Common.{ap}
use Rattle.std.specs.Prelude.{[], false, replicate, true, ◌∷◌}
use Rattle.tape_laws.specs.Headline.{Headline}
use Rattle.tape_laws.specs.Plain.{plain_setup}
use Rattle.tape_laws.specs.declared.PlainLimits.{PlainLimits}
use Rattle.tape_rows.proofs.Tapes.{Whole, begun, eased, limits_10_19, limits_8_10, limits_8_30, moved, noted, octets, paused, q1, q3, write}
use Rattle.tape_rows.proofs.TwoStreams.{begun_while_above, limits_100_30, pair_ended, pair_named_late, refilling}
use Rattle.flow_rules.specs.declared.ids.BufferId.TheVariants as buffer
use Rattle.flow_rules.specs.declared.causes.Cause.TheVariants as cause
use Rattle.flow_notes.specs.declared.events.Event.TheVariants as event
use Rattle.flow_notes.specs.declared.notes.Note.TheVariants as note
use Rattle.flow_notes.specs.declared.events.PlainEvent.TheVariants as plain

-- the send buffer rose over its limit, and no pause stands
pub pause_left_out : Whole limits_8_30 (note.Frame 0 q1 10 false ∷ moved) → ⊥
pause_left_out w = let k = w.lawful.paused.0 in cc

-- the write buffer drained, and no resume stands
pub resume_left_out : Whole limits_8_10 eased → ⊥
resume_left_out w = let k = w.quiet.told.0 in cc

-- a frame while the write buffer is above
pub frame_while_above : Whole limits_8_10 (note.Frame 0 q1 5 false ∷ note.Arrive q1 (octets 5) ∷ note.Turn 3 (event.Plain (plain.Body 1 (octets 5))) ∷ paused) → ⊥
frame_while_above w = let k = w.lawful.allowed.0.write.low in cc

-- ten octets came, and nine go on
pub octet_lost : Whole limits_10_19 (note.Frame 0 q1 9 false ∷ note.Move q1 0 9 ∷ note.Arrive q1 (octets 9) ∷ note.Turn 2 (event.Plain (plain.Body 1 (octets 10))) ∷ begun) → ⊥
octet_lost w = let k = w.lawful.answered.1.1.0 in cc

-- ten octets came, and ten others go on
pub octets_changed : Headline (plain_setup limits_10_19) (noted (note.Frame 0 q1 10 false ∷ note.Move q1 0 10 ∷ note.Arrive q1 (octets 10) ∷ note.Turn 2 (event.Plain (plain.Body 1 (replicate 10 0))) ∷ begun)) → ⊥
octets_changed h = let k = h.sent.0 q1 in cc

-- a move out of the receive buffer of a flow that is paused
pub moved_while_paused : Whole limits_8_10 (note.Move q1 0 5 ∷ note.Arrive q1 (octets 5) ∷ note.Turn 3 (event.Plain (plain.Body 1 (octets 5))) ∷ paused) → ⊥
moved_while_paused w = let k = w.lawful.allowed.0.last in cc

-- octets that have room stay
pub room_unanswered : Whole limits_8_10 (note.Turn 3 (event.Plain (plain.Room 9)) ∷ paused) → ⊥
room_unanswered w = let k = w.quiet.asked in cc

-- a stream that is opened and not started
pub open_unanswered : Whole limits_8_30 (note.Turn 1 (event.Plain (plain.Begin 1)) ∷ []) → ⊥
open_unanswered w = let k = w.quiet.asked in cc

-- a dispatch that ends with octets that may move
pub left_over : Whole limits_8_30 (note.Arrive q1 (octets 10) ∷ note.Turn 2 (event.Plain (plain.Body 1 (octets 10))) ∷ begun) → ⊥
left_over w = let k = w.quiet.still.0 in cc

-- low as soon as the length is at most the limit
pub low_at_the_limit : Whole limits_8_10 (note.Resume q1 write ∷ note.Out 0 9 ∷ note.Turn 3 (event.Plain (plain.Room 9)) ∷ paused) → ⊥
low_at_the_limit w = w.lawful.paused.0.1

-- above already at the limit
pub above_at_the_limit : Whole limits_10_19 (note.Resume q1 (buffer.Send q1) ∷ note.Frame 0 q1 10 false ∷ note.Pause q1 (buffer.Send q1) ∷ moved) → ⊥
above_at_the_limit w = w.lawful.paused.1.1.0

-- a set of sources in place of a count: the rise during the second's own low is lost
pub set_of_sources : Whole limits_100_30 (note.Resume q3 write ∷ note.Pause q1 write ∷ note.Frame 0 q1 22 false ∷ refilling) → ⊥
set_of_sources w = let k = w.lawful.paused.0.0 in cc

-- a doomed stream is told
pub doomed_told : Whole limits_100_30 (note.Gone 3 ∷ note.Gone 1 ∷ note.Resume q3 write ∷ pair_ended) → ⊥
doomed_told w = w.lawful.paused.1.1.0.1

-- the watchers of a buffer are told in another order
pub told_out_of_order : Whole limits_100_30 (note.Resume q1 write ∷ note.Resume q3 write ∷ note.Out 0 19 ∷ note.Turn 4 (event.Plain (plain.Room 19)) ∷ note.Pause q3 write ∷ begun_while_above) → ⊥
told_out_of_order w = let k = ap (λ f. f.exchange) w.lawful.paused.1.0.1 in cc

-- the second of a pair lives on after the end of the first
pub pair_lives_on : Whole limits_100_30 (note.Gone 1 ∷ note.Doom 1 cause.Done ∷ note.Frame 0 q1 0 true ∷ note.Turn 4 (event.Plain (plain.Finish 1)) ∷ note.Turn 3 (event.Plain (plain.Pair 1 3))
    ∷ note.Start 3 0 3 0 ∷ note.Turn 2 (event.Plain (plain.Begin 3)) ∷ begun) → ⊥
pair_lives_on w = let k = w.quiet.ended.0 in cc

-- the second of a pair is doomed that was named too late
pub late_pair_doomed : Whole limits_100_30 (note.Gone 3 ∷ note.Doom 3 cause.EarlyEnd ∷ pair_named_late) → ⊥
late_pair_doomed w = let k = w.lawful.licensed.1.0 in cc

-- a plain session frames no octets but those of its streams
pub octets_from_nowhere : Whole limits_100_30 (note.Answer 0 (octets 9) ∷ begun) → ⊥
octets_from_nowhere w = w.lawful.licensed.0

-- ten octets come into a window of 15, stand in the receive buffer, and the stream is doomed with FLOW_CONTROL_ERROR all the same
abbrev pub limits_recv_15 : PlainLimits
limits_recv_15 = record { recv = 15; send = 8; write = 30; quantum = 16384 }

pub doomed_within_its_window : Whole limits_recv_15 (note.Gone 1 ∷ note.Doom 1 (cause.StreamError 3) ∷ note.Arrive q1 (octets 10) ∷ note.Turn 2 (event.Plain (plain.Body 1 (octets 10))) ∷ begun) → ⊥
doomed_within_its_window w = w.lawful.only.1.0

-- the same where the stream is held back: the receive buffer holds 8 of 15 octets, as it may
abbrev pub limits_recv_15_write_10 : PlainLimits
limits_recv_15_write_10 = record { recv = 15; send = 8; write = 10; quantum = 16384 }

pub doomed_while_held_back : Whole limits_recv_15_write_10 (note.Gone 1 ∷ note.Doom 1 (cause.StreamError 3) ∷ note.Arrive q1 (octets 8) ∷ note.Turn 3 (event.Plain (plain.Body 1 (octets 8))) ∷ paused) → ⊥
doomed_while_held_back w = w.lawful.only.1.0

-- a reset that isn't met at once
pub reset_later : Whole limits_8_10 (note.Gone 1 ∷ note.Doom 1 (cause.PeerReset 8) ∷ note.Turn 4 (event.Plain (plain.Room 0)) ∷ note.Turn 3 (event.Plain (plain.Cut 1)) ∷ paused) → ⊥
reset_later w = let k = w.lawful.quiet.1.1.1.0.asked in cc

-- a doomed stream is gone in the midst of its dispatch, before octets of another stream are framed
pub swept_in_the_midst : Whole limits_100_30 (
    note.Frame 0 q3 2 false
    ∷ note.Move q3 0 2
    ∷ note.Gone 1
    ∷ note.Resume q3 write
    ∷ note.Doom 1 cause.Done
    ∷ note.Frame 0 q1 0 true
    ∷ note.Resume q1 write
    ∷ note.Out 0 34
    ∷ note.Turn 6 (event.Plain (plain.Room 34))
    ∷ note.Turn 5 (event.Plain (plain.Finish 1))
    ∷ note.Arrive q3 (octets 2)
    ∷ note.Turn 4 (event.Plain (plain.Body 3 (octets 2)))
    ∷ note.Pause q3 write
    ∷ note.Pause q1 write
    ∷ note.Frame 0 q1 25 false
    ∷ note.Move q1 0 25
    ∷ note.Arrive q1 (octets 25)
    ∷ note.Turn 3 (event.Plain (plain.Body 1 (octets 25)))
    ∷ note.Start 3 0 3 0
    ∷ note.Turn 2 (event.Plain (plain.Begin 3))
    ∷ note.Start 1 0 1 0
    ∷ note.Turn 1 (event.Plain (plain.Begin 1))
    ∷ []) → ⊥
swept_in_the_midst w = let k = w.lawful.swept.1.0 in cc
