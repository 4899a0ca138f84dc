-- Lawful tapes of wire sessions: windows.
use Rattle.h2_frames.specs.Frame.{DataFrame, Headers, Settings, WindowUpdate}
use Rattle.h2_session.specs.Preface.{preface}
use Rattle.hpack_codec.specs.Encoding.{integer, varint}
use Rattle.hpack_codec.specs.Table.{static_table}
use Rattle.overload_core.specs.ActionStates.{greatest_of}
use Rattle.overload_core.specs.Course.{reached, stay}
use Rattle.proxy_config.specs.Defaults.{config_of_empty, default_limits}
use Rattle.proxy_config.specs.declared.config.Config.{Config}
use Rattle.scaled_timer.specs.Order.{in_order, placed}
use Rattle.std.proofs.Common.{inl, inr, lit<, lit≤}
use Rattle.std.specs.Prelude.{None, Some, [], codes, drop, false, replicate, true, ◌++◌, ◌∷◌}
use Rattle.tape_laws.specs.Bounds.{IsBounded}
use Rattle.tape_laws.specs.Flows.{request, response}
use Rattle.tape_laws.specs.History.{AtEachMoment, Marked, Noted}
use Rattle.tape_laws.specs.Units.{Control, Farewell, HeadOf, Put}
use Rattle.tape_rows.proofs.WireTapes.{Lawful, cluster, field, hex, route}
use Rattle.wire_laws.specs.Marks.{Fields, NoBlock, Picked, Took, WireHistory}
use Rattle.wire_rules.specs.WireSetup.{wire_setup}
use Rattle.flow_rules.specs.declared.ids.BufferId.TheVariants as buffer
use Rattle.flow_notes.specs.declared.events.Event.TheVariants as event
use Rattle.flow_rules.specs.declared.causes.Cause.TheVariants as cause
use Rattle.flow_notes.specs.declared.notes.CloseCause.TheVariants as closed
use Rattle.flow_notes.specs.declared.notes.Note.TheVariants as note
use Rattle.h2_session.specs.declared.act.Act.TheVariants as act

-- what the peer's windows let go
abbrev pub config_of_send_window : Config
config_of_send_window = record config_of_empty {
  limits = record default_limits { write_buffer = 100 };
  clusters = cluster (codes "a") ∷ [];
  routes = route None None (Some (codes "/")) (codes "a") [] [] ∷ [];
}

abbrev pub send_window : WireHistory
send_window =
    Noted (note.Gone 1)
    ∷ Noted (note.Doom 1 cause.Done)
    ∷ Noted (note.Frame 1 (response 1) 3 true)
    ∷ Marked (Took 1 (WindowUpdate 1 99) (act.WindowUp 1 99) NoBlock)
    ∷ Noted (note.Turn 7 (event.Read 1 (hex (codes "00000408000000000100000063"))))
    ∷ Noted (note.Out 1 20)
    ∷ Noted (note.Turn 6 (event.Room 1 20))
    ∷ Noted (note.Frame 1 (response 1) 3 false)
    ∷ Marked (Took 1 (WindowUpdate 1 3) (act.WindowUp 1 3) NoBlock)
    ∷ Noted (note.Turn 5 (event.Read 1 (hex (codes "00000408000000000100000003"))))
    ∷ Noted (note.Frame 1 (response 1) 4 false)
    ∷ Noted (note.Move (response 1) 0 10)
    ∷ Noted (note.Arrive (response 1) (hex (codes "00112233445566778899")))
    ∷ Marked (Took 2 (DataFrame 1 true 0 (hex (codes "00112233445566778899"))) (act.Body 1 (hex (codes "00112233445566778899")) 0 true) NoBlock)
    ∷ Noted (note.Head 1 1 (hex (codes "0000020104000000012088")))
    ∷ Marked (Picked 1 (HeadOf (response 1)))
    ∷ Marked (Took 2 (Headers 1 false true 0 None (hex (codes "88"))) (act.Head 1 (hex (codes "88")) false) (Fields ((field (codes ":status") (codes "200") false) ∷ [])))
    ∷ Noted (note.Answer 2 (hex (codes "000000040100000000")))
    ∷ Marked (Picked 2 (Put (Control (hex (codes "000000040100000000")))))
    ∷ Marked (Took 2 (Settings false []) (act.Settings []) NoBlock)
    ∷ Noted (note.Turn 4 (event.Read 2 (hex (codes "0000000400000000000000010104000000018800000a00010000000100112233445566778899"))))
    ∷ Noted (note.Head 2 1 (hex (codes "00000701050000000120828684010161")))
    ∷ Marked (Picked 2 (HeadOf (request 1)))
    ∷ Noted (note.Start 1 1 1 2)
    ∷ Marked (Took 1 (Headers 1 true true 0 None (hex (codes "828684010161"))) (act.Head 1 (hex (codes "828684010161")) true) (Fields ((field (codes ":method") (codes "GET") false) ∷ (field (codes ":scheme") (codes "http") false) ∷ (field (codes ":path") (codes "/") false) ∷ (field (codes ":authority") (codes "a") false) ∷ [])))
    ∷ Noted (note.Answer 1 (hex (codes "000000040100000000")))
    ∷ Marked (Picked 1 (Put (Control (hex (codes "000000040100000000")))))
    ∷ Marked (Took 1 (Settings false (hex (codes "000400000004"))) (act.Settings (record { id = 4; value = 4 } ∷ [])) NoBlock)
    ∷ Noted (note.Turn 3 (event.Read 1 (preface ++ (hex (codes "000006040000000000000400000004000006010500000001828684010161")))))
    ∷ Noted (note.Credit 2 0 983041)
    ∷ Noted (note.Answer 2 (preface ++ (hex (codes "00001204000000000000020000000000040000ffff00060000f000"))))
    ∷ Marked (Picked 2 (Put (Control (preface ++ (hex (codes "00001204000000000000020000000000040000ffff00060000f000"))))))
    ∷ Noted (note.Turn 2 (event.Join 2 0))
    ∷ Noted (note.Credit 1 0 983041)
    ∷ Noted (note.Answer 1 (hex (codes "00001204000000000000030000006400040000ffff00060000f000")))
    ∷ Marked (Picked 1 (Put (Control (hex (codes "00001204000000000000030000006400040000ffff00060000f000")))))
    ∷ Noted (note.Turn 1 (event.Accept 1))
    ∷ []

pub send_window_bounded_14 : AtEachMoment (IsBounded (wire_setup config_of_send_window)) (drop 23 send_window)
unfolding static_table varint integer reached stay greatest_of placed in_order
send_window_bounded_14 = search (lit≤, lit<, inl, inr)

pub send_window_bounded_28 : AtEachMoment (IsBounded (wire_setup config_of_send_window)) (drop 9 send_window)
unfolding static_table varint integer reached stay greatest_of placed in_order
send_window_bounded_28 = search (lit≤, lit<, inl, inr, send_window_bounded_14)

pub send_window_is_lawful : Lawful config_of_send_window send_window
unfolding static_table varint integer reached stay greatest_of placed in_order
send_window_is_lawful = record {
  lawful = record {
    allowed = search (lit≤, lit<, inl, inr);
    paused = search (lit≤, lit<, inl, inr);
    counted = search (lit≤, lit<, inl, inr);
    bounded = search (lit≤, lit<, inl, inr, send_window_bounded_28);
    tied = search (lit≤, lit<, inl, inr);
    ends = search (lit≤, lit<, inl, inr);
    in_turn = search (lit≤, lit<, inl, inr);
    doomed = search (lit≤, lit<, inl, inr);
    swept = search (lit≤, lit<, inl, inr);
    answered = (search (lit≤, lit<, inl, inr), (search (lit≤, lit<, inl, inr), (search (lit≤, lit<, inl, inr), (search (lit≤, lit<, inl, inr), (search (lit≤, lit<, inl, inr), (search (lit≤, lit<, inl, inr), (search (lit≤, lit<, inl, inr), (search (lit≤, lit<, inl, inr), (search (lit≤, lit<, inl, inr), (search (lit≤, lit<, inl, inr), (search (lit≤, lit<, inl, inr), (search (lit≤, lit<, inl, inr), (search (lit≤, lit<, inl, inr), (search (lit≤, lit<, inl, inr), (search (lit≤, lit<, inl, inr), (search (lit≤, lit<, inl, inr), (search (lit≤, lit<, inl, inr), (search (lit≤, lit<, inl, inr), (search (lit≤, lit<, inl, inr), (search (lit≤, lit<, inl, inr), (search (lit≤, lit<, inl, inr), (search (lit≤, lit<, inl, inr), (search (lit≤, lit<, inl, inr), (search (lit≤, lit<, inl, inr), (search (lit≤, lit<, inl, inr), (search (lit≤, lit<, inl, inr), (search (lit≤, lit<, inl, inr), (search (lit≤, lit<, inl, inr), (search (lit≤, lit<, inl, inr), (search (lit≤, lit<, inl, inr), (search (lit≤, lit<, inl, inr), (search (lit≤, lit<, inl, inr), (search (lit≤, lit<, inl, inr), (search (lit≤, lit<, inl, inr), (search (lit≤, lit<, inl, inr), (search (lit≤, lit<, inl, inr), (search (lit≤, lit<, inl, inr), search (lit≤, lit<, inl, inr))))))))))))))))))))))))))))))))))))));
    only = search (lit≤, lit<, inl, inr);
    licensed = search (lit≤, lit<, inl, inr);
    may = search (lit≤, lit<, inl, inr);
    quiet = search (lit≤, lit<, inl, inr);
  };
  quiet = search (lit≤, lit<);
  acts = search;
}

-- two streams behind a full write buffer, in rotation
abbrev pub config_of_two_streams : Config
config_of_two_streams = record config_of_empty {
  limits = record default_limits { write_buffer = 60 };
  clusters = cluster (codes "a") ∷ [];
  routes = route None None (Some (codes "/")) (codes "a") [] [] ∷ [];
}

abbrev pub two_streams : WireHistory
two_streams =
    Noted (note.Frame 2 (request 2) 30 false)
    ∷ Noted (note.Move (request 2) 0 30)
    ∷ Noted (note.Resume (request 2) (buffer.Write 2))
    ∷ Noted (note.Resume (request 1) (buffer.Write 2))
    ∷ Noted (note.Out 2 34)
    ∷ Noted (note.Turn 6 (event.Room 2 200))
    ∷ Noted (note.Out 2 60)
    ∷ Noted (note.Turn 5 (event.Room 2 60))
    ∷ Noted (note.Resume (request 2) (buffer.Write 2))
    ∷ Noted (note.Pause (request 2) (buffer.Write 2))
    ∷ Noted (note.Pause (request 1) (buffer.Write 2))
    ∷ Noted (note.Frame 2 (request 1) 30 false)
    ∷ Noted (note.Head 2 3 (hex (codes "000006010400000003838684010161")))
    ∷ Marked (Picked 2 (HeadOf (request 2)))
    ∷ Noted (note.Head 2 1 (hex (codes "00000701040000000120838684010161")))
    ∷ Marked (Picked 2 (HeadOf (request 1)))
    ∷ Noted (note.Move (request 1) 0 30)
    ∷ Noted (note.Resume (request 1) (buffer.Write 2))
    ∷ Noted (note.Out 2 40)
    ∷ Noted (note.Turn 4 (event.Room 2 40))
    ∷ Noted (note.Arrive (request 2) (replicate 30 187))
    ∷ Marked (Took 1 (DataFrame 3 false 0 (replicate 30 187)) (act.Body 3 (replicate 30 187) 0 false) NoBlock)
    ∷ Noted (note.Arrive (request 1) (replicate 30 170))
    ∷ Marked (Took 1 (DataFrame 1 false 0 (replicate 30 170)) (act.Body 1 (replicate 30 170) 0 false) NoBlock)
    ∷ Noted (note.Pause (request 2) (buffer.Write 2))
    ∷ Noted (note.Start 2 1 3 2)
    ∷ Marked (Took 1 (Headers 3 false true 0 None (hex (codes "838684010161"))) (act.Head 3 (hex (codes "838684010161")) false) (Fields ((field (codes ":method") (codes "POST") false) ∷ (field (codes ":scheme") (codes "http") false) ∷ (field (codes ":path") (codes "/") false) ∷ (field (codes ":authority") (codes "a") false) ∷ [])))
    ∷ Noted (note.Pause (request 1) (buffer.Write 2))
    ∷ Noted (note.Start 1 1 1 2)
    ∷ Marked (Took 1 (Headers 1 false true 0 None (hex (codes "838684010161"))) (act.Head 1 (hex (codes "838684010161")) false) (Fields ((field (codes ":method") (codes "POST") false) ∷ (field (codes ":scheme") (codes "http") false) ∷ (field (codes ":path") (codes "/") false) ∷ (field (codes ":authority") (codes "a") false) ∷ [])))
    ∷ Noted (note.Answer 1 (hex (codes "000000040100000000")))
    ∷ Marked (Picked 1 (Put (Control (hex (codes "000000040100000000")))))
    ∷ Marked (Took 1 (Settings false []) (act.Settings []) NoBlock)
    ∷ Noted (note.Turn 3 (event.Read 1 (preface ++ ((hex (codes "00000004000000000000000601040000000183868401016100000601040000000383868401016100001e000000000001")) ++ replicate 30 170 ++ ((hex (codes "00001e000000000003")) ++ replicate 30 187)))))
    ∷ Noted (note.Credit 2 0 983041)
    ∷ Noted (note.Answer 2 (preface ++ (hex (codes "00001204000000000000020000000000040000ffff00060000f000"))))
    ∷ Marked (Picked 2 (Put (Control (preface ++ (hex (codes "00001204000000000000020000000000040000ffff00060000f000"))))))
    ∷ Noted (note.Turn 2 (event.Join 2 0))
    ∷ Noted (note.Credit 1 0 983041)
    ∷ Noted (note.Answer 1 (hex (codes "00001204000000000000030000006400040000ffff00060000f000")))
    ∷ Marked (Picked 1 (Put (Control (hex (codes "00001204000000000000030000006400040000ffff00060000f000")))))
    ∷ Noted (note.Turn 1 (event.Accept 1))
    ∷ []

pub two_streams_is_lawful : Lawful config_of_two_streams two_streams
unfolding static_table varint integer reached stay greatest_of placed in_order
two_streams_is_lawful = record {
  lawful = record {
    allowed = search (lit≤, lit<, inl, inr);
    paused = search (lit≤, lit<, inl, inr);
    counted = (search (lit≤, lit<, inl, inr), (search (lit≤, lit<, inl, inr), (search (lit≤, lit<, inl, inr), (search (lit≤, lit<, inl, inr), (search (lit≤, lit<, inl, inr), (search (lit≤, lit<, inl, inr), (search (lit≤, lit<, inl, inr), (search (lit≤, lit<, inl, inr), (search (lit≤, lit<, inl, inr), (search (lit≤, lit<, inl, inr), (search (lit≤, lit<, inl, inr), (search (lit≤, lit<, inl, inr), (search (lit≤, lit<, inl, inr), (search (lit≤, lit<, inl, inr), (search (lit≤, lit<, inl, inr), (search (lit≤, lit<, inl, inr), (search (lit≤, lit<, inl, inr), (search (lit≤, lit<, inl, inr), (search (lit≤, lit<, inl, inr), (search (lit≤, lit<, inl, inr), (search (lit≤, lit<, inl, inr), (search (lit≤, lit<, inl, inr), (search (lit≤, lit<, inl, inr), (search (lit≤, lit<, inl, inr), (search (lit≤, lit<, inl, inr), (search (lit≤, lit<, inl, inr), (search (lit≤, lit<, inl, inr), (search (lit≤, lit<, inl, inr), (search (lit≤, lit<, inl, inr), (search (lit≤, lit<, inl, inr), (search (lit≤, lit<, inl, inr), (search (lit≤, lit<, inl, inr), (search (lit≤, lit<, inl, inr), (search (lit≤, lit<, inl, inr), (search (lit≤, lit<, inl, inr), (search (lit≤, lit<, inl, inr), (search (lit≤, lit<, inl, inr), (search (lit≤, lit<, inl, inr), (search (lit≤, lit<, inl, inr), (search (lit≤, lit<, inl, inr), (search (lit≤, lit<, inl, inr), (search (lit≤, lit<, inl, inr), search (lit≤, lit<, inl, inr)))))))))))))))))))))))))))))))))))))))))));
    bounded = (search (lit≤, lit<, inl, inr), (search (lit≤, lit<, inl, inr), (search (lit≤, lit<, inl, inr), (search (lit≤, lit<, inl, inr), (search (lit≤, lit<, inl, inr), (search (lit≤, lit<, inl, inr), (search (lit≤, lit<, inl, inr), (search (lit≤, lit<, inl, inr), (search (lit≤, lit<, inl, inr), (search (lit≤, lit<, inl, inr), (search (lit≤, lit<, inl, inr), (search (lit≤, lit<, inl, inr), (search (lit≤, lit<, inl, inr), (search (lit≤, lit<, inl, inr), (search (lit≤, lit<, inl, inr), (search (lit≤, lit<, inl, inr), (search (lit≤, lit<, inl, inr), (search (lit≤, lit<, inl, inr), (search (lit≤, lit<, inl, inr), (search (lit≤, lit<, inl, inr), (search (lit≤, lit<, inl, inr), (search (lit≤, lit<, inl, inr), (search (lit≤, lit<, inl, inr), (search (lit≤, lit<, inl, inr), (search (lit≤, lit<, inl, inr), (search (lit≤, lit<, inl, inr), (search (lit≤, lit<, inl, inr), (search (lit≤, lit<, inl, inr), (search (lit≤, lit<, inl, inr), (search (lit≤, lit<, inl, inr), (search (lit≤, lit<, inl, inr), (search (lit≤, lit<, inl, inr), (search (lit≤, lit<, inl, inr), (search (lit≤, lit<, inl, inr), (search (lit≤, lit<, inl, inr), (search (lit≤, lit<, inl, inr), (search (lit≤, lit<, inl, inr), (search (lit≤, lit<, inl, inr), (search (lit≤, lit<, inl, inr), (search (lit≤, lit<, inl, inr), (search (lit≤, lit<, inl, inr), (search (lit≤, lit<, inl, inr), search (lit≤, lit<, inl, inr)))))))))))))))))))))))))))))))))))))))))));
    tied = (search (lit≤, lit<, inl, inr), (search (lit≤, lit<, inl, inr), (search (lit≤, lit<, inl, inr), (search (lit≤, lit<, inl, inr), (search (lit≤, lit<, inl, inr), (search (lit≤, lit<, inl, inr), (search (lit≤, lit<, inl, inr), (search (lit≤, lit<, inl, inr), (search (lit≤, lit<, inl, inr), (search (lit≤, lit<, inl, inr), (search (lit≤, lit<, inl, inr), (search (lit≤, lit<, inl, inr), (search (lit≤, lit<, inl, inr), (search (lit≤, lit<, inl, inr), (search (lit≤, lit<, inl, inr), (search (lit≤, lit<, inl, inr), (search (lit≤, lit<, inl, inr), (search (lit≤, lit<, inl, inr), (search (lit≤, lit<, inl, inr), (search (lit≤, lit<, inl, inr), (search (lit≤, lit<, inl, inr), (search (lit≤, lit<, inl, inr), (search (lit≤, lit<, inl, inr), (search (lit≤, lit<, inl, inr), (search (lit≤, lit<, inl, inr), (search (lit≤, lit<, inl, inr), (search (lit≤, lit<, inl, inr), (search (lit≤, lit<, inl, inr), (search (lit≤, lit<, inl, inr), (search (lit≤, lit<, inl, inr), (search (lit≤, lit<, inl, inr), (search (lit≤, lit<, inl, inr), (search (lit≤, lit<, inl, inr), (search (lit≤, lit<, inl, inr), (search (lit≤, lit<, inl, inr), (search (lit≤, lit<, inl, inr), (search (lit≤, lit<, inl, inr), (search (lit≤, lit<, inl, inr), (search (lit≤, lit<, inl, inr), (search (lit≤, lit<, inl, inr), (search (lit≤, lit<, inl, inr), (search (lit≤, lit<, inl, inr), search (lit≤, lit<, inl, inr)))))))))))))))))))))))))))))))))))))))))));
    ends = search (lit≤, lit<, inl, inr);
    in_turn = search (lit≤, lit<, inl, inr);
    doomed = search (lit≤, lit<, inl, inr);
    swept = search (lit≤, lit<, inl, inr);
    answered = (search (lit≤, lit<, inl, inr), (search (lit≤, lit<, inl, inr), (search (lit≤, lit<, inl, inr), (search (lit≤, lit<, inl, inr), (search (lit≤, lit<, inl, inr), (search (lit≤, lit<, inl, inr), (search (lit≤, lit<, inl, inr), (search (lit≤, lit<, inl, inr), (search (lit≤, lit<, inl, inr), (search (lit≤, lit<, inl, inr), (search (lit≤, lit<, inl, inr), (search (lit≤, lit<, inl, inr), (search (lit≤, lit<, inl, inr), (search (lit≤, lit<, inl, inr), (search (lit≤, lit<, inl, inr), (search (lit≤, lit<, inl, inr), (search (lit≤, lit<, inl, inr), (search (lit≤, lit<, inl, inr), (search (lit≤, lit<, inl, inr), (search (lit≤, lit<, inl, inr), (search (lit≤, lit<, inl, inr), (search (lit≤, lit<, inl, inr), (search (lit≤, lit<, inl, inr), (search (lit≤, lit<, inl, inr), (search (lit≤, lit<, inl, inr), (search (lit≤, lit<, inl, inr), (search (lit≤, lit<, inl, inr), (search (lit≤, lit<, inl, inr), (search (lit≤, lit<, inl, inr), (search (lit≤, lit<, inl, inr), (search (lit≤, lit<, inl, inr), (search (lit≤, lit<, inl, inr), (search (lit≤, lit<, inl, inr), (search (lit≤, lit<, inl, inr), (search (lit≤, lit<, inl, inr), (search (lit≤, lit<, inl, inr), (search (lit≤, lit<, inl, inr), (search (lit≤, lit<, inl, inr), (search (lit≤, lit<, inl, inr), (search (lit≤, lit<, inl, inr), (search (lit≤, lit<, inl, inr), (search (lit≤, lit<, inl, inr), search (lit≤, lit<, inl, inr)))))))))))))))))))))))))))))))))))))))))));
    only = search (lit≤, lit<, inl, inr);
    licensed = search (lit≤, lit<, inl, inr);
    may = search (lit≤, lit<, inl, inr);
    quiet = (search (lit≤, lit<, inl, inr), (search (lit≤, lit<, inl, inr), (search (lit≤, lit<, inl, inr), (search (lit≤, lit<, inl, inr), (search (lit≤, lit<, inl, inr), (search (lit≤, lit<, inl, inr), (search (lit≤, lit<, inl, inr), (search (lit≤, lit<, inl, inr), (search (lit≤, lit<, inl, inr), (search (lit≤, lit<, inl, inr), (search (lit≤, lit<, inl, inr), (search (lit≤, lit<, inl, inr), (search (lit≤, lit<, inl, inr), (search (lit≤, lit<, inl, inr), (search (lit≤, lit<, inl, inr), (search (lit≤, lit<, inl, inr), (search (lit≤, lit<, inl, inr), (search (lit≤, lit<, inl, inr), (search (lit≤, lit<, inl, inr), (search (lit≤, lit<, inl, inr), (search (lit≤, lit<, inl, inr), (search (lit≤, lit<, inl, inr), (search (lit≤, lit<, inl, inr), (search (lit≤, lit<, inl, inr), (search (lit≤, lit<, inl, inr), (search (lit≤, lit<, inl, inr), (search (lit≤, lit<, inl, inr), (search (lit≤, lit<, inl, inr), (search (lit≤, lit<, inl, inr), (search (lit≤, lit<, inl, inr), (search (lit≤, lit<, inl, inr), (search (lit≤, lit<, inl, inr), (search (lit≤, lit<, inl, inr), (search (lit≤, lit<, inl, inr), (search (lit≤, lit<, inl, inr), (search (lit≤, lit<, inl, inr), (search (lit≤, lit<, inl, inr), (search (lit≤, lit<, inl, inr), (search (lit≤, lit<, inl, inr), (search (lit≤, lit<, inl, inr), (search (lit≤, lit<, inl, inr), (search (lit≤, lit<, inl, inr), search (lit≤, lit<, inl, inr)))))))))))))))))))))))))))))))))))))))))));
  };
  quiet = search (lit≤, lit<);
  acts = search;
}

-- a window update by 0 on a stream and on the connection
abbrev pub config_of_updates_by_0 : Config
config_of_updates_by_0 = record config_of_empty {
  clusters = cluster (codes "a") ∷ [];
  routes = route None None (Some (codes "/")) (codes "a") [] [] ∷ [];
}

abbrev pub updates_by_0 : WireHistory
updates_by_0 =
    Noted (note.Close 1 1 closed.Protocol)
    ∷ Noted (note.Answer 1 (hex (codes "0000080700000000000000000100000001")))
    ∷ Marked (Picked 1 (Farewell 1 closed.Protocol))
    ∷ Marked (Took 1 (WindowUpdate 0 0) (act.ConnError 1) NoBlock)
    ∷ Noted (note.Turn 4 (event.Read 1 (hex (codes "00000408000000000000000000"))))
    ∷ Noted (note.Gone 1)
    ∷ Noted (note.Answer 2 (hex (codes "00000403000000000100000008")))
    ∷ Marked (Picked 2 (Put (Control (hex (codes "00000403000000000100000008")))))
    ∷ Noted (note.Answer 1 (hex (codes "00000403000000000100000001")))
    ∷ Marked (Picked 1 (Put (Control (hex (codes "00000403000000000100000001")))))
    ∷ Noted (note.Doom 1 (cause.StreamError 1))
    ∷ Marked (Took 1 (WindowUpdate 1 0) (act.StreamError 1 1 []) NoBlock)
    ∷ Noted (note.Head 2 1 (hex (codes "00000701040000000120838684010161")))
    ∷ Marked (Picked 2 (HeadOf (request 1)))
    ∷ Noted (note.Start 1 1 1 2)
    ∷ Marked (Took 1 (Headers 1 false true 0 None (hex (codes "838684010161"))) (act.Head 1 (hex (codes "838684010161")) false) (Fields ((field (codes ":method") (codes "POST") false) ∷ (field (codes ":scheme") (codes "http") false) ∷ (field (codes ":path") (codes "/") false) ∷ (field (codes ":authority") (codes "a") false) ∷ [])))
    ∷ Noted (note.Answer 1 (hex (codes "000000040100000000")))
    ∷ Marked (Picked 1 (Put (Control (hex (codes "000000040100000000")))))
    ∷ Marked (Took 1 (Settings false []) (act.Settings []) NoBlock)
    ∷ Noted (note.Turn 3 (event.Read 1 (preface ++ (hex (codes "00000004000000000000000601040000000183868401016100000408000000000100000000")))))
    ∷ Noted (note.Credit 2 0 983041)
    ∷ Noted (note.Answer 2 (preface ++ (hex (codes "00001204000000000000020000000000040000ffff00060000f000"))))
    ∷ Marked (Picked 2 (Put (Control (preface ++ (hex (codes "00001204000000000000020000000000040000ffff00060000f000"))))))
    ∷ Noted (note.Turn 2 (event.Join 2 0))
    ∷ Noted (note.Credit 1 0 983041)
    ∷ Noted (note.Answer 1 (hex (codes "00001204000000000000030000006400040000ffff00060000f000")))
    ∷ Marked (Picked 1 (Put (Control (hex (codes "00001204000000000000030000006400040000ffff00060000f000")))))
    ∷ Noted (note.Turn 1 (event.Accept 1))
    ∷ []

pub updates_by_0_is_lawful : Lawful config_of_updates_by_0 updates_by_0
unfolding static_table varint integer reached stay greatest_of placed in_order
updates_by_0_is_lawful = record {
  lawful = record {
    allowed = search (lit≤, lit<, inl, inr);
    paused = search (lit≤, lit<, inl, inr);
    counted = search (lit≤, lit<, inl, inr);
    bounded = search (lit≤, lit<, inl, inr);
    tied = search (lit≤, lit<, inl, inr);
    ends = search (lit≤, lit<, inl, inr);
    in_turn = search (lit≤, lit<, inl, inr);
    doomed = search (lit≤, lit<, inl, inr);
    swept = search (lit≤, lit<, inl, inr);
    answered = search (lit≤, lit<, inl, inr);
    only = search (lit≤, lit<, inl, inr);
    licensed = search (lit≤, lit<, inl, inr);
    may = search (lit≤, lit<, inl, inr);
    quiet = search (lit≤, lit<, inl, inr);
  };
  quiet = search (lit≤, lit<);
  acts = search;
}
