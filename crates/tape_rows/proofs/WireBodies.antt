-- Lawful tapes of wire sessions: bodies.
use Rattle.h2_frames.specs.Frame.{DataFrame, Headers, Settings}
use Rattle.h2_session.specs.Preface.{preface}
use Rattle.hpack_codec.specs.Encoding.{integer, varint}
use Rattle.hpack_codec.specs.Table.{static_table}
use Rattle.overload_core.specs.ActionStates.{greatest_of}
use Rattle.overload_core.specs.Course.{reached, stay}
use Rattle.proxy_config.specs.Defaults.{config_of_empty}
use Rattle.proxy_config.specs.declared.config.Config.{Config}
use Rattle.scaled_timer.specs.Order.{in_order, placed}
use Rattle.std.proofs.Common.{inl, inr, lit<, lit≤}
use Rattle.std.specs.Prelude.{None, Some, [], codes, drop, false, true, ◌++◌, ◌∷◌}
use Rattle.tape_laws.specs.Bounds.{IsBounded}
use Rattle.tape_laws.specs.Demands.{Answers}
use Rattle.tape_laws.specs.Flows.{request, response}
use Rattle.tape_laws.specs.History.{AtEachMoment, EachFollows, Marked, Noted}
use Rattle.tape_laws.specs.Units.{Control, HeadOf, Put, TrailersOf}
use Rattle.tape_rows.proofs.WireTapes.{Lawful, cluster, field, hex, route}
use Rattle.wire_laws.specs.Marks.{Fields, NoBlock, Picked, Took, WireHistory}
use Rattle.wire_rules.specs.WireSession.{wire_session}
use Rattle.wire_rules.specs.WireSetup.{wire_setup}
use Rattle.flow_notes.specs.declared.events.Event.TheVariants as event
use Rattle.flow_rules.specs.declared.causes.Cause.TheVariants as cause
use Rattle.flow_notes.specs.declared.notes.Note.TheVariants as note
use Rattle.h2_session.specs.declared.act.Act.TheVariants as act

-- a body with padding, which is wasted
abbrev pub config_of_padded_body : Config
config_of_padded_body = record config_of_empty {
  clusters = cluster (codes "a") ∷ [];
  routes = route None None (Some (codes "/")) (codes "a") [] [] ∷ [];
}

abbrev pub padded_body : WireHistory
padded_body =
    Noted (note.Gone 1)
    ∷ Noted (note.Doom 1 cause.Done)
    ∷ Noted (note.Frame 1 (response 1) 2 true)
    ∷ Noted (note.Move (response 1) 0 2)
    ∷ Noted (note.Arrive (response 1) (hex (codes "bbbb")))
    ∷ Marked (Took 2 (DataFrame 1 true 0 (hex (codes "bbbb"))) (act.Body 1 (hex (codes "bbbb")) 0 true) NoBlock)
    ∷ Noted (note.Head 1 1 (hex (codes "0000020104000000012088")))
    ∷ Marked (Picked 1 (HeadOf (response 1)))
    ∷ Marked (Took 2 (Headers 1 false true 0 None (hex (codes "88"))) (act.Head 1 (hex (codes "88")) false) (Fields ((field (codes ":status") (codes "200") false) ∷ [])))
    ∷ Noted (note.Answer 2 (hex (codes "000000040100000000")))
    ∷ Marked (Picked 2 (Put (Control (hex (codes "000000040100000000")))))
    ∷ Marked (Took 2 (Settings false []) (act.Settings []) NoBlock)
    ∷ Noted (note.Turn 4 (event.Read 2 (hex (codes "00000004000000000000000101040000000188000002000100000001bbbb"))))
    ∷ Noted (note.Frame 2 (request 1) 10 true)
    ∷ Noted (note.Move (request 1) 0 10)
    ∷ Noted (note.Waste 1 1 3)
    ∷ Noted (note.Arrive (request 1) (hex (codes "00112233445566778899")))
    ∷ Marked (Took 1 (DataFrame 1 true 3 (hex (codes "00112233445566778899"))) (act.Body 1 (hex (codes "00112233445566778899")) 3 true) NoBlock)
    ∷ Noted (note.Head 2 1 (hex (codes "00000701040000000120838684010161")))
    ∷ Marked (Picked 2 (HeadOf (request 1)))
    ∷ Noted (note.Start 1 1 1 2)
    ∷ Marked (Took 1 (Headers 1 false true 0 None (hex (codes "838684010161"))) (act.Head 1 (hex (codes "838684010161")) false) (Fields ((field (codes ":method") (codes "POST") false) ∷ (field (codes ":scheme") (codes "http") false) ∷ (field (codes ":path") (codes "/") false) ∷ (field (codes ":authority") (codes "a") false) ∷ [])))
    ∷ Noted (note.Answer 1 (hex (codes "000000040100000000")))
    ∷ Marked (Picked 1 (Put (Control (hex (codes "000000040100000000")))))
    ∷ Marked (Took 1 (Settings false []) (act.Settings []) NoBlock)
    ∷ Noted (note.Turn 3 (event.Read 1 (preface ++ (hex (codes "00000004000000000000000601040000000183868401016100000d00090000000102001122334455667788990000")))))
    ∷ Noted (note.Credit 2 0 983041)
    ∷ Noted (note.Answer 2 (preface ++ (hex (codes "00001204000000000000020000000000040000ffff00060000f000"))))
    ∷ Marked (Picked 2 (Put (Control (preface ++ (hex (codes "00001204000000000000020000000000040000ffff00060000f000"))))))
    ∷ Noted (note.Turn 2 (event.Join 2 0))
    ∷ Noted (note.Credit 1 0 983041)
    ∷ Noted (note.Answer 1 (hex (codes "00001204000000000000030000006400040000ffff00060000f000")))
    ∷ Marked (Picked 1 (Put (Control (hex (codes "00001204000000000000030000006400040000ffff00060000f000")))))
    ∷ Noted (note.Turn 1 (event.Accept 1))
    ∷ []

pub padded_body_bounded_14 : AtEachMoment (IsBounded (wire_setup config_of_padded_body)) (drop 20 padded_body)
unfolding static_table varint integer reached stay greatest_of placed in_order
padded_body_bounded_14 = search (lit≤, lit<, inl, inr)

pub padded_body_bounded_28 : AtEachMoment (IsBounded (wire_setup config_of_padded_body)) (drop 6 padded_body)
unfolding static_table varint integer reached stay greatest_of placed in_order
padded_body_bounded_28 = search (lit≤, lit<, inl, inr, padded_body_bounded_14)

pub padded_body_answered_14 : EachFollows (Answers (wire_session config_of_padded_body)) (drop 20 padded_body)
unfolding static_table varint integer reached stay greatest_of placed in_order
padded_body_answered_14 = search (lit≤, lit<, inl, inr)

pub padded_body_answered_28 : EachFollows (Answers (wire_session config_of_padded_body)) (drop 6 padded_body)
unfolding static_table varint integer reached stay greatest_of placed in_order
padded_body_answered_28 = search (lit≤, lit<, inl, inr, padded_body_answered_14)

pub padded_body_is_lawful : Lawful config_of_padded_body padded_body
unfolding static_table varint integer reached stay greatest_of placed in_order
padded_body_is_lawful = record {
  lawful = record {
    allowed = search (lit≤, lit<, inl, inr);
    paused = search (lit≤, lit<, inl, inr);
    counted = search (lit≤, lit<, inl, inr);
    bounded = search (lit≤, lit<, inl, inr, padded_body_bounded_28);
    tied = search (lit≤, lit<, inl, inr);
    ends = search (lit≤, lit<, inl, inr);
    in_turn = search (lit≤, lit<, inl, inr);
    doomed = search (lit≤, lit<, inl, inr);
    swept = search (lit≤, lit<, inl, inr);
    answered = search (lit≤, lit<, inl, inr, padded_body_answered_28);
    only = search (lit≤, lit<, inl, inr);
    licensed = search (lit≤, lit<, inl, inr);
    may = search (lit≤, lit<, inl, inr);
    quiet = search (lit≤, lit<, inl, inr);
  };
  quiet = search (lit≤, lit<);
  acts = search;
}

-- trailers both ways
abbrev pub config_of_trailers : Config
config_of_trailers = record config_of_empty {
  clusters = cluster (codes "a") ∷ [];
  routes = route None None (Some (codes "/")) (codes "a") [] [] ∷ [];
}

abbrev pub trailers : WireHistory
trailers =
    Noted (note.Gone 1)
    ∷ Noted (note.Doom 1 cause.Done)
    ∷ Noted (note.Head 1 1 (hex (codes "0000050105000000010001620163")))
    ∷ Marked (Picked 1 (TrailersOf (response 1)))
    ∷ Marked (Took 2 (Headers 1 true true 0 None (hex (codes "0001620163"))) (act.Trailers 1 (hex (codes "0001620163"))) (Fields ((field (codes "b") (codes "c") false) ∷ [])))
    ∷ Noted (note.Head 1 1 (hex (codes "0000020104000000012088")))
    ∷ Marked (Picked 1 (HeadOf (response 1)))
    ∷ Marked (Took 2 (Headers 1 false true 0 None (hex (codes "88"))) (act.Head 1 (hex (codes "88")) false) (Fields ((field (codes ":status") (codes "200") false) ∷ [])))
    ∷ Noted (note.Answer 2 (hex (codes "000000040100000000")))
    ∷ Marked (Picked 2 (Put (Control (hex (codes "000000040100000000")))))
    ∷ Marked (Took 2 (Settings false []) (act.Settings []) NoBlock)
    ∷ Noted (note.Turn 5 (event.Read 2 (hex (codes "000000040000000000000001010400000001880000050105000000010001620163"))))
    ∷ Noted (note.Head 2 1 (hex (codes "0000050105000000010001620163")))
    ∷ Marked (Picked 2 (TrailersOf (request 1)))
    ∷ Marked (Took 1 (Headers 1 true true 0 None (hex (codes "0001620163"))) (act.Trailers 1 (hex (codes "0001620163"))) (Fields ((field (codes "b") (codes "c") false) ∷ [])))
    ∷ Noted (note.Turn 4 (event.Read 1 (hex (codes "0000050105000000010001620163"))))
    ∷ Noted (note.Frame 2 (request 1) 10 false)
    ∷ Noted (note.Move (request 1) 0 10)
    ∷ Noted (note.Arrive (request 1) (hex (codes "00112233445566778899")))
    ∷ Marked (Took 1 (DataFrame 1 false 0 (hex (codes "00112233445566778899"))) (act.Body 1 (hex (codes "00112233445566778899")) 0 false) NoBlock)
    ∷ Noted (note.Head 2 1 (hex (codes "00000701040000000120838684010161")))
    ∷ Marked (Picked 2 (HeadOf (request 1)))
    ∷ Noted (note.Start 1 1 1 2)
    ∷ Marked (Took 1 (Headers 1 false true 0 None (hex (codes "838684010161"))) (act.Head 1 (hex (codes "838684010161")) false) (Fields ((field (codes ":method") (codes "POST") false) ∷ (field (codes ":scheme") (codes "http") false) ∷ (field (codes ":path") (codes "/") false) ∷ (field (codes ":authority") (codes "a") false) ∷ [])))
    ∷ Noted (note.Answer 1 (hex (codes "000000040100000000")))
    ∷ Marked (Picked 1 (Put (Control (hex (codes "000000040100000000")))))
    ∷ Marked (Took 1 (Settings false []) (act.Settings []) NoBlock)
    ∷ Noted (note.Turn 3 (event.Read 1 (preface ++ (hex (codes "00000004000000000000000601040000000183868401016100000a00000000000100112233445566778899")))))
    ∷ Noted (note.Credit 2 0 983041)
    ∷ Noted (note.Answer 2 (preface ++ (hex (codes "00001204000000000000020000000000040000ffff00060000f000"))))
    ∷ Marked (Picked 2 (Put (Control (preface ++ (hex (codes "00001204000000000000020000000000040000ffff00060000f000"))))))
    ∷ Noted (note.Turn 2 (event.Join 2 0))
    ∷ Noted (note.Credit 1 0 983041)
    ∷ Noted (note.Answer 1 (hex (codes "00001204000000000000030000006400040000ffff00060000f000")))
    ∷ Marked (Picked 1 (Put (Control (hex (codes "00001204000000000000030000006400040000ffff00060000f000")))))
    ∷ Noted (note.Turn 1 (event.Accept 1))
    ∷ []

pub trailers_bounded_14 : AtEachMoment (IsBounded (wire_setup config_of_trailers)) (drop 22 trailers)
unfolding static_table varint integer reached stay greatest_of placed in_order
trailers_bounded_14 = search (lit≤, lit<, inl, inr)

pub trailers_bounded_28 : AtEachMoment (IsBounded (wire_setup config_of_trailers)) (drop 8 trailers)
unfolding static_table varint integer reached stay greatest_of placed in_order
trailers_bounded_28 = search (lit≤, lit<, inl, inr, trailers_bounded_14)

pub trailers_is_lawful : Lawful config_of_trailers trailers
unfolding static_table varint integer reached stay greatest_of placed in_order
trailers_is_lawful = record {
  lawful = record {
    allowed = search (lit≤, lit<, inl, inr);
    paused = search (lit≤, lit<, inl, inr);
    counted = search (lit≤, lit<, inl, inr);
    bounded = search (lit≤, lit<, inl, inr, trailers_bounded_28);
    tied = search (lit≤, lit<, inl, inr);
    ends = search (lit≤, lit<, inl, inr);
    in_turn = search (lit≤, lit<, inl, inr);
    doomed = search (lit≤, lit<, inl, inr);
    swept = search (lit≤, lit<, inl, inr);
    answered = (search (lit≤, lit<, inl, inr), (search (lit≤, lit<, inl, inr), (search (lit≤, lit<, inl, inr), (search (lit≤, lit<, inl, inr), (search (lit≤, lit<, inl, inr), (search (lit≤, lit<, inl, inr), (search (lit≤, lit<, inl, inr), (search (lit≤, lit<, inl, inr), (search (lit≤, lit<, inl, inr), (search (lit≤, lit<, inl, inr), (search (lit≤, lit<, inl, inr), (search (lit≤, lit<, inl, inr), (search (lit≤, lit<, inl, inr), (search (lit≤, lit<, inl, inr), (search (lit≤, lit<, inl, inr), (search (lit≤, lit<, inl, inr), (search (lit≤, lit<, inl, inr), (search (lit≤, lit<, inl, inr), (search (lit≤, lit<, inl, inr), (search (lit≤, lit<, inl, inr), (search (lit≤, lit<, inl, inr), (search (lit≤, lit<, inl, inr), (search (lit≤, lit<, inl, inr), (search (lit≤, lit<, inl, inr), (search (lit≤, lit<, inl, inr), (search (lit≤, lit<, inl, inr), (search (lit≤, lit<, inl, inr), (search (lit≤, lit<, inl, inr), (search (lit≤, lit<, inl, inr), (search (lit≤, lit<, inl, inr), (search (lit≤, lit<, inl, inr), (search (lit≤, lit<, inl, inr), (search (lit≤, lit<, inl, inr), (search (lit≤, lit<, inl, inr), (search (lit≤, lit<, inl, inr), (search (lit≤, lit<, inl, inr), search (lit≤, lit<, inl, inr)))))))))))))))))))))))))))))))))))));
    only = search (lit≤, lit<, inl, inr);
    licensed = search (lit≤, lit<, inl, inr);
    may = search (lit≤, lit<, inl, inr);
    quiet = search (lit≤, lit<, inl, inr);
  };
  quiet = search (lit≤, lit<);
  acts = search;
}

-- content on a stream that both sides have ended
abbrev pub config_of_late_content : Config
config_of_late_content = record config_of_empty {
  clusters = cluster (codes "a") ∷ [];
  routes = route None None (Some (codes "/")) (codes "a") [] [] ∷ [];
}

abbrev pub late_content : WireHistory
late_content =
    Noted (note.Waste 2 1 3)
    ∷ Marked (Took 2 (DataFrame 1 false 0 (hex (codes "bbbbbb"))) (act.Late 1 3) NoBlock)
    ∷ Noted (note.Turn 5 (event.Read 2 (hex (codes "000003000000000001bbbbbb"))))
    ∷ Noted (note.Move (response 1) 0 5)
    ∷ Noted (note.Arrive (response 1) (hex (codes "aaaaaaaaaa")))
    ∷ Marked (Took 2 (DataFrame 1 true 0 (hex (codes "aaaaaaaaaa"))) (act.Body 1 (hex (codes "aaaaaaaaaa")) 0 true) NoBlock)
    ∷ Noted (note.Head 1 1 (hex (codes "0000020104000000012088")))
    ∷ Marked (Picked 1 (HeadOf (response 1)))
    ∷ Marked (Took 2 (Headers 1 false true 0 None (hex (codes "88"))) (act.Head 1 (hex (codes "88")) false) (Fields ((field (codes ":status") (codes "200") false) ∷ [])))
    ∷ Noted (note.Answer 2 (hex (codes "000000040100000000")))
    ∷ Marked (Picked 2 (Put (Control (hex (codes "000000040100000000")))))
    ∷ Marked (Took 2 (Settings false []) (act.Settings []) NoBlock)
    ∷ Noted (note.Turn 4 (event.Read 2 (hex (codes "00000004000000000000000101040000000188000005000100000001aaaaaaaaaa"))))
    ∷ Noted (note.Head 2 1 (hex (codes "00000701050000000120828684010161")))
    ∷ Marked (Picked 2 (HeadOf (request 1)))
    ∷ Noted (note.Start 1 1 1 2)
    ∷ Marked (Took 1 (Headers 1 true true 0 None (hex (codes "828684010161"))) (act.Head 1 (hex (codes "828684010161")) true) (Fields ((field (codes ":method") (codes "GET") false) ∷ (field (codes ":scheme") (codes "http") false) ∷ (field (codes ":path") (codes "/") false) ∷ (field (codes ":authority") (codes "a") false) ∷ [])))
    ∷ Noted (note.Answer 1 (hex (codes "000000040100000000")))
    ∷ Marked (Picked 1 (Put (Control (hex (codes "000000040100000000")))))
    ∷ Marked (Took 1 (Settings false (hex (codes "000400000000"))) (act.Settings (record { id = 4; value = 0 } ∷ [])) NoBlock)
    ∷ Noted (note.Turn 3 (event.Read 1 (preface ++ (hex (codes "000006040000000000000400000000000006010500000001828684010161")))))
    ∷ Noted (note.Credit 2 0 983041)
    ∷ Noted (note.Answer 2 (preface ++ (hex (codes "00001204000000000000020000000000040000ffff00060000f000"))))
    ∷ Marked (Picked 2 (Put (Control (preface ++ (hex (codes "00001204000000000000020000000000040000ffff00060000f000"))))))
    ∷ Noted (note.Turn 2 (event.Join 2 0))
    ∷ Noted (note.Credit 1 0 983041)
    ∷ Noted (note.Answer 1 (hex (codes "00001204000000000000030000006400040000ffff00060000f000")))
    ∷ Marked (Picked 1 (Put (Control (hex (codes "00001204000000000000030000006400040000ffff00060000f000")))))
    ∷ Noted (note.Turn 1 (event.Accept 1))
    ∷ []

pub late_content_is_lawful : Lawful config_of_late_content late_content
unfolding static_table varint integer reached stay greatest_of placed in_order
late_content_is_lawful = record {
  lawful = record {
    allowed = search (lit≤, lit<, inl, inr);
    paused = search (lit≤, lit<, inl, inr);
    counted = search (lit≤, lit<, inl, inr);
    bounded = search (lit≤, lit<, inl, inr);
    tied = search (lit≤, lit<, inl, inr);
    ends = search (lit≤, lit<, inl, inr);
    in_turn = search (lit≤, lit<, inl, inr);
    doomed = search (lit≤, lit<, inl, inr);
    swept = search (lit≤, lit<, inl, inr);
    answered = search (lit≤, lit<, inl, inr);
    only = search (lit≤, lit<, inl, inr);
    licensed = search (lit≤, lit<, inl, inr);
    may = search (lit≤, lit<, inl, inr);
    quiet = search (lit≤, lit<, inl, inr);
  };
  quiet = search (lit≤, lit<);
  acts = search;
}
