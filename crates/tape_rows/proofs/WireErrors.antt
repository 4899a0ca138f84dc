-- Lawful tapes of wire sessions: errors.
use Rattle.h2_frames.specs.Frame.{DataFrame, Headers, Reset, Settings}
use Rattle.h2_session.specs.Preface.{preface}
use Rattle.hpack_codec.specs.Encoding.{integer, varint}
use Rattle.hpack_codec.specs.Table.{static_table}
use Rattle.overload_core.specs.ActionStates.{greatest_of}
use Rattle.overload_core.specs.Course.{reached, stay}
use Rattle.proxy_config.specs.Defaults.{config_of_empty}
use Rattle.proxy_config.specs.declared.config.Config.{Config}
use Rattle.scaled_timer.specs.Order.{in_order, placed}
use Rattle.std.proofs.Common.{inl, inr, lit<, lit≤}
use Rattle.std.specs.Prelude.{None, Some, [], codes, false, true, ◌++◌, ◌∷◌}
use Rattle.tape_laws.specs.Flows.{request}
use Rattle.tape_laws.specs.History.{Marked, Noted}
use Rattle.tape_laws.specs.Units.{Control, Farewell, HeadOf, Put, Reply}
use Rattle.tape_rows.proofs.WireTapes.{Lawful, cluster, field, hex, route}
use Rattle.wire_laws.specs.Marks.{Broke, Fields, NoBlock, Picked, Took, WireHistory}
use Rattle.flow_notes.specs.declared.events.Event.TheVariants as event
use Rattle.flow_rules.specs.declared.causes.Cause.TheVariants as cause
use Rattle.flow_notes.specs.declared.notes.CloseCause.TheVariants as closed
use Rattle.flow_notes.specs.declared.notes.Note.TheVariants as note
use Rattle.h2_session.specs.declared.act.Act.TheVariants as act

-- a cluster that resets a stream
abbrev pub config_of_cluster_resets : Config
config_of_cluster_resets = record config_of_empty {
  clusters = cluster (codes "a") ∷ [];
  routes = route None None (Some (codes "/")) (codes "a") [] [] ∷ [];
}

abbrev pub cluster_resets : WireHistory
cluster_resets =
    Noted (note.Gone 1)
    ∷ Noted (note.Answer 1 (hex (codes "00000403000000000100000000")))
    ∷ Marked (Picked 1 (Put (Control (hex (codes "00000403000000000100000000")))))
    ∷ Noted (note.Head 1 1 (hex (codes "000006010500000001200803353032")))
    ∷ Marked (Picked 1 (Put (Reply 1 502)))
    ∷ Noted (note.Doom 1 (cause.PeerReset 2))
    ∷ Marked (Took 2 (Reset 1 2) (act.PeerReset 1 2) NoBlock)
    ∷ Noted (note.Answer 2 (hex (codes "000000040100000000")))
    ∷ Marked (Picked 2 (Put (Control (hex (codes "000000040100000000")))))
    ∷ Marked (Took 2 (Settings false []) (act.Settings []) NoBlock)
    ∷ Noted (note.Turn 4 (event.Read 2 (hex (codes "00000004000000000000000403000000000100000002"))))
    ∷ Noted (note.Head 2 1 (hex (codes "00000701040000000120838684010161")))
    ∷ Marked (Picked 2 (HeadOf (request 1)))
    ∷ Noted (note.Start 1 1 1 2)
    ∷ Marked (Took 1 (Headers 1 false true 0 None (hex (codes "838684010161"))) (act.Head 1 (hex (codes "838684010161")) false) (Fields ((field (codes ":method") (codes "POST") false) ∷ (field (codes ":scheme") (codes "http") false) ∷ (field (codes ":path") (codes "/") false) ∷ (field (codes ":authority") (codes "a") false) ∷ [])))
    ∷ Noted (note.Answer 1 (hex (codes "000000040100000000")))
    ∷ Marked (Picked 1 (Put (Control (hex (codes "000000040100000000")))))
    ∷ Marked (Took 1 (Settings false []) (act.Settings []) NoBlock)
    ∷ Noted (note.Turn 3 (event.Read 1 (preface ++ (hex (codes "000000040000000000000006010400000001838684010161")))))
    ∷ Noted (note.Credit 2 0 983041)
    ∷ Noted (note.Answer 2 (preface ++ (hex (codes "00001204000000000000020000000000040000ffff00060000f000"))))
    ∷ Marked (Picked 2 (Put (Control (preface ++ (hex (codes "00001204000000000000020000000000040000ffff00060000f000"))))))
    ∷ Noted (note.Turn 2 (event.Join 2 0))
    ∷ Noted (note.Credit 1 0 983041)
    ∷ Noted (note.Answer 1 (hex (codes "00001204000000000000030000006400040000ffff00060000f000")))
    ∷ Marked (Picked 1 (Put (Control (hex (codes "00001204000000000000030000006400040000ffff00060000f000")))))
    ∷ Noted (note.Turn 1 (event.Accept 1))
    ∷ []

pub cluster_resets_is_lawful : Lawful config_of_cluster_resets cluster_resets
unfolding static_table varint integer reached stay greatest_of placed in_order
cluster_resets_is_lawful = record {
  lawful = record {
    allowed = search (lit≤, lit<, inl, inr);
    paused = search (lit≤, lit<, inl, inr);
    counted = search (lit≤, lit<, inl, inr);
    bounded = search (lit≤, lit<, inl, inr);
    tied = search (lit≤, lit<, inl, inr);
    ends = search (lit≤, lit<, inl, inr);
    in_turn = search (lit≤, lit<, inl, inr);
    doomed = search (lit≤, lit<, inl, inr);
    swept = search (lit≤, lit<, inl, inr);
    answered = search (lit≤, lit<, inl, inr);
    only = search (lit≤, lit<, inl, inr);
    licensed = search (lit≤, lit<, inl, inr);
    may = search (lit≤, lit<, inl, inr);
    quiet = search (lit≤, lit<, inl, inr);
  };
  quiet = search (lit≤, lit<);
  acts = search;
}

-- DATA before the response's head
abbrev pub config_of_data_before_head : Config
config_of_data_before_head = record config_of_empty {
  clusters = cluster (codes "a") ∷ [];
  routes = route None None (Some (codes "/")) (codes "a") [] [] ∷ [];
}

abbrev pub data_before_head : WireHistory
data_before_head =
    Noted (note.Gone 1)
    ∷ Noted (note.Answer 2 (hex (codes "00000403000000000100000001")))
    ∷ Marked (Picked 2 (Put (Control (hex (codes "00000403000000000100000001")))))
    ∷ Noted (note.Answer 1 (hex (codes "00000403000000000100000000")))
    ∷ Marked (Picked 1 (Put (Control (hex (codes "00000403000000000100000000")))))
    ∷ Noted (note.Head 1 1 (hex (codes "000006010500000001200803353032")))
    ∷ Marked (Picked 1 (Put (Reply 1 502)))
    ∷ Noted (note.Waste 2 1 10)
    ∷ Noted (note.Doom 1 (cause.StreamError 1))
    ∷ Marked (Took 2 (DataFrame 1 false 0 (hex (codes "00112233445566778899"))) (act.Body 1 (hex (codes "00112233445566778899")) 0 false) NoBlock)
    ∷ Noted (note.Answer 2 (hex (codes "000000040100000000")))
    ∷ Marked (Picked 2 (Put (Control (hex (codes "000000040100000000")))))
    ∷ Marked (Took 2 (Settings false []) (act.Settings []) NoBlock)
    ∷ Noted (note.Turn 4 (event.Read 2 (hex (codes "00000004000000000000000a00000000000100112233445566778899"))))
    ∷ Noted (note.Head 2 1 (hex (codes "00000701040000000120838684010161")))
    ∷ Marked (Picked 2 (HeadOf (request 1)))
    ∷ Noted (note.Start 1 1 1 2)
    ∷ Marked (Took 1 (Headers 1 false true 0 None (hex (codes "838684010161"))) (act.Head 1 (hex (codes "838684010161")) false) (Fields ((field (codes ":method") (codes "POST") false) ∷ (field (codes ":scheme") (codes "http") false) ∷ (field (codes ":path") (codes "/") false) ∷ (field (codes ":authority") (codes "a") false) ∷ [])))
    ∷ Noted (note.Answer 1 (hex (codes "000000040100000000")))
    ∷ Marked (Picked 1 (Put (Control (hex (codes "000000040100000000")))))
    ∷ Marked (Took 1 (Settings false []) (act.Settings []) NoBlock)
    ∷ Noted (note.Turn 3 (event.Read 1 (preface ++ (hex (codes "000000040000000000000006010400000001838684010161")))))
    ∷ Noted (note.Credit 2 0 983041)
    ∷ Noted (note.Answer 2 (preface ++ (hex (codes "00001204000000000000020000000000040000ffff00060000f000"))))
    ∷ Marked (Picked 2 (Put (Control (preface ++ (hex (codes "00001204000000000000020000000000040000ffff00060000f000"))))))
    ∷ Noted (note.Turn 2 (event.Join 2 0))
    ∷ Noted (note.Credit 1 0 983041)
    ∷ Noted (note.Answer 1 (hex (codes "00001204000000000000030000006400040000ffff00060000f000")))
    ∷ Marked (Picked 1 (Put (Control (hex (codes "00001204000000000000030000006400040000ffff00060000f000")))))
    ∷ Noted (note.Turn 1 (event.Accept 1))
    ∷ []

pub data_before_head_is_lawful : Lawful config_of_data_before_head data_before_head
unfolding static_table varint integer reached stay greatest_of placed in_order
data_before_head_is_lawful = record {
  lawful = record {
    allowed = search (lit≤, lit<, inl, inr);
    paused = search (lit≤, lit<, inl, inr);
    counted = search (lit≤, lit<, inl, inr);
    bounded = search (lit≤, lit<, inl, inr);
    tied = search (lit≤, lit<, inl, inr);
    ends = search (lit≤, lit<, inl, inr);
    in_turn = search (lit≤, lit<, inl, inr);
    doomed = search (lit≤, lit<, inl, inr);
    swept = search (lit≤, lit<, inl, inr);
    answered = search (lit≤, lit<, inl, inr);
    only = search (lit≤, lit<, inl, inr);
    licensed = search (lit≤, lit<, inl, inr);
    may = search (lit≤, lit<, inl, inr);
    quiet = search (lit≤, lit<, inl, inr);
  };
  quiet = search (lit≤, lit<);
  acts = search;
}

-- a body longer than its content-length
abbrev pub config_of_body_too_long : Config
config_of_body_too_long = record config_of_empty {
  clusters = cluster (codes "a") ∷ [];
  routes = route None None (Some (codes "/")) (codes "a") [] [] ∷ [];
}

abbrev pub body_too_long : WireHistory
body_too_long =
    Noted (note.Gone 1)
    ∷ Noted (note.Answer 1 (hex (codes "00000403000000000100000001")))
    ∷ Marked (Picked 1 (Put (Control (hex (codes "00000403000000000100000001")))))
    ∷ Noted (note.Answer 2 (hex (codes "00000403000000000100000008")))
    ∷ Marked (Picked 2 (Put (Control (hex (codes "00000403000000000100000008")))))
    ∷ Noted (note.Waste 1 1 10)
    ∷ Noted (note.Doom 1 (cause.StreamError 1))
    ∷ Marked (Took 1 (DataFrame 1 false 0 (hex (codes "00112233445566778899"))) (act.Body 1 (hex (codes "00112233445566778899")) 0 false) NoBlock)
    ∷ Noted (note.Head 2 1 (hex (codes "00000b010400000001208386840101610f0d0132")))
    ∷ Marked (Picked 2 (HeadOf (request 1)))
    ∷ Noted (note.Start 1 1 1 2)
    ∷ Marked (Took 1 (Headers 1 false true 0 None (hex (codes "8386840101610f0d0132"))) (act.Head 1 (hex (codes "8386840101610f0d0132")) false) (Fields ((field (codes ":method") (codes "POST") false) ∷ (field (codes ":scheme") (codes "http") false) ∷ (field (codes ":path") (codes "/") false) ∷ (field (codes ":authority") (codes "a") false) ∷ (field (codes "content-length") (codes "2") false) ∷ [])))
    ∷ Noted (note.Answer 1 (hex (codes "000000040100000000")))
    ∷ Marked (Picked 1 (Put (Control (hex (codes "000000040100000000")))))
    ∷ Marked (Took 1 (Settings false []) (act.Settings []) NoBlock)
    ∷ Noted (note.Turn 3 (event.Read 1 (preface ++ (hex (codes "00000004000000000000000a0104000000018386840101610f0d013200000a00000000000100112233445566778899")))))
    ∷ Noted (note.Credit 2 0 983041)
    ∷ Noted (note.Answer 2 (preface ++ (hex (codes "00001204000000000000020000000000040000ffff00060000f000"))))
    ∷ Marked (Picked 2 (Put (Control (preface ++ (hex (codes "00001204000000000000020000000000040000ffff00060000f000"))))))
    ∷ Noted (note.Turn 2 (event.Join 2 0))
    ∷ Noted (note.Credit 1 0 983041)
    ∷ Noted (note.Answer 1 (hex (codes "00001204000000000000030000006400040000ffff00060000f000")))
    ∷ Marked (Picked 1 (Put (Control (hex (codes "00001204000000000000030000006400040000ffff00060000f000")))))
    ∷ Noted (note.Turn 1 (event.Accept 1))
    ∷ []

pub body_too_long_is_lawful : Lawful config_of_body_too_long body_too_long
unfolding static_table varint integer reached stay greatest_of placed in_order
body_too_long_is_lawful = record {
  lawful = record {
    allowed = search (lit≤, lit<, inl, inr);
    paused = search (lit≤, lit<, inl, inr);
    counted = search (lit≤, lit<, inl, inr);
    bounded = search (lit≤, lit<, inl, inr);
    tied = search (lit≤, lit<, inl, inr);
    ends = search (lit≤, lit<, inl, inr);
    in_turn = search (lit≤, lit<, inl, inr);
    doomed = search (lit≤, lit<, inl, inr);
    swept = search (lit≤, lit<, inl, inr);
    answered = search (lit≤, lit<, inl, inr);
    only = search (lit≤, lit<, inl, inr);
    licensed = search (lit≤, lit<, inl, inr);
    may = search (lit≤, lit<, inl, inr);
    quiet = search (lit≤, lit<, inl, inr);
  };
  quiet = search (lit≤, lit<);
  acts = search;
}

-- DATA on an idle stream
abbrev pub config_of_idle_stream : Config
config_of_idle_stream = record config_of_empty {
  clusters = cluster (codes "a") ∷ [];
  routes = route None None (Some (codes "/")) (codes "a") [] [] ∷ [];
}

abbrev pub idle_stream : WireHistory
idle_stream =
    Noted (note.Out 1 66)
    ∷ Noted (note.Turn 4 (event.Room 1 1000))
    ∷ Noted (note.Close 1 1 closed.Protocol)
    ∷ Noted (note.Answer 1 (hex (codes "0000080700000000000000000000000001")))
    ∷ Marked (Picked 1 (Farewell 1 closed.Protocol))
    ∷ Marked (Took 1 (DataFrame 5 false 0 (hex (codes "00112233445566778899"))) (act.ConnError 1) NoBlock)
    ∷ Noted (note.Answer 1 (hex (codes "000000040100000000")))
    ∷ Marked (Picked 1 (Put (Control (hex (codes "000000040100000000")))))
    ∷ Marked (Took 1 (Settings false []) (act.Settings []) NoBlock)
    ∷ Noted (note.Turn 3 (event.Read 1 (preface ++ (hex (codes "00000004000000000000000a00000000000500112233445566778899")))))
    ∷ Noted (note.Credit 2 0 983041)
    ∷ Noted (note.Answer 2 (preface ++ (hex (codes "00001204000000000000020000000000040000ffff00060000f000"))))
    ∷ Marked (Picked 2 (Put (Control (preface ++ (hex (codes "00001204000000000000020000000000040000ffff00060000f000"))))))
    ∷ Noted (note.Turn 2 (event.Join 2 0))
    ∷ Noted (note.Credit 1 0 983041)
    ∷ Noted (note.Answer 1 (hex (codes "00001204000000000000030000006400040000ffff00060000f000")))
    ∷ Marked (Picked 1 (Put (Control (hex (codes "00001204000000000000030000006400040000ffff00060000f000")))))
    ∷ Noted (note.Turn 1 (event.Accept 1))
    ∷ []

pub idle_stream_is_lawful : Lawful config_of_idle_stream idle_stream
unfolding static_table varint integer reached stay greatest_of placed in_order
idle_stream_is_lawful = record {
  lawful = record {
    allowed = search (lit≤, lit<, inl, inr);
    paused = search (lit≤, lit<, inl, inr);
    counted = search (lit≤, lit<, inl, inr);
    bounded = search (lit≤, lit<, inl, inr);
    tied = search (lit≤, lit<, inl, inr);
    ends = search (lit≤, lit<, inl, inr);
    in_turn = search (lit≤, lit<, inl, inr);
    doomed = search (lit≤, lit<, inl, inr);
    swept = search (lit≤, lit<, inl, inr);
    answered = search (lit≤, lit<, inl, inr);
    only = search (lit≤, lit<, inl, inr);
    licensed = search (lit≤, lit<, inl, inr);
    may = search (lit≤, lit<, inl, inr);
    quiet = search (lit≤, lit<, inl, inr);
  };
  quiet = search (lit≤, lit<);
  acts = search;
}

-- a SETTINGS frame of five octets
abbrev pub config_of_bad_frame : Config
config_of_bad_frame = record config_of_empty {
  clusters = cluster (codes "a") ∷ [];
  routes = route None None (Some (codes "/")) (codes "a") [] [] ∷ [];
}

abbrev pub bad_frame : WireHistory
bad_frame =
    Noted (note.Gone 1)
    ∷ Noted (note.Answer 2 (hex (codes "00000403000000000100000008")))
    ∷ Marked (Picked 2 (Put (Control (hex (codes "00000403000000000100000008")))))
    ∷ Noted (note.Doom 1 (cause.ConnLost 1))
    ∷ Noted (note.Close 1 6 closed.Protocol)
    ∷ Noted (note.Answer 1 (hex (codes "0000080700000000000000000100000006")))
    ∷ Marked (Picked 1 (Farewell 6 closed.Protocol))
    ∷ Marked (Broke 1 6)
    ∷ Noted (note.Head 2 1 (hex (codes "00000701040000000120838684010161")))
    ∷ Marked (Picked 2 (HeadOf (request 1)))
    ∷ Noted (note.Start 1 1 1 2)
    ∷ Marked (Took 1 (Headers 1 false true 0 None (hex (codes "838684010161"))) (act.Head 1 (hex (codes "838684010161")) false) (Fields ((field (codes ":method") (codes "POST") false) ∷ (field (codes ":scheme") (codes "http") false) ∷ (field (codes ":path") (codes "/") false) ∷ (field (codes ":authority") (codes "a") false) ∷ [])))
    ∷ Noted (note.Answer 1 (hex (codes "000000040100000000")))
    ∷ Marked (Picked 1 (Put (Control (hex (codes "000000040100000000")))))
    ∷ Marked (Took 1 (Settings false []) (act.Settings []) NoBlock)
    ∷ Noted (note.Turn 3 (event.Read 1 (preface ++ (hex (codes "000000040000000000000006010400000001838684010161000000050400000001")))))
    ∷ Noted (note.Credit 2 0 983041)
    ∷ Noted (note.Answer 2 (preface ++ (hex (codes "00001204000000000000020000000000040000ffff00060000f000"))))
    ∷ Marked (Picked 2 (Put (Control (preface ++ (hex (codes "00001204000000000000020000000000040000ffff00060000f000"))))))
    ∷ Noted (note.Turn 2 (event.Join 2 0))
    ∷ Noted (note.Credit 1 0 983041)
    ∷ Noted (note.Answer 1 (hex (codes "00001204000000000000030000006400040000ffff00060000f000")))
    ∷ Marked (Picked 1 (Put (Control (hex (codes "00001204000000000000030000006400040000ffff00060000f000")))))
    ∷ Noted (note.Turn 1 (event.Accept 1))
    ∷ []

pub bad_frame_is_lawful : Lawful config_of_bad_frame bad_frame
unfolding static_table varint integer reached stay greatest_of placed in_order
bad_frame_is_lawful = record {
  lawful = record {
    allowed = search (lit≤, lit<, inl, inr);
    paused = search (lit≤, lit<, inl, inr);
    counted = search (lit≤, lit<, inl, inr);
    bounded = search (lit≤, lit<, inl, inr);
    tied = search (lit≤, lit<, inl, inr);
    ends = search (lit≤, lit<, inl, inr);
    in_turn = search (lit≤, lit<, inl, inr);
    doomed = search (lit≤, lit<, inl, inr);
    swept = search (lit≤, lit<, inl, inr);
    answered = search (lit≤, lit<, inl, inr);
    only = search (lit≤, lit<, inl, inr);
    licensed = search (lit≤, lit<, inl, inr);
    may = search (lit≤, lit<, inl, inr);
    quiet = search (lit≤, lit<, inl, inr);
  };
  quiet = search (lit≤, lit<);
  acts = search;
}
