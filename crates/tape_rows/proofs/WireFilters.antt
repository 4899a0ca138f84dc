-- Lawful tapes of wire sessions: filters.
use Rattle.h2_frames.specs.Frame.{DataFrame, Headers, Settings}
use Rattle.h2_session.specs.Preface.{preface}
use Rattle.hpack_codec.specs.Encoding.{integer, varint}
use Rattle.hpack_codec.specs.Table.{static_table}
use Rattle.overload_core.specs.ActionStates.{greatest_of}
use Rattle.overload_core.specs.Course.{reached, stay}
use Rattle.proxy_config.specs.Defaults.{config_of_empty, default_limits}
use Rattle.proxy_config.specs.declared.config.Config.{Config}
use Rattle.scaled_timer.specs.Order.{in_order, placed}
use Rattle.std.proofs.Common.{inl, inr, lit<, lit≤}
use Rattle.std.specs.Prelude.{None, Some, [], codes, drop, false, replicate, true, ◌++◌, ◌∷◌}
use Rattle.tape_laws.specs.Bounds.{IsBounded}
use Rattle.tape_laws.specs.Flows.{request}
use Rattle.tape_laws.specs.History.{AtEachMoment, Marked, Noted}
use Rattle.tape_laws.specs.Units.{Control, HeadOf, Put, Reply}
use Rattle.tape_rows.proofs.WireTapes.{Lawful, cluster, field, hex, route}
use Rattle.wire_laws.specs.Marks.{Fields, NoBlock, Picked, Took, WireHistory}
use Rattle.wire_rules.specs.WireSetup.{wire_setup}
use Rattle.flow_rules.specs.declared.ids.BufferId.TheVariants as buffer
use Rattle.flow_notes.specs.declared.events.Event.TheVariants as event
use Rattle.flow_rules.specs.declared.causes.Cause.TheVariants as cause
use Rattle.flow_notes.specs.declared.notes.Note.TheVariants as note
use Rattle.h2_session.specs.declared.act.Act.TheVariants as act
use Rattle.proxy_config.specs.declared.routes.Filter.TheVariants as filter

-- a Meter lets five octets go for 50 ms
abbrev pub config_of_meter : Config
config_of_meter = record config_of_empty {
  clusters = cluster (codes "a") ∷ [];
  routes = route None None (Some (codes "/")) (codes "a") ((filter.Meter 8 5) ∷ []) [] ∷ [];
}

abbrev pub meter : WireHistory
meter =
    Noted (note.Turn 5 (event.Tick 100))
    ∷ Noted (note.Frame 2 (request 1) 5 false)
    ∷ Noted (note.Resume (request 1) (buffer.Stage (request 1) 1))
    ∷ Noted (note.Move (request 1) 1 5)
    ∷ Noted (note.Turn 4 (event.Tick 50))
    ∷ Noted (note.Frame 2 (request 1) 5 false)
    ∷ Noted (note.Move (request 1) 1 5)
    ∷ Noted (note.Pause (request 1) (buffer.Stage (request 1) 1))
    ∷ Noted (note.Move (request 1) 0 10)
    ∷ Noted (note.Arrive (request 1) (hex (codes "00112233445566778899")))
    ∷ Marked (Took 1 (DataFrame 1 false 0 (hex (codes "00112233445566778899"))) (act.Body 1 (hex (codes "00112233445566778899")) 0 false) NoBlock)
    ∷ Noted (note.Head 2 1 (hex (codes "00000701040000000120838684010161")))
    ∷ Marked (Picked 2 (HeadOf (request 1)))
    ∷ Noted (note.Start 1 1 1 2)
    ∷ Marked (Took 1 (Headers 1 false true 0 None (hex (codes "838684010161"))) (act.Head 1 (hex (codes "838684010161")) false) (Fields ((field (codes ":method") (codes "POST") false) ∷ (field (codes ":scheme") (codes "http") false) ∷ (field (codes ":path") (codes "/") false) ∷ (field (codes ":authority") (codes "a") false) ∷ [])))
    ∷ Noted (note.Answer 1 (hex (codes "000000040100000000")))
    ∷ Marked (Picked 1 (Put (Control (hex (codes "000000040100000000")))))
    ∷ Marked (Took 1 (Settings false []) (act.Settings []) NoBlock)
    ∷ Noted (note.Turn 3 (event.Read 1 (preface ++ (hex (codes "00000004000000000000000601040000000183868401016100000a00000000000100112233445566778899")))))
    ∷ Noted (note.Credit 2 0 983041)
    ∷ Noted (note.Answer 2 (preface ++ (hex (codes "00001204000000000000020000000000040000ffff00060000f000"))))
    ∷ Marked (Picked 2 (Put (Control (preface ++ (hex (codes "00001204000000000000020000000000040000ffff00060000f000"))))))
    ∷ Noted (note.Turn 2 (event.Join 2 0))
    ∷ Noted (note.Credit 1 0 983041)
    ∷ Noted (note.Answer 1 (hex (codes "00001204000000000000030000006400040000ffff00060000f000")))
    ∷ Marked (Picked 1 (Put (Control (hex (codes "00001204000000000000030000006400040000ffff00060000f000")))))
    ∷ Noted (note.Turn 1 (event.Accept 1))
    ∷ []

pub meter_is_lawful : Lawful config_of_meter meter
unfolding static_table varint integer reached stay greatest_of placed in_order
meter_is_lawful = record {
  lawful = record {
    allowed = search (lit≤, lit<, inl, inr);
    paused = search (lit≤, lit<, inl, inr);
    counted = search (lit≤, lit<, inl, inr);
    bounded = search (lit≤, lit<, inl, inr);
    tied = search (lit≤, lit<, inl, inr);
    ends = search (lit≤, lit<, inl, inr);
    in_turn = search (lit≤, lit<, inl, inr);
    doomed = search (lit≤, lit<, inl, inr);
    swept = search (lit≤, lit<, inl, inr);
    answered = search (lit≤, lit<, inl, inr);
    only = search (lit≤, lit<, inl, inr);
    licensed = search (lit≤, lit<, inl, inr);
    may = search (lit≤, lit<, inl, inr);
    quiet = search (lit≤, lit<, inl, inr);
  };
  quiet = search (lit≤, lit<);
  acts = search;
}

-- and pauses while the write buffer is above
abbrev pub config_of_meter_behind_write_buffer : Config
config_of_meter_behind_write_buffer = record config_of_empty {
  limits = record default_limits { write_buffer = 90 };
  clusters = cluster (codes "a") ∷ [];
  routes = route None None (Some (codes "/")) (codes "a") ((filter.Meter 8 5) ∷ []) [] ∷ [];
}

abbrev pub meter_behind_write_buffer : WireHistory
meter_behind_write_buffer =
    Noted (note.Frame 2 (request 1) 5 false)
    ∷ Noted (note.Resume (request 1) (buffer.Stage (request 1) 1))
    ∷ Noted (note.Move (request 1) 1 5)
    ∷ Noted (note.Resume (request 1) (buffer.Write 2))
    ∷ Noted (note.Out 2 94)
    ∷ Noted (note.Turn 5 (event.Room 2 94))
    ∷ Noted (note.Turn 4 (event.Tick 50))
    ∷ Noted (note.Pause (request 1) (buffer.Write 2))
    ∷ Noted (note.Frame 2 (request 1) 5 false)
    ∷ Noted (note.Move (request 1) 1 5)
    ∷ Noted (note.Pause (request 1) (buffer.Stage (request 1) 1))
    ∷ Noted (note.Move (request 1) 0 10)
    ∷ Noted (note.Arrive (request 1) (hex (codes "00112233445566778899")))
    ∷ Marked (Took 1 (DataFrame 1 false 0 (hex (codes "00112233445566778899"))) (act.Body 1 (hex (codes "00112233445566778899")) 0 false) NoBlock)
    ∷ Noted (note.Head 2 1 (hex (codes "00000701040000000120838684010161")))
    ∷ Marked (Picked 2 (HeadOf (request 1)))
    ∷ Noted (note.Start 1 1 1 2)
    ∷ Marked (Took 1 (Headers 1 false true 0 None (hex (codes "838684010161"))) (act.Head 1 (hex (codes "838684010161")) false) (Fields ((field (codes ":method") (codes "POST") false) ∷ (field (codes ":scheme") (codes "http") false) ∷ (field (codes ":path") (codes "/") false) ∷ (field (codes ":authority") (codes "a") false) ∷ [])))
    ∷ Noted (note.Answer 1 (hex (codes "000000040100000000")))
    ∷ Marked (Picked 1 (Put (Control (hex (codes "000000040100000000")))))
    ∷ Marked (Took 1 (Settings false []) (act.Settings []) NoBlock)
    ∷ Noted (note.Turn 3 (event.Read 1 (preface ++ (hex (codes "00000004000000000000000601040000000183868401016100000a00000000000100112233445566778899")))))
    ∷ Noted (note.Credit 2 0 983041)
    ∷ Noted (note.Answer 2 (preface ++ (hex (codes "00001204000000000000020000000000040000ffff00060000f000"))))
    ∷ Marked (Picked 2 (Put (Control (preface ++ (hex (codes "00001204000000000000020000000000040000ffff00060000f000"))))))
    ∷ Noted (note.Turn 2 (event.Join 2 0))
    ∷ Noted (note.Credit 1 0 983041)
    ∷ Noted (note.Answer 1 (hex (codes "00001204000000000000030000006400040000ffff00060000f000")))
    ∷ Marked (Picked 1 (Put (Control (hex (codes "00001204000000000000030000006400040000ffff00060000f000")))))
    ∷ Noted (note.Turn 1 (event.Accept 1))
    ∷ []

pub meter_behind_write_buffer_is_lawful : Lawful config_of_meter_behind_write_buffer meter_behind_write_buffer
unfolding static_table varint integer reached stay greatest_of placed in_order
meter_behind_write_buffer_is_lawful = record {
  lawful = record {
    allowed = search (lit≤, lit<, inl, inr);
    paused = search (lit≤, lit<, inl, inr);
    counted = search (lit≤, lit<, inl, inr);
    bounded = search (lit≤, lit<, inl, inr);
    tied = search (lit≤, lit<, inl, inr);
    ends = search (lit≤, lit<, inl, inr);
    in_turn = search (lit≤, lit<, inl, inr);
    doomed = search (lit≤, lit<, inl, inr);
    swept = search (lit≤, lit<, inl, inr);
    answered = search (lit≤, lit<, inl, inr);
    only = search (lit≤, lit<, inl, inr);
    licensed = search (lit≤, lit<, inl, inr);
    may = search (lit≤, lit<, inl, inr);
    quiet = search (lit≤, lit<, inl, inr);
  };
  quiet = search (lit≤, lit<);
  acts = search;
}

-- a Hold behind a Meter lets the head wait for the whole body
abbrev pub config_of_meter_and_hold : Config
config_of_meter_and_hold = record config_of_empty {
  clusters = cluster (codes "a") ∷ [];
  routes = route None None (Some (codes "/")) (codes "a") ((filter.Meter 1048576 5) ∷ (filter.Hold 1048576) ∷ []) [] ∷ [];
}

abbrev pub meter_and_hold : WireHistory
meter_and_hold =
    Noted (note.Frame 2 (request 1) 10 true)
    ∷ Noted (note.Move (request 1) 2 10)
    ∷ Noted (note.Head 2 1 (hex (codes "00000701040000000120838684010161")))
    ∷ Marked (Picked 2 (HeadOf (request 1)))
    ∷ Noted (note.Move (request 1) 1 5)
    ∷ Noted (note.Turn 4 (event.Tick 50))
    ∷ Noted (note.Move (request 1) 1 5)
    ∷ Noted (note.Move (request 1) 0 10)
    ∷ Noted (note.Arrive (request 1) (hex (codes "00112233445566778899")))
    ∷ Marked (Took 1 (DataFrame 1 true 0 (hex (codes "00112233445566778899"))) (act.Body 1 (hex (codes "00112233445566778899")) 0 true) NoBlock)
    ∷ Noted (note.Start 1 1 1 2)
    ∷ Marked (Took 1 (Headers 1 false true 0 None (hex (codes "838684010161"))) (act.Head 1 (hex (codes "838684010161")) false) (Fields ((field (codes ":method") (codes "POST") false) ∷ (field (codes ":scheme") (codes "http") false) ∷ (field (codes ":path") (codes "/") false) ∷ (field (codes ":authority") (codes "a") false) ∷ [])))
    ∷ Noted (note.Answer 1 (hex (codes "000000040100000000")))
    ∷ Marked (Picked 1 (Put (Control (hex (codes "000000040100000000")))))
    ∷ Marked (Took 1 (Settings false []) (act.Settings []) NoBlock)
    ∷ Noted (note.Turn 3 (event.Read 1 (preface ++ (hex (codes "00000004000000000000000601040000000183868401016100000a00010000000100112233445566778899")))))
    ∷ Noted (note.Credit 2 0 983041)
    ∷ Noted (note.Answer 2 (preface ++ (hex (codes "00001204000000000000020000000000040000ffff00060000f000"))))
    ∷ Marked (Picked 2 (Put (Control (preface ++ (hex (codes "00001204000000000000020000000000040000ffff00060000f000"))))))
    ∷ Noted (note.Turn 2 (event.Join 2 0))
    ∷ Noted (note.Credit 1 0 983041)
    ∷ Noted (note.Answer 1 (hex (codes "00001204000000000000030000006400040000ffff00060000f000")))
    ∷ Marked (Picked 1 (Put (Control (hex (codes "00001204000000000000030000006400040000ffff00060000f000")))))
    ∷ Noted (note.Turn 1 (event.Accept 1))
    ∷ []

pub meter_and_hold_is_lawful : Lawful config_of_meter_and_hold meter_and_hold
unfolding static_table varint integer reached stay greatest_of placed in_order
meter_and_hold_is_lawful = record {
  lawful = record {
    allowed = search (lit≤, lit<, inl, inr);
    paused = search (lit≤, lit<, inl, inr);
    counted = search (lit≤, lit<, inl, inr);
    bounded = search (lit≤, lit<, inl, inr);
    tied = search (lit≤, lit<, inl, inr);
    ends = search (lit≤, lit<, inl, inr);
    in_turn = search (lit≤, lit<, inl, inr);
    doomed = search (lit≤, lit<, inl, inr);
    swept = search (lit≤, lit<, inl, inr);
    answered = search (lit≤, lit<, inl, inr);
    only = search (lit≤, lit<, inl, inr);
    licensed = search (lit≤, lit<, inl, inr);
    may = search (lit≤, lit<, inl, inr);
    quiet = search (lit≤, lit<, inl, inr);
  };
  quiet = search (lit≤, lit<);
  acts = search;
}

-- a body that passes its Hold's limit is answered by 413
abbrev pub config_of_hold_413 : Config
config_of_hold_413 = record config_of_empty {
  clusters = cluster (codes "a") ∷ [];
  routes = route None None (Some (codes "/")) (codes "a") ((filter.Hold 10) ∷ []) [] ∷ [];
}

abbrev pub hold_413 : WireHistory
hold_413 =
    Noted (note.Gone 1)
    ∷ Noted (note.Head 1 1 (hex (codes "000006010500000001200803343133")))
    ∷ Marked (Picked 1 (Put (Reply 1 413)))
    ∷ Noted (note.Doom 1 cause.TooLarge)
    ∷ Noted (note.Arrive (request 1) (hex (codes "00112233445566778899aa")))
    ∷ Marked (Took 1 (DataFrame 1 true 0 (hex (codes "00112233445566778899aa"))) (act.Body 1 (hex (codes "00112233445566778899aa")) 0 true) NoBlock)
    ∷ Noted (note.Start 1 1 1 2)
    ∷ Marked (Took 1 (Headers 1 false true 0 None (hex (codes "838684010161"))) (act.Head 1 (hex (codes "838684010161")) false) (Fields ((field (codes ":method") (codes "POST") false) ∷ (field (codes ":scheme") (codes "http") false) ∷ (field (codes ":path") (codes "/") false) ∷ (field (codes ":authority") (codes "a") false) ∷ [])))
    ∷ Noted (note.Answer 1 (hex (codes "000000040100000000")))
    ∷ Marked (Picked 1 (Put (Control (hex (codes "000000040100000000")))))
    ∷ Marked (Took 1 (Settings false []) (act.Settings []) NoBlock)
    ∷ Noted (note.Turn 3 (event.Read 1 (preface ++ (hex (codes "00000004000000000000000601040000000183868401016100000b00010000000100112233445566778899aa")))))
    ∷ Noted (note.Credit 2 0 983041)
    ∷ Noted (note.Answer 2 (preface ++ (hex (codes "00001204000000000000020000000000040000ffff00060000f000"))))
    ∷ Marked (Picked 2 (Put (Control (preface ++ (hex (codes "00001204000000000000020000000000040000ffff00060000f000"))))))
    ∷ Noted (note.Turn 2 (event.Join 2 0))
    ∷ Noted (note.Credit 1 0 983041)
    ∷ Noted (note.Answer 1 (hex (codes "00001204000000000000030000006400040000ffff00060000f000")))
    ∷ Marked (Picked 1 (Put (Control (hex (codes "00001204000000000000030000006400040000ffff00060000f000")))))
    ∷ Noted (note.Turn 1 (event.Accept 1))
    ∷ []

pub hold_413_is_lawful : Lawful config_of_hold_413 hold_413
unfolding static_table varint integer reached stay greatest_of placed in_order
hold_413_is_lawful = record {
  lawful = record {
    allowed = search (lit≤, lit<, inl, inr);
    paused = search (lit≤, lit<, inl, inr);
    counted = search (lit≤, lit<, inl, inr);
    bounded = search (lit≤, lit<, inl, inr);
    tied = search (lit≤, lit<, inl, inr);
    ends = search (lit≤, lit<, inl, inr);
    in_turn = search (lit≤, lit<, inl, inr);
    doomed = search (lit≤, lit<, inl, inr);
    swept = search (lit≤, lit<, inl, inr);
    answered = search (lit≤, lit<, inl, inr);
    only = search (lit≤, lit<, inl, inr);
    licensed = search (lit≤, lit<, inl, inr);
    may = search (lit≤, lit<, inl, inr);
    quiet = search (lit≤, lit<, inl, inr);
  };
  quiet = search (lit≤, lit<);
  acts = search;
}

-- a send buffer that holds more than twice its limit gives its exchange up
abbrev pub config_of_overflow : Config
config_of_overflow = record config_of_empty {
  limits = record default_limits { send_buffer = 8; overflow_multiple = 2 };
  clusters = cluster (codes "a") ∷ [];
  routes = route None None (Some (codes "/")) (codes "a") [] [] ∷ [];
}

abbrev pub overflow : WireHistory
overflow =
    Noted (note.Gone 1)
    ∷ Noted (note.Answer 1 (hex (codes "00000403000000000100000000")))
    ∷ Marked (Picked 1 (Put (Control (hex (codes "00000403000000000100000000")))))
    ∷ Noted (note.Head 1 1 (hex (codes "000002010500000001208e")))
    ∷ Marked (Picked 1 (Put (Reply 1 500)))
    ∷ Noted (note.Answer 2 (hex (codes "00000403000000000100000008")))
    ∷ Marked (Picked 2 (Put (Control (hex (codes "00000403000000000100000008")))))
    ∷ Noted (note.Doom 1 cause.Overflow)
    ∷ Noted (note.Pause (request 1) (buffer.Send (request 1)))
    ∷ Noted (note.Move (request 1) 0 17)
    ∷ Noted (note.Arrive (request 1) (replicate 17 170))
    ∷ Marked (Took 1 (DataFrame 1 false 0 (replicate 17 170)) (act.Body 1 (replicate 17 170) 0 false) NoBlock)
    ∷ Noted (note.Turn 4 (event.Read 1 ((hex (codes "000011000000000001")) ++ replicate 17 170)))
    ∷ Noted (note.Resume (request 1) (buffer.Send (request 1)))
    ∷ Noted (note.Frame 2 (request 1) 16 false)
    ∷ Noted (note.Pause (request 1) (buffer.Send (request 1)))
    ∷ Noted (note.Move (request 1) 0 16)
    ∷ Noted (note.Arrive (request 1) (hex (codes "aaaaaaaaaaaaaaaaaaaaaaaaaaaaaaaa")))
    ∷ Marked (Took 1 (DataFrame 1 false 0 (hex (codes "aaaaaaaaaaaaaaaaaaaaaaaaaaaaaaaa"))) (act.Body 1 (hex (codes "aaaaaaaaaaaaaaaaaaaaaaaaaaaaaaaa")) 0 false) NoBlock)
    ∷ Noted (note.Head 2 1 (hex (codes "00000701040000000120838684010161")))
    ∷ Marked (Picked 2 (HeadOf (request 1)))
    ∷ Noted (note.Start 1 1 1 2)
    ∷ Marked (Took 1 (Headers 1 false true 0 None (hex (codes "838684010161"))) (act.Head 1 (hex (codes "838684010161")) false) (Fields ((field (codes ":method") (codes "POST") false) ∷ (field (codes ":scheme") (codes "http") false) ∷ (field (codes ":path") (codes "/") false) ∷ (field (codes ":authority") (codes "a") false) ∷ [])))
    ∷ Noted (note.Answer 1 (hex (codes "000000040100000000")))
    ∷ Marked (Picked 1 (Put (Control (hex (codes "000000040100000000")))))
    ∷ Marked (Took 1 (Settings false []) (act.Settings []) NoBlock)
    ∷ Noted (note.Turn 3 (event.Read 1 (preface ++ (hex (codes "000000040000000000000006010400000001838684010161000010000000000001aaaaaaaaaaaaaaaaaaaaaaaaaaaaaaaa")))))
    ∷ Noted (note.Credit 2 0 983041)
    ∷ Noted (note.Answer 2 (preface ++ (hex (codes "00001204000000000000020000000000040000ffff00060000f000"))))
    ∷ Marked (Picked 2 (Put (Control (preface ++ (hex (codes "00001204000000000000020000000000040000ffff00060000f000"))))))
    ∷ Noted (note.Turn 2 (event.Join 2 0))
    ∷ Noted (note.Credit 1 0 983041)
    ∷ Noted (note.Answer 1 (hex (codes "00001204000000000000030000006400040000ffff00060000f000")))
    ∷ Marked (Picked 1 (Put (Control (hex (codes "00001204000000000000030000006400040000ffff00060000f000")))))
    ∷ Noted (note.Turn 1 (event.Accept 1))
    ∷ []

pub overflow_bounded_14 : AtEachMoment (IsBounded (wire_setup config_of_overflow)) (drop 21 overflow)
unfolding static_table varint integer reached stay greatest_of placed in_order
overflow_bounded_14 = search (lit≤, lit<, inl, inr)

pub overflow_bounded_28 : AtEachMoment (IsBounded (wire_setup config_of_overflow)) (drop 7 overflow)
unfolding static_table varint integer reached stay greatest_of placed in_order
overflow_bounded_28 = search (lit≤, lit<, inl, inr, overflow_bounded_14)

pub overflow_is_lawful : Lawful config_of_overflow overflow
unfolding static_table varint integer reached stay greatest_of placed in_order
overflow_is_lawful = record {
  lawful = record {
    allowed = search (lit≤, lit<, inl, inr);
    paused = search (lit≤, lit<, inl, inr);
    counted = search (lit≤, lit<, inl, inr);
    bounded = search (lit≤, lit<, inl, inr, overflow_bounded_28);
    tied = search (lit≤, lit<, inl, inr);
    ends = search (lit≤, lit<, inl, inr);
    in_turn = search (lit≤, lit<, inl, inr);
    doomed = search (lit≤, lit<, inl, inr);
    swept = search (lit≤, lit<, inl, inr);
    answered = search (lit≤, lit<, inl, inr);
    only = search (lit≤, lit<, inl, inr);
    licensed = search (lit≤, lit<, inl, inr);
    may = search (lit≤, lit<, inl, inr);
    quiet = search (lit≤, lit<, inl, inr);
  };
  quiet = search (lit≤, lit<);
  acts = search;
}
