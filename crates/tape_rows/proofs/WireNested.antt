-- Lawful tapes of wire sessions: nested.
use Rattle.h2_frames.specs.Frame.{DataFrame, Headers, Ping, Settings}
use Rattle.h2_session.specs.Preface.{preface}
use Rattle.hpack_codec.specs.Encoding.{integer, varint}
use Rattle.hpack_codec.specs.Table.{static_table}
use Rattle.overload_core.specs.ActionStates.{greatest_of}
use Rattle.overload_core.specs.Course.{reached, stay}
use Rattle.proxy_config.specs.Defaults.{config_of_empty, default_limits}
use Rattle.proxy_config.specs.declared.config.Config.{Config}
use Rattle.scaled_timer.specs.Order.{in_order, placed}
use Rattle.std.proofs.Common.{inl, inr, lit<, lit≤}
use Rattle.std.specs.Prelude.{None, Some, [], codes, false, true, ◌++◌, ◌∷◌}
use Rattle.tape_laws.specs.Flows.{request, response}
use Rattle.tape_laws.specs.History.{Marked, Noted}
use Rattle.tape_laws.specs.Units.{Control, HeadOf, Put}
use Rattle.tape_rows.proofs.WireTapes.{Lawful, cluster, field, hex, route}
use Rattle.wire_laws.specs.Marks.{Fields, NoBlock, Picked, Took, WireHistory}
use Rattle.flow_rules.specs.declared.ids.BufferId.TheVariants as buffer
use Rattle.flow_notes.specs.declared.events.Event.TheVariants as event
use Rattle.flow_rules.specs.declared.causes.Cause.TheVariants as cause
use Rattle.flow_notes.specs.declared.notes.CloseCause.TheVariants as closed
use Rattle.flow_notes.specs.declared.notes.Note.TheVariants as note
use Rattle.h2_session.specs.declared.act.Act.TheVariants as act

-- a doom floods its client, whose close dooms another exchange
abbrev pub config_of_nested_flood : Config
config_of_nested_flood = record config_of_empty {
  limits = record default_limits { write_buffer = 1; connection_window = 65535; control_frames = 2 };
  clusters = cluster (codes "a") ∷ [];
  routes = route None None (Some (codes "/")) (codes "a") [] [] ∷ [];
}

abbrev pub nested_flood : WireHistory
nested_flood =
    Noted (note.Answer 2 (hex (codes "00000403000000000300000008")))
    ∷ Marked (Picked 2 (Put (Control (hex (codes "00000403000000000300000008")))))
    ∷ Noted (note.Out 2 13)
    ∷ Noted (note.Turn 12 (event.Room 2 1000))
    ∷ Noted (note.Gone 2)
    ∷ Noted (note.Gone 1)
    ∷ Noted (note.Answer 2 (hex (codes "00000403000000000100000001")))
    ∷ Marked (Picked 2 (Put (Control (hex (codes "00000403000000000100000001")))))
    ∷ Noted (note.Waste 2 1 1)
    ∷ Noted (note.Doom 2 (cause.ConnLost 1))
    ∷ Noted (note.Close 1 11 closed.Flood)
    ∷ Noted (note.Doom 1 (cause.StreamError 1))
    ∷ Marked (Took 2 (DataFrame 1 false 0 (hex (codes "aa"))) (act.Body 1 (hex (codes "aa")) 0 false) NoBlock)
    ∷ Noted (note.Turn 11 (event.Read 2 (hex (codes "000001000000000001aa"))))
    ∷ Marked (Took 1 (Ping false (hex (codes "0102030405060708"))) (act.Ping (hex (codes "0102030405060708"))) NoBlock)
    ∷ Noted (note.Turn 10 (event.Read 1 (hex (codes "0000080600000000000102030405060708"))))
    ∷ Noted (note.Resume (request 2) (buffer.Write 2))
    ∷ Noted (note.Resume (request 1) (buffer.Write 2))
    ∷ Noted (note.Out 2 15)
    ∷ Noted (note.Turn 9 (event.Room 2 1000))
    ∷ Noted (note.Resume (request 2) (buffer.Write 2))
    ∷ Noted (note.Pause (request 2) (buffer.Write 2))
    ∷ Noted (note.Pause (request 1) (buffer.Write 2))
    ∷ Noted (note.Head 2 3 (hex (codes "000006010400000003838684010161")))
    ∷ Marked (Picked 2 (HeadOf (request 2)))
    ∷ Noted (note.Resume (request 1) (buffer.Write 2))
    ∷ Noted (note.Out 2 16)
    ∷ Noted (note.Turn 8 (event.Room 2 1000))
    ∷ Noted (note.Pause (response 2) (buffer.Write 1))
    ∷ Noted (note.Pause (request 2) (buffer.Write 2))
    ∷ Noted (note.Start 2 1 3 2)
    ∷ Marked (Took 1 (Headers 3 false true 0 None (hex (codes "838684010161"))) (act.Head 3 (hex (codes "838684010161")) false) (Fields ((field (codes ":method") (codes "POST") false) ∷ (field (codes ":scheme") (codes "http") false) ∷ (field (codes ":path") (codes "/") false) ∷ (field (codes ":authority") (codes "a") false) ∷ [])))
    ∷ Noted (note.Pause (request 1) (buffer.Write 2))
    ∷ Noted (note.Head 2 1 (hex (codes "00000701040000000120838684010161")))
    ∷ Marked (Picked 2 (HeadOf (request 1)))
    ∷ Noted (note.Pause (response 1) (buffer.Write 1))
    ∷ Noted (note.Start 1 1 1 2)
    ∷ Marked (Took 1 (Headers 1 false true 0 None (hex (codes "838684010161"))) (act.Head 1 (hex (codes "838684010161")) false) (Fields ((field (codes ":method") (codes "POST") false) ∷ (field (codes ":scheme") (codes "http") false) ∷ (field (codes ":path") (codes "/") false) ∷ (field (codes ":authority") (codes "a") false) ∷ [])))
    ∷ Noted (note.Answer 1 (hex (codes "000000040100000000")))
    ∷ Marked (Picked 1 (Put (Control (hex (codes "000000040100000000")))))
    ∷ Marked (Took 1 (Settings false []) (act.Settings []) NoBlock)
    ∷ Noted (note.Turn 7 (event.Read 1 (preface ++ (hex (codes "000000040000000000000006010400000001838684010161000006010400000003838684010161")))))
    ∷ Noted (note.Out 2 9)
    ∷ Noted (note.Turn 6 (event.Room 2 1000))
    ∷ Noted (note.Answer 2 (hex (codes "000000040100000000")))
    ∷ Marked (Picked 2 (Put (Control (hex (codes "000000040100000000")))))
    ∷ Marked (Took 2 (Settings false []) (act.Settings []) NoBlock)
    ∷ Noted (note.Turn 5 (event.Read 2 (hex (codes "000000040000000000"))))
    ∷ Noted (note.Out 2 51)
    ∷ Noted (note.Turn 4 (event.Room 2 1000))
    ∷ Noted (note.Out 1 27)
    ∷ Noted (note.Turn 3 (event.Room 1 1000))
    ∷ Noted (note.Answer 2 (preface ++ (hex (codes "00001204000000000000020000000000040000ffff00060000f000"))))
    ∷ Marked (Picked 2 (Put (Control (preface ++ (hex (codes "00001204000000000000020000000000040000ffff00060000f000"))))))
    ∷ Noted (note.Turn 2 (event.Join 2 0))
    ∷ Noted (note.Answer 1 (hex (codes "00001204000000000000030000006400040000ffff00060000f000")))
    ∷ Marked (Picked 1 (Put (Control (hex (codes "00001204000000000000030000006400040000ffff00060000f000")))))
    ∷ Noted (note.Turn 1 (event.Accept 1))
    ∷ []

pub nested_flood_is_lawful : Lawful config_of_nested_flood nested_flood
unfolding static_table varint integer reached stay greatest_of placed in_order
nested_flood_is_lawful = record {
  lawful = record {
    allowed = search (lit≤, lit<, inl, inr);
    paused = search (lit≤, lit<, inl, inr);
    counted = (search (lit≤, lit<, inl, inr), (search (lit≤, lit<, inl, inr), (search (lit≤, lit<, inl, inr), (search (lit≤, lit<, inl, inr), (search (lit≤, lit<, inl, inr), (search (lit≤, lit<, inl, inr), (search (lit≤, lit<, inl, inr), (search (lit≤, lit<, inl, inr), (search (lit≤, lit<, inl, inr), (search (lit≤, lit<, inl, inr), (search (lit≤, lit<, inl, inr), (search (lit≤, lit<, inl, inr), (search (lit≤, lit<, inl, inr), (search (lit≤, lit<, inl, inr), (search (lit≤, lit<, inl, inr), (search (lit≤, lit<, inl, inr), (search (lit≤, lit<, inl, inr), (search (lit≤, lit<, inl, inr), (search (lit≤, lit<, inl, inr), (search (lit≤, lit<, inl, inr), (search (lit≤, lit<, inl, inr), (search (lit≤, lit<, inl, inr), (search (lit≤, lit<, inl, inr), (search (lit≤, lit<, inl, inr), (search (lit≤, lit<, inl, inr), (search (lit≤, lit<, inl, inr), (search (lit≤, lit<, inl, inr), (search (lit≤, lit<, inl, inr), (search (lit≤, lit<, inl, inr), (search (lit≤, lit<, inl, inr), (search (lit≤, lit<, inl, inr), (search (lit≤, lit<, inl, inr), (search (lit≤, lit<, inl, inr), (search (lit≤, lit<, inl, inr), (search (lit≤, lit<, inl, inr), (search (lit≤, lit<, inl, inr), (search (lit≤, lit<, inl, inr), (search (lit≤, lit<, inl, inr), (search (lit≤, lit<, inl, inr), (search (lit≤, lit<, inl, inr), (search (lit≤, lit<, inl, inr), (search (lit≤, lit<, inl, inr), (search (lit≤, lit<, inl, inr), (search (lit≤, lit<, inl, inr), (search (lit≤, lit<, inl, inr), (search (lit≤, lit<, inl, inr), (search (lit≤, lit<, inl, inr), (search (lit≤, lit<, inl, inr), (search (lit≤, lit<, inl, inr), (search (lit≤, lit<, inl, inr), (search (lit≤, lit<, inl, inr), (search (lit≤, lit<, inl, inr), (search (lit≤, lit<, inl, inr), (search (lit≤, lit<, inl, inr), (search (lit≤, lit<, inl, inr), (search (lit≤, lit<, inl, inr), (search (lit≤, lit<, inl, inr), (search (lit≤, lit<, inl, inr), search (lit≤, lit<, inl, inr)))))))))))))))))))))))))))))))))))))))))))))))))))))))))));
    bounded = (search (lit≤, lit<, inl, inr), (search (lit≤, lit<, inl, inr), (search (lit≤, lit<, inl, inr), (search (lit≤, lit<, inl, inr), (search (lit≤, lit<, inl, inr), (search (lit≤, lit<, inl, inr), (search (lit≤, lit<, inl, inr), (search (lit≤, lit<, inl, inr), (search (lit≤, lit<, inl, inr), (search (lit≤, lit<, inl, inr), (search (lit≤, lit<, inl, inr), (search (lit≤, lit<, inl, inr), (search (lit≤, lit<, inl, inr), (search (lit≤, lit<, inl, inr), (search (lit≤, lit<, inl, inr), (search (lit≤, lit<, inl, inr), (search (lit≤, lit<, inl, inr), (search (lit≤, lit<, inl, inr), (search (lit≤, lit<, inl, inr), (search (lit≤, lit<, inl, inr), (search (lit≤, lit<, inl, inr), (search (lit≤, lit<, inl, inr), (search (lit≤, lit<, inl, inr), (search (lit≤, lit<, inl, inr), (search (lit≤, lit<, inl, inr), (search (lit≤, lit<, inl, inr), (search (lit≤, lit<, inl, inr), (search (lit≤, lit<, inl, inr), (search (lit≤, lit<, inl, inr), (search (lit≤, lit<, inl, inr), (search (lit≤, lit<, inl, inr), (search (lit≤, lit<, inl, inr), (search (lit≤, lit<, inl, inr), (search (lit≤, lit<, inl, inr), (search (lit≤, lit<, inl, inr), (search (lit≤, lit<, inl, inr), (search (lit≤, lit<, inl, inr), (search (lit≤, lit<, inl, inr), (search (lit≤, lit<, inl, inr), (search (lit≤, lit<, inl, inr), (search (lit≤, lit<, inl, inr), (search (lit≤, lit<, inl, inr), (search (lit≤, lit<, inl, inr), (search (lit≤, lit<, inl, inr), (search (lit≤, lit<, inl, inr), (search (lit≤, lit<, inl, inr), (search (lit≤, lit<, inl, inr), (search (lit≤, lit<, inl, inr), (search (lit≤, lit<, inl, inr), (search (lit≤, lit<, inl, inr), (search (lit≤, lit<, inl, inr), (search (lit≤, lit<, inl, inr), (search (lit≤, lit<, inl, inr), (search (lit≤, lit<, inl, inr), (search (lit≤, lit<, inl, inr), (search (lit≤, lit<, inl, inr), (search (lit≤, lit<, inl, inr), (search (lit≤, lit<, inl, inr), search (lit≤, lit<, inl, inr)))))))))))))))))))))))))))))))))))))))))))))))))))))))))));
    tied = (search (lit≤, lit<, inl, inr), (search (lit≤, lit<, inl, inr), (search (lit≤, lit<, inl, inr), (search (lit≤, lit<, inl, inr), (search (lit≤, lit<, inl, inr), (search (lit≤, lit<, inl, inr), (search (lit≤, lit<, inl, inr), (search (lit≤, lit<, inl, inr), (search (lit≤, lit<, inl, inr), (search (lit≤, lit<, inl, inr), (search (lit≤, lit<, inl, inr), (search (lit≤, lit<, inl, inr), (search (lit≤, lit<, inl, inr), (search (lit≤, lit<, inl, inr), (search (lit≤, lit<, inl, inr), (search (lit≤, lit<, inl, inr), (search (lit≤, lit<, inl, inr), (search (lit≤, lit<, inl, inr), (search (lit≤, lit<, inl, inr), (search (lit≤, lit<, inl, inr), (search (lit≤, lit<, inl, inr), (search (lit≤, lit<, inl, inr), (search (lit≤, lit<, inl, inr), (search (lit≤, lit<, inl, inr), (search (lit≤, lit<, inl, inr), (search (lit≤, lit<, inl, inr), (search (lit≤, lit<, inl, inr), (search (lit≤, lit<, inl, inr), (search (lit≤, lit<, inl, inr), (search (lit≤, lit<, inl, inr), (search (lit≤, lit<, inl, inr), (search (lit≤, lit<, inl, inr), (search (lit≤, lit<, inl, inr), (search (lit≤, lit<, inl, inr), (search (lit≤, lit<, inl, inr), (search (lit≤, lit<, inl, inr), (search (lit≤, lit<, inl, inr), (search (lit≤, lit<, inl, inr), (search (lit≤, lit<, inl, inr), (search (lit≤, lit<, inl, inr), (search (lit≤, lit<, inl, inr), (search (lit≤, lit<, inl, inr), (search (lit≤, lit<, inl, inr), (search (lit≤, lit<, inl, inr), (search (lit≤, lit<, inl, inr), (search (lit≤, lit<, inl, inr), (search (lit≤, lit<, inl, inr), (search (lit≤, lit<, inl, inr), (search (lit≤, lit<, inl, inr), (search (lit≤, lit<, inl, inr), (search (lit≤, lit<, inl, inr), (search (lit≤, lit<, inl, inr), (search (lit≤, lit<, inl, inr), (search (lit≤, lit<, inl, inr), (search (lit≤, lit<, inl, inr), (search (lit≤, lit<, inl, inr), (search (lit≤, lit<, inl, inr), (search (lit≤, lit<, inl, inr), search (lit≤, lit<, inl, inr)))))))))))))))))))))))))))))))))))))))))))))))))))))))))));
    ends = search (lit≤, lit<, inl, inr);
    in_turn = search (lit≤, lit<, inl, inr);
    doomed = search (lit≤, lit<, inl, inr);
    swept = search (lit≤, lit<, inl, inr);
    answered = (search (lit≤, lit<, inl, inr), (search (lit≤, lit<, inl, inr), (search (lit≤, lit<, inl, inr), (search (lit≤, lit<, inl, inr), (search (lit≤, lit<, inl, inr), (search (lit≤, lit<, inl, inr), (search (lit≤, lit<, inl, inr), (search (lit≤, lit<, inl, inr), (search (lit≤, lit<, inl, inr), (search (lit≤, lit<, inl, inr), (search (lit≤, lit<, inl, inr), (search (lit≤, lit<, inl, inr), (search (lit≤, lit<, inl, inr), (search (lit≤, lit<, inl, inr), (search (lit≤, lit<, inl, inr), (search (lit≤, lit<, inl, inr), (search (lit≤, lit<, inl, inr), (search (lit≤, lit<, inl, inr), (search (lit≤, lit<, inl, inr), (search (lit≤, lit<, inl, inr), (search (lit≤, lit<, inl, inr), (search (lit≤, lit<, inl, inr), (search (lit≤, lit<, inl, inr), (search (lit≤, lit<, inl, inr), (search (lit≤, lit<, inl, inr), (search (lit≤, lit<, inl, inr), (search (lit≤, lit<, inl, inr), (search (lit≤, lit<, inl, inr), (search (lit≤, lit<, inl, inr), (search (lit≤, lit<, inl, inr), (search (lit≤, lit<, inl, inr), (search (lit≤, lit<, inl, inr), (search (lit≤, lit<, inl, inr), (search (lit≤, lit<, inl, inr), (search (lit≤, lit<, inl, inr), (search (lit≤, lit<, inl, inr), (search (lit≤, lit<, inl, inr), (search (lit≤, lit<, inl, inr), (search (lit≤, lit<, inl, inr), (search (lit≤, lit<, inl, inr), (search (lit≤, lit<, inl, inr), (search (lit≤, lit<, inl, inr), (search (lit≤, lit<, inl, inr), (search (lit≤, lit<, inl, inr), (search (lit≤, lit<, inl, inr), (search (lit≤, lit<, inl, inr), (search (lit≤, lit<, inl, inr), (search (lit≤, lit<, inl, inr), (search (lit≤, lit<, inl, inr), (search (lit≤, lit<, inl, inr), (search (lit≤, lit<, inl, inr), (search (lit≤, lit<, inl, inr), (search (lit≤, lit<, inl, inr), (search (lit≤, lit<, inl, inr), (search (lit≤, lit<, inl, inr), (search (lit≤, lit<, inl, inr), (search (lit≤, lit<, inl, inr), (search (lit≤, lit<, inl, inr), search (lit≤, lit<, inl, inr)))))))))))))))))))))))))))))))))))))))))))))))))))))))))));
    only = search (lit≤, lit<, inl, inr);
    licensed = search (lit≤, lit<, inl, inr);
    may = (search (lit≤, lit<, inl, inr), (search (lit≤, lit<, inl, inr), (search (lit≤, lit<, inl, inr), (search (lit≤, lit<, inl, inr), (search (lit≤, lit<, inl, inr), (search (lit≤, lit<, inl, inr), (search (lit≤, lit<, inl, inr), (search (lit≤, lit<, inl, inr), (search (lit≤, lit<, inl, inr), (search (lit≤, lit<, inl, inr), (search (lit≤, lit<, inl, inr), (search (lit≤, lit<, inl, inr), (search (lit≤, lit<, inl, inr), (search (lit≤, lit<, inl, inr), (search (lit≤, lit<, inl, inr), (search (lit≤, lit<, inl, inr), (search (lit≤, lit<, inl, inr), (search (lit≤, lit<, inl, inr), (search (lit≤, lit<, inl, inr), (search (lit≤, lit<, inl, inr), (search (lit≤, lit<, inl, inr), (search (lit≤, lit<, inl, inr), (search (lit≤, lit<, inl, inr), (search (lit≤, lit<, inl, inr), (search (lit≤, lit<, inl, inr), (search (lit≤, lit<, inl, inr), (search (lit≤, lit<, inl, inr), (search (lit≤, lit<, inl, inr), (search (lit≤, lit<, inl, inr), (search (lit≤, lit<, inl, inr), (search (lit≤, lit<, inl, inr), (search (lit≤, lit<, inl, inr), (search (lit≤, lit<, inl, inr), (search (lit≤, lit<, inl, inr), (search (lit≤, lit<, inl, inr), (search (lit≤, lit<, inl, inr), (search (lit≤, lit<, inl, inr), (search (lit≤, lit<, inl, inr), (search (lit≤, lit<, inl, inr), (search (lit≤, lit<, inl, inr), (search (lit≤, lit<, inl, inr), (search (lit≤, lit<, inl, inr), (search (lit≤, lit<, inl, inr), (search (lit≤, lit<, inl, inr), (search (lit≤, lit<, inl, inr), (search (lit≤, lit<, inl, inr), (search (lit≤, lit<, inl, inr), (search (lit≤, lit<, inl, inr), (search (lit≤, lit<, inl, inr), (search (lit≤, lit<, inl, inr), (search (lit≤, lit<, inl, inr), (search (lit≤, lit<, inl, inr), (search (lit≤, lit<, inl, inr), (search (lit≤, lit<, inl, inr), (search (lit≤, lit<, inl, inr), (search (lit≤, lit<, inl, inr), (search (lit≤, lit<, inl, inr), (search (lit≤, lit<, inl, inr), search (lit≤, lit<, inl, inr)))))))))))))))))))))))))))))))))))))))))))))))))))))))))));
    quiet = (search (lit≤, lit<, inl, inr), (search (lit≤, lit<, inl, inr), (search (lit≤, lit<, inl, inr), (search (lit≤, lit<, inl, inr), (search (lit≤, lit<, inl, inr), (search (lit≤, lit<, inl, inr), (search (lit≤, lit<, inl, inr), (search (lit≤, lit<, inl, inr), (search (lit≤, lit<, inl, inr), (search (lit≤, lit<, inl, inr), (search (lit≤, lit<, inl, inr), (search (lit≤, lit<, inl, inr), (search (lit≤, lit<, inl, inr), (search (lit≤, lit<, inl, inr), (search (lit≤, lit<, inl, inr), (search (lit≤, lit<, inl, inr), (search (lit≤, lit<, inl, inr), (search (lit≤, lit<, inl, inr), (search (lit≤, lit<, inl, inr), (search (lit≤, lit<, inl, inr), (search (lit≤, lit<, inl, inr), (search (lit≤, lit<, inl, inr), (search (lit≤, lit<, inl, inr), (search (lit≤, lit<, inl, inr), (search (lit≤, lit<, inl, inr), (search (lit≤, lit<, inl, inr), (search (lit≤, lit<, inl, inr), (search (lit≤, lit<, inl, inr), (search (lit≤, lit<, inl, inr), (search (lit≤, lit<, inl, inr), (search (lit≤, lit<, inl, inr), (search (lit≤, lit<, inl, inr), (search (lit≤, lit<, inl, inr), (search (lit≤, lit<, inl, inr), (search (lit≤, lit<, inl, inr), (search (lit≤, lit<, inl, inr), (search (lit≤, lit<, inl, inr), (search (lit≤, lit<, inl, inr), (search (lit≤, lit<, inl, inr), (search (lit≤, lit<, inl, inr), (search (lit≤, lit<, inl, inr), (search (lit≤, lit<, inl, inr), (search (lit≤, lit<, inl, inr), (search (lit≤, lit<, inl, inr), (search (lit≤, lit<, inl, inr), (search (lit≤, lit<, inl, inr), (search (lit≤, lit<, inl, inr), (search (lit≤, lit<, inl, inr), (search (lit≤, lit<, inl, inr), (search (lit≤, lit<, inl, inr), (search (lit≤, lit<, inl, inr), (search (lit≤, lit<, inl, inr), (search (lit≤, lit<, inl, inr), (search (lit≤, lit<, inl, inr), (search (lit≤, lit<, inl, inr), (search (lit≤, lit<, inl, inr), (search (lit≤, lit<, inl, inr), (search (lit≤, lit<, inl, inr), search (lit≤, lit<, inl, inr)))))))))))))))))))))))))))))))))))))))))))))))))))))))))));
  };
  quiet = search (lit≤, lit<);
  acts = search;
}

-- a doom puts all its units at once
abbrev pub config_of_doom_puts_all_at_once : Config
config_of_doom_puts_all_at_once = record config_of_empty {
  limits = record default_limits { write_buffer = 30; control_frames = 3 };
  clusters = cluster (codes "a") ∷ [];
  routes = route None None (Some (codes "/")) (codes "a") [] [] ∷ [];
}

abbrev pub doom_puts_all_at_once : WireHistory
doom_puts_all_at_once =
    Noted (note.Turn 8 (event.Room 3 1000))
    ∷ Noted (note.Out 3 35)
    ∷ Noted (note.Turn 7 (event.Room 3 1000))
    ∷ Noted (note.Gone 2)
    ∷ Noted (note.Gone 1)
    ∷ Noted (note.Answer 3 (hex (codes "00000403000000000300000008")))
    ∷ Marked (Picked 3 (Put (Control (hex (codes "00000403000000000300000008")))))
    ∷ Noted (note.Answer 3 (hex (codes "00000403000000000100000001")))
    ∷ Marked (Picked 3 (Put (Control (hex (codes "00000403000000000100000001")))))
    ∷ Noted (note.Waste 3 1 5)
    ∷ Noted (note.Doom 2 (cause.ConnLost 1))
    ∷ Noted (note.Close 1 11 closed.Flood)
    ∷ Noted (note.Doom 1 (cause.StreamError 1))
    ∷ Marked (Took 3 (DataFrame 1 false 0 (hex (codes "68656c6c6f"))) (act.Body 1 (hex (codes "68656c6c6f")) 0 false) NoBlock)
    ∷ Noted (note.Answer 3 (hex (codes "000000040100000000")))
    ∷ Marked (Picked 3 (Put (Control (hex (codes "000000040100000000")))))
    ∷ Marked (Took 3 (Settings false []) (act.Settings []) NoBlock)
    ∷ Noted (note.Turn 6 (event.Read 3 (hex (codes "00000004000000000000000500000000000168656c6c6f"))))
    ∷ Noted (note.Resume (request 2) (buffer.Write 3))
    ∷ Noted (note.Resume (request 1) (buffer.Write 3))
    ∷ Noted (note.Out 3 38)
    ∷ Noted (note.Turn 5 (event.Room 3 1000))
    ∷ Noted (note.Pause (request 2) (buffer.Write 3))
    ∷ Noted (note.Pause (request 1) (buffer.Write 3))
    ∷ Noted (note.Head 3 3 (hex (codes "000003010400000003838684")))
    ∷ Marked (Picked 3 (HeadOf (request 2)))
    ∷ Noted (note.Pause (response 2) (buffer.Write 1))
    ∷ Noted (note.Start 2 1 3 3)
    ∷ Marked (Took 1 (Headers 3 false true 0 None (hex (codes "20838684"))) (act.Head 3 (hex (codes "20838684")) false) (Fields ((field (codes ":method") (codes "POST") false) ∷ (field (codes ":scheme") (codes "http") false) ∷ (field (codes ":path") (codes "/") false) ∷ [])))
    ∷ Noted (note.Head 3 1 (hex (codes "00000401040000000120838684")))
    ∷ Marked (Picked 3 (HeadOf (request 1)))
    ∷ Noted (note.Pause (response 1) (buffer.Write 1))
    ∷ Noted (note.Start 1 1 1 3)
    ∷ Marked (Took 1 (Headers 1 false true 0 None (hex (codes "20838684"))) (act.Head 1 (hex (codes "20838684")) false) (Fields ((field (codes ":method") (codes "POST") false) ∷ (field (codes ":scheme") (codes "http") false) ∷ (field (codes ":path") (codes "/") false) ∷ [])))
    ∷ Marked (Took 1 (Ping false (hex (codes "0000000000000000"))) (act.Ping (hex (codes "0000000000000000"))) NoBlock)
    ∷ Marked (Took 1 (Settings false []) (act.Settings []) NoBlock)
    ∷ Noted (note.Turn 4 (event.Read 1 (preface ++ (hex (codes "00000004000000000000000806000000000000000000000000000000040104000000012083868400000401040000000320838684")))))
    ∷ Noted (note.Credit 3 0 983041)
    ∷ Noted (note.Out 3 51)
    ∷ Noted (note.Turn 3 (event.Room 3 1000))
    ∷ Noted (note.Answer 3 (preface ++ (hex (codes "00001204000000000000020000000000040000ffff00060000f000"))))
    ∷ Marked (Picked 3 (Put (Control (preface ++ (hex (codes "00001204000000000000020000000000040000ffff00060000f000"))))))
    ∷ Noted (note.Turn 2 (event.Join 3 0))
    ∷ Noted (note.Credit 1 0 983041)
    ∷ Noted (note.Answer 1 (hex (codes "00001204000000000000030000006400040000ffff00060000f000")))
    ∷ Marked (Picked 1 (Put (Control (hex (codes "00001204000000000000030000006400040000ffff00060000f000")))))
    ∷ Noted (note.Turn 1 (event.Accept 1))
    ∷ []

pub doom_puts_all_at_once_is_lawful : Lawful config_of_doom_puts_all_at_once doom_puts_all_at_once
unfolding static_table varint integer reached stay greatest_of placed in_order
doom_puts_all_at_once_is_lawful = record {
  lawful = record {
    allowed = search (lit≤, lit<, inl, inr);
    paused = search (lit≤, lit<, inl, inr);
    counted = search (lit≤, lit<, inl, inr);
    bounded = (search (lit≤, lit<, inl, inr), (search (lit≤, lit<, inl, inr), (search (lit≤, lit<, inl, inr), (search (lit≤, lit<, inl, inr), (search (lit≤, lit<, inl, inr), (search (lit≤, lit<, inl, inr), (search (lit≤, lit<, inl, inr), (search (lit≤, lit<, inl, inr), (search (lit≤, lit<, inl, inr), (search (lit≤, lit<, inl, inr), (search (lit≤, lit<, inl, inr), (search (lit≤, lit<, inl, inr), (search (lit≤, lit<, inl, inr), (search (lit≤, lit<, inl, inr), (search (lit≤, lit<, inl, inr), (search (lit≤, lit<, inl, inr), (search (lit≤, lit<, inl, inr), (search (lit≤, lit<, inl, inr), (search (lit≤, lit<, inl, inr), (search (lit≤, lit<, inl, inr), (search (lit≤, lit<, inl, inr), (search (lit≤, lit<, inl, inr), (search (lit≤, lit<, inl, inr), (search (lit≤, lit<, inl, inr), (search (lit≤, lit<, inl, inr), (search (lit≤, lit<, inl, inr), (search (lit≤, lit<, inl, inr), (search (lit≤, lit<, inl, inr), (search (lit≤, lit<, inl, inr), (search (lit≤, lit<, inl, inr), (search (lit≤, lit<, inl, inr), (search (lit≤, lit<, inl, inr), (search (lit≤, lit<, inl, inr), (search (lit≤, lit<, inl, inr), (search (lit≤, lit<, inl, inr), (search (lit≤, lit<, inl, inr), (search (lit≤, lit<, inl, inr), (search (lit≤, lit<, inl, inr), (search (lit≤, lit<, inl, inr), (search (lit≤, lit<, inl, inr), (search (lit≤, lit<, inl, inr), (search (lit≤, lit<, inl, inr), (search (lit≤, lit<, inl, inr), (search (lit≤, lit<, inl, inr), (search (lit≤, lit<, inl, inr), (search (lit≤, lit<, inl, inr), (search (lit≤, lit<, inl, inr), search (lit≤, lit<, inl, inr))))))))))))))))))))))))))))))))))))))))))))))));
    tied = search (lit≤, lit<, inl, inr);
    ends = search (lit≤, lit<, inl, inr);
    in_turn = search (lit≤, lit<, inl, inr);
    doomed = search (lit≤, lit<, inl, inr);
    swept = search (lit≤, lit<, inl, inr);
    answered = (search (lit≤, lit<, inl, inr), (search (lit≤, lit<, inl, inr), (search (lit≤, lit<, inl, inr), (search (lit≤, lit<, inl, inr), (search (lit≤, lit<, inl, inr), (search (lit≤, lit<, inl, inr), (search (lit≤, lit<, inl, inr), (search (lit≤, lit<, inl, inr), (search (lit≤, lit<, inl, inr), (search (lit≤, lit<, inl, inr), (search (lit≤, lit<, inl, inr), (search (lit≤, lit<, inl, inr), (search (lit≤, lit<, inl, inr), (search (lit≤, lit<, inl, inr), (search (lit≤, lit<, inl, inr), (search (lit≤, lit<, inl, inr), (search (lit≤, lit<, inl, inr), (search (lit≤, lit<, inl, inr), (search (lit≤, lit<, inl, inr), (search (lit≤, lit<, inl, inr), (search (lit≤, lit<, inl, inr), (search (lit≤, lit<, inl, inr), (search (lit≤, lit<, inl, inr), (search (lit≤, lit<, inl, inr), (search (lit≤, lit<, inl, inr), (search (lit≤, lit<, inl, inr), (search (lit≤, lit<, inl, inr), (search (lit≤, lit<, inl, inr), (search (lit≤, lit<, inl, inr), (search (lit≤, lit<, inl, inr), (search (lit≤, lit<, inl, inr), (search (lit≤, lit<, inl, inr), (search (lit≤, lit<, inl, inr), (search (lit≤, lit<, inl, inr), (search (lit≤, lit<, inl, inr), (search (lit≤, lit<, inl, inr), (search (lit≤, lit<, inl, inr), (search (lit≤, lit<, inl, inr), (search (lit≤, lit<, inl, inr), (search (lit≤, lit<, inl, inr), (search (lit≤, lit<, inl, inr), (search (lit≤, lit<, inl, inr), (search (lit≤, lit<, inl, inr), (search (lit≤, lit<, inl, inr), (search (lit≤, lit<, inl, inr), (search (lit≤, lit<, inl, inr), (search (lit≤, lit<, inl, inr), search (lit≤, lit<, inl, inr))))))))))))))))))))))))))))))))))))))))))))))));
    only = search (lit≤, lit<, inl, inr);
    licensed = search (lit≤, lit<, inl, inr);
    may = search (lit≤, lit<, inl, inr);
    quiet = (search (lit≤, lit<, inl, inr), (search (lit≤, lit<, inl, inr), (search (lit≤, lit<, inl, inr), (search (lit≤, lit<, inl, inr), (search (lit≤, lit<, inl, inr), (search (lit≤, lit<, inl, inr), (search (lit≤, lit<, inl, inr), (search (lit≤, lit<, inl, inr), (search (lit≤, lit<, inl, inr), (search (lit≤, lit<, inl, inr), (search (lit≤, lit<, inl, inr), (search (lit≤, lit<, inl, inr), (search (lit≤, lit<, inl, inr), (search (lit≤, lit<, inl, inr), (search (lit≤, lit<, inl, inr), (search (lit≤, lit<, inl, inr), (search (lit≤, lit<, inl, inr), (search (lit≤, lit<, inl, inr), (search (lit≤, lit<, inl, inr), (search (lit≤, lit<, inl, inr), (search (lit≤, lit<, inl, inr), (search (lit≤, lit<, inl, inr), (search (lit≤, lit<, inl, inr), (search (lit≤, lit<, inl, inr), (search (lit≤, lit<, inl, inr), (search (lit≤, lit<, inl, inr), (search (lit≤, lit<, inl, inr), (search (lit≤, lit<, inl, inr), (search (lit≤, lit<, inl, inr), (search (lit≤, lit<, inl, inr), (search (lit≤, lit<, inl, inr), (search (lit≤, lit<, inl, inr), (search (lit≤, lit<, inl, inr), (search (lit≤, lit<, inl, inr), (search (lit≤, lit<, inl, inr), (search (lit≤, lit<, inl, inr), (search (lit≤, lit<, inl, inr), (search (lit≤, lit<, inl, inr), (search (lit≤, lit<, inl, inr), (search (lit≤, lit<, inl, inr), (search (lit≤, lit<, inl, inr), (search (lit≤, lit<, inl, inr), (search (lit≤, lit<, inl, inr), (search (lit≤, lit<, inl, inr), (search (lit≤, lit<, inl, inr), (search (lit≤, lit<, inl, inr), (search (lit≤, lit<, inl, inr), search (lit≤, lit<, inl, inr))))))))))))))))))))))))))))))))))))))))))))))));
  };
  quiet = search (lit≤, lit<);
  acts = search;
}
