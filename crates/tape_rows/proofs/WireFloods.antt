-- Lawful tapes of wire sessions: floods.
use Rattle.h2_frames.specs.Frame.{Headers, Ping, Reset, Settings}
use Rattle.h2_session.specs.Preface.{preface}
use Rattle.hpack_codec.specs.Encoding.{integer, varint}
use Rattle.hpack_codec.specs.Table.{static_table}
use Rattle.overload_core.specs.ActionStates.{greatest_of}
use Rattle.overload_core.specs.Course.{reached, stay}
use Rattle.proxy_config.specs.Defaults.{config_of_empty, default_limits}
use Rattle.proxy_config.specs.declared.config.Config.{Config}
use Rattle.scaled_timer.specs.Order.{in_order, placed}
use Rattle.std.proofs.Common.{inl, inr, lit<, lit≤}
use Rattle.std.specs.Prelude.{None, Some, [], codes, false, true, ◌++◌, ◌∷◌}
use Rattle.tape_laws.specs.Flows.{request}
use Rattle.tape_laws.specs.History.{Marked, Noted}
use Rattle.tape_laws.specs.Units.{Control, Farewell, HeadOf, Put}
use Rattle.tape_rows.proofs.WireTapes.{Lawful, cluster, field, hex, route}
use Rattle.wire_laws.specs.Marks.{Fields, NoBlock, Picked, Took, WireHistory}
use Rattle.flow_notes.specs.declared.events.Event.TheVariants as event
use Rattle.flow_rules.specs.declared.causes.Cause.TheVariants as cause
use Rattle.flow_notes.specs.declared.notes.CloseCause.TheVariants as closed
use Rattle.flow_notes.specs.declared.notes.Note.TheVariants as note
use Rattle.h2_session.specs.declared.act.Act.TheVariants as act

-- two PINGs for a list of two units
abbrev pub config_of_flood_of_pings : Config
config_of_flood_of_pings = record config_of_empty {
  limits = record default_limits { write_buffer = 1; connection_window = 65535; control_frames = 2 };
  clusters = cluster (codes "a") ∷ [];
  routes = route None None (Some (codes "/")) (codes "a") [] [] ∷ [];
}

abbrev pub flood_of_pings : WireHistory
flood_of_pings =
    Noted (note.Close 1 11 closed.Flood)
    ∷ Marked (Took 1 (Ping false (hex (codes "0000000000000000"))) (act.Ping (hex (codes "0000000000000000"))) NoBlock)
    ∷ Marked (Took 1 (Ping false (hex (codes "0000000000000000"))) (act.Ping (hex (codes "0000000000000000"))) NoBlock)
    ∷ Marked (Took 1 (Settings false []) (act.Settings []) NoBlock)
    ∷ Noted (note.Turn 2 (event.Read 1 (preface ++ (hex (codes "00000004000000000000000806000000000000000000000000000000080600000000000000000000000000")))))
    ∷ Noted (note.Answer 1 (hex (codes "00001204000000000000030000006400040000ffff00060000f000")))
    ∷ Marked (Picked 1 (Put (Control (hex (codes "00001204000000000000030000006400040000ffff00060000f000")))))
    ∷ Noted (note.Turn 1 (event.Accept 1))
    ∷ []

pub flood_of_pings_is_lawful : Lawful config_of_flood_of_pings flood_of_pings
unfolding static_table varint integer reached stay greatest_of placed in_order
flood_of_pings_is_lawful = record {
  lawful = record {
    allowed = search (lit≤, lit<, inl, inr);
    paused = search (lit≤, lit<, inl, inr);
    counted = search (lit≤, lit<, inl, inr);
    bounded = search (lit≤, lit<, inl, inr);
    tied = search (lit≤, lit<, inl, inr);
    ends = search (lit≤, lit<, inl, inr);
    in_turn = search (lit≤, lit<, inl, inr);
    doomed = search (lit≤, lit<, inl, inr);
    swept = search (lit≤, lit<, inl, inr);
    answered = search (lit≤, lit<, inl, inr);
    only = search (lit≤, lit<, inl, inr);
    licensed = search (lit≤, lit<, inl, inr);
    may = search (lit≤, lit<, inl, inr);
    quiet = search (lit≤, lit<, inl, inr);
  };
  quiet = search (lit≤, lit<);
  acts = search;
}

-- a client that resets two streams where one is allowed
abbrev pub config_of_flood_of_resets : Config
config_of_flood_of_resets = record config_of_empty {
  limits = record default_limits { peer_resets = 1 };
  clusters = cluster (codes "a") ∷ [];
  routes = route None None (Some (codes "/")) (codes "a") [] [] ∷ [];
}

abbrev pub flood_of_resets : WireHistory
flood_of_resets =
    Noted (note.Gone 2)
    ∷ Noted (note.Answer 2 (hex (codes "00000403000000000300000008")))
    ∷ Marked (Picked 2 (Put (Control (hex (codes "00000403000000000300000008")))))
    ∷ Noted (note.Close 1 11 closed.Flood)
    ∷ Noted (note.Answer 1 (hex (codes "000008070000000000000000030000000b")))
    ∷ Marked (Picked 1 (Farewell 11 closed.Flood))
    ∷ Noted (note.Doom 2 (cause.PeerReset 8))
    ∷ Marked (Took 1 (Reset 3 8) (act.PeerReset 3 8) NoBlock)
    ∷ Noted (note.Head 2 3 (hex (codes "000006010500000003828684010161")))
    ∷ Marked (Picked 2 (HeadOf (request 2)))
    ∷ Noted (note.Start 2 1 3 2)
    ∷ Marked (Took 1 (Headers 3 true true 0 None (hex (codes "828684010161"))) (act.Head 3 (hex (codes "828684010161")) true) (Fields ((field (codes ":method") (codes "GET") false) ∷ (field (codes ":scheme") (codes "http") false) ∷ (field (codes ":path") (codes "/") false) ∷ (field (codes ":authority") (codes "a") false) ∷ [])))
    ∷ Noted (note.Turn 5 (event.Read 1 (hex (codes "00000601050000000382868401016100000403000000000300000008"))))
    ∷ Noted (note.Gone 1)
    ∷ Noted (note.Answer 2 (hex (codes "00000403000000000100000008")))
    ∷ Marked (Picked 2 (Put (Control (hex (codes "00000403000000000100000008")))))
    ∷ Noted (note.Doom 1 (cause.PeerReset 8))
    ∷ Marked (Took 1 (Reset 1 8) (act.PeerReset 1 8) NoBlock)
    ∷ Noted (note.Turn 4 (event.Read 1 (hex (codes "00000403000000000100000008"))))
    ∷ Noted (note.Head 2 1 (hex (codes "00000701050000000120828684010161")))
    ∷ Marked (Picked 2 (HeadOf (request 1)))
    ∷ Noted (note.Start 1 1 1 2)
    ∷ Marked (Took 1 (Headers 1 true true 0 None (hex (codes "828684010161"))) (act.Head 1 (hex (codes "828684010161")) true) (Fields ((field (codes ":method") (codes "GET") false) ∷ (field (codes ":scheme") (codes "http") false) ∷ (field (codes ":path") (codes "/") false) ∷ (field (codes ":authority") (codes "a") false) ∷ [])))
    ∷ Noted (note.Answer 1 (hex (codes "000000040100000000")))
    ∷ Marked (Picked 1 (Put (Control (hex (codes "000000040100000000")))))
    ∷ Marked (Took 1 (Settings false []) (act.Settings []) NoBlock)
    ∷ Noted (note.Turn 3 (event.Read 1 (preface ++ (hex (codes "000000040000000000000006010500000001828684010161")))))
    ∷ Noted (note.Credit 2 0 983041)
    ∷ Noted (note.Answer 2 (preface ++ (hex (codes "00001204000000000000020000000000040000ffff00060000f000"))))
    ∷ Marked (Picked 2 (Put (Control (preface ++ (hex (codes "00001204000000000000020000000000040000ffff00060000f000"))))))
    ∷ Noted (note.Turn 2 (event.Join 2 0))
    ∷ Noted (note.Credit 1 0 983041)
    ∷ Noted (note.Answer 1 (hex (codes "00001204000000000000030000006400040000ffff00060000f000")))
    ∷ Marked (Picked 1 (Put (Control (hex (codes "00001204000000000000030000006400040000ffff00060000f000")))))
    ∷ Noted (note.Turn 1 (event.Accept 1))
    ∷ []

pub flood_of_resets_is_lawful : Lawful config_of_flood_of_resets flood_of_resets
unfolding static_table varint integer reached stay greatest_of placed in_order
flood_of_resets_is_lawful = record {
  lawful = record {
    allowed = search (lit≤, lit<, inl, inr);
    paused = search (lit≤, lit<, inl, inr);
    counted = search (lit≤, lit<, inl, inr);
    bounded = search (lit≤, lit<, inl, inr);
    tied = search (lit≤, lit<, inl, inr);
    ends = search (lit≤, lit<, inl, inr);
    in_turn = search (lit≤, lit<, inl, inr);
    doomed = search (lit≤, lit<, inl, inr);
    swept = search (lit≤, lit<, inl, inr);
    answered = search (lit≤, lit<, inl, inr);
    only = search (lit≤, lit<, inl, inr);
    licensed = search (lit≤, lit<, inl, inr);
    may = search (lit≤, lit<, inl, inr);
    quiet = search (lit≤, lit<, inl, inr);
  };
  quiet = search (lit≤, lit<);
  acts = search;
}
