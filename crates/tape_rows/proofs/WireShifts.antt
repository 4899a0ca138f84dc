-- Lawful tapes of wire sessions: shifts.
use Rattle.h2_frames.specs.Frame.{DataFrame, Headers, Settings, WindowUpdate}
use Rattle.h2_session.specs.Preface.{preface}
use Rattle.hpack_codec.specs.Encoding.{integer, varint}
use Rattle.hpack_codec.specs.Table.{static_table}
use Rattle.overload_core.specs.ActionStates.{greatest_of}
use Rattle.overload_core.specs.Course.{reached, stay}
use Rattle.proxy_config.specs.Defaults.{config_of_empty}
use Rattle.proxy_config.specs.declared.config.Config.{Config}
use Rattle.scaled_timer.specs.Order.{in_order, placed}
use Rattle.std.proofs.Common.{inl, inr, lit<, lit≤}
use Rattle.std.specs.Prelude.{None, Some, [], codes, drop, false, true, ◌++◌, ◌∷◌}
use Rattle.tape_laws.specs.Bounds.{IsBounded}
use Rattle.tape_laws.specs.Flows.{request, response}
use Rattle.tape_laws.specs.History.{AtEachMoment, Marked, Noted}
use Rattle.tape_laws.specs.Units.{Control, HeadOf, Put}
use Rattle.tape_rows.proofs.WireTapes.{Lawful, cluster, field, hex, route}
use Rattle.wire_laws.specs.Marks.{Fields, NoBlock, Picked, Took, WireHistory}
use Rattle.wire_rules.specs.WireSetup.{wire_setup}
use Rattle.flow_notes.specs.declared.events.Event.TheVariants as event
use Rattle.flow_notes.specs.declared.notes.Note.TheVariants as note
use Rattle.h2_session.specs.declared.act.Act.TheVariants as act

-- a changed initial window leaves an ended stream alone
abbrev pub config_of_ended_stream_is_not_shifted : Config
config_of_ended_stream_is_not_shifted = record config_of_empty {
  clusters = cluster (codes "a") ∷ [];
  routes = route None None (Some (codes "/")) (codes "a") [] [] ∷ [];
}

abbrev pub ended_stream_is_not_shifted : WireHistory
ended_stream_is_not_shifted =
    Noted (note.Answer 2 (hex (codes "000000040100000000")))
    ∷ Marked (Picked 2 (Put (Control (hex (codes "000000040100000000")))))
    ∷ Marked (Took 2 (Settings false (hex (codes "000400010000"))) (act.Settings (record { id = 4; value = 65536 } ∷ [])) NoBlock)
    ∷ Noted (note.Turn 5 (event.Read 2 (hex (codes "000006040000000000000400010000"))))
    ∷ Noted (note.Move (response 1) 0 5)
    ∷ Noted (note.Arrive (response 1) (hex (codes "aaaaaaaaaa")))
    ∷ Marked (Took 2 (DataFrame 1 true 0 (hex (codes "aaaaaaaaaa"))) (act.Body 1 (hex (codes "aaaaaaaaaa")) 0 true) NoBlock)
    ∷ Marked (Took 2 (WindowUpdate 1 2147418112) (act.WindowUp 1 2147418112) NoBlock)
    ∷ Noted (note.Head 1 1 (hex (codes "0000020104000000012088")))
    ∷ Marked (Picked 1 (HeadOf (response 1)))
    ∷ Marked (Took 2 (Headers 1 false true 0 None (hex (codes "88"))) (act.Head 1 (hex (codes "88")) false) (Fields ((field (codes ":status") (codes "200") false) ∷ [])))
    ∷ Noted (note.Answer 2 (hex (codes "000000040100000000")))
    ∷ Marked (Picked 2 (Put (Control (hex (codes "000000040100000000")))))
    ∷ Marked (Took 2 (Settings false []) (act.Settings []) NoBlock)
    ∷ Noted (note.Turn 4 (event.Read 2 (hex (codes "000000040000000000000001010400000001880000040800000000017fff0000000005000100000001aaaaaaaaaa"))))
    ∷ Noted (note.Head 2 1 (hex (codes "00000701050000000120828684010161")))
    ∷ Marked (Picked 2 (HeadOf (request 1)))
    ∷ Noted (note.Start 1 1 1 2)
    ∷ Marked (Took 1 (Headers 1 true true 0 None (hex (codes "828684010161"))) (act.Head 1 (hex (codes "828684010161")) true) (Fields ((field (codes ":method") (codes "GET") false) ∷ (field (codes ":scheme") (codes "http") false) ∷ (field (codes ":path") (codes "/") false) ∷ (field (codes ":authority") (codes "a") false) ∷ [])))
    ∷ Noted (note.Answer 1 (hex (codes "000000040100000000")))
    ∷ Marked (Picked 1 (Put (Control (hex (codes "000000040100000000")))))
    ∷ Marked (Took 1 (Settings false (hex (codes "000400000000"))) (act.Settings (record { id = 4; value = 0 } ∷ [])) NoBlock)
    ∷ Noted (note.Turn 3 (event.Read 1 (preface ++ (hex (codes "000006040000000000000400000000000006010500000001828684010161")))))
    ∷ Noted (note.Credit 2 0 983041)
    ∷ Noted (note.Answer 2 (preface ++ (hex (codes "00001204000000000000020000000000040000ffff00060000f000"))))
    ∷ Marked (Picked 2 (Put (Control (preface ++ (hex (codes "00001204000000000000020000000000040000ffff00060000f000"))))))
    ∷ Noted (note.Turn 2 (event.Join 2 0))
    ∷ Noted (note.Credit 1 0 983041)
    ∷ Noted (note.Answer 1 (hex (codes "00001204000000000000030000006400040000ffff00060000f000")))
    ∷ Marked (Picked 1 (Put (Control (hex (codes "00001204000000000000030000006400040000ffff00060000f000")))))
    ∷ Noted (note.Turn 1 (event.Accept 1))
    ∷ []

pub ended_stream_is_not_shifted_bounded_14 : AtEachMoment (IsBounded (wire_setup config_of_ended_stream_is_not_shifted)) (drop 17 ended_stream_is_not_shifted)
unfolding static_table varint integer reached stay greatest_of placed in_order
ended_stream_is_not_shifted_bounded_14 = search (lit≤, lit<, inl, inr)

pub ended_stream_is_not_shifted_is_lawful : Lawful config_of_ended_stream_is_not_shifted ended_stream_is_not_shifted
unfolding static_table varint integer reached stay greatest_of placed in_order
ended_stream_is_not_shifted_is_lawful = record {
  lawful = record {
    allowed = search (lit≤, lit<, inl, inr);
    paused = search (lit≤, lit<, inl, inr);
    counted = search (lit≤, lit<, inl, inr);
    bounded = search (lit≤, lit<, inl, inr, ended_stream_is_not_shifted_bounded_14);
    tied = search (lit≤, lit<, inl, inr);
    ends = search (lit≤, lit<, inl, inr);
    in_turn = search (lit≤, lit<, inl, inr);
    doomed = search (lit≤, lit<, inl, inr);
    swept = search (lit≤, lit<, inl, inr);
    answered = search (lit≤, lit<, inl, inr);
    only = search (lit≤, lit<, inl, inr);
    licensed = search (lit≤, lit<, inl, inr);
    may = search (lit≤, lit<, inl, inr);
    quiet = search (lit≤, lit<, inl, inr);
  };
  quiet = search (lit≤, lit<);
  acts = search;
}
