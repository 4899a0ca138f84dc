-- Lawful tapes of wire sessions: goaway.
use Rattle.h2_frames.specs.Frame.{GoAway, Headers, Settings}
use Rattle.h2_session.specs.Preface.{preface}
use Rattle.hpack_codec.specs.Encoding.{integer, varint}
use Rattle.hpack_codec.specs.Table.{static_table}
use Rattle.overload_core.specs.ActionStates.{greatest_of}
use Rattle.overload_core.specs.Course.{reached, stay}
use Rattle.proxy_config.specs.Defaults.{config_of_empty}
use Rattle.proxy_config.specs.declared.config.Config.{Config}
use Rattle.scaled_timer.specs.Order.{in_order, placed}
use Rattle.std.proofs.Common.{inl, inr, lit<, lit≤}
use Rattle.std.specs.Prelude.{None, Some, [], codes, false, true, ◌++◌, ◌∷◌}
use Rattle.tape_laws.specs.Flows.{request, response}
use Rattle.tape_laws.specs.History.{Marked, Noted}
use Rattle.tape_laws.specs.Units.{Control, HeadOf, Put, Reply}
use Rattle.tape_rows.proofs.WireTapes.{Lawful, cluster, field, hex, route}
use Rattle.wire_laws.specs.Marks.{Fields, NoBlock, Picked, Took, WireHistory}
use Rattle.flow_notes.specs.declared.events.Event.TheVariants as event
use Rattle.flow_rules.specs.declared.causes.Cause.TheVariants as cause
use Rattle.flow_notes.specs.declared.notes.CloseCause.TheVariants as closed
use Rattle.flow_notes.specs.declared.notes.Note.TheVariants as note
use Rattle.h2_session.specs.declared.act.Act.TheVariants as act

-- a cluster's GOAWAY keeps the first of two streams
abbrev pub config_of_cluster_leaves : Config
config_of_cluster_leaves = record config_of_empty {
  clusters = cluster (codes "a") ∷ [];
  routes = route None None (Some (codes "/")) (codes "a") [] [] ∷ [];
}

abbrev pub cluster_leaves : WireHistory
cluster_leaves =
    Noted (note.Out 1 100)
    ∷ Noted (note.Turn 6 (event.Room 1 1000))
    ∷ Noted (note.Gone 1)
    ∷ Noted (note.Close 2 0 closed.Drained)
    ∷ Noted (note.Answer 2 (hex (codes "00000403000000000100000008")))
    ∷ Marked (Picked 2 (Put (Control (hex (codes "00000403000000000100000008")))))
    ∷ Noted (note.Answer 1 (hex (codes "00000403000000000100000000")))
    ∷ Marked (Picked 1 (Put (Control (hex (codes "00000403000000000100000000")))))
    ∷ Noted (note.Doom 1 cause.EarlyEnd)
    ∷ Noted (note.Head 1 1 (hex (codes "00000101050000000188")))
    ∷ Marked (Picked 1 (HeadOf (response 1)))
    ∷ Marked (Took 2 (Headers 1 true true 0 None (hex (codes "88"))) (act.Head 1 (hex (codes "88")) true) (Fields ((field (codes ":status") (codes "200") false) ∷ [])))
    ∷ Noted (note.Turn 5 (event.Read 2 (hex (codes "00000101050000000188"))))
    ∷ Noted (note.Gone 2)
    ∷ Noted (note.Answer 1 (hex (codes "00000403000000000300000000")))
    ∷ Marked (Picked 1 (Put (Control (hex (codes "00000403000000000300000000")))))
    ∷ Noted (note.Head 1 3 (hex (codes "000006010500000003200803353032")))
    ∷ Marked (Picked 1 (Put (Reply 3 502)))
    ∷ Noted (note.Doom 2 (cause.ConnLost 2))
    ∷ Marked (Took 2 (GoAway 1 0 []) (act.GoAway 1 0) NoBlock)
    ∷ Noted (note.Answer 2 (hex (codes "000000040100000000")))
    ∷ Marked (Picked 2 (Put (Control (hex (codes "000000040100000000")))))
    ∷ Marked (Took 2 (Settings false []) (act.Settings []) NoBlock)
    ∷ Noted (note.Turn 4 (event.Read 2 (hex (codes "0000000400000000000000080700000000000000000100000000"))))
    ∷ Noted (note.Head 2 3 (hex (codes "000006010400000003838684010161")))
    ∷ Marked (Picked 2 (HeadOf (request 2)))
    ∷ Noted (note.Start 2 1 3 2)
    ∷ Marked (Took 1 (Headers 3 false true 0 None (hex (codes "838684010161"))) (act.Head 3 (hex (codes "838684010161")) false) (Fields ((field (codes ":method") (codes "POST") false) ∷ (field (codes ":scheme") (codes "http") false) ∷ (field (codes ":path") (codes "/") false) ∷ (field (codes ":authority") (codes "a") false) ∷ [])))
    ∷ Noted (note.Head 2 1 (hex (codes "00000701040000000120838684010161")))
    ∷ Marked (Picked 2 (HeadOf (request 1)))
    ∷ Noted (note.Start 1 1 1 2)
    ∷ Marked (Took 1 (Headers 1 false true 0 None (hex (codes "838684010161"))) (act.Head 1 (hex (codes "838684010161")) false) (Fields ((field (codes ":method") (codes "POST") false) ∷ (field (codes ":scheme") (codes "http") false) ∷ (field (codes ":path") (codes "/") false) ∷ (field (codes ":authority") (codes "a") false) ∷ [])))
    ∷ Noted (note.Answer 1 (hex (codes "000000040100000000")))
    ∷ Marked (Picked 1 (Put (Control (hex (codes "000000040100000000")))))
    ∷ Marked (Took 1 (Settings false []) (act.Settings []) NoBlock)
    ∷ Noted (note.Turn 3 (event.Read 1 (preface ++ (hex (codes "000000040000000000000006010400000001838684010161000006010400000003838684010161")))))
    ∷ Noted (note.Credit 2 0 983041)
    ∷ Noted (note.Answer 2 (preface ++ (hex (codes "00001204000000000000020000000000040000ffff00060000f000"))))
    ∷ Marked (Picked 2 (Put (Control (preface ++ (hex (codes "00001204000000000000020000000000040000ffff00060000f000"))))))
    ∷ Noted (note.Turn 2 (event.Join 2 0))
    ∷ Noted (note.Credit 1 0 983041)
    ∷ Noted (note.Answer 1 (hex (codes "00001204000000000000030000006400040000ffff00060000f000")))
    ∷ Marked (Picked 1 (Put (Control (hex (codes "00001204000000000000030000006400040000ffff00060000f000")))))
    ∷ Noted (note.Turn 1 (event.Accept 1))
    ∷ []

pub cluster_leaves_is_lawful : Lawful config_of_cluster_leaves cluster_leaves
unfolding static_table varint integer reached stay greatest_of placed in_order
cluster_leaves_is_lawful = record {
  lawful = record {
    allowed = search (lit≤, lit<, inl, inr);
    paused = search (lit≤, lit<, inl, inr);
    counted = search (lit≤, lit<, inl, inr);
    bounded = (search (lit≤, lit<, inl, inr), (search (lit≤, lit<, inl, inr), (search (lit≤, lit<, inl, inr), (search (lit≤, lit<, inl, inr), (search (lit≤, lit<, inl, inr), (search (lit≤, lit<, inl, inr), (search (lit≤, lit<, inl, inr), (search (lit≤, lit<, inl, inr), (search (lit≤, lit<, inl, inr), (search (lit≤, lit<, inl, inr), (search (lit≤, lit<, inl, inr), (search (lit≤, lit<, inl, inr), (search (lit≤, lit<, inl, inr), (search (lit≤, lit<, inl, inr), (search (lit≤, lit<, inl, inr), (search (lit≤, lit<, inl, inr), (search (lit≤, lit<, inl, inr), (search (lit≤, lit<, inl, inr), (search (lit≤, lit<, inl, inr), (search (lit≤, lit<, inl, inr), (search (lit≤, lit<, inl, inr), (search (lit≤, lit<, inl, inr), (search (lit≤, lit<, inl, inr), (search (lit≤, lit<, inl, inr), (search (lit≤, lit<, inl, inr), (search (lit≤, lit<, inl, inr), (search (lit≤, lit<, inl, inr), (search (lit≤, lit<, inl, inr), (search (lit≤, lit<, inl, inr), (search (lit≤, lit<, inl, inr), (search (lit≤, lit<, inl, inr), (search (lit≤, lit<, inl, inr), (search (lit≤, lit<, inl, inr), (search (lit≤, lit<, inl, inr), (search (lit≤, lit<, inl, inr), (search (lit≤, lit<, inl, inr), (search (lit≤, lit<, inl, inr), (search (lit≤, lit<, inl, inr), (search (lit≤, lit<, inl, inr), (search (lit≤, lit<, inl, inr), (search (lit≤, lit<, inl, inr), (search (lit≤, lit<, inl, inr), (search (lit≤, lit<, inl, inr), (search (lit≤, lit<, inl, inr), search (lit≤, lit<, inl, inr)))))))))))))))))))))))))))))))))))))))))))));
    tied = search (lit≤, lit<, inl, inr);
    ends = search (lit≤, lit<, inl, inr);
    in_turn = search (lit≤, lit<, inl, inr);
    doomed = search (lit≤, lit<, inl, inr);
    swept = search (lit≤, lit<, inl, inr);
    answered = (search (lit≤, lit<, inl, inr), (search (lit≤, lit<, inl, inr), (search (lit≤, lit<, inl, inr), (search (lit≤, lit<, inl, inr), (search (lit≤, lit<, inl, inr), (search (lit≤, lit<, inl, inr), (search (lit≤, lit<, inl, inr), (search (lit≤, lit<, inl, inr), (search (lit≤, lit<, inl, inr), (search (lit≤, lit<, inl, inr), (search (lit≤, lit<, inl, inr), (search (lit≤, lit<, inl, inr), (search (lit≤, lit<, inl, inr), (search (lit≤, lit<, inl, inr), (search (lit≤, lit<, inl, inr), (search (lit≤, lit<, inl, inr), (search (lit≤, lit<, inl, inr), (search (lit≤, lit<, inl, inr), (search (lit≤, lit<, inl, inr), (search (lit≤, lit<, inl, inr), (search (lit≤, lit<, inl, inr), (search (lit≤, lit<, inl, inr), (search (lit≤, lit<, inl, inr), (search (lit≤, lit<, inl, inr), (search (lit≤, lit<, inl, inr), (search (lit≤, lit<, inl, inr), (search (lit≤, lit<, inl, inr), (search (lit≤, lit<, inl, inr), (search (lit≤, lit<, inl, inr), (search (lit≤, lit<, inl, inr), (search (lit≤, lit<, inl, inr), (search (lit≤, lit<, inl, inr), (search (lit≤, lit<, inl, inr), (search (lit≤, lit<, inl, inr), (search (lit≤, lit<, inl, inr), (search (lit≤, lit<, inl, inr), (search (lit≤, lit<, inl, inr), (search (lit≤, lit<, inl, inr), (search (lit≤, lit<, inl, inr), (search (lit≤, lit<, inl, inr), (search (lit≤, lit<, inl, inr), (search (lit≤, lit<, inl, inr), (search (lit≤, lit<, inl, inr), (search (lit≤, lit<, inl, inr), search (lit≤, lit<, inl, inr)))))))))))))))))))))))))))))))))))))))))))));
    only = search (lit≤, lit<, inl, inr);
    licensed = search (lit≤, lit<, inl, inr);
    may = search (lit≤, lit<, inl, inr);
    quiet = (search (lit≤, lit<, inl, inr), (search (lit≤, lit<, inl, inr), (search (lit≤, lit<, inl, inr), (search (lit≤, lit<, inl, inr), (search (lit≤, lit<, inl, inr), (search (lit≤, lit<, inl, inr), (search (lit≤, lit<, inl, inr), (search (lit≤, lit<, inl, inr), (search (lit≤, lit<, inl, inr), (search (lit≤, lit<, inl, inr), (search (lit≤, lit<, inl, inr), (search (lit≤, lit<, inl, inr), (search (lit≤, lit<, inl, inr), (search (lit≤, lit<, inl, inr), (search (lit≤, lit<, inl, inr), (search (lit≤, lit<, inl, inr), (search (lit≤, lit<, inl, inr), (search (lit≤, lit<, inl, inr), (search (lit≤, lit<, inl, inr), (search (lit≤, lit<, inl, inr), (search (lit≤, lit<, inl, inr), (search (lit≤, lit<, inl, inr), (search (lit≤, lit<, inl, inr), (search (lit≤, lit<, inl, inr), (search (lit≤, lit<, inl, inr), (search (lit≤, lit<, inl, inr), (search (lit≤, lit<, inl, inr), (search (lit≤, lit<, inl, inr), (search (lit≤, lit<, inl, inr), (search (lit≤, lit<, inl, inr), (search (lit≤, lit<, inl, inr), (search (lit≤, lit<, inl, inr), (search (lit≤, lit<, inl, inr), (search (lit≤, lit<, inl, inr), (search (lit≤, lit<, inl, inr), (search (lit≤, lit<, inl, inr), (search (lit≤, lit<, inl, inr), (search (lit≤, lit<, inl, inr), (search (lit≤, lit<, inl, inr), (search (lit≤, lit<, inl, inr), (search (lit≤, lit<, inl, inr), (search (lit≤, lit<, inl, inr), (search (lit≤, lit<, inl, inr), (search (lit≤, lit<, inl, inr), search (lit≤, lit<, inl, inr)))))))))))))))))))))))))))))))))))))))))))));
  };
  quiet = search (lit≤, lit<);
  acts = search;
}
