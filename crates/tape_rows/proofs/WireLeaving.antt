-- Lawful tapes of wire sessions: leaving.
use Rattle.h2_frames.specs.Frame.{DataFrame, Headers, Settings}
use Rattle.h2_session.specs.Preface.{preface}
use Rattle.hpack_codec.specs.Encoding.{integer, varint}
use Rattle.hpack_codec.specs.Table.{static_table}
use Rattle.overload_core.specs.ActionStates.{greatest_of}
use Rattle.overload_core.specs.Course.{reached, stay}
use Rattle.proxy_config.specs.Defaults.{config_of_empty, default_limits}
use Rattle.proxy_config.specs.declared.config.Config.{Config}
use Rattle.scaled_timer.specs.Order.{in_order, placed}
use Rattle.std.proofs.Common.{inl, inr, lit<, lit≤}
use Rattle.std.specs.Prelude.{None, Some, [], codes, false, true, ◌++◌, ◌∷◌}
use Rattle.tape_laws.specs.Flows.{request}
use Rattle.tape_laws.specs.History.{Marked, Noted}
use Rattle.tape_laws.specs.Units.{Control, HeadOf, Put, Reply}
use Rattle.tape_rows.proofs.WireTapes.{Lawful, cluster, field, hex, route}
use Rattle.wire_laws.specs.Marks.{Drains, Fields, NoBlock, Picked, Took, WireHistory}
use Rattle.flow_rules.specs.declared.ids.BufferId.TheVariants as buffer
use Rattle.flow_notes.specs.declared.events.Event.TheVariants as event
use Rattle.flow_notes.specs.declared.events.Job.TheVariants as job
use Rattle.flow_rules.specs.declared.causes.Cause.TheVariants as cause
use Rattle.flow_notes.specs.declared.notes.CloseCause.TheVariants as closed
use Rattle.flow_notes.specs.declared.notes.Note.TheVariants as note
use Rattle.h2_session.specs.declared.act.Act.TheVariants as act

-- both connections are lost
abbrev pub config_of_lost : Config
config_of_lost = record config_of_empty {
  limits = record default_limits { write_buffer = 60 };
  clusters = cluster (codes "a") ∷ [];
  routes = route None None (Some (codes "/")) (codes "a") [] [] ∷ [];
}

abbrev pub lost : WireHistory
lost =
    Noted (note.Close 1 0 closed.Lost)
    ∷ Noted (note.Turn 5 (event.Gone 1))
    ∷ Noted (note.Gone 1)
    ∷ Noted (note.Head 1 1 (hex (codes "000006010500000001200803353032")))
    ∷ Marked (Picked 1 (Put (Reply 1 502)))
    ∷ Noted (note.Doom 1 (cause.ConnLost 2))
    ∷ Noted (note.Close 2 0 closed.Lost)
    ∷ Noted (note.Turn 4 (event.Gone 2))
    ∷ Noted (note.Arrive (request 1) (hex (codes "00112233445566778899")))
    ∷ Marked (Took 1 (DataFrame 1 false 0 (hex (codes "00112233445566778899"))) (act.Body 1 (hex (codes "00112233445566778899")) 0 false) NoBlock)
    ∷ Noted (note.Pause (request 1) (buffer.Write 2))
    ∷ Noted (note.Start 1 1 1 2)
    ∷ Marked (Took 1 (Headers 1 false true 0 None (hex (codes "838684010161"))) (act.Head 1 (hex (codes "838684010161")) false) (Fields ((field (codes ":method") (codes "POST") false) ∷ (field (codes ":scheme") (codes "http") false) ∷ (field (codes ":path") (codes "/") false) ∷ (field (codes ":authority") (codes "a") false) ∷ [])))
    ∷ Noted (note.Answer 1 (hex (codes "000000040100000000")))
    ∷ Marked (Picked 1 (Put (Control (hex (codes "000000040100000000")))))
    ∷ Marked (Took 1 (Settings false []) (act.Settings []) NoBlock)
    ∷ Noted (note.Turn 3 (event.Read 1 (preface ++ (hex (codes "00000004000000000000000601040000000183868401016100000a00000000000100112233445566778899")))))
    ∷ Noted (note.Credit 2 0 983041)
    ∷ Noted (note.Answer 2 (preface ++ (hex (codes "00001204000000000000020000000000040000ffff00060000f000"))))
    ∷ Marked (Picked 2 (Put (Control (preface ++ (hex (codes "00001204000000000000020000000000040000ffff00060000f000"))))))
    ∷ Noted (note.Turn 2 (event.Join 2 0))
    ∷ Noted (note.Credit 1 0 983041)
    ∷ Noted (note.Answer 1 (hex (codes "00001204000000000000030000006400040000ffff00060000f000")))
    ∷ Marked (Picked 1 (Put (Control (hex (codes "00001204000000000000030000006400040000ffff00060000f000")))))
    ∷ Noted (note.Turn 1 (event.Accept 1))
    ∷ []

pub lost_is_lawful : Lawful config_of_lost lost
unfolding static_table varint integer reached stay greatest_of placed in_order
lost_is_lawful = record {
  lawful = record {
    allowed = search (lit≤, lit<, inl, inr);
    paused = search (lit≤, lit<, inl, inr);
    counted = search (lit≤, lit<, inl, inr);
    bounded = search (lit≤, lit<, inl, inr);
    tied = search (lit≤, lit<, inl, inr);
    ends = search (lit≤, lit<, inl, inr);
    in_turn = search (lit≤, lit<, inl, inr);
    doomed = search (lit≤, lit<, inl, inr);
    swept = search (lit≤, lit<, inl, inr);
    answered = search (lit≤, lit<, inl, inr);
    only = search (lit≤, lit<, inl, inr);
    licensed = search (lit≤, lit<, inl, inr);
    may = search (lit≤, lit<, inl, inr);
    quiet = search (lit≤, lit<, inl, inr);
  };
  quiet = search (lit≤, lit<);
  acts = search;
}

-- a drain, a later stream, and a cancelled exchange
abbrev pub config_of_drained : Config
config_of_drained = record config_of_empty {
  clusters = cluster (codes "a") ∷ [];
  routes = route None None (Some (codes "/")) (codes "a") [] [] ∷ [];
}

abbrev pub drained : WireHistory
drained =
    Noted (note.Gone 1)
    ∷ Noted (note.Answer 2 (hex (codes "00000403000000000100000008")))
    ∷ Marked (Picked 2 (Put (Control (hex (codes "00000403000000000100000008")))))
    ∷ Noted (note.Close 1 0 closed.Drained)
    ∷ Noted (note.Answer 1 (hex (codes "00000403000000000100000008")))
    ∷ Marked (Picked 1 (Put (Control (hex (codes "00000403000000000100000008")))))
    ∷ Noted (note.Doom 1 (cause.Posted 0 1))
    ∷ Noted (note.Turn 6 (event.Post 0 1 (job.Cancel 1)))
    ∷ Marked (Took 1 (Headers 3 false true 0 None (hex (codes "838684010161"))) (act.Head 3 (hex (codes "838684010161")) false) (Fields ((field (codes ":method") (codes "POST") false) ∷ (field (codes ":scheme") (codes "http") false) ∷ (field (codes ":path") (codes "/") false) ∷ (field (codes ":authority") (codes "a") false) ∷ [])))
    ∷ Noted (note.Turn 5 (event.Read 1 (hex (codes "000006010400000003838684010161"))))
    ∷ Noted (note.Answer 1 (hex (codes "0000080700000000000000000100000000")))
    ∷ Marked (Picked 1 (Put (Control (hex (codes "0000080700000000000000000100000000")))))
    ∷ Marked (Drains 1)
    ∷ Noted (note.Turn 4 (event.Post 0 0 job.Drain))
    ∷ Noted (note.Head 2 1 (hex (codes "00000701040000000120838684010161")))
    ∷ Marked (Picked 2 (HeadOf (request 1)))
    ∷ Noted (note.Start 1 1 1 2)
    ∷ Marked (Took 1 (Headers 1 false true 0 None (hex (codes "838684010161"))) (act.Head 1 (hex (codes "838684010161")) false) (Fields ((field (codes ":method") (codes "POST") false) ∷ (field (codes ":scheme") (codes "http") false) ∷ (field (codes ":path") (codes "/") false) ∷ (field (codes ":authority") (codes "a") false) ∷ [])))
    ∷ Noted (note.Answer 1 (hex (codes "000000040100000000")))
    ∷ Marked (Picked 1 (Put (Control (hex (codes "000000040100000000")))))
    ∷ Marked (Took 1 (Settings false []) (act.Settings []) NoBlock)
    ∷ Noted (note.Turn 3 (event.Read 1 (preface ++ (hex (codes "000000040000000000000006010400000001838684010161")))))
    ∷ Noted (note.Credit 2 0 983041)
    ∷ Noted (note.Answer 2 (preface ++ (hex (codes "00001204000000000000020000000000040000ffff00060000f000"))))
    ∷ Marked (Picked 2 (Put (Control (preface ++ (hex (codes "00001204000000000000020000000000040000ffff00060000f000"))))))
    ∷ Noted (note.Turn 2 (event.Join 2 0))
    ∷ Noted (note.Credit 1 0 983041)
    ∷ Noted (note.Answer 1 (hex (codes "00001204000000000000030000006400040000ffff00060000f000")))
    ∷ Marked (Picked 1 (Put (Control (hex (codes "00001204000000000000030000006400040000ffff00060000f000")))))
    ∷ Noted (note.Turn 1 (event.Accept 1))
    ∷ []

pub drained_is_lawful : Lawful config_of_drained drained
unfolding static_table varint integer reached stay greatest_of placed in_order
drained_is_lawful = record {
  lawful = record {
    allowed = search (lit≤, lit<, inl, inr);
    paused = search (lit≤, lit<, inl, inr);
    counted = search (lit≤, lit<, inl, inr);
    bounded = search (lit≤, lit<, inl, inr);
    tied = search (lit≤, lit<, inl, inr);
    ends = search (lit≤, lit<, inl, inr);
    in_turn = search (lit≤, lit<, inl, inr);
    doomed = search (lit≤, lit<, inl, inr);
    swept = search (lit≤, lit<, inl, inr);
    answered = search (lit≤, lit<, inl, inr);
    only = search (lit≤, lit<, inl, inr);
    licensed = search (lit≤, lit<, inl, inr);
    may = search (lit≤, lit<, inl, inr);
    quiet = search (lit≤, lit<, inl, inr);
  };
  quiet = search (lit≤, lit<);
  acts = search;
}

-- an exchange is cancelled
abbrev pub config_of_cancelled : Config
config_of_cancelled = record config_of_empty {
  clusters = cluster (codes "a") ∷ [];
  routes = route None None (Some (codes "/")) (codes "a") [] [] ∷ [];
}

abbrev pub cancelled : WireHistory
cancelled =
    Noted (note.Gone 1)
    ∷ Noted (note.Answer 2 (hex (codes "00000403000000000100000008")))
    ∷ Marked (Picked 2 (Put (Control (hex (codes "00000403000000000100000008")))))
    ∷ Noted (note.Answer 1 (hex (codes "00000403000000000100000008")))
    ∷ Marked (Picked 1 (Put (Control (hex (codes "00000403000000000100000008")))))
    ∷ Noted (note.Doom 1 (cause.Posted 0 0))
    ∷ Noted (note.Turn 4 (event.Post 0 0 (job.Cancel 1)))
    ∷ Noted (note.Head 2 1 (hex (codes "00000701050000000120828684010161")))
    ∷ Marked (Picked 2 (HeadOf (request 1)))
    ∷ Noted (note.Start 1 1 1 2)
    ∷ Marked (Took 1 (Headers 1 true true 0 None (hex (codes "828684010161"))) (act.Head 1 (hex (codes "828684010161")) true) (Fields ((field (codes ":method") (codes "GET") false) ∷ (field (codes ":scheme") (codes "http") false) ∷ (field (codes ":path") (codes "/") false) ∷ (field (codes ":authority") (codes "a") false) ∷ [])))
    ∷ Noted (note.Answer 1 (hex (codes "000000040100000000")))
    ∷ Marked (Picked 1 (Put (Control (hex (codes "000000040100000000")))))
    ∷ Marked (Took 1 (Settings false []) (act.Settings []) NoBlock)
    ∷ Noted (note.Turn 3 (event.Read 1 (preface ++ (hex (codes "000000040000000000000006010500000001828684010161")))))
    ∷ Noted (note.Credit 2 0 983041)
    ∷ Noted (note.Answer 2 (preface ++ (hex (codes "00001204000000000000020000000000040000ffff00060000f000"))))
    ∷ Marked (Picked 2 (Put (Control (preface ++ (hex (codes "00001204000000000000020000000000040000ffff00060000f000"))))))
    ∷ Noted (note.Turn 2 (event.Join 2 0))
    ∷ Noted (note.Credit 1 0 983041)
    ∷ Noted (note.Answer 1 (hex (codes "00001204000000000000030000006400040000ffff00060000f000")))
    ∷ Marked (Picked 1 (Put (Control (hex (codes "00001204000000000000030000006400040000ffff00060000f000")))))
    ∷ Noted (note.Turn 1 (event.Accept 1))
    ∷ []

pub cancelled_is_lawful : Lawful config_of_cancelled cancelled
unfolding static_table varint integer reached stay greatest_of placed in_order
cancelled_is_lawful = record {
  lawful = record {
    allowed = search (lit≤, lit<, inl, inr);
    paused = search (lit≤, lit<, inl, inr);
    counted = search (lit≤, lit<, inl, inr);
    bounded = search (lit≤, lit<, inl, inr);
    tied = search (lit≤, lit<, inl, inr);
    ends = search (lit≤, lit<, inl, inr);
    in_turn = search (lit≤, lit<, inl, inr);
    doomed = search (lit≤, lit<, inl, inr);
    swept = search (lit≤, lit<, inl, inr);
    answered = search (lit≤, lit<, inl, inr);
    only = search (lit≤, lit<, inl, inr);
    licensed = search (lit≤, lit<, inl, inr);
    may = search (lit≤, lit<, inl, inr);
    quiet = search (lit≤, lit<, inl, inr);
  };
  quiet = search (lit≤, lit<);
  acts = search;
}
