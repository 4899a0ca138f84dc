-- Lawful tapes of wire sessions: overload.
use Rattle.h2_frames.specs.Frame.{DataFrame, Headers, Settings}
use Rattle.h2_session.specs.Preface.{preface}
use Rattle.hpack_codec.specs.Encoding.{integer, varint}
use Rattle.hpack_codec.specs.Table.{static_table}
use Rattle.overload_core.specs.ActionStates.{greatest_of}
use Rattle.overload_core.specs.Course.{reached, stay}
use Rattle.proxy_config.specs.Defaults.{config_of_empty, default_overload}
use Rattle.proxy_config.specs.declared.config.Config.{Config}
use Rattle.scaled_timer.specs.Order.{in_order, placed}
use Rattle.std.proofs.Common.{inl, inr, lit<, lit≤}
use Rattle.std.specs.Prelude.{None, Some, [], codes, false, replicate, true, ◌++◌, ◌∷◌}
use Rattle.tape_laws.specs.Flows.{request}
use Rattle.tape_laws.specs.History.{Marked, Noted}
use Rattle.tape_laws.specs.Units.{Control, Put, Reply}
use Rattle.tape_rows.proofs.WireTapes.{Lawful, cluster, field, hex, route}
use Rattle.wire_laws.specs.Marks.{Fields, NoBlock, Picked, Took, WireHistory}
use Rattle.flow_notes.specs.declared.events.Event.TheVariants as event
use Rattle.flow_rules.specs.declared.causes.Cause.TheVariants as cause
use Rattle.flow_notes.specs.declared.notes.CloseCause.TheVariants as closed
use Rattle.flow_notes.specs.declared.notes.Note.TheVariants as note
use Rattle.h2_session.specs.declared.act.Act.TheVariants as act
use Rattle.proxy_config.specs.declared.overload.Form.TheVariants as form
use Rattle.proxy_config.specs.declared.routes.Filter.TheVariants as filter

-- a connection is rejected
abbrev pub config_of_rejected : Config
config_of_rejected = record config_of_empty {
  clusters = cluster (codes "a") ∷ [];
  routes = route None None (Some (codes "/")) (codes "a") [] [] ∷ [];
  overload = record default_overload { class_start = 20; triggers = record { action = 2; resource = 0; form = form.Threshold 5 } ∷ [] };
}

abbrev pub rejected : WireHistory
rejected =
    Noted (note.Turn 3 (event.Gone 1))
    ∷ Noted (note.Close 1 0 closed.Overload)
    ∷ Noted (note.Turn 2 (event.Accept 1))
    ∷ Noted (note.Turn 1 (event.Obey 1 (7 ∷ [])))
    ∷ []

pub rejected_is_lawful : Lawful config_of_rejected rejected
unfolding static_table varint integer reached stay greatest_of placed in_order
rejected_is_lawful = record {
  lawful = record {
    allowed = search (lit≤, lit<, inl, inr);
    paused = search (lit≤, lit<, inl, inr);
    counted = search (lit≤, lit<, inl, inr);
    bounded = search (lit≤, lit<, inl, inr);
    tied = search (lit≤, lit<, inl, inr);
    ends = search (lit≤, lit<, inl, inr);
    in_turn = search (lit≤, lit<, inl, inr);
    doomed = search (lit≤, lit<, inl, inr);
    swept = search (lit≤, lit<, inl, inr);
    answered = search (lit≤, lit<, inl, inr);
    only = search (lit≤, lit<, inl, inr);
    licensed = search (lit≤, lit<, inl, inr);
    may = search (lit≤, lit<, inl, inr);
    quiet = search (lit≤, lit<, inl, inr);
  };
  quiet = search (lit≤, lit<);
  acts = search;
}

-- a request is stopped
abbrev pub config_of_stopped : Config
config_of_stopped = record config_of_empty {
  clusters = cluster (codes "a") ∷ [];
  routes = route None None (Some (codes "/")) (codes "a") [] [] ∷ [];
  overload = record default_overload { class_start = 20; triggers = record { action = 0; resource = 0; form = form.Threshold 5 } ∷ [] };
}

abbrev pub stopped : WireHistory
stopped =
    Noted (note.Gone 1)
    ∷ Noted (note.Head 1 1 (hex (codes "000006010500000001200803353033")))
    ∷ Marked (Picked 1 (Put (Reply 1 503)))
    ∷ Noted (note.Doom 1 cause.Overload)
    ∷ Noted (note.Start 1 1 1 0)
    ∷ Marked (Took 1 (Headers 1 true true 0 None (hex (codes "828684010161"))) (act.Head 1 (hex (codes "828684010161")) true) (Fields ((field (codes ":method") (codes "GET") false) ∷ (field (codes ":scheme") (codes "http") false) ∷ (field (codes ":path") (codes "/") false) ∷ (field (codes ":authority") (codes "a") false) ∷ [])))
    ∷ Noted (note.Answer 1 (hex (codes "000000040100000000")))
    ∷ Marked (Picked 1 (Put (Control (hex (codes "000000040100000000")))))
    ∷ Marked (Took 1 (Settings false []) (act.Settings []) NoBlock)
    ∷ Noted (note.Turn 4 (event.Read 1 (preface ++ (hex (codes "000000040000000000000006010500000001828684010161")))))
    ∷ Noted (note.Turn 3 (event.Obey 1 (7 ∷ [])))
    ∷ Noted (note.Credit 2 0 983041)
    ∷ Noted (note.Answer 2 (preface ++ (hex (codes "00001204000000000000020000000000040000ffff00060000f000"))))
    ∷ Marked (Picked 2 (Put (Control (preface ++ (hex (codes "00001204000000000000020000000000040000ffff00060000f000"))))))
    ∷ Noted (note.Turn 2 (event.Join 2 0))
    ∷ Noted (note.Credit 1 0 983041)
    ∷ Noted (note.Answer 1 (hex (codes "00001204000000000000030000006400040000ffff00060000f000")))
    ∷ Marked (Picked 1 (Put (Control (hex (codes "00001204000000000000030000006400040000ffff00060000f000")))))
    ∷ Noted (note.Turn 1 (event.Accept 1))
    ∷ []

pub stopped_is_lawful : Lawful config_of_stopped stopped
unfolding static_table varint integer reached stay greatest_of placed in_order
stopped_is_lawful = record {
  lawful = record {
    allowed = search (lit≤, lit<, inl, inr);
    paused = search (lit≤, lit<, inl, inr);
    counted = search (lit≤, lit<, inl, inr);
    bounded = search (lit≤, lit<, inl, inr);
    tied = search (lit≤, lit<, inl, inr);
    ends = search (lit≤, lit<, inl, inr);
    in_turn = search (lit≤, lit<, inl, inr);
    doomed = search (lit≤, lit<, inl, inr);
    swept = search (lit≤, lit<, inl, inr);
    answered = search (lit≤, lit<, inl, inr);
    only = search (lit≤, lit<, inl, inr);
    licensed = search (lit≤, lit<, inl, inr);
    may = search (lit≤, lit<, inl, inr);
    quiet = search (lit≤, lit<, inl, inr);
  };
  quiet = search (lit≤, lit<);
  acts = search;
}

-- the greatest exchange is reset
abbrev pub config_of_reset_by_memory : Config
config_of_reset_by_memory = record config_of_empty {
  clusters = cluster (codes "a") ∷ [];
  routes = route None None (Some (codes "/")) (codes "a") ((filter.Hold 1048576) ∷ []) [] ∷ [];
  overload = record default_overload { class_start = 10; triggers = record { action = 5; resource = 0; form = form.Scaled 0 1000000 } ∷ [] };
}

abbrev pub reset_by_memory : WireHistory
reset_by_memory =
    Noted (note.Gone 1)
    ∷ Noted (note.Answer 1 (hex (codes "00000403000000000100000000")))
    ∷ Marked (Picked 1 (Put (Control (hex (codes "00000403000000000100000000")))))
    ∷ Noted (note.Head 1 1 (hex (codes "000006010500000001200803353033")))
    ∷ Marked (Picked 1 (Put (Reply 1 503)))
    ∷ Noted (note.Doom 1 cause.Overload)
    ∷ Noted (note.Turn 5 (event.Obey 2 (875000 ∷ [])))
    ∷ Noted (note.Turn 4 (event.Obey 1 (874999 ∷ [])))
    ∷ Noted (note.Move (request 1) 0 1024)
    ∷ Noted (note.Arrive (request 1) (replicate 1024 170))
    ∷ Marked (Took 1 (DataFrame 1 false 0 (replicate 1024 170)) (act.Body 1 (replicate 1024 170) 0 false) NoBlock)
    ∷ Noted (note.Start 1 1 1 2)
    ∷ Marked (Took 1 (Headers 1 false true 0 None (hex (codes "838684010161"))) (act.Head 1 (hex (codes "838684010161")) false) (Fields ((field (codes ":method") (codes "POST") false) ∷ (field (codes ":scheme") (codes "http") false) ∷ (field (codes ":path") (codes "/") false) ∷ (field (codes ":authority") (codes "a") false) ∷ [])))
    ∷ Noted (note.Answer 1 (hex (codes "000000040100000000")))
    ∷ Marked (Picked 1 (Put (Control (hex (codes "000000040100000000")))))
    ∷ Marked (Took 1 (Settings false []) (act.Settings []) NoBlock)
    ∷ Noted (note.Turn 3 (event.Read 1 (preface ++ ((hex (codes "000000040000000000000006010400000001838684010161000400000000000001")) ++ replicate 1024 170))))
    ∷ Noted (note.Credit 2 0 983041)
    ∷ Noted (note.Answer 2 (preface ++ (hex (codes "00001204000000000000020000000000040000ffff00060000f000"))))
    ∷ Marked (Picked 2 (Put (Control (preface ++ (hex (codes "00001204000000000000020000000000040000ffff00060000f000"))))))
    ∷ Noted (note.Turn 2 (event.Join 2 0))
    ∷ Noted (note.Credit 1 0 983041)
    ∷ Noted (note.Answer 1 (hex (codes "00001204000000000000030000006400040000ffff00060000f000")))
    ∷ Marked (Picked 1 (Put (Control (hex (codes "00001204000000000000030000006400040000ffff00060000f000")))))
    ∷ Noted (note.Turn 1 (event.Accept 1))
    ∷ []

pub reset_by_memory_is_lawful : Lawful config_of_reset_by_memory reset_by_memory
unfolding static_table varint integer reached stay greatest_of placed in_order
reset_by_memory_is_lawful = record {
  lawful = record {
    allowed = search (lit≤, lit<, inl, inr);
    paused = search (lit≤, lit<, inl, inr);
    counted = search (lit≤, lit<, inl, inr);
    bounded = search (lit≤, lit<, inl, inr);
    tied = search (lit≤, lit<, inl, inr);
    ends = search (lit≤, lit<, inl, inr);
    in_turn = search (lit≤, lit<, inl, inr);
    doomed = search (lit≤, lit<, inl, inr);
    swept = search (lit≤, lit<, inl, inr);
    answered = search (lit≤, lit<, inl, inr);
    only = search (lit≤, lit<, inl, inr);
    licensed = search (lit≤, lit<, inl, inr);
    may = search (lit≤, lit<, inl, inr);
    quiet = search (lit≤, lit<, inl, inr);
  };
  quiet = search (lit≤, lit<);
  acts = search;
}
