-- Lawful tapes of two streams that share the write buffer.
use Rattle.flow_notes.specs.declared.notes.Note.{Note}
use Rattle.std.proofs.Common.{lit<, lit≤}
use Rattle.std.specs.Prelude.{List, [], false, true, ◌∷◌}
use Rattle.tape_laws.specs.declared.PlainLimits.{PlainLimits}
use Rattle.tape_rows.proofs.Tapes.{Whole, octets, q1, q3, write}
use Rattle.flow_rules.specs.declared.causes.Cause.TheVariants as cause
use Rattle.flow_notes.specs.declared.events.Event.TheVariants as event
use Rattle.flow_notes.specs.declared.notes.Note.TheVariants as note
use Rattle.flow_notes.specs.declared.events.PlainEvent.TheVariants as plain

abbrev pub limits_100_30 : PlainLimits
limits_100_30 = record { recv = 65535; send = 100; write = 30; quantum = 16384 }

-- the first refills the write buffer before the second is told of its drain
abbrev pub refilling : List Note
refilling =
    note.Move q1 0 22
    ∷ note.Resume q1 write
    ∷ note.Out 0 30
    ∷ note.Turn 6 (event.Plain (plain.Room 30))
    ∷ note.Arrive q3 (octets 5)
    ∷ note.Turn 5 (event.Plain (plain.Body 3 (octets 5)))
    ∷ note.Arrive q1 (octets 22)
    ∷ note.Turn 4 (event.Plain (plain.Body 1 (octets 22)))
    ∷ note.Pause q3 write
    ∷ note.Pause q1 write
    ∷ note.Frame 0 q1 25 false
    ∷ note.Move q1 0 25
    ∷ note.Arrive q1 (octets 25)
    ∷ note.Turn 3 (event.Plain (plain.Body 1 (octets 25)))
    ∷ note.Start 3 0 3 0
    ∷ note.Turn 2 (event.Plain (plain.Begin 3))
    ∷ note.Start 1 0 1 0
    ∷ note.Turn 1 (event.Plain (plain.Begin 1))
    ∷ []

pub refilled_while_pending : Whole limits_100_30 (note.Resume q3 write ∷ note.Pause q3 write ∷ note.Pause q1 write ∷ note.Frame 0 q1 22 false ∷ refilling)
refilled_while_pending = record {
  lawful = record {
    allowed = search (lit≤, lit<);
    paused = search;
    counted = search;
    bounded = search (lit≤);
    tied = search;
    ends = search;
    in_turn = search;
    doomed = search;
    swept = search;
    answered = search;
    only = search;
    licensed = search;
    may = search;
    quiet = search;
  };
  quiet = search;
}

-- a stream whose pair ends is doomed and isn't told of the drain
abbrev pub pair_ended : List Note
pair_ended =
    note.Doom 3 cause.EarlyEnd
    ∷ note.Doom 1 cause.Done
    ∷ note.Frame 0 q1 2 true
    ∷ note.Move q1 0 2
    ∷ note.Resume q1 write
    ∷ note.Out 0 30
    ∷ note.Turn 8 (event.Plain (plain.Room 30))
    ∷ note.Turn 7 (event.Plain (plain.Finish 1))
    ∷ note.Arrive q3 (octets 5)
    ∷ note.Turn 6 (event.Plain (plain.Body 3 (octets 5)))
    ∷ note.Arrive q1 (octets 2)
    ∷ note.Turn 5 (event.Plain (plain.Body 1 (octets 2)))
    ∷ note.Pause q3 write
    ∷ note.Pause q1 write
    ∷ note.Frame 0 q1 25 false
    ∷ note.Move q1 0 25
    ∷ note.Arrive q1 (octets 25)
    ∷ note.Turn 4 (event.Plain (plain.Body 1 (octets 25)))
    ∷ note.Turn 3 (event.Plain (plain.Pair 1 3))
    ∷ note.Start 3 0 3 0
    ∷ note.Turn 2 (event.Plain (plain.Begin 3))
    ∷ note.Start 1 0 1 0
    ∷ note.Turn 1 (event.Plain (plain.Begin 1))
    ∷ []

pub doomed_pair : Whole limits_100_30 (note.Gone 3 ∷ note.Gone 1 ∷ pair_ended)
doomed_pair = record {
  lawful = record {
    allowed = search (lit≤, lit<);
    paused = search;
    counted = search;
    bounded = search (lit≤);
    tied = search;
    ends = search;
    in_turn = search;
    doomed = search;
    swept = search;
    answered = search;
    only = search;
    licensed = search;
    may = search;
    quiet = search;
  };
  quiet = search;
}

-- a stream that begins while the write buffer is above is paused at once
abbrev pub begun_while_above : List Note
begun_while_above =
    note.Start 3 0 3 0
    ∷ note.Turn 3 (event.Plain (plain.Begin 3))
    ∷ note.Pause q1 write
    ∷ note.Frame 0 q1 25 false
    ∷ note.Move q1 0 25
    ∷ note.Arrive q1 (octets 25)
    ∷ note.Turn 2 (event.Plain (plain.Body 1 (octets 25)))
    ∷ note.Start 1 0 1 0
    ∷ note.Turn 1 (event.Plain (plain.Begin 1))
    ∷ []

pub paused_from_the_start : Whole limits_100_30 (note.Resume q3 write ∷ note.Resume q1 write ∷ note.Out 0 19 ∷ note.Turn 4 (event.Plain (plain.Room 19))
    ∷ note.Pause q3 write ∷ begun_while_above)
paused_from_the_start = record {
  lawful = record {
    allowed = search (lit≤, lit<);
    paused = search;
    counted = search;
    bounded = search (lit≤);
    tied = search;
    ends = search;
    in_turn = search;
    doomed = search;
    swept = search;
    answered = search;
    only = search;
    licensed = search;
    may = search;
    quiet = search;
  };
  quiet = search;
}

-- a pair that is named once the end of its first stream was framed dooms nobody
abbrev pub pair_named_late : List Note
pair_named_late =
    note.Turn 5 (event.Plain (plain.Pair 1 3))
    ∷ note.Gone 1
    ∷ note.Doom 1 cause.Done
    ∷ note.Frame 0 q1 0 true
    ∷ note.Turn 4 (event.Plain (plain.Finish 1))
    ∷ note.Start 3 0 3 0
    ∷ note.Turn 3 (event.Plain (plain.Begin 3))
    ∷ note.Start 1 0 1 0
    ∷ note.Turn 2 (event.Plain (plain.Begin 1))
    ∷ note.Turn 1 (event.Plain (plain.Room 9))
    ∷ []

pub late_pair : Whole limits_100_30 pair_named_late
late_pair = record {
  lawful = record {
    allowed = search (lit≤, lit<);
    paused = search;
    counted = search;
    bounded = search (lit≤);
    tied = search;
    ends = search;
    in_turn = search;
    doomed = search;
    swept = search;
    answered = search;
    only = search;
    licensed = search;
    may = search;
    quiet = search;
  };
  quiet = search;
}
