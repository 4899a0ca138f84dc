-- Notes that are written after others, and fronts of them.
use Rattle.flow_notes.specs.declared.notes.Note.{Note}
use Rattle.io_ports.specs.declared.octets.NoMemory.{NoMemory}
use Rattle.std.proofs.Common.{ap, append_assoc, sym, ◌∙◌}
use Rattle.std.specs.Prelude.{Err, IsErrAnd, List, Ok, Result, ◌++◌, ◌≡◌}
use Rattle.tcp_relay.specs.Noting.{AppendsNotes, AppendsSome}

abbrev pub Written : Type 0
Written = Result (Unit {0}) NoMemory

front_more : (before ms ns after : List Note) → AppendsSome before ms after → AppendsSome before (ms ++ ns) after
front_more before ms ns after a = record {
  front = a.front;
  rest = a.rest ++ ns;
  whole = ap (λ (v : List Note). v ++ ns) a.whole ∙ append_assoc a.front a.rest ns;
  is = a.is;
}

-- some notes, and no more where memory was refused
pub stopped : (Q : NoMemory → Type 0) (r s : Written) (x : NoMemory) (before ms ns after : List Note)
    → r ≡ Err x → AppendsNotes before ms after r → IsErrAnd s Q → AppendsNotes before (ms ++ ns) after s
stopped Q (Ok u) s x before ms ns after is a e = cc
stopped Q (Err y) (Ok u) x before ms ns after is a e = absurd e
stopped Q (Err y) (Err z) x before ms ns after is a e = front_more before ms ns after a

front_after : (before ms ns mid after : List Note) → mid ≡ before ++ ms → AppendsSome mid ns after → AppendsSome before (ms ++ ns) after
front_after before ms ns mid after e a = record {
  front = ms ++ a.front;
  rest = a.rest;
  whole = ap (λ (v : List Note). ms ++ v) a.whole ∙ sym (append_assoc ms a.front a.rest);
  is = a.is ∙ ap (λ (v : List Note). v ++ a.front) e ∙ append_assoc before ms a.front;
}

whole_after : (before ms ns mid after : List Note) → mid ≡ before ++ ms → after ≡ mid ++ ns → after ≡ before ++ (ms ++ ns)
whole_after before ms ns mid after e a = a ∙ ap (λ (v : List Note). v ++ ns) e ∙ append_assoc before ms ns

both : (s : Written) (before ms ns mid after : List Note) → mid ≡ before ++ ms → AppendsNotes mid ns after s → AppendsNotes before (ms ++ ns) after s
both (Ok u) before ms ns mid after e a = whole_after before ms ns mid after e a
both (Err x) before ms ns mid after e a = front_after before ms ns mid after e a

-- some notes, and then others
pub appends_both : (r s : Written) (u : Unit {0}) (before ms ns mid after : List Note)
    → r ≡ Ok u → AppendsNotes before ms mid r → AppendsNotes mid ns after s → AppendsNotes before (ms ++ ns) after s
appends_both (Ok v) s u before ms ns mid after is a b = both s before ms ns mid after a b
appends_both (Err x) s u before ms ns mid after is a b = cc
