-- All pauses are written, or none.
use Rattle.flow_notes.specs.declared.notes.Note.{Note}
use Rattle.std.proofs.Common.{refl, sym, ◌∙◌}
use Rattle.std.proofs.lemmas.List.{append-nil}
use Rattle.std.specs.Prelude.{Err, List, Ok, OnErr, OnOk, [], ◌++◌, ◌≡◌}
use Rattle.plain_core.specs.Noting.{AppendsNotes, pauses_of}
use Rattle.plain_core.proofs.noting.note_pauses.Goals as goal
use Rattle.plain_core.specs.Words.{Written}

all_or_none : (r : Written) (old ns new : List Note) → OnOk r (new ≡ old ++ ns) → OnErr r (new ≡ old) → AppendsNotes old ns new r
all_or_none (Ok u) old ns new ok err = ok
all_or_none (Err e) old ns new ok err = record { front = []; rest = ns; whole = refl; is = err ∙ sym (append-nil old) }

pub returns : goal.returns
returns c =
    rw (← c.watchers.ensures) (all_or_none c.push_pauses.result c.args.notes.now (pauses_of c.args.buffer c.watchers.result) c.push_pauses.new.self c.push_pauses.ensures.ok c.push_pauses.ensures.err)
