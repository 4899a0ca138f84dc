-- What a dispatch answers.
use Rattle.flow_notes.specs.declared.events.Event.{Event}
use Rattle.flow_notes.specs.declared.notes.Note.{Note}
use Rattle.std.specs.Prelude.{Err, List, Ok, OnOk, [], ◌≡◌}
use Rattle.plain_core.proofs.Wholes.{turns_of}
use Rattle.plain_core.specs.Runs.{Keeps, Opens, Turns}
use Rattle.plain_core.specs.declared.plain.PlainCore.{PlainCore}
use Rattle.plain_core.specs.Words.{Written}

pub turns_result : (old a b new : PlainCore) (before m n after : List Note) (e : Event) (r : Written) → Opens old before e a m → Keeps a m b n → OnOk r (Keeps b n new after) → new.agenda ≡ []
    → OnOk r (new.flows.exchanges.doomed ≡ []) → OnOk r (Turns old before e new after)
turns_result old a b new before m n after e (Ok u) o k l idle swept = turns_of old a b new before m n after e o k l idle swept
turns_result old a b new before m n after e (Err f) o k l idle swept = tt
