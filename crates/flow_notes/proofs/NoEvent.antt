-- No words are no event.
use Rattle.std.proofs.Common.{◌≡◌, ℕ, List, [], None, refl}
use Rattle.flow_notes.specs.EventOf.{wire_of, plain_of}
use Rattle.flow_notes.specs.NoteOf.{any_of}

pub no_event : (names : List (List ℕ)) → any_of names [] ≡ None
unfolding any_of wire_of plain_of
no_event names = refl
