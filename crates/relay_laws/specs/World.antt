-- The octets of a relay, as its notes move them. Nothing else moves octets.
use Rattle.relay_laws.specs.Pairs.{Tape, goes_to}
use Rattle.std.specs.Prelude.{List, [], drop, if◌then◌else◌, take, ℕ, ◌++◌, ◌==◌, ◌∷◌}
use Rattle.tape_laws.specs.Dispatches.{is_some_of}
use Rattle.tape_laws.specs.History.{Noted}
use Rattle.flow_notes.specs.declared.notes.CloseCause.TheVariants as closed
use Rattle.flow_notes.specs.declared.notes.Note.TheVariants as note

-- what came for a connection: the octets of the flows that go to it
abbrev pub entered : ℕ → Tape → List ℕ
entered c [] = []
entered c (Noted (note.Arrive f octets) ∷ past) = entered c past ++ (if is_some_of (goes_to f past) c then octets else [])
entered c (step ∷ past) = entered c past

-- what the write buffer of a connection holds: a lost connection's is dropped
abbrev pub out : ℕ → Tape → List ℕ
out c [] = []
out c (Noted (note.Arrive f octets) ∷ past) = out c past ++ (if is_some_of (goes_to f past) c then octets else [])
out c (Noted (note.Out d n) ∷ past) = drop (if d == c then n else 0) (out c past)
out c (Noted (note.Close d code closed.Lost) ∷ past) = if d == c then [] else out c past
out c (step ∷ past) = out c past

-- what left the write buffer
abbrev pub gone : ℕ → Tape → List ℕ
gone c [] = []
gone c (Noted (note.Out d n) ∷ past) = gone c past ++ (if d == c then take n (out c past) else [])
gone c (step ∷ past) = gone c past
