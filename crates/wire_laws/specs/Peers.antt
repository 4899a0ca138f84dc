-- Which connections come from clients, and which go to a cluster.
use Rattle.std.specs.Prelude.{Bool, List, [], false, filter, if◌then◌else◌, not, ℕ, ◌++◌, ◌==◌, ◌||◌, ◌∷◌}
use Rattle.tape_laws.specs.History.{Noted}
use Rattle.wire_laws.specs.Marks.{WireHistory}
use Rattle.flow_notes.specs.declared.events.Event.TheVariants as event
use Rattle.flow_notes.specs.declared.notes.Note.TheVariants as note

abbrev pub is_client : ℕ → WireHistory → Bool
is_client c [] = false
is_client c (Noted (note.Turn k (event.Accept d)) ∷ past) = (d == c) || is_client c past
is_client c (step ∷ past) = is_client c past

-- the clients' connections, in the order of their numbers
abbrev pub clients : WireHistory → List ℕ
clients [] = []
clients (Noted (note.Turn k (event.Accept c)) ∷ past) = clients past ++ c ∷ []
clients (step ∷ past) = clients past

-- the open connections of a cluster, in the order in which they joined
abbrev pub joined : ℕ → WireHistory → List ℕ
joined cluster [] = []
joined cluster (Noted (note.Turn k (event.Join c number)) ∷ past) =
    joined cluster past ++ (if number == cluster then c ∷ [] else [])
joined cluster (Noted (note.Close c code why) ∷ past) = filter (λ d. not (d == c)) (joined cluster past)
joined cluster (step ∷ past) = joined cluster past
