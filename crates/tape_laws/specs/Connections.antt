-- Which connections there are, and which of them are open.
use Rattle.std.specs.Prelude.{Bool, List, [], false, filter, not, ℕ, ◌++◌, ◌==◌, ◌||◌, ◌∷◌}
use Rattle.tape_laws.specs.Dispatches.{has}
use Rattle.tape_laws.specs.History.{History, Noted}
use Rattle.tape_laws.specs.Setup.{Setup}
use Rattle.flow_notes.specs.declared.events.Event.TheVariants as event
use Rattle.flow_notes.specs.declared.notes.Note.TheVariants as note

-- the connections that there ever were, in the order of their numbers
abbrev pub connections : {Mark : Type 0} → Setup Mark → History Mark → List ℕ
connections setup [] = setup.first_open
connections setup (Noted (note.Turn k (event.Accept c)) ∷ past) = connections setup past ++ c ∷ []
connections setup (Noted (note.Turn k (event.Join c cluster)) ∷ past) = connections setup past ++ c ∷ []
connections setup (step ∷ past) = connections setup past

-- the open connections, in the order of their numbers
abbrev pub open_connections : {Mark : Type 0} → Setup Mark → History Mark → List ℕ
open_connections setup [] = setup.first_open
open_connections setup (Noted (note.Turn k (event.Accept c)) ∷ past) = open_connections setup past ++ c ∷ []
open_connections setup (Noted (note.Turn k (event.Join c cluster)) ∷ past) = open_connections setup past ++ c ∷ []
open_connections setup (Noted (note.Close c code why) ∷ past) = filter (λ d. not (d == c)) (open_connections setup past)
open_connections setup (step ∷ past) = open_connections setup past

abbrev pub is_open : {Mark : Type 0} → Setup Mark → ℕ → History Mark → Bool
is_open setup c past = has (open_connections setup past) c

-- the connection was closed by a note
abbrev pub was_closed : {Mark : Type 0} → ℕ → History Mark → Bool
was_closed c [] = false
was_closed c (Noted (note.Close d code why) ∷ past) = (d == c) || was_closed c past
was_closed c (step ∷ past) = was_closed c past
