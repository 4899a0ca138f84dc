-- Octets are neither lost nor made: what a flow received is what it sent, then what lies in its places.
use Rattle.flow_rules.specs.declared.ids.FlowId.{FlowId}
use Rattle.std.specs.Prelude.{List, suc, true, zero, ℕ, ◌++◌, ◌∷◌, ◌≡◌}
use Rattle.tape_laws.specs.Dispatches.{has, started}
use Rattle.tape_laws.specs.History.{History, Noted, Step}
use Rattle.tape_laws.specs.Setup.{Setup}
use Rattle.tape_laws.specs.Tied.{IsFront}
use Rattle.tape_laws.specs.World.{last_place, place, received, sent}
use Rattle.flow_notes.specs.declared.notes.Note.TheVariants as note

-- what lies in the places of a flow from place p back to its receive buffer
abbrev pub lying : {Mark : Type 0} → Setup Mark → FlowId → ℕ → History Mark → List ℕ
lying setup f zero past = place setup f 0 past
lying setup f (suc p) past = place setup f (suc p) past ++ lying setup f p past

abbrev pub LosesNothing : {Mark : Type 0} → Setup Mark → FlowId → History Mark → Type 0
LosesNothing setup f past = received f past ≡ sent setup f past ++ lying setup f (last_place setup f past) past

-- the body of a flow that began only goes on
abbrev pub GoesOn : {Mark : Type 0} → Setup Mark → Step Mark → History Mark → Type 0
GoesOn setup step past =
    (f : FlowId) → has (started past) f.exchange ≡ true → IsFront (setup.body f past) (setup.body f (step ∷ past))

-- what arrives is the body's next octets
abbrev pub ReadsBody : {Mark : Type 0} → Setup Mark → Step Mark → History Mark → Type 0
ReadsBody setup (Noted (note.Arrive f octets)) past = IsFront (received f past ++ octets) (setup.body f past)
ReadsBody setup step past = Unit {0}
