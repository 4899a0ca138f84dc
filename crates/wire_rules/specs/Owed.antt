-- What is owed: the steps that were asked for and haven't come, in the order in which they have to come.
use Rattle.proxy_config.specs.declared.config.Config.{Config}
use Rattle.std.specs.Prelude.{Bool, List, [], false, filter, not, take, ◌++◌, ◌==◌, ◌∷◌}
use Rattle.tape_laws.specs.History.{Marked, Noted}
use Rattle.tape_laws.specs.Units.{Demand, WantsClose, WantsDoom, WantsOut, WantsStart}
use Rattle.wire_laws.specs.Marks.{Picked, WireHistory, WireStep}
use Rattle.wire_rules.specs.Classes.{reset_due}
use Rattle.wire_rules.specs.Demands.{asks}
use Rattle.flow_notes.specs.declared.notes.Note.TheVariants as note

-- the step meets the demand, or what it is about is gone
abbrev pub settles : WireStep → Demand → Bool
settles (Noted (note.Out c n)) (WantsOut d m) = c == d
settles (Noted (note.Start x c s d)) (WantsStart y e t f) = x == y
settles (Noted (note.Doom x why)) (WantsDoom y other) = x == y
settles (Noted (note.Close c code why)) (WantsClose d other because) = c == d
settles step demand = false

-- What a step asks for stands before what was asked before. A demand stands until it is met, or its exchange is doomed or its
-- connection closed.
abbrev pub standing : Config → WireHistory → List Demand
standing config [] = []
standing config (step ∷ past) = asks config step past ++ filter (λ d. not (settles step d)) (standing config past)

-- and where nothing else stands, the next exchange that an obeyed state resets
abbrev pub owed : Config → WireHistory → List Demand
owed config past = standing config past ++ reset_due config past

-- The first of it is asked for by the last step. A GOAWAY before a close stands on the way to what was asked for already.
abbrev pub wire_asked : Config → WireStep → WireHistory → List Demand
wire_asked config (Noted (note.Answer c octets)) past = []
wire_asked config (Marked (Picked c u)) past = []
wire_asked config step past = take 1 (owed config (step ∷ past))
