-- Which event of a wire session may follow: new connections come in the order of their numbers. Events stand newest first.
use Rattle.flow_notes.specs.Event.{IsEvent}
use Rattle.flow_notes.specs.Fields.{FitsEvent}
use Rattle.flow_notes.specs.declared.events.Event.{Event}
use Rattle.std.specs.List.{list_all}
use Rattle.std.specs.Prelude.{Bool, IsTrue, List, [], nat_lt, true, ℕ, ◌&&◌, ◌∷◌}
use Rattle.flow_notes.specs.declared.events.Event.TheVariants as event

-- the connections that were accepted or joined
abbrev pub named : List Event → List ℕ
named [] = []
named (event.Accept c ∷ es) = c ∷ named es
named (event.Join c cluster ∷ es) = c ∷ named es
named (e ∷ es) = named es

-- a new connection has a number above 0, and above that of every connection before
abbrev pub is_new : List Event → ℕ → Bool
is_new es c = nat_lt 0 c && list_all (λ d. nat_lt d c) (named es)

abbrev pub may_come : List Event → Event → Bool
may_come es (event.Accept c) = is_new es c
may_come es (event.Join c cluster) = is_new es c
may_come es e = true

-- an event in its ranges that may follow those before it; the names are those of the clusters
abbrev pub MayCome : List (List ℕ) → List Event → Event → Type 0
MayCome names es e = IsEvent names e × FitsEvent e × IsTrue (may_come es e)

abbrev pub MayComeAll : List (List ℕ) → List Event → Type 0
MayComeAll names [] = Unit {0}
MayComeAll names (e ∷ es) = MayCome names es e × MayComeAll names es
