-- The order rules of a wire session's lines. Events stand newest first.
use Rattle.flow_notes.specs.Event.{IsEvent}
use Rattle.flow_notes.specs.Fields.{FitsEvent}
use Rattle.flow_notes.specs.declared.events.Event.{Event}
use Rattle.std.specs.List.{list_all}
use Rattle.std.specs.Prelude.{Bool, IsTrue, List, [], false, if◌then◌else◌, length, nat_le, nat_lt, not, true, ℕ, ◌&&◌, ◌+◌, ◌==◌, ◌∷◌}
use Rattle.tape_laws.specs.Dispatches.{has}
use Rattle.flow_notes.specs.declared.events.Event.TheVariants as event

-- the connections that were accepted or joined
abbrev pub named : List Event → List ℕ
named [] = []
named (event.Accept c ∷ es) = c ∷ named es
named (event.Join c cluster ∷ es) = c ∷ named es
named (e ∷ es) = named es

-- the connections that are gone
abbrev pub gone : List Event → List ℕ
gone [] = []
gone (event.Gone c ∷ es) = c ∷ gone es
gone (e ∷ es) = gone es

-- how many posts of a poster came
abbrev pub posts_of : ℕ → List Event → ℕ
posts_of p [] = 0
posts_of p (event.Post q n job ∷ es) = if q == p then posts_of p es + 1 else posts_of p es
posts_of p (e ∷ es) = posts_of p es

-- the versions that were obeyed
abbrev pub obeyed : List Event → List ℕ
obeyed [] = []
obeyed (event.Obey v pressures ∷ es) = v ∷ obeyed es
obeyed (e ∷ es) = obeyed es

-- a new connection has a number above 0, and above that of every connection before
abbrev pub is_new : List Event → ℕ → Bool
is_new es c = nat_lt 0 c && list_all (λ d. nat_lt d c) (named es)

-- the connection was accepted or joined, and isn't gone
abbrev pub is_there : List Event → ℕ → Bool
is_there es c = has (named es) c && not (has (gone es) c)

-- Whether an event may follow, over so many resources. Connections are numbered in the order in which they come. Octets,
-- a loss and room are those of a connection that is there. The clock may say anything, since an earlier moment changes
-- nothing. A post has the number of its poster's posts before it. An obeyed version is at least 1 and greater than every
-- version before, and has one pressure for each resource.
abbrev pub may_follow_wire : ℕ → List Event → Event → Bool
may_follow_wire resources es (event.Accept c) = is_new es c
may_follow_wire resources es (event.Join c cluster) = is_new es c
may_follow_wire resources es (event.Read c octets) = is_there es c
may_follow_wire resources es (event.Gone c) = is_there es c
may_follow_wire resources es (event.Room c n) = is_there es c
may_follow_wire resources es (event.Tick now) = true
may_follow_wire resources es (event.Post p n job) = n == posts_of p es
may_follow_wire resources es (event.Obey v pressures) = nat_le 1 v && list_all (λ w. nat_lt w v) (obeyed es) && length pressures == resources
may_follow_wire resources es (event.Plain e) = false

-- an event of a wire session, in its ranges, that may follow those before it; the names are those of the clusters
abbrev pub MayFollowWire : List (List ℕ) → ℕ → List Event → Event → Type 0
MayFollowWire names resources es e = IsEvent names e × FitsEvent e × IsTrue (may_follow_wire resources es e)

-- each event may follow those before it
abbrev pub MayFollowWireAll : List (List ℕ) → ℕ → List Event → Type 0
MayFollowWireAll names resources [] = Unit {0}
MayFollowWireAll names resources (e ∷ es) = MayFollowWire names resources es e × MayFollowWireAll names resources es
