-- The shed list: the events that are dispatched.
use Rattle.flow_notes.specs.declared.events.Event.{Event}
use Rattle.proxy_config.specs.declared.overload.ShedRow.{ShedRow}
use Rattle.shed_points.specs.Shedding.{Became, Judged, judged, shed_at}
use Rattle.shed_points.specs.declared.verdict.Verdict.{Verdict}
use Rattle.std.specs.Prelude.{Bool, List, None, Option, Some, [], false, if◌then◌else◌, reverse, true, ℕ, ◌++◌, ◌∷◌}
use Rattle.flow_notes.specs.declared.events.Event.TheVariants as event
use Rattle.flow_notes.specs.declared.events.Job.TheVariants as job
use Rattle.proxy_config.specs.declared.overload.Point.TheVariants as point
use Rattle.shed_points.specs.declared.verdict.Verdict.TheVariants as verdict

-- the poster of the drains that stand for what is shed at `drain`
abbrev pub shed_poster : ℕ
shed_poster = 4294967295

-- whether the event itself is dispatched
abbrev pub keeps : Verdict → Bool
keeps verdict.Pass = true
keeps verdict.Silent = false
keeps (verdict.Shed point.Drain state) = true
keeps (verdict.Shed p state) = false

abbrev pub kept : Event → Verdict → List Event
kept e v = if keeps v then e ∷ [] else []

-- What is dispatched for what was shed: for a read the loss of its connection, for an obey a post to drain, behind so many posts of
-- the same poster. Nothing comes of an accept.
abbrev pub instead : Event → Verdict → ℕ → Option Event
instead (event.Read c octets) (verdict.Shed p state) posts = Some (event.Gone c)
instead (event.Obey v pressures) (verdict.Shed p state) posts = Some (event.Post shed_poster posts job.Drain)
instead e v posts = None

abbrev pub as_list : Option Event → List Event
as_list None = []
as_list (Some e) = e ∷ []

-- what an event comes to, in its order
abbrev pub comes_to : Event → Verdict → ℕ → List Event
comes_to e v posts = kept e v ++ as_list (instead e v posts)

-- the events that are dispatched, newest first; each drain that was shed made one post
abbrev pub dispatched : List Judged → List Event
dispatched [] = []
dispatched (Became e v ∷ js) = reverse (comes_to e v (shed_at point.Drain js)) ++ dispatched js

abbrev pub shed_list : List ShedRow → List Event → List Event
shed_list rows es = dispatched (judged rows es)
