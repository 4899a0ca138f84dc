-- Load shed points: of what arrives at a point a share is turned away, as great as the point's state, counted and not drawn. Events
-- stand newest first, each with what became of it.
use Rattle.flow_notes.specs.declared.events.Event.{Event}
use Rattle.overload_core.specs.ActionStates.{greatest_of}
use Rattle.overload_core.specs.States.{state_of}
use Rattle.proxy_config.specs.declared.overload.Point.{Point}
use Rattle.proxy_config.specs.declared.overload.ShedRow.{ShedRow}
use Rattle.shed_points.specs.declared.shedder.Standing.{Standing}
use Rattle.shed_points.specs.declared.verdict.Verdict.{Verdict}
use Rattle.std.specs.Prelude.{Bool, List, None, Option, Some, [], false, filter, if◌then◌else◌, map, nat_lt, slice_index, true, ℕ, ◌+◌, ◌/◌, ◌==◌, ◌∷◌}
use Rattle.flow_notes.specs.declared.events.Event.TheVariants as event
use Rattle.proxy_config.specs.declared.overload.Point.TheVariants as point
use Rattle.shed_points.specs.declared.shedder.Standing.TheVariants as standing
use Rattle.shed_points.specs.declared.verdict.Verdict.TheVariants as verdict

-- an event, and what became of it
pub data Judged : Type 0 where
  Became : Event → Verdict → Judged

abbrev pub events_of : List Judged → List Event
events_of [] = []
events_of (Became e v ∷ js) = e ∷ events_of js

-- ---- the state of a point, in parts per million

abbrev pub is_same : Point → Point → Bool
is_same point.Accept point.Accept = true
is_same point.Read point.Read = true
is_same point.Drain point.Drain = true
is_same p q = false

-- that of a row at these pressures
abbrev pub row_state : ShedRow → List ℕ → ℕ
row_state row pressures = state_of row.form (slice_index pressures row.resource)

-- of a row of this point, and 0 of another
abbrev pub state_at : ShedRow → List ℕ → Point → ℕ
state_at row pressures p = if is_same row.point p then row_state row pressures else 0

-- at these pressures: the greatest of its rows, 0 without one
abbrev pub point_state : List ShedRow → List ℕ → Point → ℕ
point_state rows pressures p = greatest_of (map (λ (r : ShedRow). row_state r pressures) (filter (λ (r : ShedRow). is_same r.point p) rows))

-- after these events: at the pressures that were obeyed last, 0 before the first
abbrev pub state_after : List ShedRow → Point → List Event → ℕ
state_after rows p [] = 0
state_after rows p (event.Obey v pressures ∷ es) = point_state rows pressures p
state_after rows p (e ∷ es) = state_after rows p es

-- ---- what arrives

-- what a client's connection is once this became of its accept
abbrev pub accepted_as : Verdict → Standing
accepted_as (verdict.Shed p state) = standing.Shed
accepted_as v = standing.Served

-- what a connection is that was accepted and isn't gone
abbrev pub standing_of : ℕ → List Judged → Option Standing
standing_of c [] = None
standing_of c (Became (event.Accept d) v ∷ js) = if d == c then Some (accepted_as v) else standing_of c js
standing_of c (Became (event.Read d octets) (verdict.Shed p state) ∷ js) = if d == c then Some standing.Shed else standing_of c js
standing_of c (Became (event.Gone d) v ∷ js) = if d == c then None else standing_of c js
standing_of c (j ∷ js) = standing_of c js

abbrev pub read_point : Option Standing → Option Point
read_point (Some standing.Served) = Some point.Read
read_point s = None

-- Where an event arrives: an accept, a read of a client's connection that wasn't shed and isn't gone, and an obey, whose pressures
-- already count. Nothing else arrives anywhere.
abbrev pub arrives_at : Event → List Judged → Option Point
arrives_at (event.Accept c) js = Some point.Accept
arrives_at (event.Read c octets) js = read_point (standing_of c js)
arrives_at (event.Obey v pressures) js = Some point.Drain
arrives_at e js = None

abbrev pub is_point : Point → Option Point → Bool
is_point p None = false
is_point p (Some q) = is_same q p

-- the sum of the point's states at its arrivals, each that of its moment
abbrev pub sum_at : List ShedRow → Point → List Judged → ℕ
sum_at rows p [] = 0
sum_at rows p (Became e v ∷ js) = if is_point p (arrives_at e js) then sum_at rows p js + state_after rows p (e ∷ events_of js) else sum_at rows p js

-- ---- what is shed

-- one more arrival passes a whole million
abbrev pub grows : ℕ → ℕ → Bool
grows sum state = nat_lt (sum / 1000000) ((sum + state) / 1000000)

-- by how the sum of the point's arrivals goes on
abbrev pub share_of : Point → ℕ → ℕ → Verdict
share_of p sum state = if grows sum state then verdict.Shed p state else verdict.Pass

abbrev pub verdict_at : List ShedRow → Event → List Judged → Option Point → Verdict
verdict_at rows e js None = verdict.Pass
verdict_at rows e js (Some p) = share_of p (sum_at rows p js) (state_after rows p (e ∷ events_of js))

abbrev pub is_shed : Option Standing → Bool
is_shed (Some standing.Shed) = true
is_shed s = false

-- it is of a connection that was shed
abbrev pub is_silent : Event → List Judged → Bool
is_silent (event.Read c octets) js = is_shed (standing_of c js)
is_silent (event.Gone c) js = is_shed (standing_of c js)
is_silent (event.Room c n) js = is_shed (standing_of c js)
is_silent e js = false

-- what becomes of an event behind those
abbrev pub verdict_of : List ShedRow → Event → List Judged → Verdict
verdict_of rows e js = if is_silent e js then verdict.Silent else verdict_at rows e js (arrives_at e js)

-- what becomes of each event
abbrev pub judged : List ShedRow → List Event → List Judged
judged rows [] = []
judged rows (e ∷ es) = Became e (verdict_of rows e (judged rows es)) ∷ judged rows es

-- how many were shed at a point
abbrev pub shed_at : Point → List Judged → ℕ
shed_at p [] = 0
shed_at p (Became e (verdict.Shed q state) ∷ js) = if is_same q p then shed_at p js + 1 else shed_at p js
shed_at p (j ∷ js) = shed_at p js
