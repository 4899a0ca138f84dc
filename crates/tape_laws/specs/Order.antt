-- The order of the units that a connection frames: what waits first, then window updates, then its flows in rotation.
use Rattle.flow_rules.specs.declared.ids.FlowId.{FlowId}
use Rattle.flow_rules.specs.Units.{is_unit}
use Rattle.flow_rules.specs.declared.unit.Unit.{Unit as FlowUnit}
use Rattle.std.specs.Prelude.{IfSome, List, None, Option, Some, [], filter, if◌then◌else◌, nat_le, nat_lt, unwrap_or, ℕ, ◌&&◌, ◌++◌, ◌==◌, ◌∷◌, ◌≡◌}
use Rattle.tape_laws.specs.Dispatches.{is_some_of}
use Rattle.tape_laws.specs.Framing.{next_unit}
use Rattle.tape_laws.specs.History.{History, Marked, Noted, Step}
use Rattle.tape_laws.specs.Setup.{Setup}
use Rattle.tape_laws.specs.Sources.{live_flows}
use Rattle.tape_laws.specs.Units.{Farewell, FramedUnit, Grant, HeadOf, Pick, Put, TrailersOf, Waiting}
use Rattle.flow_notes.specs.declared.notes.Note.TheVariants as note
use Rattle.flow_rules.specs.declared.unit.Unit.TheVariants as unit

pub data NextUnit : Type 0 where
  Nothing : NextUnit
  Waits : Waiting → NextUnit
  Grants : Grant → NextUnit
  Flows : FlowId → FlowUnit → NextUnit

-- the exchange of which a unit was picked, if it is a head or trailers
abbrev pub exchange_of : FramedUnit → Option ℕ
exchange_of (HeadOf f) = Some f.exchange
exchange_of (TrailersOf f) = Some f.exchange
exchange_of u = None

abbrev pub picked_on : ℕ → Option Pick → Option ℕ
picked_on c None = None
picked_on c (Some p) = if p.conn == c then exchange_of p.unit else None

-- the exchange of which a unit was framed last on the connection, 0 at first
abbrev pub framed_last : {Mark : Type 0} → Setup Mark → ℕ → History Mark → ℕ
framed_last setup c [] = 0
framed_last setup c (Noted (note.Frame d f n last) ∷ past) = if d == c then f.exchange else framed_last setup c past
framed_last setup c (Marked m ∷ past) = unwrap_or (picked_on c (setup.picks m)) (framed_last setup c past)
framed_last setup c (step ∷ past) = framed_last setup c past

-- the live flows that go to the connection and have a unit, by exchange
abbrev pub ready_flows : {Mark : Type 0} → Setup Mark → ℕ → History Mark → List FlowId
ready_flows setup c past =
    filter (λ f. is_some_of (setup.goes_to f past) c && is_unit (next_unit setup f past)) (live_flows setup past)

-- in rotation: first those of a greater exchange than the one framed last
abbrev pub in_rotation : ℕ → List FlowId → List FlowId
in_rotation last fs = filter (λ f. nat_lt last f.exchange) fs ++ filter (λ f. nat_le f.exchange last) fs

abbrev pub first_flow : {Mark : Type 0} → Setup Mark → List FlowId → History Mark → NextUnit
first_flow setup [] past = Nothing
first_flow setup (f ∷ fs) past = Flows f (next_unit setup f past)

abbrev pub first_grant : List Grant → NextUnit → NextUnit
first_grant [] others = others
first_grant (g ∷ gs) others = Grants g

abbrev pub first_waiting : List Waiting → NextUnit → NextUnit
first_waiting [] others = others
first_waiting (w ∷ ws) others = Waits w

-- the unit that a connection frames next
abbrev pub next_on : {Mark : Type 0} → Setup Mark → ℕ → History Mark → NextUnit
next_on setup c past =
    first_waiting (setup.waiting c past) (first_grant (setup.grants c past)
    (first_flow setup (in_rotation (framed_last setup c past) (ready_flows setup c past)) past))

-- a unit is picked only in its turn; the GOAWAY before a close stands outside the order
abbrev pub PickedInTurn : {Mark : Type 0} → Setup Mark → ℕ → FramedUnit → History Mark → Type 0
PickedInTurn setup c (HeadOf f) past = next_on setup c past ≡ Flows f (unit.Head (setup.head_ends f past))
PickedInTurn setup c (TrailersOf f) past = next_on setup c past ≡ Flows f unit.Trailers
PickedInTurn setup c (Put w) past = next_on setup c past ≡ Waits w
PickedInTurn setup c (Farewell code why) past = Unit {0}

-- a unit stands only in its turn
abbrev pub InTurn : {Mark : Type 0} → Setup Mark → Step Mark → History Mark → Type 0
InTurn setup (Noted (note.Frame c f n last)) past = next_on setup c past ≡ Flows f (unit.Body n last)
InTurn setup (Noted (note.Credit c s n)) past = next_on setup c past ≡ Grants (record { stream = s; n = n })
InTurn setup (Marked m) past = IfSome (setup.picks m) (λ p. PickedInTurn setup p.conn p.unit past)
InTurn setup step past = Unit {0}
