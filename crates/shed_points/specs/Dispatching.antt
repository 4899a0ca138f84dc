-- What a shedder's dispatch does to the core.
use Rattle.flow_notes.specs.declared.events.Event.{Event}
use Rattle.flow_notes.specs.declared.notes.Note.{Note}
use Rattle.proxy_config.specs.declared.overload.ShedRow.{ShedRow}
use Rattle.shed_points.specs.ShedList.{comes_to}
use Rattle.shed_points.specs.Shedders.{ShedderIs}
use Rattle.shed_points.specs.Shedding.{Became, Judged, shed_at, verdict_of}
use Rattle.shed_points.specs.declared.shedder.Shedder.{Shedder}
use Rattle.shed_points.specs.declared.verdict.Verdict.{Verdict}
use Rattle.std.specs.Prelude.{Err, List, Ok, Result, [], ◌∷◌, ◌≡◌, ◌⊎◌}
use Rattle.worker_core.specs.Sessions.{BreaksOff, CarriesOut}
use Rattle.worker_core.specs.declared.worker.Kind.{Kind}
use Rattle.proxy_config.specs.declared.overload.Point.TheVariants as point

-- the core carried these events out, one after the other
abbrev pub CarriesAll : Kind → List Note → List Event → Kind → List Note → Type 0
CarriesAll old before [] new after = (new ≡ old) × (after ≡ before)
CarriesAll old before (e ∷ es) new after = (mid : Kind) × (between : List Note) × CarriesOut old before e mid between × CarriesAll mid between es new after

-- it carried some of them out, and memory was refused before or in the next one: what was told of them stands
abbrev pub BreaksIn : Kind → List Note → List Event → List Note → Type 0
BreaksIn old before [] after = after ≡ before
BreaksIn old before (e ∷ es) after = BreaksOff old before e after ⊎ ((mid : Kind) × (between : List Note) × CarriesOut old before e mid between × BreaksIn mid between es after)

abbrev pub Carries : {A E : Type 0} → Kind → List Note → List Event → Kind → List Note → Result A E → Type 0
Carries old before es new after (Ok x) = CarriesAll old before es new after
Carries old before es new after (Err x) = BreaksIn old before es after

-- the event has its verdict, and the core carried out what it comes to
abbrev pub ShedAs : {E : Type 0} → List ShedRow → List Judged → Kind → List Note → Event → Shedder → Kind → List Note → Result Verdict E → Type 0
ShedAs rows js old before e shedder new after (Ok v) = (v ≡ verdict_of rows e js) × ShedderIs shedder rows (Became e v ∷ js) × CarriesAll old before (comes_to e v (shed_at point.Drain js)) new after
ShedAs rows js old before e shedder new after (Err x) = BreaksIn old before (comes_to e (verdict_of rows e js) (shed_at point.Drain js)) after

pub record Sheds {E : Type 0} (before : Shedder) (old : Kind) (notes_old : List Note) (e : Event) (after : Shedder) (new : Kind) (notes_new : List Note) (result : Result Verdict E) : Type 0 where
  pub goes : (rows : List ShedRow) (js : List Judged) → ShedderIs before rows js → ShedAs rows js old notes_old e after new notes_new result
