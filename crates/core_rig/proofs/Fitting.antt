-- A fit core may take an event, and stays fit.
use Rattle.core_rig.specs.Rigs.{IsFit}
use Rattle.flow_notes.specs.declared.events.Event.{Event}
use Rattle.flow_notes.specs.declared.notes.Note.{Note}
use Rattle.std.proofs.Common.{ap, refl, sym, ◌∙◌}
use Rattle.std.specs.Prelude.{Bool, Err, List, Ok, OnErr, OnOk, Result, false, is_ok, true, ◌≡◌}
use Rattle.worker_core.specs.Sessions.{MayTake, RestsWire, has_failed}
use Rattle.worker_core.specs.declared.worker.Kind.{Kind}
use Rattle.worker_core.specs.declared.worker.Kind.TheVariants as kind

pub may_take : (k : Kind) (notes : List Note) (e : Event) → IsFit k → MayTake k notes e
may_take (kind.Plain core) notes e fit = λ well. absurd (fit well)
may_take (kind.Wire session) notes e fit = λ well. (fit well).1

went_on : {A E N : Type 0} (old new : Kind) (broken : Bool) (x : A) (fault : E) → has_failed old ≡ broken → IsFit old → (has_failed old ≡ true → (Ok x ≡ Err fault) × N) → (RestsWire old → RestsWire new) → RestsWire new
went_on old new true x fault is fit failed rests = let no : true ≡ false = ap is_ok (failed is).0 in cc
went_on old new false x fault is fit failed rests = rests (fit is)

pub stays_fit : {A E N : Type 0} (old new : Kind) (r : Result A E) (fault : E) → IsFit old → OnErr r (has_failed new ≡ true) → (has_failed old ≡ true → (r ≡ Err fault) × N) → (RestsWire old → OnOk r (RestsWire new)) → IsFit new
stays_fit old new (Ok x) fault fit fails failed rests = λ well. went_on old new (has_failed old) x fault refl fit failed rests
stays_fit old new (Err e) fault fit fails failed rests = λ well. let no : true ≡ false = sym fails ∙ well in cc
