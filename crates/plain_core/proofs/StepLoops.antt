-- Small steps one after the other, until nothing is under way, and the sweep after them.
use Rattle.flow_notes.specs.declared.events.Event.{Event}
use Rattle.flow_notes.specs.declared.notes.Note.{Note}
use Rattle.std.proofs.Common.{refl, sym}
use Rattle.std.proofs.lemmas.List.{append-nil}
use Rattle.std.specs.List.{slice_get}
use Rattle.std.specs.Prelude.{List, None, Option, Some, [], length, ℕ, ◌++◌, ◌<◌, ◌∷◌, ◌≡◌}
use Rattle.plain_core.proofs.Fronts.{appends_none, cuts_keeps, keeps_of}
use Rattle.plain_core.proofs.Keeping.{keeps_more, with_flows}
use Rattle.plain_core.proofs.StepSweep.{good_kept, none_doomed, none_steps, sweep_steps}
use Rattle.plain_core.specs.Agenda.{Agenda}
use Rattle.plain_core.specs.Carries.{Sweeps}
use Rattle.plain_core.specs.Runs.{Cuts, IsGood, Keeps, Opens}
use Rattle.plain_core.specs.Stands.{CanTake}
use Rattle.plain_core.specs.declared.flows.Flows.{Flows}
use Rattle.plain_core.specs.declared.plain.PlainCore.{PlainCore}
use Rattle.flow_notes.specs.declared.notes.Note.TheVariants as note

-- ---- no step, and an event's effect
pub keeps_none : (core : PlainCore) (notes : List Note) → Keeps core notes core notes
keeps_none core notes = record { appends = appends_none notes; spelled = λ s. s; events = λ h. refl; goes = λ limits h g. g; well = refl }

pub cuts_same : (first old : PlainCore) (start before after : List Note) → Keeps first start old before → after ≡ before → Cuts first start after
cuts_same first old start before after k e = rw e (cuts_keeps first old start before k)

pub opened_good : (old new : PlainCore) (before after : List Note) (e : Event) → CanTake old e before → Opens old before e new after → IsGood new after
opened_good old new before after e c o = record { limits = c.limits; history = c.history; good = o.goes c.limits c.history c.rests c.follows }

-- nothing is on top of an empty agenda alone
pub none_top : (a : Agenda) → slice_get a 0 ≡ None → a ≡ []
none_top [] e = refl
none_top (t ∷ ts) e = absurd (cc)

-- ---- the sweep
pub gone_keeps : (first old : PlainCore) (start before after : List Note) (x : ℕ) (flows : Flows) (swept : Option ℕ) → Keeps first start old before → swept ≡ Some x → old.agenda ≡ []
    → Sweeps swept old.flows flows → after ≡ before ++ note.Gone x ∷ [] → Keeps first start (with_flows old flows) after
gone_keeps first old start before after x flows swept k some idle s is =
    keeps_more first old (with_flows old flows) start before after k
    (keeps_of old (with_flows old flows) before (note.Gone x ∷ []) after is (sweep_steps old (with_flows old flows) x flows swept some refl refl idle s))

module _ (first old : PlainCore) (start before : List Note) (flows : Flows) (swept : Option ℕ) where
  pub none_keeps : Keeps first start old before → swept ≡ None → Sweeps swept old.flows flows
      → Keeps first start (with_flows old flows) before
  none_keeps k none s =
      keeps_more first old (with_flows old flows) start before before k
      (keeps_of old (with_flows old flows) before [] before (sym (append-nil before)) (none_steps old (with_flows old flows) flows swept none refl refl s))

  pub all_gone : IsGood first start → Keeps first start old before → swept ≡ None → Sweeps swept old.flows flows
      → flows.exchanges.doomed ≡ []
  all_gone g k none s = none_doomed old before flows swept none (good_kept first old start before g k) s

pub fewer : (x : ℕ) (swept : Option ℕ) (old new : Flows) → swept ≡ Some x → Sweeps swept old new → length new.exchanges.doomed < length old.exchanges.doomed
fewer x swept old new some s =
    let t : Sweeps (Some x) old new = rw (← some) s in
    t.less
