-- A doomed stream is gone.
use Rattle.flow_notes.specs.declared.notes.Note.{Note}
use Rattle.plain_laws.proofs.Keepings.{gone_keeps, gone_keeps_write}
use Rattle.plain_laws.proofs.Readiness.{keeps_ready}
use Rattle.plain_laws.proofs.Steps.{gone_step}
use Rattle.std.proofs.Common.{inl, inr, refl, subst, ◌∙◌}
use Rattle.std.specs.List.{list_any}
use Rattle.std.specs.Prelude.{List, None, Option, Some, [], false, true, ℕ, ◌∷◌, ◌≡◌, ◌⊎◌}
use Rattle.plain_laws.specs.Next.{is_ready}
use Rattle.plain_laws.specs.Words.{Past, Alive, conn_high, conn_lows}
use Rattle.tape_laws.specs.History.{Noted, onto}
use Rattle.tape_laws.specs.declared.PlainLimits.{PlainLimits}
use Rattle.plain_core.proofs.Fronts.{Stepped}
use Rattle.plain_core.proofs.Keeping.{good_of, only_moves}
use Rattle.plain_core.specs.Agenda.{Agenda, is_rounded, is_telling}
use Rattle.plain_core.specs.Carries.{NoneDoomed, Sweeps, SweepsAs, SweepsAt}
use Rattle.plain_core.specs.Flows.{FlowsStand}
use Rattle.plain_core.specs.Progress.{HasFramed, Pairs, Underway}
use Rattle.plain_core.specs.Runs.{IsGood, Keeps}
use Rattle.plain_core.specs.declared.flows.Flows.{Flows}
use Rattle.plain_core.specs.declared.plain.PlainCore.{PlainCore}
use Rattle.flow_notes.specs.declared.notes.Note.TheVariants as note
use Rattle.plain_core.specs.Words.{HasFlows}

gone_framed : (limits : PlainLimits) (x : ℕ) (h : Past) → HasFramed limits h → HasFramed limits (Noted (note.Gone x) ∷ h)
gone_framed limits x h f = record {
  none = elim f.none as (λ s. (conn_high limits (Noted (note.Gone x) ∷ h) ≡ true)
      ⊎ ((y : ℕ) → Alive (Noted (note.Gone x) ∷ h) y → is_ready limits y (Noted (note.Gone x) ∷ h) ≡ false))
      [ inl e ↦ inl ((gone_keeps_write limits x h).high ∙ e) | inr e ↦ inr (λ y l. keeps_ready limits y h (Noted (note.Gone x) ∷ h) (gone_keeps limits x y h) ∙ e y l) ];
}

module _ (limits : PlainLimits) (x : ℕ) (a : Agenda) (h : Past) where
  told_gone : (conn_lows limits h ≡ []) ⊎ (list_any (is_telling 0) a ≡ true)
      → (conn_lows limits (Noted (note.Gone x) ∷ h) ≡ []) ⊎ (list_any (is_telling 0) a ≡ true)
  told_gone t =
      elim t as (λ s. (conn_lows limits (Noted (note.Gone x) ∷ h) ≡ []) ⊎ (list_any (is_telling 0) a ≡ true))
      [ inl e ↦ inl e | inr e ↦ inr e ]

  rested_gone : (is_rounded a ≡ true) ⊎ ((a ≡ []) × HasFramed limits h)
      → (is_rounded a ≡ true) ⊎ ((a ≡ []) × HasFramed limits (Noted (note.Gone x) ∷ h))
  rested_gone t =
      elim t as (λ s. (is_rounded a ≡ true) ⊎ ((a ≡ []) × HasFramed limits (Noted (note.Gone x) ∷ h))) [ inl e ↦ inl e | inr e ↦ inr (e.0, gone_framed limits x h e.1) ]

-- where nothing is under way nothing is then
underway_gone : (limits : PlainLimits) (pairs : Pairs) (x : ℕ) (h : Past) → Underway limits pairs [] h → Underway limits pairs [] (Noted (note.Gone x) ∷ h)
underway_gone limits pairs x h u = record {
  runs = λ y l m. u.runs y l m;
  tells = told_gone limits x [] h u.tells;
  ends = λ y l e. u.ends y l e;
  reasons = tt;
  unswept = inl refl;
  rested = rested_gone limits x [] h u.rested;
}

sweeps_at : (x : ℕ) (swept : Option ℕ) (old new : Flows) (limits : PlainLimits) (h : Past) → swept ≡ Some x → SweepsAs swept limits new h → SweepsAt x limits new h
sweeps_at x swept old new limits h e s = subst (λ (v : Option ℕ). SweepsAs v limits new h) e s

pub sweep_steps : (old new : PlainCore) (x : ℕ) (flows : Flows) (swept : Option ℕ) → swept ≡ Some x → HasFlows flows old new → new.agenda ≡ old.agenda → old.agenda ≡ []
    → Sweeps swept old.flows flows → Stepped old (note.Gone x ∷ []) new
sweep_steps old new x flows swept some e same idle sweeps = record {
  spelled = (tt, tt);
  silent = (record { events = λ h. refl }, tt);
  goes = λ limits h g.
      let s = sweeps_at x swept old.flows flows limits h some (sweeps.goes limits h g.flows) in
      let k = Noted (note.Gone x) ∷ h in
      good_of limits old new h k (only_moves old new flows e) refl (λ y. refl) (subst (λ (v : Flows). FlowsStand limits v k) (cc) s.stands) (gone_step limits x s.rest h g.flows.lawful s.first)
      (rw (same ∙ idle) (underway_gone limits old.pairs x h (subst (λ (v : Agenda). Underway limits old.pairs v h) idle g.underway))) g;
  well = cc;
}

-- nothing is doomed any more
none_at : (swept : Option ℕ) (old new : Flows) (limits : PlainLimits) (h : Past) → swept ≡ None → SweepsAs swept limits new h → NoneDoomed limits new h
none_at swept old new limits h e s = subst (λ (v : Option ℕ). SweepsAs v limits new h) e s

pub none_doomed : (core : PlainCore) (notes : List Note) (flows : Flows) (swept : Option ℕ) → swept ≡ None → IsGood core notes → Sweeps swept core.flows flows → flows.exchanges.doomed ≡ []
none_doomed core notes flows swept none g s =
    let n = none_at swept core.flows flows g.limits (onto notes g.history) none (s.goes g.limits (onto notes g.history) g.good.flows) in n.stands.exchanges.doomed ∙ n.none

-- and the flows stand as they did
pub none_steps : (old new : PlainCore) (flows : Flows) (swept : Option ℕ) → swept ≡ None → HasFlows flows old new → new.agenda ≡ old.agenda
    → Sweeps swept old.flows flows → Stepped old [] new
none_steps old new flows swept none e same sweeps = record {
  spelled = tt;
  silent = tt;
  goes = λ limits h g.
      let n = none_at swept old.flows flows limits h none (sweeps.goes limits h g.flows) in
      good_of limits old new h h (only_moves old new flows e) refl (λ y. refl) (subst (λ (v : Flows). FlowsStand limits v h) (cc) n.stands) g.flows.lawful (rw same g.underway) g;
  well = cc;
}

-- a core that goes on is still good
pub good_kept : (old new : PlainCore) (before after : List Note) → IsGood old before → Keeps old before new after → IsGood new after
good_kept old new before after g k = record { limits = g.limits; history = g.history; good = k.goes g.limits g.history g.good }
