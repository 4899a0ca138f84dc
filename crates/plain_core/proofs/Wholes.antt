-- Whole dispatches.
use Rattle.flow_notes.specs.declared.events.Event.{Event}
use Rattle.flow_notes.specs.declared.notes.Note.{Note}
use Rattle.plain_laws.proofs.Rotation.{next_none}
use Rattle.plain_laws.proofs.Steps.{settled_done}
use Rattle.plain_laws.proofs.Streams.{by_case, not_both}
use Rattle.std.proofs.Common.{arith, inl, inr, refl, sym, ◌∙◌}
use Rattle.std.proofs.lemmas.Bool.Decides.{nat_tests}
use Rattle.std.specs.Prelude.{List, [], false, length, nat_lt, true, ℕ, ◌&&◌, ◌<◌, ◌==◌, ◌∷◌, ◌≡◌}
use Rattle.plain_laws.specs.Words.{Past, Alive, conn_high, conn_lows, next_out, recv_at}
use Rattle.tape_laws.specs.Flows.{request}
use Rattle.tape_laws.specs.Order.{Nothing}
use Rattle.tape_laws.specs.Pauses.{count}
use Rattle.tape_laws.specs.PlainSession.{plain_must_end}
use Rattle.tape_laws.specs.PlainTape.{IsPlainWhole}
use Rattle.tape_laws.specs.declared.PlainLimits.{PlainLimits}
use Rattle.plain_core.proofs.Fronts.{appends_more, turn_appended, turn_more}
use Rattle.plain_core.proofs.Rested.{no_task}
use Rattle.plain_core.specs.Agenda.{is_run_of, is_telling}
use Rattle.plain_core.specs.Carries.{may_move}
use Rattle.plain_core.specs.Progress.{will_doom}
use Rattle.plain_core.specs.Runs.{Cuts, CutsTurn, Keeps, Opens, Turns}
use Rattle.plain_core.specs.Stands.{Good}
use Rattle.plain_core.specs.declared.plain.PlainCore.{PlainCore}

some_test : (c n : ℕ) → c ≡ 0 → 0 < n → ((c == 0) && nat_lt 0 n) ≡ true
some_test c n e f = grind (arith, nat_tests)

nothing_left : (c : ℕ) (xs : List ℕ) → ((c == 0) && nat_lt 0 (length xs)) ≡ false → c ≡ 0 → xs ≡ []
nothing_left c [] e z = refl
nothing_left c (y ∷ ys) e z = not_both _ (some_test c (length (y ∷ ys)) z (omega arith)) e

-- where nothing is under way and nothing doomed nothing is left to do
whole_of : (limits : PlainLimits) (core : PlainCore) (h : Past) → Good limits core h → core.agenda ≡ [] → core.flows.exchanges.doomed ≡ [] → IsPlainWhole limits h
whole_of limits core h g idle swept =
    let u = g.underway in
    let told : conn_lows limits h ≡ [] =
    elim u.tells as (λ s. conn_lows limits h ≡ []) [ inl e ↦ e | inr e ↦ not_both _ e (no_task (is_telling 0) core.agenda idle) ] in
    let still : (x : ℕ) → Alive h x → may_move limits x h ≡ false =
    λ x is. by_case (may_move limits x h) (λ t. not_both _ (u.runs x is t) (no_task (is_run_of (request x)) core.agenda idle)) (λ f. f) in
    let framed : conn_high limits h ≡ false → next_out limits h ≡ Nothing =
    λ low. elim u.rested as (λ s. next_out limits h ≡ Nothing) [
      | inl e ↦ not_both _ e (cc)
      | inr e ↦ elim (e.1.none) as (λ s. next_out limits h ≡ Nothing) [ inl a ↦ not_both _ a low | inr r ↦ next_none limits h r ]
    ] in
    let ended : (x : ℕ) → Alive h x → plain_must_end x h ≡ false =
    λ x is. by_case (plain_must_end x h) (λ t. not_both _ (u.ends x is t) (no_task (will_doom core.pairs x) core.agenda idle)) (λ f. f) in
    record {
      lawful = g.flows.lawful.regular.lawful;
      quiet = (settled_done limits h g.flows.lawful told (λ x is z. nothing_left (count (request x) h) (recv_at limits x h) (still x is) z) framed ended
          (sym g.flows.stands.exchanges.doomed ∙ swept)).quiet;
    }

-- an event's effect, the small steps, and the sweep
pub turns_of : (old a b new : PlainCore) (before m n after : List Note) (e : Event) → Opens old before e a m → Keeps a m b n → Keeps b n new after → new.agenda ≡ [] → new.flows.exchanges.doomed ≡ []
    → Turns old before e new after
turns_of old a b new before m n after e o k l idle swept = record {
  appends = turn_more before e n after (turn_more before e m n o.appends k.appends) l.appends;
  spelled = λ i s. l.spelled (k.spelled (o.spelled i s));
  shows = λ h. l.events h ∙ k.events h ∙ o.shows h;
  goes = λ limits h r f.
      let g = l.goes limits h (k.goes limits h (o.goes limits h r f)) in
      record { good = g; whole = whole_of limits new _ g idle swept; idle = idle; well = l.well ∙ k.well ∙ o.well ∙ r.well };
}

pub cuts_of : (old a : PlainCore) (before m after : List Note) (e : Event) → Opens old before e a m → Cuts a m after → CutsTurn old before e after
cuts_of old a before m after e o c = record {
  appends = appends_more before m after (turn_appended before e m o.appends) c.appends;
  spelled = λ i s. c.spelled (o.spelled i s);
  shows = λ h. inr (c.events h ∙ o.shows h);
  lawful = λ limits h r f. c.lawful limits h (o.goes limits h r f);
}
