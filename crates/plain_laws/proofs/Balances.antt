-- The balance of counts of a plain session, by the laws of any setup.
use Rattle.flow_laws.proofs.Balance.{balance}
use Rattle.flow_laws.proofs.Crossings.{at_turn}
use Rattle.flow_laws.proofs.Lives.{each_of}
use Rattle.flow_laws.proofs.Sound.{counted_at, counted_before}
use Rattle.flow_laws.specs.Balance.{IsPaced, LeavesClosed, owed_times}
use Rattle.flow_laws.specs.Ways.{HasWays}
use Rattle.flow_notes.specs.declared.notes.Note.{Note}
use Rattle.plain_laws.proofs.Streams.{flow_is_live}
use Rattle.plain_laws.specs.Words.{Alive, Past, disabled_at, lows_at}
use Rattle.std.proofs.Common.{ap, arith, refl, sym, ◌∙◌}
use Rattle.std.specs.Prelude.{[], false, ℕ, ◌+◌, ◌-◌, ◌∷◌, ◌≡◌}
use Rattle.tape_laws.specs.Causes.{HasCause}
use Rattle.tape_laws.specs.Connections.{was_closed}
use Rattle.tape_laws.specs.Flows.{request}
use Rattle.tape_laws.specs.History.{BeforeOthers, BeforeTurn, EachFollows, Marked, NoMark, Noted, Step}
use Rattle.tape_laws.specs.Pauses.{IsCounted, PausesInOrder, count, due_pauses, pauses, resumes}
use Rattle.tape_laws.specs.Plain.{plain_setup}
use Rattle.tape_laws.specs.PlainTape.{IsPlainLawful}
use Rattle.tape_laws.specs.Sources.{live_flows}
use Rattle.tape_laws.specs.declared.PlainLimits.{PlainLimits}
use Rattle.flow_notes.specs.declared.notes.Note.TheVariants as note

pub plain_ways : (limits : PlainLimits) → HasWays {Mark = NoMark} (plain_setup limits)
plain_ways limits = record {
  own = λ x. (refl, tt);
  apart = λ x. (refl, tt);
  stages = λ f step past o. refl;
  comes = λ f step past o. refl;
  goes = λ f step past o. refl;
}

module _ (limits : PlainLimits) where
  -- no connection is closed
  still_open : (step : Step NoMark) (h : Past) → HasCause (plain_setup limits) step h → was_closed 0 h ≡ false → was_closed 0 (step ∷ h) ≡ false
  still_open (Noted (note.Close c code why)) h l o = absurd l
  still_open (Noted (note.Turn k e)) h l1 o1 = o1
  still_open (Noted (note.Arrive g octets)) h l1 o1 = o1
  still_open (Noted (note.Move g q n)) h l1 o1 = o1
  still_open (Noted (note.Frame c g n last)) h l1 o1 = o1
  still_open (Noted (note.Out c n)) h l1 o1 = o1
  still_open (Noted (note.Pause g b)) h l1 o1 = o1
  still_open (Noted (note.Resume g b)) h l1 o1 = o1
  still_open (Noted (note.Credit c s n)) h l1 o1 = o1
  still_open (Noted (note.Head c s octets)) h l1 o1 = o1
  still_open (Noted (note.Answer c octets)) h l1 o1 = o1
  still_open (Noted (note.Waste c s n)) h l1 o1 = o1
  still_open (Noted (note.Start x c s d)) h l1 o1 = o1
  still_open (Noted (note.Doom x why)) h l1 o1 = o1
  still_open (Noted (note.Gone x)) h l1 o1 = o1
  still_open (Noted (note.Fire k i)) h l1 o1 = o1
  still_open (Marked m) h l1 o1 = o1

  never_closed : (h : Past) → EachFollows (HasCause (plain_setup limits)) h → was_closed 0 h ≡ false
  never_closed [] l = refl
  never_closed (step ∷ h) l = still_open step h l.0 (never_closed h l.1)

  none_closed : (h : Past) → EachFollows (HasCause (plain_setup limits)) h → EachFollows (BeforeTurn (LeavesClosed (plain_setup limits))) h
  none_closed [] l = tt
  none_closed (step ∷ h) l = (
    at_turn (LeavesClosed (plain_setup limits)) step h (each_of (λ f. was_closed 0 h ≡ false) (live_flows (plain_setup limits) h) (λ f a. never_closed h l.1)),
    none_closed h l.1,
  )

  paced : (h : Past) → IsPlainLawful limits h → IsPaced (plain_setup limits) h
  paced h l = record { paused = l.paused; doomed = l.doomed; closed = none_closed h l.licensed }

  -- where no pause is due, pauses are resumes, sources above and lows
  pub tally_at : (x : ℕ) (h : Past) → IsPlainLawful limits h → due_pauses (plain_setup limits) h ≡ [] → Alive h x
      → pauses (request x) h + 0 ≡ resumes (request x) h + (disabled_at limits x h + lows_at limits x h)
  tally_at x h l due is =
      let p = paced h l in
      ap (λ ds. pauses (request x) h + owed_times (request x) ds) (sym due)
      ∙ balance (plain_setup limits) (plain_ways limits) (request x) h p.paused p.doomed p.closed (flow_is_live limits x h is)

  pub count_is : (x : ℕ) (h : Past) → IsPlainLawful limits h → due_pauses (plain_setup limits) h ≡ [] → Alive h x
      → count (request x) h ≡ disabled_at limits x h + lows_at limits x h
  count_is x h l due is = less _ _ _ (tally_at x h l due is)
    where
      less : (p r d : ℕ) → p + 0 ≡ r + d → p - r ≡ d
      less p r d e = omega (arith, e)

  pub counted_at_step : (n : Note) (h : Past) → IsPlainLawful limits h → PausesInOrder (plain_setup limits) (Noted n) h → BeforeOthers (IsCounted (plain_setup limits)) (Noted n) h
  counted_at_step n h l p = counted_before (plain_setup limits) (Noted n) h p (counted_at (plain_setup limits) (plain_ways limits) h (paced h l))
