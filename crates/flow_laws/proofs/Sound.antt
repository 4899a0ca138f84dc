-- One step more: what is owed of each law that looks back, and that the history with it is sound.
use Rattle.flow_laws.proofs.Balance.{balance}
use Rattle.flow_laws.proofs.Bounded.{bounded}
use Rattle.flow_laws.proofs.Crossings.{before_turn}
use Rattle.flow_laws.proofs.Lives.{each_of}
use Rattle.flow_laws.proofs.Losing.{bodies_are_sent, tied}
use Rattle.flow_laws.specs.Balance.{IsPaced, LeavesClosed, owed_times}
use Rattle.flow_laws.specs.Fitting.{FitsIn}
use Rattle.flow_laws.specs.Octets.{GoesOn, ReadsBody}
use Rattle.flow_laws.specs.Suits.{IsSound, MayGoOn, Suits}
use Rattle.flow_laws.specs.Ways.{HasLimits, HasWays}
use Rattle.std.proofs.Common.{ap, arith}
use Rattle.std.specs.Prelude.{[], ℕ, ◌+◌, ◌-◌, ◌∷◌, ◌≡◌}
use Rattle.tape_laws.specs.Doomed.{LeavesDoomed}
use Rattle.tape_laws.specs.Headline.{CountsItsSources, Headline}
use Rattle.tape_laws.specs.History.{BeforeOthers, BeforeTurn, EachFollows, History, Noted, Step}
use Rattle.tape_laws.specs.Lawful.{IsLawful}
use Rattle.tape_laws.specs.Pauses.{IsCounted, PausesInOrder, count, due_pauses, lows}
use Rattle.tape_laws.specs.Quiet.{IsQuiet}
use Rattle.tape_laws.specs.Setup.{Session, Setup}
use Rattle.tape_laws.specs.Sources.{disabled, live_flows}
use Rattle.flow_notes.specs.declared.notes.Note.TheVariants as note

module _ {Mark : Type 0} where
  pub each_map : (A B : Step Mark → History Mark → Type 0) → ((s : Step Mark) (h : History Mark) → A s h → B s h) → (h : History Mark) → EachFollows A h → EachFollows B h
  each_map A B f [] a = tt
  each_map A B f (s ∷ h) a = (f s h a.0, each_map A B f h a.1)

module _ {Mark : Type 0} (setup : Setup Mark) where
  -- where no pause is due each count is that of its sources and lows
  pub counted_at : HasWays setup → (h : History Mark) → IsPaced setup h → due_pauses setup h ≡ [] → IsCounted setup h
  counted_at ways h p due =
      each_of (λ f. count f h ≡ disabled setup f h + lows setup f h) (live_flows setup h)
      (λ f a. sums _ _ _ _ (ap (owed_times f) due) (balance setup ways f h p.paused p.doomed p.closed a))
    where
      sums : (p r o d : ℕ) → o ≡ 0 → p + o ≡ r + d → p - r ≡ d
      sums p r o d z e = omega (arith, z, e)

  pub counted_before : (step : Step Mark) (h : History Mark) → PausesInOrder setup step h → (due_pauses setup h ≡ [] → IsCounted setup h) → BeforeOthers (IsCounted setup) step h
  counted_before (Noted (note.Pause f b)) h p c = tt
  counted_before (Noted (note.Resume f b)) h p c = c p.0
  counted_before step h p1 c1 = c1 p1

module _ {Mark : Type 0} (session : Session Mark) where
  pub paced_of : (h : History Mark) → IsSound session h → IsPaced session.setup h
  paced_of h s = record {
    paused = s.lawful.paused;
    doomed = s.lawful.doomed;
    closed = each_map (Suits session.setup) (BeforeTurn (LeavesClosed session.setup)) (λ v k a. a.closed) h s.suited;
  }

  pub goes_on : HasWays session.setup → HasLimits session.setup → (step : Step Mark) (h : History Mark) → IsSound session h → MayGoOn session step h → IsSound session (step ∷ h)
  goes_on ways limited step h s m =
      let l = s.lawful in
      let suited : EachFollows (Suits session.setup) (step ∷ h) = (m.suits, s.suited) in
      let fits : EachFollows (FitsIn session.setup) (step ∷ h) = each_map (Suits session.setup) (FitsIn session.setup) (λ v k a. a.fits) (step ∷ h) suited in
      let reads : EachFollows (ReadsBody session.setup) (step ∷ h) = each_map (Suits session.setup) (ReadsBody session.setup) (λ v k a. a.reads) (step ∷ h) suited in
      let further : EachFollows (GoesOn session.setup) (step ∷ h) = each_map (Suits session.setup) (GoesOn session.setup) (λ v k a. a.goes_on) (step ∷ h) suited in
      let doomed : EachFollows LeavesDoomed (step ∷ h) = (m.doomed, l.doomed) in
      record {
        lawful = record {
          allowed = (m.allowed, l.allowed);
          paused = (m.paused, l.paused);
          counted = (counted_before session.setup step h m.paused (counted_at session.setup ways h (paced_of h s)), l.counted);
          bounded = (bounded session.setup ways limited (step ∷ h) (m.allowed, l.allowed) doomed fits, l.bounded);
          tied = (tied session.setup ways (step ∷ h) doomed reads further, l.tied);
          ends = (m.ends, l.ends);
          in_turn = (m.in_turn, l.in_turn);
          doomed = doomed;
          swept = (m.swept, l.swept);
          answered = (m.answered, l.answered);
          only = (m.only, l.only);
          licensed = (m.licensed, l.licensed);
          may = (m.may, l.may);
          quiet = (m.quiet, l.quiet);
        };
        suited = suited;
      }

-- ---- the headline
module _ {Mark : Type 0} (session : Session Mark) (ways : HasWays session.setup) where
  quiet_counts : (step : Step Mark) (h : History Mark) → BeforeTurn (IsQuiet session) step h → BeforeTurn (CountsItsSources session.setup) step h
  quiet_counts step h q = before_turn (IsQuiet session) (CountsItsSources session.setup) step h (λ v. v.counted) q

  -- of a lawful history, where what arrives is the body's next octets and bodies only go on
  pub headline_by : (h : History Mark) → IsLawful session h → IsQuiet session h → EachFollows (ReadsBody session.setup) h → EachFollows (GoesOn session.setup) h → Headline session.setup h
  headline_by h l q reads further = record {
    sent = (bodies_are_sent session.setup ways h l.allowed l.doomed reads further).1;
    bounded = l.bounded;
    counted = each_map (BeforeTurn (IsQuiet session)) (BeforeTurn (CountsItsSources session.setup)) quiet_counts h l.quiet;
    last = q.counted;
  }

  pub headline_of : (h : History Mark) → IsSound session h → IsQuiet session h → Headline session.setup h
  headline_of h s q = headline_by h s.lawful q
      (each_map (Suits session.setup) (ReadsBody session.setup) (λ v k a. a.reads) h s.suited)
      (each_map (Suits session.setup) (GoesOn session.setup) (λ v k a. a.goes_on) h s.suited)

-- nothing has happened yet
pub begins : {Mark : Type 0} (session : Session Mark) → HasWays session.setup → HasLimits session.setup → IsSound session []
begins session ways limited = record {
  lawful = record {
    allowed = tt;
    paused = tt;
    counted = tt;
    bounded = bounded session.setup ways limited [] tt tt tt;
    tied = tied session.setup ways [] tt tt tt;
    ends = tt;
    in_turn = tt;
    doomed = tt;
    swept = tt;
    answered = tt;
    only = tt;
    licensed = tt;
    may = tt;
    quiet = tt;
  };
  suited = tt;
}
