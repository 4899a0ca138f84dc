-- What the connections tell is carried out.
use Rattle.flow_notes.specs.Fields.{FitsEvent}
use Rattle.flow_notes.specs.declared.events.Event.{Event}
use Rattle.relay_laws.specs.Pairs.{Tape}
use Rattle.relay_work.proofs.Once.{CutOnce, cut_at, cut_none, cut_once, no_step_cut, no_step_memory, with_event, without_event}
use Rattle.relay_work.proofs.Readied.{gives}
use Rattle.relay_work.specs.Belonging.{Belong, Belongs}
use Rattle.relay_work.specs.Carrying.{Carries, CarriesFrom, IsReady, Ready}
use Rattle.relay_work.specs.Events.{event_in, event_told, tape_with}
use Rattle.relay_work.specs.Live.{Live, live_of}
use Rattle.relay_work.specs.Settling.{AreCloses}
use Rattle.relay_work.specs.Turning.{Answered, AnswersFrom, TurnedCut, event_at}
use Rattle.relay_work.specs.Turns.{tells_stop}
use Rattle.relay_work.specs.declared.turns.RelayEnded.{RelayEnded}
use Rattle.std.proofs.Common.{ap, refl, subst, sym}
use Rattle.std.proofs.lemmas.Option.{same_Some}
use Rattle.std.specs.Prelude.{Bool, Err, List, None, Ok, Option, Some, [], ℕ, ◌≡◌}
use Rattle.worker_ports.specs.Told.{with_last}
use Rattle.worker_ports.specs.Wires.{Gives, Seen, given}
use Rattle.worker_ports.specs.declared.wires.Wired.{Wired}
use Rattle.relay_work.specs.declared.turns.RelayEnded.TheVariants as ended
use Rattle.worker_ports.specs.declared.wires.WireStep.TheVariants as step
use Rattle.worker_ports.specs.declared.wires.Wired.TheVariants as wired

told_none : (w : Wired) → event_at w ≡ None → event_told w ≡ None
told_none (wired.Accept c) e = cc
told_none (wired.Join c cluster) e = cc
told_none (wired.Read c octets) e = cc
told_none (wired.Lost c) e = cc
told_none wired.Idle e = refl
told_none wired.Stop e = refl

told_some : (w : Wired) (c : ℕ) (e : Event) → event_at w ≡ Some (c, e) → event_told w ≡ Some e
told_some (wired.Accept d) c e i = ap (λ (p : ℕ × Event). Some p.1) (same_Some _ _ i)
told_some (wired.Join d cluster) c e i = ap (λ (p : ℕ × Event). Some p.1) (same_Some _ _ i)
told_some (wired.Read d octets) c e i = ap (λ (p : ℕ × Event). Some p.1) (same_Some _ _ i)
told_some (wired.Lost d) c e i = ap (λ (p : ℕ × Event). Some p.1) (same_Some _ _ i)
told_some wired.Idle c e i = cc
told_some wired.Stop c e i = cc

module _ (limit : ℕ) (names : List (List ℕ)) (h : Tape) (old : Live) (b : Belong limit names old.relay old.seen h) where
  idle_belong : (w : Wired) → event_at w ≡ None → Belong limit names old.relay (given w old.seen) h
  idle_belong (wired.Accept c) e = cc
  idle_belong (wired.Join c cluster) e = cc
  idle_belong (wired.Read c octets) e = cc
  idle_belong (wired.Lost c) e = cc
  idle_belong wired.Idle e = record { rests = b.rests; clusters = b.clusters; newer = b.newer; live = b.live; held = b.held }
  idle_belong wired.Stop e = record { rests = b.rests; clusters = b.clusters; newer = b.newer; live = b.live; held = b.held }

  module _ (w : Wired) (seen : Seen) (g : Gives old.seen w seen) where
    steps_are : seen.steps ≡ with_last (step.Gave w) old.seen.steps
    steps_are = ap (λ (v : Seen). v.steps) g.is

    nothing_told : (stops : Bool) → stops ≡ tells_stop w → event_at w ≡ None → Answered limit names h old stops (live_of old.relay seen old.text)
    nothing_told stops s n = record {
      wired = w;
      closes = [];
      over = tt;
      stop = sym s;
      does = without_event limit names h old (step.Gave w) seen steps_are (told_none w n)
          (subst (λ (v : Seen). Belong limit names old.relay v h) (sym g.is) (idle_belong w n));
    }

    module _ (c : ℕ) (e : Event) (at : event_at w ≡ Some (c, e)) (fits : FitsEvent e) (new : Live) where
      event_told_is : event_in (step.Gave w) ≡ Some e
      event_told_is = told_some w c e at

      pub ready_told : Ready limit names old.relay seen c e h
      ready_told = gives limit names old.relay old.seen h b w seen c e g fits at

      some_told : (stops : Bool) → stops ≡ tells_stop w → Carries limit names e h (live_of old.relay seen old.text) (Ok tt) new → Answered limit names h old stops new
      some_told stops s k = record {
        wired = w;
        closes = k.closes;
        over = subst (λ (o : Option Event). AreCloses k.closes (tape_with limit o h)) (sym event_told_is) k.over;
        stop = sym s;
        does = with_event limit names h old (step.Gave w) seen steps_are e event_told_is new k;
      }

      told_cut : (end : RelayEnded) → Carries limit names e h (live_of old.relay seen old.text) (Err end) new → TurnedCut limit names h old end new
      told_cut end k =
          let o : CutOnce limit names h old (step.Gave w) seen steps_are e event_told_is new end =
          cut_once limit names h old (step.Gave w) seen steps_are e event_told_is new end k in
          record { cut = cut_at (step.Gave w) o.front o.rest; begins = tt; does = o.does }

-- ---- by what came of it
pub answers_failed : (names : List (List ℕ)) (old : Live) (seen : Seen) → seen ≡ old.seen → AnswersFrom names old (Err ended.TapsFault) (live_of old.relay seen old.text)
answers_failed names old seen s = record {
  goes = λ limit h b. subst (λ (v : Seen). TurnedCut limit names h old ended.TapsFault (live_of old.relay v old.text)) (sym s)
      (record { cut = cut_none; begins = tt; does = no_step_cut limit names h old b });
}

pub answers_memory : (names : List (List ℕ)) (old : Live) (seen : Seen) → seen ≡ old.seen → AnswersFrom names old (Err ended.Memory) (live_of old.relay seen old.text)
answers_memory names old seen s = record {
  goes = λ limit h b. subst (λ (v : Seen). TurnedCut limit names h old ended.Memory (live_of old.relay v old.text)) (sym s)
      (record { cut = cut_none; begins = tt; does = no_step_memory limit names h old });
}

pub answers_none : (names : List (List ℕ)) (old : Live) (w : Wired) (seen : Seen) (stops : Bool) → Gives old.seen w seen → stops ≡ tells_stop w → event_at w ≡ None
    → AnswersFrom names old (Ok stops) (live_of old.relay seen old.text)
answers_none names old w seen stops g s n = record { goes = λ limit h b. nothing_told limit names h old b w seen g stops s n }

module _ (names : List (List ℕ)) (old : Live) (w : Wired) (seen : Seen) (g : Gives old.seen w seen) (c : ℕ) (e : Event) (at : event_at w ≡ Some (c, e)) (fits : FitsEvent e) where
  pub is_ready_told : Belongs names old.relay old.seen → IsReady names old.relay seen c e
  is_ready_told b = record {
    limit = b.limit;
    tape = b.tape;
    ready = ready_told b.limit names b.tape old b.belong w seen g c e at fits old;
  }

  pub answers_some : (new : Live) (stops : Bool) → stops ≡ tells_stop w → CarriesFrom names c e (live_of old.relay seen old.text) (Ok tt) new
      → AnswersFrom names old (Ok stops) new
  answers_some new stops s k = record {
    goes = λ limit h b. some_told limit names h old b w seen g c e at fits new stops s (k.goes limit h (ready_told limit names h old b w seen g c e at fits new));
  }

  pub answers_cut : (new : Live) (end : RelayEnded) → CarriesFrom names c e (live_of old.relay seen old.text) (Err end) new → AnswersFrom names old (Err end) new
  answers_cut new end k = record {
    goes = λ limit h b. told_cut limit names h old b w seen g c e at fits new end (k.goes limit h (ready_told limit names h old b w seen g c e at fits new));
  }
