-- What was done, and what is done after it.
use Rattle.flow_notes.specs.declared.events.Event.{Event}
use Rattle.relay_laws.specs.Pairs.{Tape}
use Rattle.relay_work.proofs.Steps.{after_append, events_append, lines_append, shown_append, told_append}
use Rattle.relay_work.specs.Belonging.{Belong}
use Rattle.relay_work.specs.Events.{events_in, lines_of, shown_after, tape_after}
use Rattle.relay_work.specs.Live.{Live}
use Rattle.relay_work.specs.Turns.{with_all}
use Rattle.relay_work.specs.Works.{Cut, Does, DoesCut, EndsCut, Stands}
use Rattle.relay_work.specs.declared.turns.RelayEnded.{RelayEnded}
use Rattle.std.proofs.Common.{ap, append_assoc, subst, sym, ◌∙◌}
use Rattle.std.proofs.KnownBytes.{Appends-trans}
use Rattle.std.specs.Io.KnownBytes.{Appends}
use Rattle.std.specs.Prelude.{List, ℕ, ◌++◌, ◌≡◌}
use Rattle.tape_laws.specs.Dispatches.{events_back}
use Rattle.tcp_relay.specs.Rests.{Rests}
use Rattle.worker_ports.specs.declared.wires.WireStep.{WireStep}
use Rattle.relay_work.specs.declared.turns.RelayEnded.TheVariants as ended

module _ (limit : ℕ) (names : List (List ℕ)) (h : Tape) (old mid new : Live) (s : List WireStep) (p : Does limit names h old s mid) where
  abbrev pub here : Tape
  here = tape_after limit s h

  shown_both : (t : List WireStep) → events_back (tape_after limit t here) ≡ shown_after (events_in t) (events_back here)
      → events_back (tape_after limit (s ++ t) h) ≡ shown_after (events_in (s ++ t)) (events_back h)
  shown_both t q =
      ap (λ (v : Tape). events_back v) (after_append limit s t h) ∙ q ∙ ap (λ (v : List Event). shown_after (events_in t) v) p.shown
      ∙ sym (ap (λ (v : List Event). shown_after v (events_back h)) (events_append s t) ∙ shown_append (events_in s) (events_in t) (events_back h))

  lines_both : (t : List WireStep) → lines_of names (events_in s) ++ lines_of names (events_in t) ≡ lines_of names (events_in (s ++ t))
  lines_both t = sym (ap (λ (v : List Event). lines_of names v) (events_append s t) ∙ lines_append names (events_in s) (events_in t))

  pub then_does : (t : List WireStep) → Does limit names here mid t new → Does limit names h old (s ++ t) new
  then_does t q = record {
    told = q.told ∙ ap (λ v. with_all t v) p.told ∙ sym (told_append s t old.seen.steps);
    text = subst (λ (v : List ℕ). Appends old.text new.text v) (lines_both t) (Appends-trans old.text mid.text new.text _ _ p.text q.text);
    shown = shown_both t q.shown;
    belong = subst (λ (v : Tape). Belong limit names new.relay new.seen v) (sym (after_append limit s t h)) q.belong;
  }

  stands_both : (t : List WireStep) → Stands limit names here t new → Stands limit names h (s ++ t) new
  stands_both t q = record {
    rests = subst (λ (v : Tape). Rests limit names new.relay v) (sym (after_append limit s t h)) q.rests;
    shown = shown_both t q.shown;
  }

  abbrev pub cut_behind : Cut → Cut
  cut_behind cut = record { done = s ++ cut.done; last = cut.last; front = cut.front; rest = cut.rest }

  ends_both : (end : RelayEnded) (cut : Cut) → EndsCut end limit names here cut new → EndsCut end limit names h (cut_behind cut) new
  ends_both ended.Turns cut e = e
  ends_both ended.Stopped cut e = e
  ends_both ended.TapsFault cut e = (e.0, stands_both cut.done e.1)
  ends_both ended.JournalFault cut e = (e.0, e.1, stands_both cut.done e.2)
  ends_both ended.Memory cut e = e

  pub then_cut : (end : RelayEnded) (cut : Cut) → DoesCut limit names here mid end cut new → DoesCut limit names h old end (cut_behind cut) new
  then_cut end cut q = record {
    told = q.told ∙ ap (λ v. with_all (cut.done ++ cut.last) v) p.told ∙ sym (told_append s (cut.done ++ cut.last) old.seen.steps)
        ∙ ap (λ (v : List WireStep). with_all v old.seen.steps) (sym (append_assoc s cut.done cut.last));
    line = q.line;
    text = subst (λ (v : List ℕ). Appends old.text new.text v)
        (sym (append_assoc (lines_of names (events_in s)) (lines_of names (events_in cut.done)) cut.front) ∙ ap (λ (v : List ℕ). v ++ cut.front) (lines_both cut.done))
        (Appends-trans old.text mid.text new.text _ _ p.text q.text);
    ends = ends_both end cut q.ends;
  }
