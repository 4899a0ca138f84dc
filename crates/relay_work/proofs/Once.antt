-- One step, and what comes of it.
use Rattle.flow_notes.specs.declared.events.Event.{Event}
use Rattle.relay_laws.specs.Dispatch.{dispatch_notes}
use Rattle.relay_laws.specs.Pairs.{Tape}
use Rattle.relay_work.proofs.Steps.{closes_after, closes_events, told_append, told_none}
use Rattle.relay_work.specs.Belonging.{Belong}
use Rattle.relay_work.specs.Carrying.{Carried, Carries}
use Rattle.relay_work.specs.Dispatching.{LineCut, LineOrNone, line_of}
use Rattle.relay_work.specs.Events.{event_in, events_in, in_front, lines_of, shown_after, tape_after, tape_with}
use Rattle.relay_work.specs.Live.{Live, live_of}
use Rattle.relay_work.specs.Settling.{AreCloses}
use Rattle.relay_work.specs.Turns.{with_all}
use Rattle.relay_work.specs.Works.{Cut, Does, DoesCut}
use Rattle.relay_work.specs.declared.turns.RelayEnded.{RelayEnded}
use Rattle.std.proofs.Common.{ap, arith, inl, refl, subst, sym, ◌∙◌}
use Rattle.std.proofs.KnownBytes.{Appends-nil}
use Rattle.std.proofs.lemmas.List.{append-nil}
use Rattle.std.specs.Io.KnownBytes.{Appends}
use Rattle.std.specs.Prelude.{Err, List, None, Option, Some, [], length, ℕ, ◌++◌, ◌∷◌, ◌≡◌}
use Rattle.tape_laws.specs.Dispatches.{events_back}
use Rattle.tape_laws.specs.History.{onto}
use Rattle.tcp_relay.specs.Rests.{Rests}
use Rattle.worker_ports.specs.Told.{with_last}
use Rattle.worker_ports.specs.Wires.{Seen}
use Rattle.worker_ports.specs.declared.wires.WireStep.{WireStep}
use Rattle.relay_work.specs.declared.turns.RelayEnded.TheVariants as ended

-- ---- nothing was done
pub no_step : (limit : ℕ) (names : List (List ℕ)) (h : Tape) (old : Live) → Belong limit names old.relay old.seen h → Does limit names h old [] old
no_step limit names h old b = record { told = told_none old.seen.steps; text = Appends-nil old.text; shown = refl; belong = b }

abbrev pub cut_none : Cut
cut_none = record { done = []; last = []; front = []; rest = [] }

abbrev pub cut_at : WireStep → List ℕ → List ℕ → Cut
cut_at x front rest = record { done = []; last = x ∷ []; front = front; rest = rest }

pub no_step_cut : (limit : ℕ) (names : List (List ℕ)) (h : Tape) (old : Live) → Belong limit names old.relay old.seen h
    → DoesCut limit names h old ended.TapsFault cut_none old
no_step_cut limit names h old b = record {
  told = told_none old.seen.steps;
  line = refl;
  text = Appends-nil old.text;
  ends = (refl, record { rests = b.rests; shown = refl });
}

pub no_step_memory : (limit : ℕ) (names : List (List ℕ)) (h : Tape) (old : Live) → DoesCut limit names h old ended.Memory cut_none old
no_step_memory limit names h old = record {
  told = told_none old.seen.steps;
  line = refl;
  text = Appends-nil old.text;
  ends = (omega arith, inl refl);
}

module _ (limit : ℕ) (names : List (List ℕ)) (h : Tape) (old : Live) (x : WireStep) (seen : Seen) (told : seen.steps ≡ with_last x old.seen.steps) where
  abbrev pub mid : Live
  mid = live_of old.relay seen old.text

  -- ---- without an event
  pub without_event : event_in x ≡ None → Belong limit names old.relay seen h → Does limit names h old (x ∷ []) mid
  without_event n b = record {
    told = told;
    text = subst (λ (o : Option Event). Appends old.text old.text (lines_of names (in_front o []))) (sym n) (Appends-nil old.text);
    shown = (λ i. events_back (tape_with limit (n i) h)) ∙ sym (ap (λ (o : Option Event). shown_after (in_front o []) (events_back h)) n);
    belong = subst (λ (o : Option Event). Belong limit names old.relay seen (tape_with limit o h)) (sym n) b;
  }

  module _ (e : Event) (is : event_in x ≡ Some e) (new : Live) where
    abbrev next : Tape
    next = onto (dispatch_notes limit e h) h

    tape_is : (closes : List WireStep) → AreCloses closes next → tape_after limit (x ∷ closes) h ≡ next
    tape_is closes a = ap (λ (o : Option Event). tape_after limit closes (tape_with limit o h)) is ∙ closes_after limit closes next a

    events_are : (closes : List WireStep) → AreCloses closes next → events_in (x ∷ closes) ≡ e ∷ []
    events_are closes a = (λ i. in_front (is i) (closes_events closes next a i))

    one_line : lines_of names (e ∷ []) ≡ line_of names e
    one_line = append-nil (line_of names e)

    -- ---- with an event that was carried out
    pub with_event : (k : Carried limit names e h mid new) → Does limit names h old (x ∷ k.closes) new
    with_event k = record {
      told = k.told ∙ ap (λ v. with_all k.closes v) told ∙ sym (told_append (x ∷ []) k.closes old.seen.steps);
      text = subst (λ (v : List ℕ). Appends old.text new.text v) (sym (ap (λ (v : List Event). lines_of names v) (events_are k.closes k.over) ∙ one_line)) k.text;
      shown = ap (λ (v : Tape). events_back v) (tape_is k.closes k.over) ∙ k.shown
          ∙ sym (ap (λ (v : List Event). shown_after v (events_back h)) (events_are k.closes k.over));
      belong = subst (λ (v : Tape). Belong limit names new.relay new.seen v) (sym (tape_is k.closes k.over)) k.belong;
    }

    -- ---- with an event that was cut short
    line_cut : (front rest : List ℕ) → line_of names e ≡ front ++ rest → lines_of names (events_in (x ∷ [])) ≡ front ++ rest
    line_cut front rest l = ap (λ (v : List Event). lines_of names v) (events_are [] tt) ∙ one_line ∙ l

    pub journal_cut : new.seen ≡ seen → Rests limit names new.relay h → (l : LineCut (line_of names e) old.text new.text)
        → DoesCut limit names h old ended.JournalFault (cut_at x l.front l.rest) new
    journal_cut s r l = record {
      told = ap (λ (v : Seen). v.steps) s ∙ told;
      line = line_cut l.front l.rest l.is;
      text = l.text;
      ends = (refl, ap (λ (v : List Event). length v) (events_are [] tt), record { rests = r; shown = refl });
    }

    pub memory_cut : new.seen ≡ seen → (l : LineOrNone (line_of names e) old.text new.text)
        → DoesCut limit names h old ended.Memory (cut_at x l.cut.front l.cut.rest) new
    memory_cut s l = record {
      told = ap (λ (v : Seen). v.steps) s ∙ told;
      line = line_cut l.cut.front l.cut.rest l.cut.is;
      text = l.cut.text;
      ends = (omega arith, l.whole);
    }

    -- whatever cut it short
    pub record CutOnce (end : RelayEnded) : Type 0 where
      pub front : List ℕ
      pub rest : List ℕ
      pub does : DoesCut limit names h old end (cut_at x front rest) new

    pub cut_once : (end : RelayEnded) → Carries limit names e h mid (Err end) new → CutOnce end
    cut_once ended.Turns k = absurd k
    cut_once ended.Stopped k = absurd k
    cut_once ended.TapsFault k = absurd k
    cut_once ended.JournalFault k = record { front = k.2.front; rest = k.2.rest; does = journal_cut k.0 k.1 k.2 }
    cut_once ended.Memory k = record { front = k.1.cut.front; rest = k.1.cut.rest; does = memory_cut k.0 k.1 }
