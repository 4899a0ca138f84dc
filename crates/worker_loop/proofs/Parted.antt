-- The parts of the promise, of what was done.
use Rattle.flow_notes.specs.declared.events.Event.{Event}
use Rattle.flow_notes.specs.declared.events.Event.TheVariants as event
use Rattle.flow_notes.specs.declared.notes.Note.{Note}
use Rattle.flow_notes.specs.declared.notes.Note.TheVariants as note
use Rattle.std.proofs.Common.{ap, append_assoc, refl, subst, sym, ◌∙◌}
use Rattle.std.proofs.lemmas.List.{append-nil, append_cancel_left}
use Rattle.std.specs.Io.KnownBytes.{Appends}
use Rattle.std.specs.List.{AllByRecursion}
use Rattle.std.specs.Prelude.{List, None, Option, Some, [], ℕ, ◌++◌, ◌+◌, ◌∷◌, ◌≡◌}
use Rattle.wire_state.specs.Noting.{IsStep}
use Rattle.worker_core.specs.Dispatching.{Tells}
use Rattle.worker_core.specs.Sessions.{CarriesOut, RestsWire}
use Rattle.worker_core.specs.declared.worker.Kind.{Kind}
use Rattle.worker_core.specs.declared.worker.Kind.TheVariants as kind
use Rattle.worker_loop.proofs.Dispatching.{rests_after}
use Rattle.worker_loop.proofs.Running.{all_events, carried_events, carried_notes, events_append, notes_append}
use Rattle.worker_loop.specs.Carrying.{Carried, CarriedAll, Nothing, One}
use Rattle.worker_loop.specs.Did.{Did, Admitted, Dispatched, Ended, Gave, Left, Noted, Offered, Refused, TurnedAway, events_of, notes_of}
use Rattle.worker_loop.specs.Parts.{Hands, NoneWhole, OneWhole, Whole, lines_of, turn_events}
use Rattle.worker_loop.specs.Places.{Becomes, Place, event_line}
use Rattle.worker_loop.specs.Turns.{Accepted, Came, Full, Idled, Joined, Shut, Stopped, TakesUp, Went}
use Rattle.worker_loop.specs.Works.{InnerRun, NoneRun, OfferRun, Runs, TakenRun}
use Rattle.worker_parts.specs.Journals.{with_notes}
use Rattle.worker_ports.specs.declared.wires.Wired.{Wired}

-- ---- (a) the lines
appends_none : (t : Option (List ℕ)) → Appends t t []
appends_none None = tt
appends_none (Some xs) = sym (append-nil xs)

pub appends_more : (a b c : Option (List ℕ)) (xs ys : List ℕ) → Appends a b xs → Appends b c ys → Appends a c (xs ++ ys)
appends_more None b c xs ys one two = tt
appends_more (Some us) None c xs ys one two = absurd one
appends_more (Some us) (Some vs) None xs ys one two = absurd two
appends_more (Some us) (Some vs) (Some ws) xs ys one two = two ∙ ap (λ zs. zs ++ ys) one ∙ append_assoc us xs ys

-- nothing was written
same_text : (a b c : Option (List ℕ)) (xs : List ℕ) → b ≡ a → Appends b c xs → Appends a c xs
same_text a b c xs e appends = subst (λ (t : Option (List ℕ)). Appends t c xs) e appends

pub lines_done : (names : List (List ℕ)) (ds : List Did) (v w : Place) → Becomes names v ds w → Appends v.text w.text (lines_of names (events_of ds))
lines_done names [] v w e = subst (λ (p : Place). Appends v.text p.text []) (sym e) (appends_none v.text)
lines_done names (Dispatched e ∷ ds) v w b = appends_more v.text b.0.text w.text (event_line names e) (lines_of names (events_of ds)) b.1.1 (lines_done names ds b.0 w b.2)
lines_done names (Gave g ∷ ds) v w b = same_text v.text b.0.text w.text (lines_of names (events_of ds)) (ap (λ (p : Place). p.text) b.1.0) (lines_done names ds b.0 w b.2)
lines_done names (Admitted c ∷ ds) v w b = same_text v.text b.0.text w.text (lines_of names (events_of ds)) (ap (λ (p : Place). p.text) b.1.0) (lines_done names ds b.0 w b.2)
lines_done names (Refused c ∷ ds) v w b = same_text v.text b.0.text w.text (lines_of names (events_of ds)) (ap (λ (p : Place). p.text) b.1.0) (lines_done names ds b.0 w b.2)
lines_done names (TurnedAway c ∷ ds) v w b = same_text v.text b.0.text w.text (lines_of names (events_of ds)) (ap (λ (p : Place). p.text) b.1) (lines_done names ds b.0 w b.2)
lines_done names (Left c ∷ ds) v w b = same_text v.text b.0.text w.text (lines_of names (events_of ds)) (ap (λ (p : Place). p.text) b.1) (lines_done names ds b.0 w b.2)
lines_done names (Ended c ∷ ds) v w b = same_text v.text b.0.text w.text (lines_of names (events_of ds)) (ap (λ (p : Place). p.text) b.1) (lines_done names ds b.0 w b.2)
lines_done names (Noted notes ∷ ds) v w b = same_text v.text b.0.text w.text (lines_of names (events_of ds)) (ap (λ (p : Place). p.text) b.1) (lines_done names ds b.0 w b.2)
lines_done names (Offered c piece n ∷ ds) v w b = same_text v.text b.0.text w.text (lines_of names (events_of ds)) (ap (λ (p : Place). p.text) b.1) (lines_done names ds b.0 w b.2)

-- ---- (b) the notes
notes_none : (t : Option (List Note)) → t ≡ with_notes [] t
notes_none None = refl
notes_none (Some xs) = ap (λ (ys : List Note). Some ys) (sym (append-nil xs))

notes_more : (t : Option (List Note)) (xs ys : List Note) → with_notes ys (with_notes xs t) ≡ with_notes (xs ++ ys) t
notes_more None xs ys = refl
notes_more (Some us) xs ys = ap (λ (zs : List Note). Some zs) (append_assoc us xs ys)

same_told : (a b c : Option (List Note)) (xs : List Note) → b ≡ a → c ≡ with_notes xs b → c ≡ with_notes xs a
same_told a b c xs e is = is ∙ ap (λ (t : Option (List Note)). with_notes xs t) e

pub told_done : (names : List (List ℕ)) (ds : List Did) (v w : Place) → Becomes names v ds w → w.told ≡ with_notes (notes_of ds) v.told
told_done names [] v w e = ap (λ (p : Place). p.told) e ∙ notes_none v.told
told_done names (Noted notes ∷ ds) v w b = told_done names ds b.0 w b.2 ∙ ap (λ (t : Option (List Note)). with_notes (notes_of ds) t) (ap (λ (p : Place). p.told) b.1) ∙ notes_more v.told notes (notes_of ds)
told_done names (Dispatched e ∷ ds) v w b = same_told v.told b.0.told w.told (notes_of ds) (ap (λ (p : Place). p.told) b.1.0) (told_done names ds b.0 w b.2)
told_done names (Gave g ∷ ds) v w b = same_told v.told b.0.told w.told (notes_of ds) (ap (λ (p : Place). p.told) b.1.0) (told_done names ds b.0 w b.2)
told_done names (Admitted c ∷ ds) v w b = same_told v.told b.0.told w.told (notes_of ds) (ap (λ (p : Place). p.told) b.1.0) (told_done names ds b.0 w b.2)
told_done names (Refused c ∷ ds) v w b = same_told v.told b.0.told w.told (notes_of ds) (ap (λ (p : Place). p.told) b.1.0) (told_done names ds b.0 w b.2)
told_done names (TurnedAway c ∷ ds) v w b = same_told v.told b.0.told w.told (notes_of ds) (ap (λ (p : Place). p.told) b.1) (told_done names ds b.0 w b.2)
told_done names (Left c ∷ ds) v w b = same_told v.told b.0.told w.told (notes_of ds) (ap (λ (p : Place). p.told) b.1) (told_done names ds b.0 w b.2)
told_done names (Ended c ∷ ds) v w b = same_told v.told b.0.told w.told (notes_of ds) (ap (λ (p : Place). p.told) b.1) (told_done names ds b.0 w b.2)
told_done names (Offered c piece n ∷ ds) v w b = same_told v.told b.0.told w.told (notes_of ds) (ap (λ (p : Place). p.told) b.1) (told_done names ds b.0 w b.2)

-- these are the notes that were handed over
some_same : (xs ys : List Note) → ◌≡◌ {A = Option (List Note)} (Some xs) (Some ys) → xs ≡ ys
some_same xs ys e = cc

pub handed_are : (old new : Option (List Note)) (notes done : List Note) → Hands old new notes → new ≡ with_notes done old → notes ≡ done
handed_are old new notes done hands is =
    append_cancel_left hands.0 notes done (some_same (hands.0 ++ notes) (hands.0 ++ done) (sym hands.2 ∙ is ∙ ap (λ (t : Option (List Note)). with_notes done t) hands.1))

-- ---- the turn notes show the events
turns_append : (ms ns : List Note) → turn_events (ms ++ ns) ≡ turn_events ms ++ turn_events ns
turns_append [] ns = refl
turns_append (note.Turn n e ∷ ms) ns = ap (λ (es : List Event). e ∷ es) (turns_append ms ns)
turns_append (note.Arrive f o ∷ ms) ns = turns_append ms ns
turns_append (note.Move f p n ∷ ms) ns = turns_append ms ns
turns_append (note.Frame c f n l ∷ ms) ns = turns_append ms ns
turns_append (note.Out c n ∷ ms) ns = turns_append ms ns
turns_append (note.Pause f b ∷ ms) ns = turns_append ms ns
turns_append (note.Resume f b ∷ ms) ns = turns_append ms ns
turns_append (note.Credit c s n ∷ ms) ns = turns_append ms ns
turns_append (note.Head c s o ∷ ms) ns = turns_append ms ns
turns_append (note.Answer c o ∷ ms) ns = turns_append ms ns
turns_append (note.Waste c s n ∷ ms) ns = turns_append ms ns
turns_append (note.Start x c s t ∷ ms) ns = turns_append ms ns
turns_append (note.Doom x cause ∷ ms) ns = turns_append ms ns
turns_append (note.Gone x ∷ ms) ns = turns_append ms ns
turns_append (note.Close c code cause ∷ ms) ns = turns_append ms ns
turns_append (note.Fire k i ∷ ms) ns = turns_append ms ns

no_turns : (ns : List Note) → AllByRecursion IsStep ns → turn_events ns ≡ []
no_turns [] steps = refl
no_turns (note.Turn n e ∷ ns) steps = absurd steps.0
no_turns (note.Arrive f o ∷ ns) steps = no_turns ns steps.1
no_turns (note.Move f p n ∷ ns) steps = no_turns ns steps.1
no_turns (note.Frame c f n l ∷ ns) steps = no_turns ns steps.1
no_turns (note.Out c n ∷ ns) steps = no_turns ns steps.1
no_turns (note.Pause f b ∷ ns) steps = no_turns ns steps.1
no_turns (note.Resume f b ∷ ns) steps = no_turns ns steps.1
no_turns (note.Credit c s n ∷ ns) steps = no_turns ns steps.1
no_turns (note.Head c s o ∷ ns) steps = no_turns ns steps.1
no_turns (note.Answer c o ∷ ns) steps = no_turns ns steps.1
no_turns (note.Waste c s n ∷ ns) steps = no_turns ns steps.1
no_turns (note.Start x c s t ∷ ns) steps = no_turns ns steps.1
no_turns (note.Doom x cause ∷ ns) steps = no_turns ns steps.1
no_turns (note.Gone x ∷ ns) steps = no_turns ns steps.1
no_turns (note.Close c code cause ∷ ns) steps = no_turns ns steps.1
no_turns (note.Fire k i ∷ ns) steps = no_turns ns steps.1

pub told_turn : (n : ℕ) (e : Event) (notes : List Note) → Tells n e [] notes → turn_events notes ≡ e ∷ []
told_turn n e notes t = ap turn_events t.is ∙ ap (λ (es : List Event). e ∷ es) (no_turns t.added t.steps)

carried_turn : (k : Kind) (e : Event) (new : Kind) (notes : List Note) → RestsWire k → CarriesOut k [] e new notes → turn_events notes ≡ e ∷ []
carried_turn (kind.Wire old) e (kind.Wire new) notes rests carries = told_turn _ e notes carries.notes
carried_turn (kind.Wire old) e (kind.Plain new) notes rests carries = absurd carries
carried_turn (kind.Plain old) e new notes rests carries = absurd rests

-- the notes of what was done show its events, they are whole dispatches, and the core is at rest
pub record Shows (k : Kind) (ds : List Did) (new : Kind) : Type 0 where
  pub shown : turn_events (notes_of ds) ≡ events_of ds
  pub whole : Whole k (notes_of ds) new
  pub rests : RestsWire new

shows_none : (k : Kind) → RestsWire k → Shows k [] k
shows_none k rests = record { shown = refl; whole = NoneWhole k; rests = rests }

shows_one : (e : Event) (k : Kind) (ds rest : List Did) (mid new : Kind) → RestsWire k → Carried e k ds mid → Shows mid rest new → Shows k (ds ++ rest) new
shows_one e k ds rest mid new rests c more =
    let notes : notes_of (ds ++ rest) ≡ c.notes ++ notes_of rest = notes_append ds rest ∙ ap (λ (xs : List Note). xs ++ notes_of rest) (carried_notes e k ds mid c) in
    let events : events_of (ds ++ rest) ≡ e ∷ events_of rest = events_append ds rest ∙ ap (λ (xs : List Event). xs ++ events_of rest) (carried_events e k ds mid c) in
    record {
      shown = ap turn_events notes ∙ turns_append c.notes (notes_of rest) ∙ ap (λ (xs : List Event). xs ++ turn_events (notes_of rest)) (carried_turn k e mid c.notes rests c.carries)
          ∙ ap (λ (xs : List Event). e ∷ xs) more.shown ∙ sym events;
      whole = subst (λ (xs : List Note). Whole k xs new) (sym notes) (OneWhole k mid new e c.notes (notes_of rest) c.carries more.whole);
      rests = more.rests;
    }

shows_all : {es : List Event} {k : Kind} {ds : List Did} {mid : Kind} → CarriedAll es k ds mid → (rest : List Did) (new : Kind) → RestsWire k → (RestsWire mid → Shows mid rest new) → Shows k (ds ++ rest) new
shows_all (Nothing k) rest new rests more = more rests
shows_all (One e es k m mid ds tail first others) rest new rests more =
    subst (λ (xs : List Did). Shows k xs new) (sym (append_assoc ds tail rest))
    (shows_one e k ds (tail ++ rest) m new rests first (shows_all others rest new (rests_after k [] e m first.notes rests first.carries) more))

-- something in front of it, which is no event and no notes
shows_front : (k : Kind) (ds es : List Did) (new : Kind) → events_of es ≡ events_of ds → notes_of es ≡ notes_of ds → Shows k ds new → Shows k es new
shows_front k ds es new events notes s = record {
  shown = ap turn_events notes ∙ s.shown ∙ sym events;
  whole = subst (λ (xs : List Note). Whole k xs new) (sym notes) s.whole;
  rests = s.rests;
}

shows_taken : {k : Kind} {w : Wired} {ds : List Did} {mid : Kind} → TakesUp k w ds mid → (rest : List Did) (new : Kind) → RestsWire k → (RestsWire mid → Shows mid rest new) → Shows k (ds ++ rest) new
shows_taken {k} (Shut c isnt) rest new rests more = shows_front k rest (TurnedAway c ∷ rest) new refl refl (more rests)
shows_taken {k} (Full c holds_so) rest new rests more = shows_front k rest (Refused c ∷ TurnedAway c ∷ rest) new refl refl (more rests)
shows_taken {k} (Accepted c ds mid holds_so all) rest new rests more = shows_front k (ds ++ rest) (Admitted c ∷ (ds ++ rest)) new refl refl (shows_all all rest new rests more)
shows_taken (Joined c cluster ds mid all) rest new rests more = shows_all all rest new rests more
shows_taken (Came c octets ds mid all) rest new rests more = shows_all all rest new rests more
shows_taken {k} (Went c ds mid all) rest new rests more = shows_front k (ds ++ rest) (Left c ∷ (ds ++ rest)) new refl refl (shows_all all rest new rests more)
shows_taken Idled rest new rests more = more rests
shows_taken Stopped rest new rests more = more rests

pub runs_show : {k : Kind} {ds : List Did} {new : Kind} → RestsWire k → Runs k ds new → Shows k ds new
runs_show rests (NoneRun k) = shows_none k rests
runs_show rests (InnerRun es k mid new ds rest inner rising all others) = shows_all all rest new rests (λ r. runs_show r others)
runs_show rests (TakenRun given k mid new ds rest taken others) = shows_front k (ds ++ rest) (Gave given ∷ (ds ++ rest)) new refl refl (shows_taken taken rest new rests (λ r. runs_show r others))
runs_show rests (OfferRun c n piece k mid new ds rest front most all others) = shows_front k (ds ++ rest) (Offered c piece n ∷ (ds ++ rest)) new refl refl (shows_all all rest new rests (λ r. runs_show r others))
