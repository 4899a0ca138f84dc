-- Notes that are written after others, and fronts of them.
use Rattle.flow_notes.specs.Event.{IsEvent}
use Rattle.flow_notes.specs.Note.{IsNote}
use Rattle.flow_notes.specs.declared.events.Event.{Event}
use Rattle.flow_notes.specs.declared.events.PlainEvent.{PlainEvent}
use Rattle.flow_notes.specs.declared.notes.Note.{Note}
use Rattle.plain_laws.proofs.Ontos.{front_lawful, onto_append}
use Rattle.std.proofs.Common.{append_assoc, inl, inr, refl, subst, sym, ◌∙◌}
use Rattle.std.proofs.lemmas.List.{append-nil}
use Rattle.std.specs.List.{AllByRecursion}
use Rattle.std.specs.Prelude.{Err, List, Ok, OnErr, OnOk, [], ℕ, ◌++◌, ◌∷◌, ◌≡◌, ◌≤◌, ◌⊎◌}
use Rattle.plain_laws.specs.Words.{Past}
use Rattle.tape_laws.specs.Dispatches.{events_back}
use Rattle.tape_laws.specs.Following.{MayFollowEvent}
use Rattle.tape_laws.specs.History.{Noted, onto}
use Rattle.tape_laws.specs.PlainTape.{IsPlainLawful}
use Rattle.tape_laws.specs.declared.PlainLimits.{PlainLimits}
use Rattle.plain_core.specs.Noting.{AppendsNotes, AppendsSome, turn_note}
use Rattle.plain_core.specs.Runs.{Appends, AppendsTurn, AreSpelled, Cuts, CutsTurn, Keeps, Opens}
use Rattle.plain_core.specs.Stands.{Good, Rests}
use Rattle.plain_core.specs.declared.plain.PlainCore.{PlainCore}
use Rattle.flow_notes.specs.declared.events.Event.TheVariants as event
use Rattle.flow_notes.specs.declared.notes.Note.TheVariants as note
use Rattle.plain_core.specs.Words.{Written}

-- the note begins no dispatch
pub record NoTurn (n : Note) : Type 0 where
  pub events : (h : Past) → events_back (Noted n ∷ h) ≡ events_back h

pub spelled_both : (xs ys : List Note) → AreSpelled xs → AreSpelled ys → AreSpelled (xs ++ ys)
spelled_both [] ys a b = b
spelled_both (x ∷ xs) ys a b = (a.0, spelled_both xs ys a.1 b)

pub all_both : (P : Note → Type 0) (xs ys : List Note) → AllByRecursion P xs → AllByRecursion P ys → AllByRecursion P (xs ++ ys)
all_both P [] ys a b = b
all_both P (x ∷ xs) ys a b = (a.0, all_both P xs ys a.1 b)

pub all_front : (P : Note → Type 0) (front rest : List Note) → AllByRecursion P (front ++ rest) → AllByRecursion P front
all_front P [] rest a = tt
all_front P (n ∷ front) rest a = (a.0, all_front P front rest a.1)

pub events_same : (ns : List Note) (h : Past) → AllByRecursion NoTurn ns → events_back (onto ns h) ≡ events_back h
events_same [] h a = refl
events_same (n ∷ ns) h a = events_same ns (Noted n ∷ h) a.1 ∙ a.0.events h

-- ---- fronts
pub front_more : (before ms ns after : List Note) → AppendsSome before ms after → AppendsSome before (ms ++ ns) after
front_more before ms ns after a = record {
  front = a.front;
  rest = a.rest ++ ns;
  whole = cc (append_assoc a.front a.rest ns);
  is = a.is;
}

module _ (before ms ns mid after : List Note) where
  pub front_after : mid ≡ before ++ ms → AppendsSome mid ns after → AppendsSome before (ms ++ ns) after
  front_after e a = record {
    front = ms ++ a.front;
    rest = a.rest;
    whole = cc (append_assoc ms a.front a.rest);
    is = cc (append_assoc before ms a.front);
  }

  pub whole_after : mid ≡ before ++ ms → after ≡ mid ++ ns → after ≡ before ++ (ms ++ ns)
  whole_after e a = cc (append_assoc before ms ns)

  -- some notes, and then others
  pub appends_both : (r : Written) → mid ≡ before ++ ms → AppendsNotes mid ns after r → AppendsNotes before (ms ++ ns) after r
  appends_both (Ok u) e a = whole_after e a
  appends_both (Err f) e a = front_after e a

-- a push
pub push_appends : (before after : List Note) (n : Note) (r : Written) → OnOk r (after ≡ before ++ n ∷ []) → OnErr r (after ≡ before) → AppendsNotes before (n ∷ []) after r
push_appends before after n (Ok u) e f = e
push_appends before after n (Err x) e f = record { front = []; rest = n ∷ []; whole = refl; is = f ∙ sym (append-nil before) }

pub appends_none : (before : List Note) → Appends before before
appends_none before = record { added = []; is = sym (append-nil before) }

pub appends_more : (k l m : List Note) → Appends k l → Appends l m → Appends k m
appends_more k l m p q = record { added = p.added ++ q.added; is = whole_after k p.added q.added l m p.is q.is }

module _ (before : List Note) (e : Event) where
  pub turn_appended : (after : List Note) → AppendsTurn before e after → Appends before after
  turn_appended after a = record { added = note.Turn a.number e ∷ a.added; is = a.is }

  pub turn_more : (mid after : List Note) → AppendsTurn before e mid → Appends mid after → AppendsTurn before e after
  turn_more mid after a b =
      record { number = a.number; added = a.added ++ b.added; is = whole_after before (note.Turn a.number e ∷ a.added) b.added mid after a.is b.is }

-- ---- small steps
-- a small step of a core, with its notes
pub record Stepped (old : PlainCore) (ns : List Note) (new : PlainCore) : Type 0 where
  pub spelled : AreSpelled ns
  pub silent : AllByRecursion NoTurn ns
  pub goes : (limits : PlainLimits) (h : Past) → Good limits old h → Good limits new (onto ns h)
  pub well : new.failed ≡ old.failed

pub keeps_of : (old new : PlainCore) (before ns after : List Note) → after ≡ before ++ ns → Stepped old ns new → Keeps old before new after
keeps_of old new before ns after e s =
    subst (Keeps old before new) (sym e) (record {
      appends = record { added = ns; is = refl };
      spelled = λ b. spelled_both before ns b s.spelled;
      events = λ h. cc (onto_append before ns h, events_same ns (onto before h) s.silent);
      goes = λ limits h g. subst (Good limits new) (sym (onto_append before ns h)) (s.goes limits (onto before h) g);
      well = s.well;
    })

-- a front of notes that are lawful together
pub cuts_lawful : (old : PlainCore) (before ns after : List Note) → AppendsSome before ns after → AreSpelled ns → AllByRecursion NoTurn ns
    → ((limits : PlainLimits) (h : Past) → Good limits old h → IsPlainLawful limits (onto ns h)) → Cuts old before after
cuts_lawful old before ns after a sp si lawful =
    let spelled : AreSpelled (a.front ++ a.rest) = let Q : List Note → Type 0 = AreSpelled in rw (← a.whole) sp in
    let silent : AllByRecursion NoTurn (a.front ++ a.rest) = rw (← a.whole) si in
    subst (Cuts old before) (sym a.is) (record {
      appends = record { added = a.front; is = refl };
      spelled = λ b. spelled_both before a.front b (all_front (IsNote []) a.front a.rest spelled);
      events = λ h. cc (onto_append before a.front h, events_same a.front (onto before h) (all_front NoTurn a.front a.rest silent));
      lawful = λ limits h g.
          subst (IsPlainLawful limits) (sym (onto_append before a.front h)) (front_lawful limits a.front a.rest (onto before h) (subst (λ (v : List Note). IsPlainLawful limits (onto v (onto before h))) a.whole (lawful limits (onto before h) g)));
    })

pub cuts_front : (old new : PlainCore) (before ns after : List Note) → AppendsSome before ns after → Stepped old ns new → Cuts old before after
cuts_front old new before ns after a s = cuts_lawful old before ns after a s.spelled s.silent (λ limits h g. (s.goes limits h g).flows.lawful.regular.lawful)

pub cuts_none : (old : PlainCore) (before : List Note) → Cuts old before before
cuts_none old before = record { appends = appends_none before; spelled = λ b. b; events = λ h. refl; lawful = λ limits h g. g.flows.lawful.regular.lawful }

pub cuts_keeps : (old new : PlainCore) (before after : List Note) → Keeps old before new after → Cuts old before after
cuts_keeps old new before after k = record { appends = k.appends; spelled = k.spelled; events = k.events; lawful = λ limits h g. (k.goes limits h g).flows.lawful.regular.lawful }

module _ (old new : PlainCore) (before ns after : List Note) where
  pub keeps_result : (r : Written) → AppendsNotes before ns after r → Stepped old ns new → OnOk r (Keeps old before new after)
  keeps_result (Ok u) a s = keeps_of old new before ns after a s
  keeps_result (Err f) a s = tt

  pub cuts_result : (r : Written) → AppendsNotes before ns after r → Stepped old ns new → Cuts old before after
  cuts_result (Ok u) a s = cuts_keeps old new before after (keeps_of old new before ns after a s)
  cuts_result (Err f) a s = cuts_front old new before ns after a s

-- ---- events
-- an event's own effect, with its turn note and others
pub record Opened (old : PlainCore) (k : ℕ) (e : PlainEvent) (ns : List Note) (new : PlainCore) : Type 0 where
  pub number : 1 ≤ k
  pub spelled : IsEvent [] (event.Plain e) → AreSpelled ns
  pub silent : AllByRecursion NoTurn ns
  pub goes : (limits : PlainLimits) (h : Past) → Rests limits old h → MayFollowEvent (events_back h) (event.Plain e) → Good limits new (onto (turn_note k e ∷ ns) h)
  pub well : new.failed ≡ old.failed

pub opens_of : (old new : PlainCore) (before after : List Note) (k : ℕ) (e : PlainEvent) (ns : List Note) → after ≡ before ++ turn_note k e ∷ ns → Opened old k e ns new
    → Opens old before (event.Plain e) new after
opens_of old new before after k e ns eq o =
    subst (Opens old before (event.Plain e) new) (sym eq) (record {
      appends = record { number = k; added = ns; is = refl };
      spelled = λ i b. spelled_both before (turn_note k e ∷ ns) b ((o.number, i), o.spelled i);
      shows = λ h. cc (onto_append before (turn_note k e ∷ ns) h, events_same ns (Noted (turn_note k e) ∷ onto before h) o.silent);
      goes = λ limits h g m.
          subst (Good limits new) (sym (onto_append before (turn_note k e ∷ ns) h)) (o.goes limits (onto before h) g m.0);
      well = o.well;
    })

-- a dispatch that was cut before its first note
pub no_turn : (old : PlainCore) (before : List Note) (e : Event) → CutsTurn old before e before
no_turn old before e = record { appends = appends_none before; spelled = λ i b. b; shows = λ h. inl refl; lawful = λ limits h r m. r.good.flows.lawful.regular.lawful }

front_shows : (front rest : List Note) (k : ℕ) (e : PlainEvent) (ns : List Note) (h : Past) → turn_note k e ∷ ns ≡ front ++ rest → AllByRecursion NoTurn ns
    → (events_back (onto front h) ≡ events_back h) ⊎ (events_back (onto front h) ≡ event.Plain e ∷ events_back h)
front_shows [] rest k e ns h w s = inl refl
front_shows (n ∷ front) rest k e ns h w s =
    let first : turn_note k e ≡ n = cc in
    let others : ns ≡ front ++ rest = cc in
    inr (cc (events_same front (Noted n ∷ h) (all_front NoTurn front rest (subst (AllByRecursion NoTurn) others s))))

front_spelled : (front rest : List Note) (k : ℕ) (e : PlainEvent) (ns : List Note) → turn_note k e ∷ ns ≡ front ++ rest → AreSpelled (turn_note k e ∷ ns) → AreSpelled front
front_spelled front rest k e ns w s = all_front (IsNote []) front rest (rw (← w) s)

module _ (old new : PlainCore) (before after : List Note) where
  pub turn_front : (k : ℕ) (e : PlainEvent) (ns : List Note) → AppendsSome before (turn_note k e ∷ ns) after → Opened old k e ns new
      → CutsTurn old before (event.Plain e) after
  turn_front k e ns a o =
      rw a.is (record {
        appends = record { added = a.front; is = refl };
        spelled = λ i b. spelled_both before a.front b (front_spelled a.front a.rest k e ns a.whole ((o.number, i), o.spelled i));
        shows = λ h.
            subst (λ (v : Past). (events_back v ≡ events_back (onto before h)) ⊎ (events_back v ≡ event.Plain e ∷ events_back (onto before h))) (sym (onto_append before a.front h)) (front_shows a.front a.rest k e ns (onto before h) a.whole o.silent);
        lawful = λ limits h g m.
            subst (λ (v : Past). IsPlainLawful limits v) (sym (onto_append before a.front h)) (front_lawful limits a.front a.rest (onto before h) (subst (λ (v : List Note). IsPlainLawful limits (onto v (onto before h))) a.whole (o.goes limits (onto before h) g m.0).flows.lawful.regular.lawful));
      })

  pub cuts_opens : (e : Event) → Opens old before e new after → CutsTurn old before e after
  cuts_opens e o = record { appends = turn_appended before e after o.appends; spelled = o.spelled; shows = λ h. inr (o.shows h); lawful = λ limits h r m. (o.goes limits h r m).flows.lawful.regular.lawful }

  pub opens_result : (k : ℕ) (e : PlainEvent) (ns : List Note) (r : Written) → AppendsNotes before (turn_note k e ∷ ns) after r → Opened old k e ns new → OnOk r (Opens old before (event.Plain e) new after)
  opens_result k e ns (Ok u) a o = opens_of old new before after k e ns a o
  opens_result k e ns (Err f) a o = tt

  pub turn_result : (k : ℕ) (e : PlainEvent) (ns : List Note) (r : Written) → AppendsNotes before (turn_note k e ∷ ns) after r → Opened old k e ns new → CutsTurn old before (event.Plain e) after
  turn_result k e ns (Ok u) a o = cuts_opens (event.Plain e) (opens_of old new before after k e ns a o)
  turn_result k e ns (Err f) a o = turn_front k e ns a o

-- the same event
pub event_is : (old new : PlainCore) (k : ℕ) (e said : PlainEvent) (ns : List Note) → e ≡ said → Opened old k e ns new → Opened old k said ns new
event_is old new k e said ns eq o = rw (← eq) o

-- the turn note, and then others
module _ (old new : PlainCore) (before mid after : List Note) (k : ℕ) (e : PlainEvent) (ns : List Note) (r : Written) where
  pub opens_after : mid ≡ before ++ turn_note k e ∷ []
      → AppendsNotes mid ns after r → Opened old k e ns new → OnOk r (Opens old before (event.Plain e) new after)
  opens_after eq a o = opens_result old new before after k e ns r (appends_both before (turn_note k e ∷ []) ns mid after r eq a) o

  pub turn_after : mid ≡ before ++ turn_note k e ∷ []
      → AppendsNotes mid ns after r → Opened old k e ns new → CutsTurn old before (event.Plain e) after
  turn_after eq a o = turn_result old new before after k e ns r (appends_both before (turn_note k e ∷ []) ns mid after r eq a) o

-- the turn note is refused, or not
pub turn_refused : (old new : PlainCore) (before after : List Note) (k : ℕ) (e : PlainEvent) (ns : List Note) → AppendsSome before (turn_note k e ∷ []) after → Opened old k e ns new
    → CutsTurn old before (event.Plain e) after
turn_refused old new before after k e ns a o = turn_front old new before after k e ns (front_more before (turn_note k e ∷ []) ns after a) o
