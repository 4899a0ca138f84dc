-- The log, note by note.
use Rattle.flow_rules.specs.declared.ids.BufferId.{BufferId}
use Rattle.flow_rules.specs.declared.ids.FlowId.{FlowId}
use Rattle.flow_notes.specs.Passages.{notes_of_passage}
use Rattle.flow_notes.specs.declared.events.Event.{Event}
use Rattle.flow_rules.specs.declared.causes.Cause.{Cause}
use Rattle.flow_notes.specs.declared.notes.CloseCause.{CloseCause}
use Rattle.flow_notes.specs.declared.notes.Note.{Note}
use Rattle.flow_notes.specs.declared.passages.Passage.{Passage}
use Rattle.io_ports.specs.declared.octets.NoMemory.{NoMemory}
use Rattle.std.proofs.Common.{Bor, ap, arith, refl, subst, sym, ◌∙◌}
use Rattle.std.proofs.lemmas.List.{append-nil}
use Rattle.std.proofs.lemmas.List.Folds.{list_any-append}
use Rattle.std.specs.BTreeMap.{get}
use Rattle.std.specs.Ordering.{nat_cmp}
use Rattle.std.specs.Prelude.{Bool, Err, List, None, Ok, OnOk, Option, Result, Some, [], false, length, map, min, true, ℕ, ◌++◌, ◌+◌, ◌==◌, ◌||◌, ◌∷◌, ◌≡◌}
use Rattle.tape_laws.specs.Connections.{connections, was_closed}
use Rattle.tape_laws.specs.Dispatches.{started}
use Rattle.tape_laws.specs.Flows.{request, response}
use Rattle.tape_laws.specs.History.{History, NoMark, Noted, onto}
use Rattle.tape_laws.specs.Units.{StageKind}
use Rattle.tape_laws.specs.World.{out, place, send}
use Rattle.tape_summary.proofs.Pausing.{onto_more}
use Rattle.wire_summary.proofs.Exchanging.{StepsSides, agree_before, arrive_steps, changed_keeps, doom_steps, emptied_keeps, frame_steps, grow_more, grow_none, kept_before, known_same, known_there, move_steps, same_exchange, sides_grow, step_exchange}
use Rattle.wire_summary.proofs.Exchanging.{KeepsLimits}
use Rattle.wire_summary.proofs.Moving.{level_same}
use Rattle.wire_summary.proofs.Writing.{StepsWrite, answer_writes, close_writes, credit_writes, frame_writes, framed_is, gone_writes, head_writes, out_writes, step_write, write_same}
use Rattle.wire_summary.specs.Levels.{Agrees, ExchangeIs, Frames, LevelsAre, LevelsGo, LevelsUnder, LimitsGrow, SetsSides, SetsWrite, SideIs, SidesAre, is_lost, kept_write, known_limits, named, names, no_limits, place_level, shaped, sides_in, write_in, write_level, written}
use Rattle.wire_summary.specs.Places.{Side, Sides, changed_at, emptied_sides, framed, side_at}
use Rattle.wire_summary.specs.declared.levels.BufferLimits.{BufferLimits}
use Rattle.wire_summary.specs.declared.levels.ExchangePlaces.{ExchangePlaces}
use Rattle.wire_summary.specs.declared.levels.Levels.{Levels}
use Rattle.wire_summary.specs.declared.levels.WriteLevel.{WriteLevel}
use Rattle.wire_summary.specs.declared.places.Change.{Change}
use Rattle.flow_notes.specs.declared.events.Event.TheVariants as event
use Rattle.flow_notes.specs.declared.notes.Note.TheVariants as note
use Rattle.flow_notes.specs.declared.passages.Passage.TheVariants as passage
use Rattle.wire_summary.specs.declared.levels.WriteChange.TheVariants as put
use Rattle.wire_summary.specs.declared.places.Change.TheVariants as change

-- ---- one note

record GoesUnder (old : Levels) (n : Note) (new : Levels) : Type 0 where
  grow : LimitsGrow old new no_limits
  hides : (x : ℕ) → names n x ≡ false → known_limits old x ≡ None → known_limits new x ≡ None
  limits : new.limits ≡ old.limits
  goes : (limits : BufferLimits) (stages : FlowId → List StageKind) (h : History NoMark) → Agrees stages new → LevelsUnder limits stages old h → LevelsUnder limits stages new (Noted n ∷ h)

one_goes : (old : Levels) (n : Note) (new : Levels) → GoesUnder old n new → LevelsGo old (n ∷ []) new
one_goes old n new g = record {
  goes = λ limits h k. record { limits_are = g.limits ∙ k.limits_are; goes = λ stages a. g.goes limits stages h a (k.goes stages (agree_before stages old new no_limits g.grow a)) };
  grow = g.grow;
  hides = λ x e. g.hides x (first_of (names n x) e);
}
  where
    first_of : (b : Bool) → (b || false) ≡ false → b ≡ false
    first_of true e = cc
    first_of false e = refl

-- what a note leaves as it was
pub record LeavesWrites (n : Note) : Type 0 where
  pub octets : (limits : BufferLimits) (stages : FlowId → List StageKind) (c : ℕ) (h : History NoMark) → out (shaped limits stages) c (Noted n ∷ h) ≡ out (shaped limits stages) c h
  pub closed : (c : ℕ) (h : History NoMark) → was_closed c (Noted n ∷ h) ≡ was_closed c h

pub record LeavesPlaces (n : Note) : Type 0 where
  pub places : (limits : BufferLimits) (stages : FlowId → List StageKind) (f : FlowId) (p : ℕ) (h : History NoMark) → place (shaped limits stages) f p (Noted n ∷ h) ≡ place (shaped limits stages) f p h

pub record LeavesNames (n : Note) : Type 0 where
  pub started_stay : (h : History NoMark) → started (Noted n ∷ h) ≡ started h
  pub conns_stay : (limits : BufferLimits) (stages : FlowId → List StageKind) (h : History NoMark) → connections (shaped limits stages) (Noted n ∷ h) ≡ connections (shaped limits stages) h

exchanges_stay : (limits : BufferLimits) (stages : FlowId → List StageKind) (old new : Levels) (n : Note) (h : History NoMark) → LeavesPlaces n → new.exchanges ≡ old.exchanges
    → ((x : ℕ) → ExchangeIs limits stages x h (get nat_cmp old.exchanges x)) → (x : ℕ) → ExchangeIs limits stages x (Noted n ∷ h) (get nat_cmp new.exchanges x)
exchanges_stay limits stages old new n h l e was x =
    let P : Option ExchangePlaces → Type 0 = λ v. ExchangeIs limits stages x (Noted n ∷ h) v in
    subst P (sym (ap (λ m. get nat_cmp m x) e))
    (same_exchange limits stages (Noted n) h x (get nat_cmp old.exchanges x)
    (λ p. (level_same limits stages (request x) p (Noted n) h (ap length (l.places limits stages (request x) p h)), level_same limits stages (response x) p (Noted n) h (ap length (l.places limits stages (response x) p h)))) (was x))

writes_stay : (limits : BufferLimits) (stages : FlowId → List StageKind) (old new : Levels) (n : Note) (h : History NoMark) → LeavesWrites n → new.writes ≡ old.writes
    → ((c : ℕ) → write_in old c ≡ write_level (shaped limits stages) c h) → (c : ℕ) → write_in new c ≡ write_level (shaped limits stages) c (Noted n ∷ h)
writes_stay limits stages old new n h l e was c =
    ap (λ m. kept_write (get nat_cmp m c)) e ∙ was c ∙ write_same limits stages c (Noted n) h (ap length (l.octets limits stages c h)) (l.closed c h)

-- a note of an exchange's places
sides_go : (old : Levels) (n : Note) (x : ℕ) (F : Sides → Sides) (new : Levels) → LeavesWrites n → LeavesNames n → KeepsLimits F → ((y : ℕ) → names n y ≡ (x == y))
    → ((limits : BufferLimits) (stages : FlowId → List StageKind) (h : History NoMark) → StepsSides limits stages (Noted n) h x F) → SetsSides old x (F (sides_in old x)) new → LevelsGo old (n ∷ []) new
sides_go old n x F new w m k is t s = one_goes old n new (record {
  grow = sides_grow old x F new k s;
  hides = λ y e none. known_there old x (F (sides_in old x)) new y s (sym (is y) ∙ e) ∙ none;
  limits = s.limits;
  goes = λ limits stages h a u. record {
    started_are = ap (λ v. v.items) s.started ∙ u.started_are ∙ sym (m.started_stay h);
    conns_are = ap (λ v. v.items) s.conns ∙ u.conns_are ∙ sym (m.conns_stay limits stages h);
    exchanges_are = step_exchange limits stages (Noted n) h old new x F k (t limits stages h) s a u.exchanges_are;
    writes_are = writes_stay limits stages old new n h w s.writes u.writes_are;
  };
})

-- a note of a connection's write buffer
write_goes : (old : Levels) (n : Note) (c : ℕ) (F : WriteLevel → WriteLevel) (new : Levels) → LeavesPlaces n → LeavesNames n
    → ((limits : BufferLimits) (stages : FlowId → List StageKind) (h : History NoMark) → StepsWrite limits stages (Noted n) h c F) → SetsWrite old c (F (write_in old c)) new → LevelsGo old (n ∷ []) new
write_goes old n c F new l m t s = one_goes old n new (record {
  grow = grow_none old new s.exchanges;
  hides = λ x e none. known_same old new s.exchanges x ∙ none;
  limits = s.limits;
  goes = λ limits stages h a u. record {
    started_are = ap (λ v. v.items) s.started ∙ u.started_are ∙ sym (m.started_stay h);
    conns_are = ap (λ v. v.items) s.conns ∙ u.conns_are ∙ sym (m.conns_stay limits stages h);
    exchanges_are = exchanges_stay limits stages old new n h l s.exchanges u.exchanges_are;
    writes_are = step_write limits stages (Noted n) h old new c F (t limits stages h) s u.writes_are;
  };
})

-- a frame does both
side_of_flow : (limits : BufferLimits) (stages : FlowId → List StageKind) (h : History NoMark) (f : FlowId) (s : Sides) (b : Bool) → f.back ≡ b → SidesAre limits stages f.exchange h s → SideIs limits stages f h (side_at b s)
side_of_flow limits stages h f s true e k =
    let is : response f.exchange ≡ f = ap (λ (v : Bool). let g : FlowId = record { exchange = f.exchange; back = v } in g) (sym e) in
    let P : FlowId → Type 0 = λ g. SideIs limits stages g h s.response in subst P is k.response_is
side_of_flow limits stages h f s false e k =
    let is : request f.exchange ≡ f = ap (λ (v : Bool). let g : FlowId = record { exchange = f.exchange; back = v } in g) (sym e) in
    let P : FlowId → Type 0 = λ g. SideIs limits stages g h s.request in subst P is k.request_is

frame_goes : (old : Levels) (c : ℕ) (f : FlowId) (n : ℕ) (last : Bool) (new : Levels) → Frames old c f n new → LevelsGo old (note.Frame c f n last ∷ []) new
frame_goes old c f n last new t = one_goes old (note.Frame c f n last) new (record {
  grow = grow_more old t.mid new (sides_grow old f.exchange (changed_at f.back (change.Frame n)) t.mid (changed_keeps f.back (change.Frame n)) t.sides) (grow_none t.mid new t.write.exchanges);
  hides = λ y e none. known_same t.mid new t.write.exchanges y ∙ (known_there old f.exchange (changed_at f.back (change.Frame n) (sides_in old f.exchange)) t.mid y t.sides e ∙ none);
  limits = t.write.limits ∙ t.sides.limits;
  goes = λ limits stages h a u.
      let F = changed_at f.back (change.Frame n) in
      let keeps = changed_keeps f.back (change.Frame n) in
      let a1 : Agrees stages t.mid = agree_before stages t.mid new no_limits (grow_none t.mid new t.write.exchanges) a in
      let side = side_of_flow limits stages h f (sides_in old f.exchange) f.back refl (kept_before limits stages h old t.mid f.exchange F keeps t.sides a1 u.exchanges_are) in
      let k = framed (change.Frame n) (side_at f.back (sides_in old f.exchange)).levels in
      let k_is : k ≡ min n (length (send (shaped limits stages) f h)) = framed_is limits stages f h (side_at f.back (sides_in old f.exchange)) n side in
      let moved = step_exchange limits stages (Noted (note.Frame c f n last)) h old t.mid f.exchange F keeps (frame_steps limits stages c f n last h) t.sides a1 u.exchanges_are in
      record {
        started_are = ap (λ v. v.items) (t.write.started ∙ t.sides.started) ∙ u.started_are;
        conns_are = ap (λ v. v.items) (t.write.conns ∙ t.sides.conns) ∙ u.conns_are;
        exchanges_are = λ x. (let P : Option ExchangePlaces → Type 0 = λ v. ExchangeIs limits stages x (Noted (note.Frame c f n last) ∷ h) v in subst P (sym (ap (λ m. get nat_cmp m x) t.write.exchanges)) (moved x));
        writes_are = step_write limits stages (Noted (note.Frame c f n last)) h t.mid new c (written (put.Put (k + 9))) (frame_writes limits stages c f n last h k k_is) t.write
            (λ d. ap (λ m. kept_write (get nat_cmp m d)) t.sides.writes ∙ u.writes_are d);
      };
})

-- a note that changes neither
other_goes : (old : Levels) (n : Note) → LeavesWrites n → LeavesPlaces n → LeavesNames n → LevelsGo old (n ∷ []) old
other_goes old n w l m = one_goes old n old (record {
  grow = grow_none old old refl;
  hides = λ x e none. none;
  limits = refl;
  goes = λ limits stages h a u. record {
    started_are = u.started_are ∙ sym (m.started_stay h);
    conns_are = u.conns_are ∙ sym (m.conns_stay limits stages h);
    exchanges_are = exchanges_stay limits stages old old n h l refl u.exchanges_are;
    writes_are = writes_stay limits stages old old n h w refl u.writes_are;
  };
})

start_goes : (old : Levels) (x c s d : ℕ) (new : Levels) → new.started.items ≡ old.started.items ++ x ∷ [] → new.limits ≡ old.limits → new.conns ≡ old.conns → new.exchanges ≡ old.exchanges → new.writes ≡ old.writes
    → LevelsGo old (note.Start x c s d ∷ []) new
start_goes old x c s d new es el ec ee ew = one_goes old (note.Start x c s d) new (record {
  grow = grow_none old new ee;
  hides = λ x e none. known_same old new ee x ∙ none;
  limits = el;
  goes = λ limits stages h a u. record {
    started_are = es ∙ ap (λ (v : List ℕ). v ++ x ∷ []) u.started_are;
    conns_are = ap (λ v. v.items) ec ∙ u.conns_are;
    exchanges_are = exchanges_stay limits stages old new (note.Start x c s d) h (record { places = λ l s f p h. refl }) ee u.exchanges_are;
    writes_are = writes_stay limits stages old new (note.Start x c s d) h (record { octets = λ l s c h. refl; closed = λ c h. refl }) ew u.writes_are;
  };
})

-- ---- a turn

come_goes : (old : Levels) (n : Note) (c : ℕ) (new : Levels) → LeavesWrites n → LeavesPlaces n → ((h : History NoMark) → started (Noted n ∷ h) ≡ started h)
    → ((limits : BufferLimits) (stages : FlowId → List StageKind) (h : History NoMark) → connections (shaped limits stages) (Noted n ∷ h) ≡ connections (shaped limits stages) h ++ c ∷ [])
    → new.conns.items ≡ old.conns.items ++ c ∷ [] → new.limits ≡ old.limits → new.started ≡ old.started → new.exchanges ≡ old.exchanges → new.writes ≡ old.writes → LevelsGo old (n ∷ []) new
come_goes old n c new w l ms mc ec el es ee ew = one_goes old n new (record {
  grow = grow_none old new ee;
  hides = λ x e none. known_same old new ee x ∙ none;
  limits = el;
  goes = λ limits stages h a u. record {
    started_are = ap (λ v. v.items) es ∙ u.started_are ∙ sym (ms h);
    conns_are = ec ∙ ap (λ (v : List ℕ). v ++ c ∷ []) u.conns_are ∙ sym (mc limits stages h);
    exchanges_are = exchanges_stay limits stages old new n h l ee u.exchanges_are;
    writes_are = writes_stay limits stages old new n h w ew u.writes_are;
  };
})

-- the turn note of an event, by how the event was taken up
abbrev TurnGoes : Levels → Event → Levels → Result (Unit {0}) NoMemory → Type 0
TurnGoes old e new r = (k : ℕ) → OnOk r (LevelsGo old (note.Turn k e ∷ []) new)

as_event : (old new : Levels) (e f : Event) (r : Result (Unit {0}) NoMemory) → e ≡ f → TurnGoes old f new r → TurnGoes old e new r
as_event old new e f r is k = let P : Event → Type 0 = λ v. TurnGoes old v new r in subst P (sym is) k

pub accept_ends : (old new : Levels) (e : Event) (c : ℕ) (r : Result (Unit {0}) NoMemory) → e ≡ event.Accept c → OnOk r (new.conns.items ≡ old.conns.items ++ c ∷ []) → new.limits ≡ old.limits → new.started ≡ old.started → new.exchanges ≡ old.exchanges → new.writes ≡ old.writes
    → TurnGoes old e new r
accept_ends old new e c r is ec el es ee ew = as_event old new e (event.Accept c) r is (λ k. by k r ec)
  where
    by : (k : ℕ) (r : Result (Unit {0}) NoMemory) → OnOk r (new.conns.items ≡ old.conns.items ++ c ∷ []) → OnOk r (LevelsGo old (note.Turn k (event.Accept c) ∷ []) new)
    by k (Ok u) ec = come_goes old (note.Turn k (event.Accept c)) c new (record { octets = λ l s c h. refl; closed = λ c h. refl }) (record { places = λ l s f p h. refl }) (λ h. refl) (λ l s h. refl) ec el es ee ew
    by k (Err x) ec = tt

pub join_ends : (old new : Levels) (e : Event) (c cluster : ℕ) (r : Result (Unit {0}) NoMemory) → e ≡ event.Join c cluster → OnOk r (new.conns.items ≡ old.conns.items ++ c ∷ []) → new.limits ≡ old.limits → new.started ≡ old.started → new.exchanges ≡ old.exchanges → new.writes ≡ old.writes
    → TurnGoes old e new r
join_ends old new e c cluster r is ec el es ee ew = as_event old new e (event.Join c cluster) r is (λ k. by k r ec)
  where
    by : (k : ℕ) (r : Result (Unit {0}) NoMemory) → OnOk r (new.conns.items ≡ old.conns.items ++ c ∷ []) → OnOk r (LevelsGo old (note.Turn k (event.Join c cluster) ∷ []) new)
    by k (Ok u) ec = come_goes old (note.Turn k (event.Join c cluster)) c new (record { octets = λ l s c h. refl; closed = λ c h. refl }) (record { places = λ l s f p h. refl }) (λ h. refl) (λ l s h. refl) ec el es ee ew
    by k (Err x) ec = tt

pub gone_ends : (old new : Levels) (e : Event) (c : ℕ) (r : Result (Unit {0}) NoMemory) → e ≡ event.Gone c → OnOk r (SetsWrite old c (written put.Lose (write_in old c)) new) → TurnGoes old e new r
gone_ends old new e c r is s = as_event old new e (event.Gone c) r is (λ k. by k r s)
  where
    by : (k : ℕ) (r : Result (Unit {0}) NoMemory) → OnOk r (SetsWrite old c (written put.Lose (write_in old c)) new) → OnOk r (LevelsGo old (note.Turn k (event.Gone c) ∷ []) new)
    by k (Ok u) s = write_goes old (note.Turn k (event.Gone c)) c (written put.Lose) new (record { places = λ l s f p h. refl }) (record { started_stay = λ h. refl; conns_stay = λ l s h. refl }) (λ limits stages h. gone_writes limits stages k c h) s
    by k (Err x) s = tt

still : (old : Levels) (n : Note) → LeavesWrites n → LeavesPlaces n → LeavesNames n → LevelsGo old (n ∷ []) old
still = other_goes

pub event_ends : (old : Levels) (e : Event) → ((c : ℕ) → e ≡ event.Accept c → ⊥) → ((c cluster : ℕ) → e ≡ event.Join c cluster → ⊥) → ((c : ℕ) → e ≡ event.Gone c → ⊥) → (k : ℕ) → LevelsGo old (note.Turn k e ∷ []) old
event_ends old (event.Accept c) na nj ng k = absurd (na c refl)
event_ends old (event.Join c cluster) na nj ng k = absurd (nj c cluster refl)
event_ends old (event.Gone c) na nj ng k = absurd (ng c refl)
event_ends old (event.Read c o) na nj ng k = still old _ (record { octets = λ l s c h. refl; closed = λ c h. refl }) (record { places = λ l s f p h. refl }) (record { started_stay = λ h. refl; conns_stay = λ l s h. refl })
event_ends old (event.Room c n) na nj ng k = still old _ (record { octets = λ l s c h. refl; closed = λ c h. refl }) (record { places = λ l s f p h. refl }) (record { started_stay = λ h. refl; conns_stay = λ l s h. refl })
event_ends old (event.Tick now) na nj ng k = still old _ (record { octets = λ l s c h. refl; closed = λ c h. refl }) (record { places = λ l s f p h. refl }) (record { started_stay = λ h. refl; conns_stay = λ l s h. refl })
event_ends old (event.Post p n job) na nj ng k = still old _ (record { octets = λ l s c h. refl; closed = λ c h. refl }) (record { places = λ l s f p h. refl }) (record { started_stay = λ h. refl; conns_stay = λ l s h. refl })
event_ends old (event.Obey v ps) na nj ng k = still old _ (record { octets = λ l s c h. refl; closed = λ c h. refl }) (record { places = λ l s f p h. refl }) (record { started_stay = λ h. refl; conns_stay = λ l s h. refl })
event_ends old (event.Plain p) na nj ng k = still old _ (record { octets = λ l s c h. refl; closed = λ c h. refl }) (record { places = λ l s f p h. refl }) (record { started_stay = λ h. refl; conns_stay = λ l s h. refl })

-- ---- by how the note was taken up

as_note : (old new : Levels) (m n : Note) (r : Result (Unit {0}) NoMemory) → m ≡ n → OnOk r (LevelsGo old (n ∷ []) new) → OnOk r (LevelsGo old (m ∷ []) new)
as_note old new m n r is k = let P : Note → Type 0 = λ v. OnOk r (LevelsGo old (v ∷ []) new) in subst P (sym is) k

sides_end : (old new : Levels) (m n : Note) (x : ℕ) (F : Sides → Sides) (r : Result (Unit {0}) NoMemory) → m ≡ n → LeavesWrites n → LeavesNames n → KeepsLimits F → ((y : ℕ) → names n y ≡ (x == y))
    → ((limits : BufferLimits) (stages : FlowId → List StageKind) (h : History NoMark) → StepsSides limits stages (Noted n) h x F) → OnOk r (SetsSides old x (F (sides_in old x)) new) → OnOk r (LevelsGo old (m ∷ []) new)
sides_end old new m n x F r is w l k i t s = as_note old new m n r is (by r s)
  where
    by : (r : Result (Unit {0}) NoMemory) → OnOk r (SetsSides old x (F (sides_in old x)) new) → OnOk r (LevelsGo old (n ∷ []) new)
    by (Ok u) s = sides_go old n x F new w l k i t s
    by (Err x) s = tt

write_ends : (old new : Levels) (m n : Note) (c : ℕ) (F : WriteLevel → WriteLevel) (r : Result (Unit {0}) NoMemory) → m ≡ n → LeavesPlaces n → LeavesNames n
    → ((limits : BufferLimits) (stages : FlowId → List StageKind) (h : History NoMark) → StepsWrite limits stages (Noted n) h c F) → OnOk r (SetsWrite old c (F (write_in old c)) new) → OnOk r (LevelsGo old (m ∷ []) new)
write_ends old new m n c F r is l k t s = as_note old new m n r is (by r s)
  where
    by : (r : Result (Unit {0}) NoMemory) → OnOk r (SetsWrite old c (F (write_in old c)) new) → OnOk r (LevelsGo old (n ∷ []) new)
    by (Ok u) s = write_goes old n c F new l k t s
    by (Err x) s = tt

pub turn_ends : (old new : Levels) (m : Note) (k : ℕ) (e : Event) (r : Result (Unit {0}) NoMemory) → m ≡ note.Turn k e → TurnGoes old e new r → OnOk r (LevelsGo old (m ∷ []) new)
turn_ends old new m k e r is t = as_note old new m (note.Turn k e) r is (t k)

pub start_ends : (old new : Levels) (m : Note) (x c s d : ℕ) (r : Result (Unit {0}) NoMemory) → m ≡ note.Start x c s d → OnOk r (new.started.items ≡ old.started.items ++ x ∷ []) → new.limits ≡ old.limits → new.conns ≡ old.conns → new.exchanges ≡ old.exchanges → new.writes ≡ old.writes
    → OnOk r (LevelsGo old (m ∷ []) new)
start_ends old new m x c s d r is es el ec ee ew = as_note old new m (note.Start x c s d) r is (by r es)
  where
    by : (r : Result (Unit {0}) NoMemory) → OnOk r (new.started.items ≡ old.started.items ++ x ∷ []) → OnOk r (LevelsGo old (note.Start x c s d ∷ []) new)
    by (Ok u) es = start_goes old x c s d new es el ec ee ew
    by (Err x) es = tt

pub arrive_ends : (old new : Levels) (m : Note) (f : FlowId) (o : List ℕ) (v : ℕ) (r : Result (Unit {0}) NoMemory) → m ≡ note.Arrive f o → v ≡ length o → OnOk r (SetsSides old f.exchange (changed_at f.back (change.Arrive v) (sides_in old f.exchange)) new)
    → OnOk r (LevelsGo old (m ∷ []) new)
arrive_ends old new m f o v r is ev s =
    let P : ℕ → Type 0 = λ k. OnOk r (SetsSides old f.exchange (changed_at f.back (change.Arrive k) (sides_in old f.exchange)) new) in
    sides_end old new m (note.Arrive f o) f.exchange (changed_at f.back (change.Arrive (length o))) r is (record { octets = λ l s c h. refl; closed = λ c h. refl }) (record { started_stay = λ h. refl; conns_stay = λ l s h. refl }) (changed_keeps f.back (change.Arrive (length o))) (λ y. refl)
    (λ limits stages h. arrive_steps limits stages f o h) (subst P ev s)

pub move_ends : (old new : Levels) (m : Note) (f : FlowId) (p n v : ℕ) (r : Result (Unit {0}) NoMemory) → m ≡ note.Move f p n → v ≡ n → OnOk r (SetsSides old f.exchange (changed_at f.back (change.Shift p v) (sides_in old f.exchange)) new)
    → OnOk r (LevelsGo old (m ∷ []) new)
move_ends old new m f p n v r is ev s =
    let P : ℕ → Type 0 = λ k. OnOk r (SetsSides old f.exchange (changed_at f.back (change.Shift p k) (sides_in old f.exchange)) new) in
    sides_end old new m (note.Move f p n) f.exchange (changed_at f.back (change.Shift p n)) r is (record { octets = λ l s c h. refl; closed = λ c h. refl }) (record { started_stay = λ h. refl; conns_stay = λ l s h. refl }) (changed_keeps f.back (change.Shift p n)) (λ y. refl)
    (λ limits stages h. move_steps limits stages f p n h) (subst P ev s)

pub doom_ends : (old new : Levels) (m : Note) (x : ℕ) (why : Cause) (r : Result (Unit {0}) NoMemory) → m ≡ note.Doom x why → OnOk r (SetsSides old x (emptied_sides (sides_in old x)) new) → OnOk r (LevelsGo old (m ∷ []) new)
doom_ends old new m x why r is s =
    sides_end old new m (note.Doom x why) x emptied_sides r is (record { octets = λ l s c h. refl; closed = λ c h. refl }) (record { started_stay = λ h. refl; conns_stay = λ l s h. refl }) emptied_keeps (λ y. refl)
    (λ limits stages h. doom_steps limits stages x why h) s

pub frame_ends : (old new : Levels) (m : Note) (c : ℕ) (f : FlowId) (n : ℕ) (last : Bool) (v : ℕ) (r : Result (Unit {0}) NoMemory) → m ≡ note.Frame c f n last → v ≡ n → OnOk r (Frames old c f v new) → OnOk r (LevelsGo old (m ∷ []) new)
frame_ends old new m c f n last v r is ev s = as_note old new m (note.Frame c f n last) r is (let P : ℕ → Type 0 = λ k. OnOk r (Frames old c f k new) in by r (subst P ev s))
  where
    by : (r : Result (Unit {0}) NoMemory) → OnOk r (Frames old c f n new) → OnOk r (LevelsGo old (note.Frame c f n last ∷ []) new)
    by (Ok u) s = frame_goes old c f n last new s
    by (Err x) s = tt

pub head_ends : (old new : Levels) (m : Note) (c s : ℕ) (o : List ℕ) (v : ℕ) (r : Result (Unit {0}) NoMemory) → m ≡ note.Head c s o → v ≡ length o → OnOk r (SetsWrite old c (written (put.Put v) (write_in old c)) new) → OnOk r (LevelsGo old (m ∷ []) new)
head_ends old new m c s o v r is ev w =
    let P : ℕ → Type 0 = λ k. OnOk r (SetsWrite old c (written (put.Put k) (write_in old c)) new) in
    write_ends old new m (note.Head c s o) c (written (put.Put (length o))) r is (record { places = λ l s f p h. refl }) (record { started_stay = λ h. refl; conns_stay = λ l s h. refl }) (λ limits stages h. head_writes limits stages c s o h) (subst P ev w)

pub answer_ends : (old new : Levels) (m : Note) (c : ℕ) (o : List ℕ) (v : ℕ) (r : Result (Unit {0}) NoMemory) → m ≡ note.Answer c o → v ≡ length o → OnOk r (SetsWrite old c (written (put.Put v) (write_in old c)) new) → OnOk r (LevelsGo old (m ∷ []) new)
answer_ends old new m c o v r is ev w =
    let P : ℕ → Type 0 = λ k. OnOk r (SetsWrite old c (written (put.Put k) (write_in old c)) new) in
    write_ends old new m (note.Answer c o) c (written (put.Put (length o))) r is (record { places = λ l s f p h. refl }) (record { started_stay = λ h. refl; conns_stay = λ l s h. refl }) (λ limits stages h. answer_writes limits stages c o h) (subst P ev w)

pub credit_ends : (old new : Levels) (m : Note) (c s n : ℕ) (r : Result (Unit {0}) NoMemory) → m ≡ note.Credit c s n → OnOk r (SetsWrite old c (written (put.Put 13) (write_in old c)) new) → OnOk r (LevelsGo old (m ∷ []) new)
credit_ends old new m c s n r is w =
    write_ends old new m (note.Credit c s n) c (written (put.Put 13)) r is (record { places = λ l s f p h. refl }) (record { started_stay = λ h. refl; conns_stay = λ l s h. refl }) (λ limits stages h. credit_writes limits stages c s n h) w

pub out_ends : (old new : Levels) (m : Note) (c n v : ℕ) (r : Result (Unit {0}) NoMemory) → m ≡ note.Out c n → v ≡ n → OnOk r (SetsWrite old c (written (put.Take v) (write_in old c)) new) → OnOk r (LevelsGo old (m ∷ []) new)
out_ends old new m c n v r is ev w =
    let P : ℕ → Type 0 = λ k. OnOk r (SetsWrite old c (written (put.Take k) (write_in old c)) new) in
    write_ends old new m (note.Out c n) c (written (put.Take n)) r is (record { places = λ l s f p h. refl }) (record { started_stay = λ h. refl; conns_stay = λ l s h. refl }) (λ limits stages h. out_writes limits stages c n h) (subst P ev w)

pub close_ends : (old new : Levels) (m : Note) (c code : ℕ) (why : CloseCause) (r : Result (Unit {0}) NoMemory) → m ≡ note.Close c code why → OnOk r (SetsWrite old c (written (put.Close (is_lost why)) (write_in old c)) new) → OnOk r (LevelsGo old (m ∷ []) new)
close_ends old new m c code why r is w =
    write_ends old new m (note.Close c code why) c (written (put.Close (is_lost why))) r is (record { places = λ l s f p h. refl }) (record { started_stay = λ h. refl; conns_stay = λ l s h. refl }) (λ limits stages h. close_writes limits stages c code why h) w

-- the notes that leave every buffer as it was
pub record IsOther (n : Note) : Type 0 where
  pub writes : LeavesWrites n
  pub places : LeavesPlaces n
  pub names : LeavesNames n

pub still_goes : (old : Levels) (n : Note) → IsOther n → LevelsGo old (n ∷ []) old
still_goes old n o = other_goes old n o.writes o.places o.names

pause_other : (f : FlowId) (b : BufferId) → IsOther (note.Pause f b)
pause_other f b = record { writes = record { octets = λ l s c h. refl; closed = λ c h. refl }; places = record { places = λ l s f p h. refl }; names = record { started_stay = λ h. refl; conns_stay = λ l s h. refl } }

resume_other : (f : FlowId) (b : BufferId) → IsOther (note.Resume f b)
resume_other f b = record { writes = record { octets = λ l s c h. refl; closed = λ c h. refl }; places = record { places = λ l s f p h. refl }; names = record { started_stay = λ h. refl; conns_stay = λ l s h. refl } }

waste_other : (c s n : ℕ) → IsOther (note.Waste c s n)
waste_other c s n = record { writes = record { octets = λ l s c h. refl; closed = λ c h. refl }; places = record { places = λ l s f p h. refl }; names = record { started_stay = λ h. refl; conns_stay = λ l s h. refl } }

gone_other : (x : ℕ) → IsOther (note.Gone x)
gone_other x = record { writes = record { octets = λ l s c h. refl; closed = λ c h. refl }; places = record { places = λ l s f p h. refl }; names = record { started_stay = λ h. refl; conns_stay = λ l s h. refl } }

-- ---- note after note

pub goes_none : (log : Levels) → LevelsGo log [] log
goes_none log = record { goes = λ limits h k. k; grow = grow_none log log refl; hides = λ x e none. none }

pub goes_more : (a b c : Levels) (ns ms : List Note) → LevelsGo a ns b → LevelsGo b ms c → LevelsGo a (ns ++ ms) c
goes_more a b c ns ms p q = record {
  goes = λ limits h k. (let P : History NoMark → Type 0 = λ v. LevelsAre limits c v in subst P (sym (onto_more ns ms h)) (q.goes limits (onto ns h) (p.goes limits h k)));
  grow = grow_more a b c p.grow q.grow;
  hides = λ x e none.
      let both = neither (named ns x) (named ms x) (sym (list_any-append (λ n. names n x) ns ms) ∙ e) in
      q.hides x both.1 (p.hides x both.0 none);
}
  where
    neither : (a b : Bool) → (a || b) ≡ false → (a ≡ false) × (b ≡ false)
    neither true b e = cc
    neither false b e = (refl, e)

pub all_gone : (a b : Levels) (notes done rest : List Note) → notes ≡ done ++ rest → rest ≡ [] → LevelsGo a done b → LevelsGo a notes b
all_gone a b notes done rest e none l =
    let P : List Note → Type 0 = λ v. LevelsGo a v b in
    subst P (sym (e ∙ ap (λ (v : List Note). done ++ v) none ∙ append-nil done)) l

pauses_go : (a : Levels) (fs : List FlowId) (b : BufferId) → LevelsGo a (map (λ f. note.Pause f b) fs) a
pauses_go a [] b = goes_none a
pauses_go a (f ∷ fs) b = goes_more a a a (note.Pause f b ∷ []) (map (λ f. note.Pause f b) fs) (still_goes a (note.Pause f b) (pause_other f b)) (pauses_go a fs b)

resumes_go : (a : Levels) (fs : List FlowId) (b : BufferId) → LevelsGo a (map (λ f. note.Resume f b) fs) a
resumes_go a [] b = goes_none a
resumes_go a (f ∷ fs) b = goes_more a a a (note.Resume f b ∷ []) (map (λ f. note.Resume f b) fs) (still_goes a (note.Resume f b) (resume_other f b)) (resumes_go a fs b)

pub note_goes : (a c : Levels) (p : Passage) (n : Bor Note) (r : Result (Unit {0}) NoMemory) → p ≡ passage.One n → OnOk r (LevelsGo a (n.now ∷ []) c) → OnOk r (LevelsGo a (notes_of_passage p) c)
note_goes a c p n r e k = let P : Passage → Type 0 = λ v. OnOk r (LevelsGo a (notes_of_passage v) c) in subst P (sym e) k

pub row_goes : (a : Levels) (p : Passage) → ((n : Bor Note) → p ≡ passage.One n → ⊥) → LevelsGo a (notes_of_passage p) a
row_goes a (passage.One n) other = absurd (other n refl)
row_goes a (passage.Pauses fs b) other = pauses_go a fs.now b
row_goes a (passage.Resumes fs b) other = resumes_go a fs.now b

-- the notes that the log passes over
pub other_ends : (old : Levels) (n : Note) → ((k : ℕ) (e : Event) → n ≡ note.Turn k e → ⊥) → ((x c s d : ℕ) → n ≡ note.Start x c s d → ⊥) → ((f : FlowId) (o : List ℕ) → n ≡ note.Arrive f o → ⊥) → ((f : FlowId) (p k : ℕ) → n ≡ note.Move f p k → ⊥)
    → ((c : ℕ) (f : FlowId) (k : ℕ) (last : Bool) → n ≡ note.Frame c f k last → ⊥) → ((c s : ℕ) (o : List ℕ) → n ≡ note.Head c s o → ⊥) → ((c : ℕ) (o : List ℕ) → n ≡ note.Answer c o → ⊥) → ((c s k : ℕ) → n ≡ note.Credit c s k → ⊥)
    → ((c k : ℕ) → n ≡ note.Out c k → ⊥) → ((c code : ℕ) (why : CloseCause) → n ≡ note.Close c code why → ⊥) → ((x : ℕ) (why : Cause) → n ≡ note.Doom x why → ⊥) → LevelsGo old (n ∷ []) old
other_ends old (note.Turn k e) n1 n2 n3 n4 n5 n6 n7 n8 n9 n10 n11 = absurd (n1 k e refl)
other_ends old (note.Start x c s d) n1 n2 n3 n4 n5 n6 n7 n8 n9 n10 n11 = absurd (n2 x c s d refl)
other_ends old (note.Arrive f o) n1 n2 n3 n4 n5 n6 n7 n8 n9 n10 n11 = absurd (n3 f o refl)
other_ends old (note.Move f p k) n1 n2 n3 n4 n5 n6 n7 n8 n9 n10 n11 = absurd (n4 f p k refl)
other_ends old (note.Frame c f k last) n1 n2 n3 n4 n5 n6 n7 n8 n9 n10 n11 = absurd (n5 c f k last refl)
other_ends old (note.Head c s o) n1 n2 n3 n4 n5 n6 n7 n8 n9 n10 n11 = absurd (n6 c s o refl)
other_ends old (note.Answer c o) n1 n2 n3 n4 n5 n6 n7 n8 n9 n10 n11 = absurd (n7 c o refl)
other_ends old (note.Credit c s k) n1 n2 n3 n4 n5 n6 n7 n8 n9 n10 n11 = absurd (n8 c s k refl)
other_ends old (note.Out c k) n1 n2 n3 n4 n5 n6 n7 n8 n9 n10 n11 = absurd (n9 c k refl)
other_ends old (note.Close c code why) n1 n2 n3 n4 n5 n6 n7 n8 n9 n10 n11 = absurd (n10 c code why refl)
other_ends old (note.Doom x why) n1 n2 n3 n4 n5 n6 n7 n8 n9 n10 n11 = absurd (n11 x why refl)
other_ends old (note.Pause f b) n1 n2 n3 n4 n5 n6 n7 n8 n9 n10 n11 = still_goes old _ (pause_other f b)
other_ends old (note.Resume f b) n1 n2 n3 n4 n5 n6 n7 n8 n9 n10 n11 = still_goes old _ (resume_other f b)
other_ends old (note.Waste c s k) n1 n2 n3 n4 n5 n6 n7 n8 n9 n10 n11 = still_goes old _ (waste_other c s k)
other_ends old (note.Gone x) n1 n2 n3 n4 n5 n6 n7 n8 n9 n10 n11 = still_goes old _ (gone_other x)
other_ends old (note.Fire kind id) n1 n2 n3 n4 n5 n6 n7 n8 n9 n10 n11 = still_goes old _ (record { writes = record { octets = λ l s c h. refl; closed = λ c h. refl }; places = record { places = λ l s f p h. refl }; names = record { started_stay = λ h. refl; conns_stay = λ l s h. refl } })
