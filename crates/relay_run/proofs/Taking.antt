-- A log of write buffers, note by note.
use Rattle.flow_rules.specs.declared.ids.BufferId.{BufferId}
use Rattle.flow_rules.specs.declared.ids.FlowId.{FlowId}
use Rattle.flow_notes.specs.Passages.{notes_of_passage}
use Rattle.flow_notes.specs.declared.events.Event.{Event}
use Rattle.flow_notes.specs.declared.notes.CloseCause.{CloseCause}
use Rattle.flow_notes.specs.declared.notes.Note.{Note}
use Rattle.flow_notes.specs.declared.passages.Passage.{Passage}
use Rattle.io_ports.specs.declared.octets.NoMemory.{NoMemory}
use Rattle.relay_laws.specs.Pairs.{Tape, goes_to}
use Rattle.relay_laws.specs.Report.{connections}
use Rattle.relay_laws.specs.World.{out}
use Rattle.relay_run.proofs.Levels.{level_emptied, level_fallen, level_risen, level_same}
use Rattle.relay_run.specs.Logs.{RelayLogs}
use Rattle.relay_run.specs.Writes.{SetsLevel, TakesClose, TakesOctets, TakesTurn, WritesAre, WritesGo, end_of, kept_level, level_of}
use Rattle.relay_run.specs.declared.relay_log.RelayLog.{RelayLog}
use Rattle.relay_run.specs.declared.write_log.Ends.{Ends}
use Rattle.relay_run.specs.declared.write_log.WriteLog.{WriteLog}
use Rattle.std.proofs.Common.{Bor, ap, length-append, length-drop, refl, subst, sym, ◌∙◌}
use Rattle.std.proofs.lemmas.List.{append-nil}
use Rattle.std.specs.BTreeMap.{Updates, get}
use Rattle.std.specs.Ordering.{is_eq, nat_cmp}
use Rattle.std.specs.Prelude.{Bool, Err, List, None, Ok, OnOk, Option, Result, Some, [], drop, false, if◌then◌else◌, length, map, true, ℕ, ◌++◌, ◌+◌, ◌==◌, ◌∷◌, ◌≡◌}
use Rattle.tape_laws.specs.Dispatches.{is_some_of}
use Rattle.tape_laws.specs.History.{Noted, onto}
use Rattle.tape_summary.proofs.Pausing.{onto_more}
use Rattle.tape_summary.proofs.Spots.{number_is, numbers_equal}
use Rattle.tape_summary.specs.Levels.{emptied, fallen, risen}
use Rattle.tape_summary.specs.Pausing.{Logs}
use Rattle.tape_summary.specs.declared.level.Level.{Level}
use Rattle.tape_summary.specs.declared.pauses.PauseLog.{PauseLog}
use Rattle.flow_notes.specs.declared.events.Event.TheVariants as event
use Rattle.flow_notes.specs.declared.notes.CloseCause.TheVariants as closed
use Rattle.flow_notes.specs.declared.notes.Note.TheVariants as note
use Rattle.flow_notes.specs.declared.passages.Passage.TheVariants as passage

-- ---- a note that leaves each write buffer, connection and pair as it was
same_note : (log : WriteLog) (n : Note) → ((h : Tape) → connections (Noted n ∷ h) ≡ connections h) → ((f : FlowId) (h : Tape) → goes_to f (Noted n ∷ h) ≡ goes_to f h)
    → ((limit : ℕ) (h : Tape) → WritesAre limit log h → (c : ℕ) → out c (Noted n ∷ h) ≡ out c h) → WritesGo log (n ∷ []) log
same_note log n cs gs os = record {
  goes = λ limit h a. record {
    limit_is = a.limit_is;
    conns_are = a.conns_are ∙ sym (cs h);
    ends_are = λ f. a.ends_are f ∙ sym (gs f h);
    levels_are = λ c. a.levels_are c ∙ level_same c (Noted n) h (ap length (os limit h a c));
  };
}

-- ---- a note that changes the write buffer of one connection
abbrev ChangesOne : Note → Tape → ℕ → (Level → Level) → Type 0
ChangesOne n h d change = (c : ℕ) (b : Bool) → (d == c) ≡ b → (if b then change (level_of c h) else level_of c h) ≡ level_of c (Noted n ∷ h)

set_levels : (old new : WriteLog) (n : Note) (h : Tape) (d : ℕ) (change : Level → Level)
    → Updates nat_cmp old.levels new.levels d (Some (change (kept_level (get nat_cmp old.levels d))))
    → ((c : ℕ) → kept_level (get nat_cmp old.levels c) ≡ level_of c h) → ChangesOne n h d change
    → (c : ℕ) → kept_level (get nat_cmp new.levels c) ≡ level_of c (Noted n ∷ h)
set_levels old new n h d change u was ch c = by (d == c) refl
  where
    by : (b : Bool) → (d == c) ≡ b → kept_level (get nat_cmp new.levels c) ≡ level_of c (Noted n ∷ h)
    by true e =
        let i : is_eq (nat_cmp d c) ≡ true = numbers_equal d c ∙ e in
        ap kept_level (u.0 c ∙ ap (λ v. if v then Some (change (kept_level (get nat_cmp old.levels d))) else get nat_cmp old.levels c) i)
        ∙ ap (λ k. change (kept_level (get nat_cmp old.levels k))) (number_is d c e)
        ∙ ap change (was c)
        ∙ ch c true e
    by false e =
        let i : is_eq (nat_cmp d c) ≡ false = numbers_equal d c ∙ e in
        ap kept_level (u.0 c ∙ ap (λ v. if v then Some (change (kept_level (get nat_cmp old.levels d))) else get nat_cmp old.levels c) i)
        ∙ was c
        ∙ ch c false e

one_level : (old new : WriteLog) (n : Note) (d : ℕ) (change : Level → Level) → SetsLevel old d (change (kept_level (get nat_cmp old.levels d))) new
    → ((h : Tape) → connections (Noted n ∷ h) ≡ connections h) → ((f : FlowId) (h : Tape) → goes_to f (Noted n ∷ h) ≡ goes_to f h)
    → ((limit : ℕ) (h : Tape) → WritesAre limit old h → ChangesOne n h d change) → WritesGo old (n ∷ []) new
one_level old new n d change s cs gs ch = record {
  goes = λ limit h a. record {
    limit_is = s.limit ∙ a.limit_is;
    conns_are = ap (λ v. v.items) s.conns ∙ a.conns_are ∙ sym (cs h);
    ends_are = λ f. ap (λ m. end_of f (get nat_cmp m f.exchange)) s.pairs ∙ a.ends_are f ∙ sym (gs f h);
    levels_are = set_levels old new n h d change s.levels a.levels_are (ch limit h a);
  };
}

-- ---- turn notes
come_turn : (old new : WriteLog) (c : ℕ) (e : Event) → new.conns.items ≡ old.conns.items ++ c ∷ [] → new.pairs ≡ old.pairs → new.levels ≡ old.levels → new.limit ≡ old.limit
    → ((k : ℕ) (h : Tape) → connections (Noted (note.Turn k e) ∷ h) ≡ connections h ++ c ∷ []) → TakesTurn old e new
come_turn old new c e cs ps ls li shape = record {
  goes = λ k. record {
    goes = λ limit h a. record {
      limit_is = li ∙ a.limit_is;
      conns_are = cs ∙ ap (λ (v : List ℕ). v ++ c ∷ []) a.conns_are ∙ sym (shape k h);
      ends_are = λ f. ap (λ m. end_of f (get nat_cmp m f.exchange)) ps ∙ a.ends_are f;
      levels_are = λ d. ap (λ m. kept_level (get nat_cmp m d)) ls ∙ a.levels_are d ∙ level_same d (Noted (note.Turn k e)) h refl;
    };
  };
}

as_event : (old new : WriteLog) (m e : Event) → m ≡ e → TakesTurn old e new → TakesTurn old m new
as_event old new m e q t = let P : Event → Type 0 = λ v. TakesTurn old v new in subst P (sym q) t

pub accept_taken : (old new : WriteLog) (m : Event) (c : ℕ) (r : Result (Unit {0}) NoMemory) → m ≡ event.Accept c → OnOk r (new.conns.items ≡ old.conns.items ++ c ∷ [])
    → new.pairs ≡ old.pairs → new.levels ≡ old.levels → new.limit ≡ old.limit → OnOk r (TakesTurn old m new)
accept_taken old new m c (Ok u) e cs ps ls li = as_event old new m (event.Accept c) e (come_turn old new c (event.Accept c) cs ps ls li (λ k h. refl))
accept_taken old new m c (Err x) e cs ps ls li = tt

pub join_taken : (old new : WriteLog) (m : Event) (c j : ℕ) (r : Result (Unit {0}) NoMemory) → m ≡ event.Join c j → OnOk r (new.conns.items ≡ old.conns.items ++ c ∷ [])
    → new.pairs ≡ old.pairs → new.levels ≡ old.levels → new.limit ≡ old.limit → OnOk r (TakesTurn old m new)
join_taken old new m c j (Ok u) e cs ps ls li = as_event old new m (event.Join c j) e (come_turn old new c (event.Join c j) cs ps ls li (λ k h. refl))
join_taken old new m c j (Err x) e cs ps ls li = tt

quiet_turn : (log : WriteLog) (e : Event) → ((k : ℕ) (h : Tape) → connections (Noted (note.Turn k e) ∷ h) ≡ connections h) → TakesTurn log e log
quiet_turn log e cs = record { goes = λ k. same_note log (note.Turn k e) (cs k) (λ f h. refl) (λ limit h a c. refl) }

pub other_taken : (log : WriteLog) (e : Event) → ((c : ℕ) → e ≡ event.Accept c → ⊥) → ((c j : ℕ) → e ≡ event.Join c j → ⊥) → TakesTurn log e log
other_taken log (event.Accept c) na nj = absurd (na c refl)
other_taken log (event.Join c j) na nj = absurd (nj c j refl)
other_taken log (event.Read c o) na nj = quiet_turn log (event.Read c o) (λ k h. refl)
other_taken log (event.Gone c) na nj = quiet_turn log (event.Gone c) (λ k h. refl)
other_taken log (event.Room c n) na nj = quiet_turn log (event.Room c n) (λ k h. refl)
other_taken log (event.Tick t) na nj = quiet_turn log (event.Tick t) (λ k h. refl)
other_taken log (event.Post p n j) na nj = quiet_turn log (event.Post p n j) (λ k h. refl)
other_taken log (event.Obey v ps) na nj = quiet_turn log (event.Obey v ps) (λ k h. refl)
other_taken log (event.Plain p) na nj = quiet_turn log (event.Plain p) (λ k h. refl)

-- ---- octets come
risen_there : (c n : ℕ) (octets : List ℕ) (f : FlowId) (h : Tape) → length octets ≡ n → goes_to f h ≡ Some c → ChangesOne (note.Arrive f octets) h c (λ l. risen l n)
risen_there c n octets f h en to d b e = by b (ap (λ (o : Option ℕ). is_some_of o d) to ∙ e)
  where
    x : List ℕ
    x = out d h

    by : (b : Bool) → is_some_of (goes_to f h) d ≡ b → (if b then risen (level_of d h) n else level_of d h) ≡ level_of d (Noted (note.Arrive f octets) ∷ h)
    by true i = level_risen d (Noted (note.Arrive f octets)) h n
        (ap (λ (v : Bool). length (x ++ (if v then octets else []))) i ∙ length-append x octets ∙ ap (λ k. length x + k) en)
    by false i = level_same d (Noted (note.Arrive f octets)) h (ap (λ (v : Bool). length (x ++ (if v then octets else []))) i ∙ ap length (append-nil x))

octets_go : (old new : WriteLog) (f : FlowId) (n c : ℕ) → end_of f (get nat_cmp old.pairs f.exchange) ≡ Some c → SetsLevel old c (risen (kept_level (get nat_cmp old.levels c)) n) new → TakesOctets old f n new
octets_go old new f n c to s = record {
  goes = λ octets e. one_level old new (note.Arrive f octets) c (λ l. risen l n) s (λ h. refl) (λ g h. refl)
      (λ limit h a. risen_there c n octets f h e (sym (a.ends_are f) ∙ to));
}

pub octets_taken : (old new : WriteLog) (f : FlowId) (n c : ℕ) (o : Option ℕ) (was level : Level) (r : Result (Unit {0}) NoMemory) → o ≡ end_of f (get nat_cmp old.pairs f.exchange) → o ≡ Some c
    → was ≡ kept_level (get nat_cmp old.levels c) → level ≡ risen was n → OnOk r (SetsLevel old c level new) → OnOk r (TakesOctets old f n new)
octets_taken old new f n c o was level (Ok u) eo some ew el s =
    let P : Level → Type 0 = λ v. SetsLevel old c v new in
    octets_go old new f n c (sym eo ∙ some) (subst P (el ∙ ap (λ v. risen v n) ew) s)
octets_taken old new f n c o was level (Err x) eo some ew el s = tt

none_else : (o : Option ℕ) → ((c : ℕ) → o ≡ Some c → ⊥) → o ≡ None
none_else None never = refl
none_else (Some c) never = absurd (never c refl)

pub octets_lost : (log : WriteLog) (f : FlowId) (n : ℕ) (o : Option ℕ) → o ≡ end_of f (get nat_cmp log.pairs f.exchange) → ((c : ℕ) → o ≡ Some c → ⊥) → TakesOctets log f n log
octets_lost log f n o eo never = record {
  goes = λ octets e. same_note log (note.Arrive f octets) (λ h. refl) (λ g h. refl)
      (λ limit h a c. ap (λ (v : Option ℕ). out c h ++ (if is_some_of v c then octets else [])) (sym (a.ends_are f) ∙ sym eo ∙ none_else o never) ∙ append-nil (out c h));
}

-- ---- a connection is closed
emptied_there : (c code : ℕ) (h : Tape) → ChangesOne (note.Close c code closed.Lost) h c emptied
emptied_there c code h d b e = by b e
  where
    by : (b : Bool) → (c == d) ≡ b → (if b then emptied (level_of d h) else level_of d h) ≡ level_of d (Noted (note.Close c code closed.Lost) ∷ h)
    by true i = level_emptied d (Noted (note.Close c code closed.Lost)) h (ap (λ (v : Bool). length (if v then [] else out d h)) i)
    by false i = level_same d (Noted (note.Close c code closed.Lost)) h (ap (λ (v : Bool). length (if v then [] else out d h)) i)

as_cause : (old new : WriteLog) (c : ℕ) (m why : CloseCause) → m ≡ why → TakesClose old c why new → TakesClose old c m new
as_cause old new c m why q t = let P : CloseCause → Type 0 = λ v. TakesClose old c v new in subst P (sym q) t

pub lost_taken : (old new : WriteLog) (c : ℕ) (m : CloseCause) (was level : Level) (r : Result (Unit {0}) NoMemory) → m ≡ closed.Lost → was ≡ kept_level (get nat_cmp old.levels c) → level ≡ emptied was
    → OnOk r (SetsLevel old c level new) → OnOk r (TakesClose old c m new)
lost_taken old new c m was level (Ok u) e ew el s =
    let P : Level → Type 0 = λ v. SetsLevel old c v new in
    as_cause old new c m closed.Lost e (record {
      goes = λ code. one_level old new (note.Close c code closed.Lost) c emptied (subst P (el ∙ ap emptied ew) s) (λ h. refl) (λ g h. refl) (λ limit h a. emptied_there c code h);
    })
lost_taken old new c m was level (Err x) e ew el s = tt

pub other_closed : (log : WriteLog) (c : ℕ) (why : CloseCause) → (why ≡ closed.Lost → ⊥) → TakesClose log c why log
other_closed log c closed.Lost never = absurd (never refl)
other_closed log c closed.Protocol never = record { goes = λ code. same_note log (note.Close c code closed.Protocol) (λ h. refl) (λ g h. refl) (λ limit h a d. refl) }
other_closed log c closed.Drained never = record { goes = λ code. same_note log (note.Close c code closed.Drained) (λ h. refl) (λ g h. refl) (λ limit h a d. refl) }
other_closed log c closed.Idle never = record { goes = λ code. same_note log (note.Close c code closed.Idle) (λ h. refl) (λ g h. refl) (λ limit h a d. refl) }
other_closed log c closed.Overload never = record { goes = λ code. same_note log (note.Close c code closed.Overload) (λ h. refl) (λ g h. refl) (λ limit h a d. refl) }
other_closed log c closed.Flood never = record { goes = λ code. same_note log (note.Close c code closed.Flood) (λ h. refl) (λ g h. refl) (λ limit h a d. refl) }

-- ---- by how the note was taken up
as_matched : (old new : WriteLog) (m n : Note) → m ≡ n → WritesGo old (n ∷ []) new → WritesGo old (m ∷ []) new
as_matched old new m n e k = let P : Note → Type 0 = λ v. WritesGo old (v ∷ []) new in subst P (sym e) k

pub turn_ends : (old new : WriteLog) (m : Note) (k : ℕ) (e : Event) (r : Result (Unit {0}) NoMemory) → m ≡ note.Turn k e → OnOk r (TakesTurn old e new) → OnOk r (WritesGo old (m ∷ []) new)
turn_ends old new m k e (Ok u) q t = as_matched old new m (note.Turn k e) q (t.goes k)
turn_ends old new m k e (Err x) q t = tt

pub arrive_ends : (old new : WriteLog) (m : Note) (f : FlowId) (octets : List ℕ) (n : ℕ) (r : Result (Unit {0}) NoMemory) → m ≡ note.Arrive f octets → n ≡ length octets
    → OnOk r (TakesOctets old f n new) → OnOk r (WritesGo old (m ∷ []) new)
arrive_ends old new m f octets n (Ok u) q en t = as_matched old new m (note.Arrive f octets) q (t.goes octets (sym en))
arrive_ends old new m f octets n (Err x) q en t = tt

pub close_ends : (old new : WriteLog) (m : Note) (c code : ℕ) (why : CloseCause) (r : Result (Unit {0}) NoMemory) → m ≡ note.Close c code why → OnOk r (TakesClose old c why new) → OnOk r (WritesGo old (m ∷ []) new)
close_ends old new m c code why (Ok u) q t = as_matched old new m (note.Close c code why) q (t.goes code)
close_ends old new m c code why (Err x) q t = tt

fallen_there : (c n : ℕ) (h : Tape) → ChangesOne (note.Out c n) h c (λ l. fallen l n)
fallen_there c n h d b e = by b e
  where
    x : List ℕ
    x = out d h

    by : (b : Bool) → (c == d) ≡ b → (if b then fallen (level_of d h) n else level_of d h) ≡ level_of d (Noted (note.Out c n) ∷ h)
    by true i = level_fallen d (Noted (note.Out c n)) h n (ap (λ (v : Bool). length (drop (if v then n else 0) x)) i ∙ length-drop n x)
    by false i = level_same d (Noted (note.Out c n)) h (ap (λ (v : Bool). length (drop (if v then n else 0) x)) i)

pub out_ends : (old new : WriteLog) (m : Note) (c n k : ℕ) (was level : Level) (r : Result (Unit {0}) NoMemory) → m ≡ note.Out c n → k ≡ n → was ≡ kept_level (get nat_cmp old.levels c) → level ≡ fallen was k
    → OnOk r (SetsLevel old c level new) → OnOk r (WritesGo old (m ∷ []) new)
out_ends old new m c n k was level (Ok u) q ek ew el s =
    let P : Level → Type 0 = λ v. SetsLevel old c v new in
    as_matched old new m (note.Out c n) q
    (one_level old new (note.Out c n) c (λ l. fallen l n) (subst P (el ∙ ap (λ v. fallen was v) ek ∙ ap (λ v. fallen v n) ew) s) (λ h. refl) (λ g h. refl) (λ limit h a. fallen_there c n h))
out_ends old new m c n k was level (Err x) q ek ew el s = tt

module _ (old new : WriteLog) (x c s d : ℕ) (pairs : Updates nat_cmp old.pairs new.pairs x (Some (record { client = c; cluster = d }))) where
  abbrev both : Ends
  both = record { client = c; cluster = d }

  start_end : (f : FlowId) (h : Tape) (b : Bool) → (x == f.exchange) ≡ b → end_of f (get nat_cmp old.pairs f.exchange) ≡ goes_to f h → end_of f (get nat_cmp new.pairs f.exchange) ≡ goes_to f (Noted (note.Start x c s d) ∷ h)
  start_end f h true e was =
      ap (λ (o : Option Ends). end_of f o) (pairs.0 f.exchange ∙ ap (λ v. if v then Some both else get nat_cmp old.pairs f.exchange) (numbers_equal x f.exchange ∙ e))
      ∙ sym (ap (λ v. if v then Some (if f.back then c else d) else goes_to f h) e)
  start_end f h false e was =
      ap (λ (o : Option Ends). end_of f o) (pairs.0 f.exchange ∙ ap (λ v. if v then Some both else get nat_cmp old.pairs f.exchange) (numbers_equal x f.exchange ∙ e))
      ∙ was
      ∙ sym (ap (λ v. if v then Some (if f.back then c else d) else goes_to f h) e)

start_go : (old new : WriteLog) (x c s d : ℕ) → Updates nat_cmp old.pairs new.pairs x (Some (record { client = c; cluster = d })) → new.conns ≡ old.conns → new.levels ≡ old.levels → new.limit ≡ old.limit
    → WritesGo old (note.Start x c s d ∷ []) new
start_go old new x c s d pairs cs ls li = record {
  goes = λ limit h a. record {
    limit_is = li ∙ a.limit_is;
    conns_are = ap (λ v. v.items) cs ∙ a.conns_are;
    ends_are = λ f. start_end old new x c s d pairs f h (x == f.exchange) refl (a.ends_are f);
    levels_are = λ e. ap (λ m. kept_level (get nat_cmp m e)) ls ∙ a.levels_are e ∙ level_same e (Noted (note.Start x c s d)) h refl;
  };
}

pub start_ends : (old new : WriteLog) (m : Note) (x c s d : ℕ) (r : Result (Unit {0}) NoMemory) → m ≡ note.Start x c s d → OnOk r (Updates nat_cmp old.pairs new.pairs x (Some (record { client = c; cluster = d })))
    → new.conns ≡ old.conns → new.levels ≡ old.levels → new.limit ≡ old.limit → OnOk r (WritesGo old (m ∷ []) new)
start_ends old new m x c s d (Ok u) q ps cs ls li = as_matched old new m (note.Start x c s d) q (start_go old new x c s d ps cs ls li)
start_ends old new m x c s d (Err e) q ps cs ls li = tt

pub other_ends : (log : WriteLog) (n : Note) → ((k : ℕ) (e : Event) → n ≡ note.Turn k e → ⊥) → ((x c s d : ℕ) → n ≡ note.Start x c s d → ⊥) → ((f : FlowId) (o : List ℕ) → n ≡ note.Arrive f o → ⊥)
    → ((c k : ℕ) → n ≡ note.Out c k → ⊥) → ((c code : ℕ) (why : CloseCause) → n ≡ note.Close c code why → ⊥) → WritesGo log (n ∷ []) log
other_ends log (note.Turn k e) nt ns na never nc = absurd (nt k e refl)
other_ends log (note.Start x c s d) nt ns na never nc = absurd (ns x c s d refl)
other_ends log (note.Arrive f o) nt ns na never nc = absurd (na f o refl)
other_ends log (note.Out c k) nt ns na never nc = absurd (never c k refl)
other_ends log (note.Close c code why) nt ns na never nc = absurd (nc c code why refl)
other_ends log (note.Move f p k) nt ns na never nc = same_note log (note.Move f p k) (λ h. refl) (λ g h. refl) (λ limit h a c. refl)
other_ends log (note.Frame c f k last) nt ns na never nc = same_note log (note.Frame c f k last) (λ h. refl) (λ g h. refl) (λ limit h a d. refl)
other_ends log (note.Pause f b) nt ns na never nc = same_note log (note.Pause f b) (λ h. refl) (λ g h. refl) (λ limit h a c. refl)
other_ends log (note.Resume f b) nt ns na never nc = same_note log (note.Resume f b) (λ h. refl) (λ g h. refl) (λ limit h a c. refl)
other_ends log (note.Credit c s n) nt ns na never nc = same_note log (note.Credit c s n) (λ h. refl) (λ g h. refl) (λ limit h a d. refl)
other_ends log (note.Head c s o) nt ns na never nc = same_note log (note.Head c s o) (λ h. refl) (λ g h. refl) (λ limit h a d. refl)
other_ends log (note.Answer c o) nt ns na never nc = same_note log (note.Answer c o) (λ h. refl) (λ g h. refl) (λ limit h a d. refl)
other_ends log (note.Waste c s n) nt ns na never nc = same_note log (note.Waste c s n) (λ h. refl) (λ g h. refl) (λ limit h a d. refl)
other_ends log (note.Doom x why) nt ns na never nc = same_note log (note.Doom x why) (λ h. refl) (λ g h. refl) (λ limit h a d. refl)
other_ends log (note.Gone x) nt ns na never nc = same_note log (note.Gone x) (λ h. refl) (λ g h. refl) (λ limit h a d. refl)
other_ends log (note.Fire kind id) nt ns na never nc = same_note log (note.Fire kind id) (λ h. refl) (λ g h. refl) (λ limit h a d. refl)

-- ---- note after note
pub writes_none : (log : WriteLog) → WritesGo log [] log
writes_none log = record { goes = λ limit h a. a }

pub writes_more : (a b c : WriteLog) (ns ms : List Note) → WritesGo a ns b → WritesGo b ms c → WritesGo a (ns ++ ms) c
writes_more a b c ns ms p q = record {
  goes = λ limit h l. let P : Tape → Type 0 = λ v. WritesAre limit c v in subst P (sym (onto_more ns ms h)) (q.goes limit (onto ns h) (p.goes limit h l));
}

pub all_writes : (a b : WriteLog) (notes done rest : List Note) → notes ≡ done ++ rest → rest ≡ [] → WritesGo a done b → WritesGo a notes b
all_writes a b notes done rest e none l =
    let P : List Note → Type 0 = λ v. WritesGo a v b in
    subst P (sym (e ∙ ap (λ (v : List Note). done ++ v) none ∙ append-nil done)) l

-- ---- beside the pauses
pub both_logged : (old : RelayLog) (ns : List Note) (writes : WriteLog) (pauses : PauseLog) (r : Result (Unit {0}) NoMemory) → WritesGo old.writes ns writes → OnOk r (Logs old.pauses ns pauses)
    → OnOk r (RelayLogs old ns (record { writes = writes; pauses = pauses }))
both_logged old ns writes pauses (Ok u) w p = record { goes = λ limit h l. record { writes = w.goes limit h l.writes; pauses = p.goes h l.pauses } }
both_logged old ns writes pauses (Err x) w p = tt

-- ---- rows of pauses and resumes
pauses_write : (a : WriteLog) (fs : List FlowId) (b : BufferId) → WritesGo a (map (λ f. note.Pause f b) fs) a
pauses_write a [] b = writes_none a
pauses_write a (f ∷ fs) b = writes_more a a a (note.Pause f b ∷ []) (map (λ f. note.Pause f b) fs) (same_note a (note.Pause f b) (λ h. refl) (λ g h. refl) (λ limit h k c. refl)) (pauses_write a fs b)

resumes_write : (a : WriteLog) (fs : List FlowId) (b : BufferId) → WritesGo a (map (λ f. note.Resume f b) fs) a
resumes_write a [] b = writes_none a
resumes_write a (f ∷ fs) b = writes_more a a a (note.Resume f b ∷ []) (map (λ f. note.Resume f b) fs) (same_note a (note.Resume f b) (λ h. refl) (λ g h. refl) (λ limit h k c. refl)) (resumes_write a fs b)

-- ---- passages
pub note_write : (a c : WriteLog) (p : Passage) (n : Bor Note) (r : Result (Unit {0}) NoMemory) → p ≡ passage.One n → OnOk r (WritesGo a (n.now ∷ []) c) → OnOk r (WritesGo a (notes_of_passage p) c)
note_write a c p n r e k = let P : Passage → Type 0 = λ v. OnOk r (WritesGo a (notes_of_passage v) c) in subst P (sym e) k

pub row_write : (a : WriteLog) (p : Passage) → ((n : Bor Note) → p ≡ passage.One n → ⊥) → WritesGo a (notes_of_passage p) a
row_write a (passage.One n) other = absurd (other n refl)
row_write a (passage.Pauses fs b) other = pauses_write a fs.now b
row_write a (passage.Resumes fs b) other = resumes_write a fs.now b
