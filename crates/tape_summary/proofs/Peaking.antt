-- A log of lengths, note by note.
use Rattle.flow_rules.specs.declared.ids.BufferId.{BufferId}
use Rattle.flow_rules.specs.declared.ids.FlowId.{FlowId}
use Rattle.flow_rules.specs.declared.causes.Cause.{Cause}
use Rattle.flow_notes.specs.Passages.{notes_of_passage}
use Rattle.flow_notes.specs.declared.notes.Note.{Note}
use Rattle.flow_notes.specs.declared.passages.Passage.{Passage}
use Rattle.io_ports.specs.declared.octets.NoMemory.{NoMemory}
use Rattle.tape_summary.proofs.Levels.{lawful_back, level_emptied, level_fallen, level_risen, level_same, live_request, unwritten_goes}
use Rattle.tape_summary.proofs.Pausing.{onto_more}
use Rattle.tape_summary.proofs.Spots.{number_is, numbers_equal}
use Rattle.tape_summary.specs.Levels.{WriteGoes, level_of}
use Rattle.tape_summary.specs.Peaking.{PeaksAre, PeaksGo, Sets, arrived, dropped, flow_levels, framed, levels_of, shifted}
use Rattle.tape_summary.specs.declared.level.Level.{Level}
use Rattle.tape_summary.specs.declared.peaks.FlowLevels.{FlowLevels}
use Rattle.tape_summary.specs.declared.peaks.PeakLog.{PeakLog}
use Rattle.std.proofs.Common.{Bor, ap, arith, length-append, length-drop, refl, subst, sym, ◌∙◌}
use Rattle.std.proofs.lemmas.Bool.Decides.{nat_tests}
use Rattle.std.proofs.lemmas.List.{append-nil, length-take-le}
use Rattle.std.specs.BTreeMap.{Updates, get}
use Rattle.std.specs.Ordering.{is_eq, nat_cmp}
use Rattle.std.specs.Prelude.{Bool, Err, List, None, Ok, OnOk, Result, Some, [], drop, false, if◌then◌else◌, length, map, min, take, true, ℕ, ◌&&◌, ◌++◌, ◌+◌, ◌==◌, ◌∷◌, ◌≡◌, ◌≤◌}
use Rattle.tape_laws.specs.Dispatches.{started}
use Rattle.tape_laws.specs.Flows.{request, same_flow}
use Rattle.tape_laws.specs.History.{History, NoMark, Noted, Step, onto}
use Rattle.tape_laws.specs.Pauses.{count}
use Rattle.tape_laws.specs.Plain.{plain_setup}
use Rattle.tape_laws.specs.PlainTape.{IsPlainLawful}
use Rattle.tape_laws.specs.Release.{is_free, may_release}
use Rattle.tape_laws.specs.World.{len, place}
use Rattle.tape_laws.specs.declared.PlainLimits.{PlainLimits}
use Rattle.flow_rules.specs.declared.ids.BufferId.TheVariants as buffer
use Rattle.flow_notes.specs.declared.notes.Note.TheVariants as note
use Rattle.flow_notes.specs.declared.passages.Passage.TheVariants as passage

-- ---- the levels of one stream

levels_are : (limits : PlainLimits) (h : History NoMark) (x : ℕ) (r s : Level) → r ≡ level_of limits (buffer.Recv (request x)) h → s ≡ level_of limits (buffer.Send (request x)) h
    → (let l : FlowLevels = record { recv = r; send = s } in l) ≡ flow_levels limits h x
levels_are limits h x r s p q =
    ap (λ (v : Level). let l : FlowLevels = record { recv = v; send = s } in l) p
    ∙ ap (λ (v : Level). let l : FlowLevels = record { recv = level_of limits (buffer.Recv (request x)) h; send = v } in l) q

-- a step that leaves the buffers of each stream as they were
same_levels : (limits : PlainLimits) (step : Step NoMark) (h : History NoMark) (x : ℕ) → place (plain_setup limits) (request x) 0 (step ∷ h) ≡ place (plain_setup limits) (request x) 0 h
    → place (plain_setup limits) (request x) 1 (step ∷ h) ≡ place (plain_setup limits) (request x) 1 h → flow_levels limits h x ≡ flow_levels limits (step ∷ h) x
same_levels limits step h x r s =
    levels_are limits (step ∷ h) x _ _ (level_same limits (buffer.Recv (request x)) step h (ap length r)) (level_same limits (buffer.Send (request x)) step h (ap length s))

-- a change of the levels of the stream y
abbrev ChangesOne : PlainLimits → Step NoMark → History NoMark → ℕ → (FlowLevels → FlowLevels) → Type 0
ChangesOne limits step h y change =
    (x : ℕ) (b : Bool) → (y == x) ≡ b → (if b then change (flow_levels limits h x) else flow_levels limits h x) ≡ flow_levels limits (step ∷ h) x

same_request : (y x : ℕ) (b : Bool) → (y == x) ≡ b → same_flow (request y) (request x) ≡ b
same_request y x true e = ap (λ v. v && true) e
same_request y x false e = ap (λ v. v && true) e

arrive_changes : (limits : PlainLimits) (y : ℕ) (o : List ℕ) (h : History NoMark) → ChangesOne limits (Noted (note.Arrive (request y) o)) h y (arrived (length o))
arrive_changes limits y o h x b e =
    by b (same_request y x b e)
  where
    step : Step NoMark
    step = Noted (note.Arrive (request y) o)

    r : List ℕ
    r = place (plain_setup limits) (request x) 0 h

    s : List ℕ
    s = place (plain_setup limits) (request x) 1 h

    by : (b : Bool) → same_flow (request y) (request x) ≡ b → (if b then arrived (length o) (flow_levels limits h x) else flow_levels limits h x) ≡ flow_levels limits (step ∷ h) x
    by true i =
        levels_are limits (step ∷ h) x _ _
        (level_risen limits (buffer.Recv (request x)) step h (length o) (ap (λ (v : Bool). length (r ++ (if v && true then o else []))) i ∙ length-append r o))
        (level_same limits (buffer.Send (request x)) step h (ap (λ (v : Bool). length (s ++ (if v && false then o else []))) i ∙ ap length (append-nil s)))
    by false i =
        same_levels limits step h x (ap (λ (v : Bool). r ++ (if v && true then o else [])) i ∙ append-nil r) (ap (λ (v : Bool). s ++ (if v && false then o else [])) i ∙ append-nil s)

move_changes : (limits : PlainLimits) (y n : ℕ) (h : History NoMark) → n ≤ length (place (plain_setup limits) (request y) 0 h) → ChangesOne limits (Noted (note.Move (request y) 0 n)) h y (shifted n)
move_changes limits y n h le x b e = by b e (same_request y x b e)
  where
    step : Step NoMark
    step = Noted (note.Move (request y) 0 n)

    r : List ℕ
    r = place (plain_setup limits) (request x) 0 h

    s : List ℕ
    s = place (plain_setup limits) (request x) 1 h

    by : (b : Bool) → (y == x) ≡ b → same_flow (request y) (request x) ≡ b → (if b then shifted n (flow_levels limits h x) else flow_levels limits h x) ≡ flow_levels limits (step ∷ h) x
    by true e i =
        let there : n ≤ length r = (let P : ℕ → Type 0 = λ v. n ≤ length (place (plain_setup limits) (request v) 0 h) in subst P (number_is y x e) le) in
        levels_are limits (step ∷ h) x _ _
        (level_fallen limits (buffer.Recv (request x)) step h n (ap (λ (v : Bool). length (if v then drop n r else r)) i ∙ length-drop n r))
        (level_risen limits (buffer.Send (request x)) step h n (ap (λ (v : Bool). length (if v then s ++ take n r else s)) i ∙ length-append s (take n r) ∙ ap (λ k. length s + k) (length-take-le n r there)))
    by false e i =
        same_levels limits step h x (ap (λ (v : Bool). if v then drop n r else r) i) (ap (λ (v : Bool). if v then s ++ take n r else s) i)

frame_changes : (limits : PlainLimits) (c y n : ℕ) (last : Bool) (h : History NoMark) → ChangesOne limits (Noted (note.Frame c (request y) n last)) h y (framed n)
frame_changes limits c y n last h x b e = by b (same_request y x b e)
  where
    step : Step NoMark
    step = Noted (note.Frame c (request y) n last)

    r : List ℕ
    r = place (plain_setup limits) (request x) 0 h

    s : List ℕ
    s = place (plain_setup limits) (request x) 1 h

    by : (b : Bool) → same_flow (request y) (request x) ≡ b → (if b then framed n (flow_levels limits h x) else flow_levels limits h x) ≡ flow_levels limits (step ∷ h) x
    by true i =
        levels_are limits (step ∷ h) x _ _
        (level_same limits (buffer.Recv (request x)) step h (ap (λ (v : Bool). length (drop (if v && false then n else 0) r)) i))
        (level_fallen limits (buffer.Send (request x)) step h n (ap (λ (v : Bool). length (drop (if v && true then n else 0) s)) i ∙ length-drop n s))
    by false i =
        same_levels limits step h x (ap (λ (v : Bool). drop (if v && false then n else 0) r) i) (ap (λ (v : Bool). drop (if v && true then n else 0) s) i)

doom_changes : (limits : PlainLimits) (y : ℕ) (n : Note) (h : History NoMark)
    → ((x p : ℕ) → place (plain_setup limits) (request x) p (Noted n ∷ h) ≡ (if x == y then [] else place (plain_setup limits) (request x) p h)) → ChangesOne limits (Noted n) h y dropped
doom_changes limits y n h is x b e = by b (flip b e)
  where
    flip : (b : Bool) → (y == x) ≡ b → (x == y) ≡ b
    flip b e = grind (arith, nat_tests)

    r : List ℕ
    r = place (plain_setup limits) (request x) 0 h

    s : List ℕ
    s = place (plain_setup limits) (request x) 1 h

    by : (b : Bool) → (x == y) ≡ b → (if b then dropped (flow_levels limits h x) else flow_levels limits h x) ≡ flow_levels limits (Noted n ∷ h) x
    by true i =
        levels_are limits (Noted n ∷ h) x _ _
        (level_emptied limits (buffer.Recv (request x)) (Noted n) h (ap length (is x 0) ∙ ap (λ (v : Bool). length (if v then [] else r)) i))
        (level_emptied limits (buffer.Send (request x)) (Noted n) h (ap length (is x 1) ∙ ap (λ (v : Bool). length (if v then [] else s)) i))
    by false i =
        same_levels limits (Noted n) h x (is x 0 ∙ ap (λ (v : Bool). if v then [] else r) i) (is x 1 ∙ ap (λ (v : Bool). if v then [] else s) i)

-- ---- the log with one more note

set_levels : (old new : PeakLog) (limits : PlainLimits) (step : Step NoMark) (h : History NoMark) (y : ℕ) (change : FlowLevels → FlowLevels)
    → Updates nat_cmp old.flows new.flows y (Some (change (levels_of (get nat_cmp old.flows y)))) → ((x : ℕ) → levels_of (get nat_cmp old.flows x) ≡ flow_levels limits h x)
    → ChangesOne limits step h y change → (x : ℕ) → levels_of (get nat_cmp new.flows x) ≡ flow_levels limits (step ∷ h) x
set_levels old new limits step h y change u was ch x = by (y == x) refl
  where
    by : (b : Bool) → (y == x) ≡ b → levels_of (get nat_cmp new.flows x) ≡ flow_levels limits (step ∷ h) x
    by true e =
        let i : is_eq (nat_cmp y x) ≡ true = numbers_equal y x ∙ e in
        ap levels_of (u.0 x ∙ ap (λ v. if v then Some (change (levels_of (get nat_cmp old.flows y))) else get nat_cmp old.flows x) i)
        ∙ ap (λ k. change (levels_of (get nat_cmp old.flows k))) (number_is y x e)
        ∙ ap change (was x)
        ∙ ch x true e
    by false e =
        let i : is_eq (nat_cmp y x) ≡ false = numbers_equal y x ∙ e in
        ap levels_of (u.0 x ∙ ap (λ v. if v then Some (change (levels_of (get nat_cmp old.flows y))) else get nat_cmp old.flows x) i)
        ∙ was x
        ∙ ch x false e

-- a note of the stream y
one_peak : (old mid new : PeakLog) (w : Level) (n : Note) (y : ℕ) (change : FlowLevels → FlowLevels) → WriteGoes old.write n w
    → mid.limits ≡ old.limits → mid.started ≡ old.started → mid.flows ≡ old.flows → mid.write ≡ w
    → Sets mid y (change (levels_of (get nat_cmp mid.flows y))) new
    → ((h : History NoMark) → started (Noted n ∷ h) ≡ started h)
    → ((limits : PlainLimits) (h : History NoMark) → IsPlainLawful limits (Noted n ∷ h) → ChangesOne limits (Noted n) h y change)
    → PeaksGo old (n ∷ []) new
one_peak old mid new w n y change g el es ef ew s st ch = record {
  goes = λ limits h law a. record {
    limits_are = s.limits ∙ el ∙ a.limits_are;
    streams = ap (λ v. v.items) (s.streams ∙ es) ∙ a.streams ∙ sym (st h);
    flows = set_levels mid new limits (Noted n) h y change s.flows (λ x. ap (λ m. levels_of (get nat_cmp m x)) ef ∙ a.flows x) (ch limits h law);
    write = s.write ∙ ew ∙ g.goes limits h law a.write;
  };
}

-- a note that names no stream
pub other_peak : (old new : PeakLog) (w : Level) (n : Note) → WriteGoes old.write n w → new.limits ≡ old.limits → new.write ≡ w → new.flows ≡ old.flows
    → ((h : History NoMark) → new.started.items ≡ started h → new.started.items ≡ started (Noted n ∷ h))
    → new.started ≡ old.started
    → ((x p : ℕ) (limits : PlainLimits) (h : History NoMark) → place (plain_setup limits) (request x) p (Noted n ∷ h) ≡ place (plain_setup limits) (request x) p h)
    → PeaksGo old (n ∷ []) new
other_peak old new w n g el ew ef st es same = record {
  goes = λ limits h law a. record {
    limits_are = el ∙ a.limits_are;
    streams = st h (ap (λ v. v.items) es ∙ a.streams);
    flows = λ x. ap (λ m. levels_of (get nat_cmp m x)) ef ∙ a.flows x ∙ same_levels limits (Noted n) h x (same x 0 limits h) (same x 1 limits h);
    write = ew ∙ g.goes limits h law a.write;
  };
}

start_peak : (old new : PeakLog) (w : Level) (x c s d : ℕ) → WriteGoes old.write (note.Start x c s d) w → new.limits ≡ old.limits → new.write ≡ w → new.flows ≡ old.flows
    → new.started.items ≡ old.started.items ++ x ∷ [] → PeaksGo old (note.Start x c s d ∷ []) new
start_peak old new w x c s d g el ew ef es = record {
  goes = λ limits h law a. record {
    limits_are = el ∙ a.limits_are;
    streams = es ∙ ap (λ (v : List ℕ). v ++ x ∷ []) a.streams;
    flows = λ y. ap (λ m. levels_of (get nat_cmp m y)) ef ∙ a.flows y ∙ same_levels limits (Noted (note.Start x c s d)) h y refl refl;
    write = ew ∙ g.goes limits h law a.write;
  };
}

-- what a lawful note of a stream changes
arrive_lawful : (f : FlowId) (o : List ℕ) (limits : PlainLimits) (h : History NoMark) → IsPlainLawful limits (Noted (note.Arrive f o) ∷ h)
    → ChangesOne limits (Noted (note.Arrive f o)) h f.exchange (arrived (length o))
arrive_lawful f o limits h l =
    let P : FlowId → Type 0 = λ g. ChangesOne limits (Noted (note.Arrive g o)) h f.exchange (arrived (length o)) in
    subst P (sym (live_request limits f h l.allowed.0.0)) (arrive_changes limits f.exchange o h)

first_place : (b : Bool) (p : ℕ) → (if b then Some 0 else None) ≡ Some p → 0 ≡ p
first_place true p e = cc
first_place false p e = cc

least : (b : Bool) (n q len : ℕ) → n ≡ (if b then min q len else 0) → n ≤ len
least true n q len e = omega (arith, e)
least false n q len e = omega (arith, e)

move_lawful : (f : FlowId) (p n : ℕ) (limits : PlainLimits) (h : History NoMark) → IsPlainLawful limits (Noted (note.Move f p n) ∷ h)
    → ChangesOne limits (Noted (note.Move f p n)) h f.exchange (shifted n)
move_lawful f p n limits h l =
    let may = l.allowed.0 in
    let zero_is : 0 ≡ p = first_place (is_free (plain_setup limits) f 0 h) p may.last in
    let i : f ≡ request f.exchange = live_request limits f h may.live in
    let A : ℕ → Type 0 = λ v. n ≡ may_release (plain_setup limits) f v h in
    let some : n ≤ length (place (plain_setup limits) f 0 h) = least (count f h == 0) n limits.quantum (length (place (plain_setup limits) f 0 h)) (subst A (sym zero_is) may.all) in
    let L : FlowId → Type 0 = λ g. n ≤ length (place (plain_setup limits) g 0 h) in
    let P : FlowId → Type 0 = λ g. ChangesOne limits (Noted (note.Move g 0 n)) h f.exchange (shifted n) in
    let Q : ℕ → Type 0 = λ v. ChangesOne limits (Noted (note.Move f v n)) h f.exchange (shifted n) in
    subst Q zero_is (subst P (sym i) (move_changes limits f.exchange n h (subst L i some)))

frame_lawful : (c : ℕ) (f : FlowId) (n : ℕ) (last : Bool) (limits : PlainLimits) (h : History NoMark) → IsPlainLawful limits (Noted (note.Frame c f n last) ∷ h)
    → ChangesOne limits (Noted (note.Frame c f n last)) h f.exchange (framed n)
frame_lawful c f n last limits h l =
    let P : FlowId → Type 0 = λ g. ChangesOne limits (Noted (note.Frame c g n last)) h f.exchange (framed n) in
    subst P (sym (live_request limits f h l.allowed.0.live)) (frame_changes limits c f.exchange n last h)

-- ---- by how the note was taken up

-- the note that was matched
as_matched : (old new : PeakLog) (m n : Note) → m ≡ n → PeaksGo old (n ∷ []) new → PeaksGo old (m ∷ []) new
as_matched old new m n e k = let P : Note → Type 0 = λ v. PeaksGo old (v ∷ []) new in subst P (sym e) k

written_as : (w v : Level) (m n : Note) → m ≡ n → WriteGoes w m v → WriteGoes w n v
written_as w v m n e g = let P : Note → Type 0 = λ k. WriteGoes w k v in subst P e g

-- the log with another level of the write buffer
abbrev with_write : PeakLog → Level → PeakLog
with_write log w = record log { write = w }

stream_ends : (old new : PeakLog) (w : Level) (m n : Note) (y : ℕ) (change : FlowLevels → FlowLevels) (r : Result (Unit {0}) NoMemory) → m ≡ n → WriteGoes old.write m w
    → OnOk r (Sets (with_write old w) y (change (levels_of (get nat_cmp old.flows y))) new)
    → ((h : History NoMark) → started (Noted n ∷ h) ≡ started h)
    → ((limits : PlainLimits) (h : History NoMark) → IsPlainLawful limits (Noted n ∷ h) → ChangesOne limits (Noted n) h y change)
    → OnOk r (PeaksGo old (m ∷ []) new)
stream_ends old new w m n y change (Ok u) e g s st ch = as_matched old new m n e (one_peak old (with_write old w) new w n y change (written_as old.write w m n e g) refl refl refl refl s st ch)
stream_ends old new w m n y change (Err u) e g s st ch = tt

pub arrive_ends : (old new : PeakLog) (w : Level) (m : Note) (f : FlowId) (o : List ℕ) (v : ℕ) (r : Result (Unit {0}) NoMemory) → m ≡ note.Arrive f o → v ≡ length o → WriteGoes old.write m w
    → OnOk r (Sets (with_write old w) f.exchange (arrived v (levels_of (get nat_cmp old.flows f.exchange))) new) → OnOk r (PeaksGo old (m ∷ []) new)
arrive_ends old new w m f o v r e ev g s =
    let S : ℕ → Type 0 = λ k. OnOk r (Sets (with_write old w) f.exchange (arrived k (levels_of (get nat_cmp old.flows f.exchange))) new) in
    stream_ends old new w m (note.Arrive f o) f.exchange (arrived (length o)) r e g (subst S ev s) (λ h. refl) (arrive_lawful f o)

pub move_ends : (old new : PeakLog) (w : Level) (m : Note) (f : FlowId) (p n v : ℕ) (r : Result (Unit {0}) NoMemory) → m ≡ note.Move f p n → v ≡ n → WriteGoes old.write m w
    → OnOk r (Sets (with_write old w) f.exchange (shifted v (levels_of (get nat_cmp old.flows f.exchange))) new) → OnOk r (PeaksGo old (m ∷ []) new)
move_ends old new w m f p n v r e ev g s =
    let S : ℕ → Type 0 = λ k. OnOk r (Sets (with_write old w) f.exchange (shifted k (levels_of (get nat_cmp old.flows f.exchange))) new) in
    stream_ends old new w m (note.Move f p n) f.exchange (shifted n) r e g (subst S ev s) (λ h. refl) (move_lawful f p n)

pub frame_ends : (old new : PeakLog) (w : Level) (m : Note) (c : ℕ) (f : FlowId) (n : ℕ) (last : Bool) (v : ℕ) (r : Result (Unit {0}) NoMemory) → m ≡ note.Frame c f n last → v ≡ n → WriteGoes old.write m w
    → OnOk r (Sets (with_write old w) f.exchange (framed v (levels_of (get nat_cmp old.flows f.exchange))) new) → OnOk r (PeaksGo old (m ∷ []) new)
frame_ends old new w m c f n last v r e ev g s =
    let S : ℕ → Type 0 = λ k. OnOk r (Sets (with_write old w) f.exchange (framed k (levels_of (get nat_cmp old.flows f.exchange))) new) in
    stream_ends old new w m (note.Frame c f n last) f.exchange (framed n) r e g (subst S ev s) (λ h. refl) (frame_lawful c f n last)

pub doom_ends : (old new : PeakLog) (w : Level) (m : Note) (x : ℕ) (why : Cause) (r : Result (Unit {0}) NoMemory) → m ≡ note.Doom x why → WriteGoes old.write m w
    → OnOk r (Sets (with_write old w) x (dropped (levels_of (get nat_cmp old.flows x))) new) → OnOk r (PeaksGo old (m ∷ []) new)
doom_ends old new w m x why r e g s =
    stream_ends old new w m (note.Doom x why) x dropped r e g s (λ h. refl) (λ limits h l. doom_changes limits x (note.Doom x why) h (λ y p. refl))

pub start_ends : (old new : PeakLog) (w : Level) (m : Note) (x c s d : ℕ) (r : Result (Unit {0}) NoMemory) → m ≡ note.Start x c s d → WriteGoes old.write m w
    → OnOk r (new.started.items ≡ old.started.items ++ x ∷ []) → new.flows ≡ old.flows → new.write ≡ w → new.limits ≡ old.limits → OnOk r (PeaksGo old (m ∷ []) new)
start_ends old new w m x c s d (Ok u) e g es ef ew el = as_matched old new m (note.Start x c s d) e (start_peak old new w x c s d (written_as old.write w m (note.Start x c s d) e g) el ew ef es)
start_ends old new w m x c s d (Err u) e g es ef ew el = tt

pub other_ends : (old : PeakLog) (w : Level) (n : Note) → WriteGoes old.write n w
    → ((x c s d : ℕ) → n ≡ note.Start x c s d → ⊥) → ((f : FlowId) (o : List ℕ) → n ≡ note.Arrive f o → ⊥) → ((f : FlowId) (p k : ℕ) → n ≡ note.Move f p k → ⊥)
    → ((c : ℕ) (f : FlowId) (k : ℕ) (last : Bool) → n ≡ note.Frame c f k last → ⊥) → ((x : ℕ) (why : Cause) → n ≡ note.Doom x why → ⊥) → PeaksGo old (n ∷ []) (with_write old w)
other_ends old w (note.Start x c s d) g ns na nm nf nd = absurd (ns x c s d refl)
other_ends old w (note.Arrive f o) g ns na nm nf nd = absurd (na f o refl)
other_ends old w (note.Move f p k) g ns na nm nf nd = absurd (nm f p k refl)
other_ends old w (note.Frame c f k last) g ns na nm nf nd = absurd (nf c f k last refl)
other_ends old w (note.Doom x why) g ns na nm nf nd = absurd (nd x why refl)
other_ends old w (note.Turn k e) g ns na nm nf nd = other_peak old (with_write old w) w _ g refl refl refl (λ h e. e) refl (λ x p limits h. refl)
other_ends old w (note.Out c n) g ns na nm nf nd = other_peak old (with_write old w) w _ g refl refl refl (λ h e. e) refl (λ x p limits h. refl)
other_ends old w (note.Pause f b) g ns na nm nf nd = other_peak old (with_write old w) w _ g refl refl refl (λ h e. e) refl (λ x p limits h. refl)
other_ends old w (note.Resume f b) g ns na nm nf nd = other_peak old (with_write old w) w _ g refl refl refl (λ h e. e) refl (λ x p limits h. refl)
other_ends old w (note.Credit c s n) g ns na nm nf nd = other_peak old (with_write old w) w _ g refl refl refl (λ h e. e) refl (λ x p limits h. refl)
other_ends old w (note.Head c s o) g ns na nm nf nd = other_peak old (with_write old w) w _ g refl refl refl (λ h e. e) refl (λ x p limits h. refl)
other_ends old w (note.Answer c o) g ns na nm nf nd = other_peak old (with_write old w) w _ g refl refl refl (λ h e. e) refl (λ x p limits h. refl)
other_ends old w (note.Waste c s n) g ns na nm nf nd = other_peak old (with_write old w) w _ g refl refl refl (λ h e. e) refl (λ x p limits h. refl)
other_ends old w (note.Gone x) g ns na nm nf nd = other_peak old (with_write old w) w _ g refl refl refl (λ h e. e) refl (λ x p limits h. refl)
other_ends old w (note.Close c code why) g ns na nm nf nd = other_peak old (with_write old w) w _ g refl refl refl (λ h e. e) refl (λ x p limits h. refl)
other_ends old w (note.Fire kind id) g ns na nm nf nd = other_peak old (with_write old w) w _ g refl refl refl (λ h e. e) refl (λ x p limits h. refl)

-- ---- note after note

pub peaks_none : (log : PeakLog) → PeaksGo log [] log
peaks_none log = record { goes = λ limits h l a. a }

pub peaks_more : (a b c : PeakLog) (ns ms : List Note) → PeaksGo a ns b → PeaksGo b ms c → PeaksGo a (ns ++ ms) c
peaks_more a b c ns ms p q = record {
  goes = λ limits h law l.
      let P : History NoMark → Type 0 = λ v. PeaksAre limits c v in
      let L : History NoMark → Type 0 = λ v. IsPlainLawful limits v in
      let law2 : IsPlainLawful limits (onto ms (onto ns h)) = subst L (onto_more ns ms h) law in
      subst P (sym (onto_more ns ms h)) (q.goes limits (onto ns h) law2 (p.goes limits h (lawful_back limits ms (onto ns h) law2) l));
}

pub all_peaks : (a b : PeakLog) (notes done rest : List Note) → notes ≡ done ++ rest → rest ≡ [] → PeaksGo a done b → PeaksGo a notes b
all_peaks a b notes done rest e none l =
    let P : List Note → Type 0 = λ v. PeaksGo a v b in
    subst P (sym (e ∙ ap (λ (v : List Note). done ++ v) none ∙ append-nil done)) l

-- ---- rows

pause_peak : (a : PeakLog) (f : FlowId) (b : BufferId) → PeaksGo a (note.Pause f b ∷ []) a
pause_peak a f b = other_peak a a a.write (note.Pause f b) (unwritten_goes a.write (note.Pause f b) (λ c g k l q. cc) (λ c k q. cc)) refl refl refl (λ h e. e) refl (λ x p limits h. refl)

resume_peak : (a : PeakLog) (f : FlowId) (b : BufferId) → PeaksGo a (note.Resume f b ∷ []) a
resume_peak a f b = other_peak a a a.write (note.Resume f b) (unwritten_goes a.write (note.Resume f b) (λ c g k l q. cc) (λ c k q. cc)) refl refl refl (λ h e. e) refl (λ x p limits h. refl)

pub pauses_peak : (a : PeakLog) (fs : List FlowId) (b : BufferId) → PeaksGo a (map (λ f. note.Pause f b) fs) a
pauses_peak a [] b = peaks_none a
pauses_peak a (f ∷ fs) b = peaks_more a a a (note.Pause f b ∷ []) (map (λ f. note.Pause f b) fs) (pause_peak a f b) (pauses_peak a fs b)

pub resumes_peak : (a : PeakLog) (fs : List FlowId) (b : BufferId) → PeaksGo a (map (λ f. note.Resume f b) fs) a
resumes_peak a [] b = peaks_none a
resumes_peak a (f ∷ fs) b = peaks_more a a a (note.Resume f b ∷ []) (map (λ f. note.Resume f b) fs) (resume_peak a f b) (resumes_peak a fs b)

-- ---- passages

pub note_peak : (a c : PeakLog) (p : Passage) (n : Bor Note) (r : Result (Unit {0}) NoMemory) → p ≡ passage.One n → OnOk r (PeaksGo a (n.now ∷ []) c) → OnOk r (PeaksGo a (notes_of_passage p) c)
note_peak a c p n r e k = let P : Passage → Type 0 = λ v. OnOk r (PeaksGo a (notes_of_passage v) c) in subst P (sym e) k

pub row_peak : (a : PeakLog) (p : Passage) → ((n : Bor Note) → p ≡ passage.One n → ⊥) → PeaksGo a (notes_of_passage p) a
row_peak a (passage.One n) other = absurd (other n refl)
row_peak a (passage.Pauses fs b) other = pauses_peak a fs.now b
row_peak a (passage.Resumes fs b) other = resumes_peak a fs.now b
