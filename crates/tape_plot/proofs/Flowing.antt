-- Flows note by note.
use Rattle.flow_rules.specs.declared.ids.BufferId.{BufferId}
use Rattle.flow_rules.specs.declared.ids.FlowId.{FlowId}
use Rattle.flow_rules.specs.declared.causes.Cause.{Cause}
use Rattle.io_ports.specs.declared.octets.NoMemory.{NoMemory}
use Rattle.std.proofs.Common.{ap, arith, inl, inr, length-append, refl, subst, sym, ◌∙◌}
use Rattle.std.proofs.Math.ListN.{get_or-eq_default}
use Rattle.std.proofs.lemmas.List.{get_or-set_other, get_or-set_same, get_or-map, length-map, length-set, map-set}
use Rattle.std.specs.Prelude.{Bool, Err, List, None, Ok, OnOk, Option, Result, Some, [], false, if◌then◌else◌, length, map, max, min, not, set, slice_index_or, true, ℕ, ◌&&◌, ◌++◌, ◌+◌, ◌-◌, ◌<◌, ◌==◌, ◌∷◌, ◌≡◌, ◌≤◌, ◌⊎◌}
use Rattle.tape_laws.specs.Dispatches.{turns}
use Rattle.tape_laws.specs.Flows.{same_flow}
use Rattle.tape_laws.specs.History.{History, NoMark, Noted, Step}
use Rattle.tape_laws.specs.Pauses.{pauses, resumes}
use Rattle.tape_plot.proofs.Columns.{eq_true}
use Rattle.tape_plot.proofs.Holding.{lt_or_le}
use Rattle.tape_plot.proofs.Laning.{still}
use Rattle.tape_plot.specs.Flows.{Arrives, Dooms, FlowIs, Frames, LanesAre, Moves, Pauses, Resumes, ShownTo, Shows, lane_at, lanes_of}
use Rattle.tape_plot.specs.Lanes.{Drawn, LaneIs, Sets, drawn_of, fresh}
use Rattle.tape_plot.specs.Levels.{at, entered, filled, framed, moved, places, relayed, shown_count, top, was_doomed}
use Rattle.tape_plot.specs.declared.clock.Clock.{Clock}
use Rattle.tape_plot.specs.declared.flow.Flow.{Flow}
use Rattle.tape_plot.specs.declared.flow.Place.{Place}
use Rattle.flow_notes.specs.declared.notes.Note.TheVariants as note

pub on_ok : (P Q : Type 0) (r : Result (Unit {0}) NoMemory) → (P → Q) → OnOk r P → OnOk r Q
on_ok P Q (Ok x) f p = f p
on_ok P Q (Err e) f p = tt

-- a flow is itself
pub same_self : (f : FlowId) → same_flow f f ≡ true
same_self f = rw (eq_true f.exchange f.exchange _ refl refl) (by f.back)
  where
    by : (b : Bool) → (true && (if b then b else not b)) ≡ true
    by true = refl
    by false = refl

-- ---- lanes of places

pub shown_none : (old : List Drawn) (held : List ℕ) (clock : Clock) → ShownTo old held clock old 0
shown_none old held clock = record { done = λ p lt. absurd (omega (arith, lt)); left = λ p le. refl }

pub shown_more : (old : List Drawn) (held : List ℕ) (clock : Clock) (ds : List Drawn) (i : ℕ) (d : Drawn) → ShownTo old held clock ds i → i < length ds
    → Sets (lane_at ds i) (at held i) clock d → ShownTo old held clock (set ds i d) (i + 1)
shown_more old held clock ds i d s lt set_i = record { done = done; left = left }
  where
    cases : (a b : ℕ) → a < b + 1 → (a < b) ⊎ (a ≡ b)
    cases a b lt = by (lt_or_le a b)
      where
        by : (a < b) ⊎ (b ≤ a) → (a < b) ⊎ (a ≡ b)
        by (inl less) = inl less
        by (inr le) = inr (omega (arith, lt, le))

    here : Sets (lane_at old i) (at held i) clock (lane_at (set ds i d) i)
    here = subst (λ v. Sets v (at held i) clock (lane_at (set ds i d) i)) (s.left i (omega arith)) (subst (λ v. Sets (lane_at ds i) (at held i) clock v) (sym (get_or-set_same ds i d fresh lt)) set_i)

    done : (p : ℕ) → p < i + 1 → Sets (lane_at old p) (at held p) clock (lane_at (set ds i d) p)
    done p lt = by (cases p i lt)
      where
        by : (p < i) ⊎ (p ≡ i) → Sets (lane_at old p) (at held p) clock (lane_at (set ds i d) p)
        by (inl less) = subst (λ v. Sets (lane_at old p) (at held p) clock v) (sym (get_or-set_other ds i p d fresh (λ e. omega (arith, e, less)))) (s.done p less)
        by (inr e) = subst (λ v. Sets (lane_at old v) (at held v) clock (lane_at (set ds i d) v)) (sym e) here

    left : (p : ℕ) → i + 1 ≤ p → lane_at (set ds i d) p ≡ lane_at old p
    left p le = get_or-set_other ds i p d fresh (λ e. omega (arith, e, le)) ∙ s.left p (omega (arith, le))

-- all lanes were set that have a number, and any others have 0
pub shown_all : (old : List Drawn) (held : List ℕ) (clock : Clock) (new : List Drawn) → ShownTo old held clock new (length old) → length held ≤ length old
    → Shows old held clock new
shown_all old held clock new s few = record { goes = goes }
  where
    goes : (P : History NoMark → List ℕ) (step : Step NoMark) (h : History NoMark) → LanesAre old P clock.first h → turns (step ∷ h) ≡ clock.turn → P (step ∷ h) ≡ held
        → LanesAre new P clock.first (step ∷ h)
    goes P step h are t e = record { lanes = λ p. by p (lt_or_le p (length old)) }
      where
        by : (p : ℕ) → (p < length old) ⊎ (length old ≤ p) → LaneIs (lane_at new p) (λ v. at (P v) p) clock.first (step ∷ h)
        by p (inl lt) = (s.done p lt).goes (λ v. at (P v) p) step h (are.lanes p) t (ap (λ v. at v p) e)
        by p (inr le) =
            subst (λ d. LaneIs d (λ v. at (P v) p) clock.first (step ∷ h)) (sym (s.left p le))
            (still (lane_at old p) (λ v. at (P v) p) clock.first step h (are.lanes p) (ap (λ v. at v p) e ∙ get_or-eq_default held 0 (omega (arith, le, few)) ∙ zero_now (lane_at old p) (get_or-eq_default old fresh le) (are.lanes p)))
          where
            zero_now : (d : Drawn) → d ≡ fresh → LaneIs d (λ v. at (P v) p) clock.first h → 0 ≡ at (P h) p
            zero_now d f is = (subst (λ v. LaneIs v (λ w. at (P w) p) clock.first h) f is).now

pub set_one : (old ps new : List Place) (held : List ℕ) (clock : Clock) (i n : ℕ) (r x : Place) → ShownTo (lanes_of old) held clock (lanes_of ps) i → i < length ps → new ≡ set ps i x
    → r ≡ slice_index_or ps i r → n ≡ at held i → Sets (drawn_of r.lane) n clock (drawn_of x.lane) → ShownTo (lanes_of old) held clock (lanes_of new) (i + 1)
set_one old ps new held clock i n r x s lt e er en sets =
    subst (λ (v : List Drawn). ShownTo (lanes_of old) held clock v (i + 1)) (sym (ap lanes_of e ∙ map-set (λ (p : Place). drawn_of p.lane) ps i x))
    (shown_more (lanes_of old) held clock (lanes_of ps) i (drawn_of x.lane) s (omega (arith, lt, length-map ps (λ (p : Place). drawn_of p.lane))) here)
  where
    was : lane_at (lanes_of ps) i ≡ drawn_of r.lane
    was = get_or-map (λ (p : Place). drawn_of p.lane) ps i r fresh lt ∙ ap (λ (p : Place). drawn_of p.lane) (sym er)

    here : Sets (lane_at (lanes_of ps) i) (at held i) clock (drawn_of x.lane)
    here = subst (λ (d : Drawn). Sets d (at held i) clock (drawn_of x.lane)) (sym was) (subst (λ (v : ℕ). Sets (drawn_of r.lane) v clock (drawn_of x.lane)) en sets)

pub set_long : (old ps : List Place) (i : ℕ) (x : Place) → length ps ≡ length old → length (set ps i x) ≡ length old
set_long old ps i x e = length-set ps i x ∙ e

pub set_within : (ps : List Place) (i : ℕ) (x : Place) → i < length ps → i + 1 ≤ length (set ps i x)
set_within ps i x lt = omega (arith, lt, length-set ps i x)

pub set_all_shows : (old new : List Place) (held : List ℕ) (clock : Clock) (i : ℕ) → ShownTo (lanes_of old) held clock (lanes_of new) i → length new ≡ length old → length new ≤ i → i ≤ length new
    → length held ≤ length old → Shows (lanes_of old) held clock (lanes_of new)
set_all_shows old new held clock i s e le ge few =
    let l : length (lanes_of old) ≡ length old = length-map old (λ (p : Place). drawn_of p.lane) in
    let k : i ≡ length (lanes_of old) = omega (arith, e, le, ge, l) in
    shown_all (lanes_of old) held clock (lanes_of new) (subst (λ (v : ℕ). ShownTo (lanes_of old) held clock (lanes_of new) v) k s) (omega (arith, few, l))

-- ---- a flow's notes

pub lanes_still : (ds : List Drawn) (P : History NoMark → List ℕ) (first : ℕ) (step : Step NoMark) (h : History NoMark) → LanesAre ds P first h → P (step ∷ h) ≡ P h → LanesAre ds P first (step ∷ h)
lanes_still ds P first step h are e = record { lanes = λ p. still (lane_at ds p) (λ v. at (P v) p) first step h (are.lanes p) (ap (λ (v : List ℕ). at v p) e) }

-- the count that is drawn, of what it is made of
abbrev shown_of : Bool → ℕ → ℕ → ℕ
shown_of doomed p r = if doomed then 0 else p - r

pub shown_same : (a b : Bool) (p q r s : ℕ) → a ≡ b → p ≡ q → r ≡ s → shown_of a p r ≡ shown_of b q s
shown_same a b p q r s e f g = ap (λ (v : Bool). shown_of v p r) e ∙ ap (λ (v : ℕ). shown_of b v r) f ∙ ap (λ (v : ℕ). shown_of b q v) g

-- the list of a flow's places never gets shorter
filled_more : (p n : ℕ) (held : List ℕ) → length held ≤ length (filled p n held)
filled_more p n held = by (p == length held)
  where
    by : (b : Bool) → length held ≤ length (if b then held ++ n ∷ [] else set held p (at held p + n))
    by true = omega (arith, length-append held (n ∷ []))
    by false = omega (arith, length-set held p (at held p + n))

entered_more : (o : Option ℕ) (n : ℕ) (held : List ℕ) → length held ≤ length (entered o n held)
entered_more None n held = filled_more 0 n held
entered_more (Some c) n held = omega arith

moved_more : (p n : ℕ) (held : List ℕ) → length held ≤ length (moved p n held)
moved_more p n held = by (m == 0)
  where
    m : ℕ
    m = min n (at held p)

    by : (b : Bool) → length held ≤ length (if b then held else filled (p + 1) m (set held p (at held p - m)))
    by true = omega arith
    by false = omega (arith, filled_more (p + 1) m (set held p (at held p - m)), length-set held p (at held p - m))

zeros_more : (held : List ℕ) → length held ≤ length {A = ℕ} (map (λ _. 0) held)
zeros_more held = let e : length {A = ℕ} (map (λ _. 0) held) ≡ length held = length-map held (λ _. 0) in omega (arith, e)

more_if : (b : Bool) (new old : List ℕ) → length old ≤ length new → length old ≤ length (if b then new else old)
more_if true new old le = le
more_if false new old le = omega arith

never_fewer : (f : FlowId) (step : Step NoMark) (h : History NoMark) → length (places f h) ≤ length (places f (step ∷ h))
never_fewer f (Noted (note.Arrive g octets)) h = more_if (same_flow g f) (entered (relayed f h) (length octets) (places f h)) (places f h) (entered_more (relayed f h) (length octets) (places f h))
never_fewer f (Noted (note.Move g p n)) h = more_if (same_flow g f) (moved p n (places f h)) (places f h) (moved_more p n (places f h))
never_fewer f (Noted (note.Frame c g n last)) h =
    more_if (same_flow g f) (framed n (places f h)) (places f h) (omega (arith, length-set (places f h) (top (places f h)) (at (places f h) (top (places f h)) - n)))
never_fewer f (Noted (note.Doom x why)) h = more_if (f.exchange == x) (map (λ _. 0) (places f h)) (places f h) (zeros_more (places f h))
never_fewer f step h = omega arith

many_on : (old new : Flow) (f : FlowId) (step : Step NoMark) (h : History NoMark) → length old.places.items ≡ length (places f h) → new.held.levels.items ≡ places f (step ∷ h)
    → length new.places.items ≡ max (length old.places.items) (length new.held.levels.items) → length new.places.items ≡ length (places f (step ∷ h))
many_on old new f step h was eh many = omega (arith, was, ap length eh, many, never_fewer f step h)

many_same : (old new : List Place) → lanes_of new ≡ lanes_of old → length new ≡ length old
many_same old new e = sym (length-map new (λ (p : Place). drawn_of p.lane)) ∙ ap length e ∙ length-map old (λ (p : Place). drawn_of p.lane)

-- a step that moves octets of the flow, and leaves its count
moved_flow : (old new : Flow) (f : FlowId) (clock : Clock) (step : Step NoMark) (h : History NoMark) → FlowIs old f clock.first h → turns (step ∷ h) ≡ clock.turn
    → new.held.levels.items ≡ places f (step ∷ h) → Shows (lanes_of old.places.items) new.held.levels.items clock (lanes_of new.places.items)
    → length new.places.items ≡ max (length old.places.items) (length new.held.levels.items) → pauses f (step ∷ h) ≡ pauses f h → resumes f (step ∷ h) ≡ resumes f h → was_doomed f.exchange (step ∷ h) ≡ was_doomed f.exchange h
    → new.pauses ≡ old.pauses → new.resumes ≡ old.resumes → new.is_doomed ≡ old.is_doomed → drawn_of new.count ≡ drawn_of old.count
    → FlowIs new f clock.first (step ∷ h)
moved_flow old new f clock step h is t eh shows many ep er ed np nr nd nc = record {
  held = eh;
  lanes = shows.goes (places f) step h is.lanes t (sym eh);
  many = many_on old new f step h is.many eh many;
  pauses = np ∙ is.pauses ∙ sym ep;
  resumes = nr ∙ is.resumes ∙ sym er;
  doomed = nd ∙ is.doomed ∙ sym ed;
  count = subst (λ (d : Drawn). LaneIs d (shown_count f) clock.first (step ∷ h)) (sym nc)
      (still (drawn_of old.count) (shown_count f) clock.first step h is.count (shown_same _ _ _ _ _ _ ed ep er));
}

arrived : (f : FlowId) (octets : List ℕ) (n : ℕ) (h : History NoMark) → relayed f h ≡ None → length octets ≡ n → filled 0 n (places f h) ≡ places f (Noted (note.Arrive f octets) ∷ h)
arrived f octets n h u l = rw (same_self f, u) (ap (λ (v : ℕ). filled 0 v (places f h)) (sym l))

pub flow_arrives : (old new : Flow) (n : ℕ) (clock : Clock) → new.held.levels.items ≡ filled 0 n old.held.levels.items → Shows (lanes_of old.places.items) new.held.levels.items clock (lanes_of new.places.items)
    → length new.places.items ≡ max (length old.places.items) (length new.held.levels.items) → new.pauses ≡ old.pauses → new.resumes ≡ old.resumes → new.is_doomed ≡ old.is_doomed → drawn_of new.count ≡ drawn_of old.count → Arrives old n clock new
flow_arrives old new n clock eh shows many np nr nd nc = record {
  goes = λ f octets h u l t is. moved_flow old new f clock (Noted (note.Arrive f octets)) h is t (eh ∙ ap (filled 0 n) is.held ∙ arrived f octets n h u l) shows many refl refl refl np nr nd nc;
}

shifted : (f : FlowId) (p n : ℕ) (h : History NoMark) → moved p n (places f h) ≡ places f (Noted (note.Move f p n) ∷ h)
shifted f p n h = rw (same_self f) refl

pub flow_moves : (old new : Flow) (p n : ℕ) (clock : Clock) → new.held.levels.items ≡ moved p n old.held.levels.items → Shows (lanes_of old.places.items) new.held.levels.items clock (lanes_of new.places.items)
    → length new.places.items ≡ max (length old.places.items) (length new.held.levels.items) → new.pauses ≡ old.pauses → new.resumes ≡ old.resumes → new.is_doomed ≡ old.is_doomed → drawn_of new.count ≡ drawn_of old.count → Moves old p n clock new
flow_moves old new p n clock eh shows many np nr nd nc = record {
  goes = λ f h t is. moved_flow old new f clock (Noted (note.Move f p n)) h is t (eh ∙ ap (moved p n) is.held ∙ shifted f p n h) shows many refl refl refl np nr nd nc;
}

left_frame : (c : ℕ) (f : FlowId) (n : ℕ) (last : Bool) (h : History NoMark) → framed n (places f h) ≡ places f (Noted (note.Frame c f n last) ∷ h)
left_frame c f n last h = rw (same_self f) refl

pub flow_frames : (old new : Flow) (n : ℕ) (clock : Clock) → new.held.levels.items ≡ framed n old.held.levels.items → Shows (lanes_of old.places.items) new.held.levels.items clock (lanes_of new.places.items)
    → length new.places.items ≡ max (length old.places.items) (length new.held.levels.items) → new.pauses ≡ old.pauses → new.resumes ≡ old.resumes → new.is_doomed ≡ old.is_doomed → drawn_of new.count ≡ drawn_of old.count → Frames old n clock new
flow_frames old new n clock eh shows many np nr nd nc = record {
  goes = λ c f last h t is. moved_flow old new f clock (Noted (note.Frame c f n last)) h is t (eh ∙ ap (framed n) is.held ∙ left_frame c f n last h) shows many refl refl refl np nr nd nc;
}

dropped : (f : FlowId) (why : Cause) (h : History NoMark) → map (λ _. 0) (places f h) ≡ places f (Noted (note.Doom f.exchange why) ∷ h)
dropped f why h = rw (eq_true f.exchange f.exchange _ refl refl) refl

doomed_now : (f : FlowId) (why : Cause) (h : History NoMark) → true ≡ was_doomed f.exchange (Noted (note.Doom f.exchange why) ∷ h)
doomed_now f why h = rw (eq_true f.exchange f.exchange _ refl refl) refl

pub flow_dooms : (old new : Flow) (clock : Clock) → new.held.levels.items ≡ map (λ _. 0) old.held.levels.items → Shows (lanes_of old.places.items) new.held.levels.items clock (lanes_of new.places.items)
    → length new.places.items ≡ max (length old.places.items) (length new.held.levels.items) → new.pauses ≡ old.pauses → new.resumes ≡ old.resumes → new.is_doomed ≡ true → Sets (drawn_of old.count) 0 clock (drawn_of new.count) → Dooms old clock new
flow_dooms old new clock eh shows many np nr nd sets = record {
  goes = λ f why h t is. let step : Step NoMark = Noted (note.Doom f.exchange why) in let e = eh ∙ ap (map (λ _. 0)) is.held ∙ dropped f why h in record {
    held = e;
    lanes = shows.goes (places f) step h is.lanes t (sym e);
    many = many_on old new f step h is.many e many;
    pauses = np ∙ is.pauses;
    resumes = nr ∙ is.resumes;
    doomed = nd ∙ doomed_now f why h;
    count = sets.goes (shown_count f) step h is.count t (shown_same _ _ _ _ _ _ (sym (doomed_now f why h)) refl refl);
  };
}

one_pause : (f : FlowId) (b : BufferId) (h : History NoMark) → pauses f h + 1 ≡ pauses f (Noted (note.Pause f b) ∷ h)
one_pause f b h = rw (same_self f) (omega arith)

one_resume : (f : FlowId) (b : BufferId) (h : History NoMark) → resumes f h + 1 ≡ resumes f (Noted (note.Resume f b) ∷ h)
one_resume f b h = rw (same_self f) (omega arith)

pub flow_pauses : (old new : Flow) (shown : ℕ) (clock : Clock) → new.held.levels.items ≡ old.held.levels.items → lanes_of new.places.items ≡ lanes_of old.places.items
    → new.pauses ≡ old.pauses + 1 → new.resumes ≡ old.resumes → new.is_doomed ≡ old.is_doomed → shown ≡ (if new.is_doomed then 0 else new.pauses - new.resumes) → Sets (drawn_of old.count) shown clock (drawn_of new.count) → Pauses old clock new
flow_pauses old new shown clock eh el np nr nd es sets = record {
  goes = λ f b h t is. let step : Step NoMark = Noted (note.Pause f b) in let p = np ∙ ap (λ (v : ℕ). v + 1) is.pauses ∙ one_pause f b h in record {
    held = eh ∙ is.held;
    lanes = subst (λ (v : List Drawn). LanesAre v (places f) clock.first (step ∷ h)) (sym el) (lanes_still (lanes_of old.places.items) (places f) clock.first step h is.lanes refl);
    many = many_same old.places.items new.places.items el ∙ is.many;
    pauses = p;
    resumes = nr ∙ is.resumes;
    doomed = nd ∙ is.doomed;
    count = sets.goes (shown_count f) step h is.count t (sym (es ∙ shown_same _ _ _ _ _ _ (nd ∙ is.doomed) p (nr ∙ is.resumes)));
  };
}

pub flow_resumes : (old new : Flow) (shown : ℕ) (clock : Clock) → new.held.levels.items ≡ old.held.levels.items → lanes_of new.places.items ≡ lanes_of old.places.items
    → new.pauses ≡ old.pauses → new.resumes ≡ old.resumes + 1 → new.is_doomed ≡ old.is_doomed → shown ≡ (if new.is_doomed then 0 else new.pauses - new.resumes) → Sets (drawn_of old.count) shown clock (drawn_of new.count) → Resumes old clock new
flow_resumes old new shown clock eh el np nr nd es sets = record {
  goes = λ f b h t is. let step : Step NoMark = Noted (note.Resume f b) in let r = nr ∙ ap (λ (v : ℕ). v + 1) is.resumes ∙ one_resume f b h in record {
    held = eh ∙ is.held;
    lanes = subst (λ (v : List Drawn). LanesAre v (places f) clock.first (step ∷ h)) (sym el) (lanes_still (lanes_of old.places.items) (places f) clock.first step h is.lanes refl);
    many = many_same old.places.items new.places.items el ∙ is.many;
    pauses = np ∙ is.pauses;
    resumes = r;
    doomed = nd ∙ is.doomed;
    count = sets.goes (shown_count f) step h is.count t (sym (es ∙ shown_same _ _ _ _ _ _ (nd ∙ is.doomed) (np ∙ is.pauses) r));
  };
}
