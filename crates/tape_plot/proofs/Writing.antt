-- A connection, and the plot, note by note.
use Rattle.flow_rules.specs.declared.ids.BufferId.{BufferId}
use Rattle.flow_notes.specs.declared.events.Event.{Event}
use Rattle.flow_notes.specs.declared.notes.CloseCause.{CloseCause}
use Rattle.flow_notes.specs.declared.notes.Note.{Note}
use Rattle.std.proofs.Common.{ap, arith, refl, subst, sym, ◌∙◌}
use Rattle.std.specs.Prelude.{Bool, List, [], false, if◌then◌else◌, length, min, nat_lt, true, ℕ, ◌+◌, ◌-◌, ◌==◌, ◌∷◌, ◌≡◌, ◌≤◌}
use Rattle.std.proofs.lemmas.Bool.{le-ltb, ltb-false, ltb-true}
use Rattle.tape_laws.specs.Connections.{was_closed}
use Rattle.tape_laws.specs.Dispatches.{turns}
use Rattle.tape_laws.specs.History.{History, NoMark, Noted, Step}
use Rattle.tape_plot.proofs.Columns.{eq_true, turns_rise}
use Rattle.tape_plot.proofs.Laning.{still}
use Rattle.tape_plot.proofs.Standing.{nothing_not, same_connection}
use Rattle.tape_plot.specs.Goes.{Closes, ConnectionGoes, Forgets, LevelsGo, LevelsStay, PlotGoes, PlotStays, Turns, level_of}
use Rattle.tape_plot.specs.Kept.{ConnectionIs, LevelsAre, until}
use Rattle.tape_plot.specs.Lanes.{Drawn, LaneIs, Sets, drawn_of}
use Rattle.tape_plot.specs.Levels.{written}
use Rattle.tape_plot.specs.Limits.{TellsLimit, TellsLine}
use Rattle.tape_plot.specs.Subjects.{subject_of}
use Rattle.tape_plot.specs.Turns.{Ticks, turns_of}
use Rattle.tape_plot.specs.declared.clock.Clock.{Clock}
use Rattle.tape_plot.specs.declared.connection.Connection.{Connection}
use Rattle.tape_plot.specs.declared.levels.Levels.{Levels}
use Rattle.tape_plot.specs.declared.limits.Limits.{Limits}
use Rattle.tape_plot.specs.declared.plot.Plot.{Plot}
use Rattle.tape_plot.specs.declared.report.Line.{Line}
use Rattle.flow_notes.specs.declared.events.Event.TheVariants as event
use Rattle.flow_notes.specs.declared.notes.CloseCause.TheVariants as closed
use Rattle.flow_notes.specs.declared.notes.Note.TheVariants as note
use Rattle.tape_plot.specs.declared.report.Line.TheVariants as line
use Rattle.tape_plot.specs.declared.subject.Subject.TheVariants as subject

-- ---- a connection

-- a note of it that leaves so many octets
left_with : (old new : Connection) (n : Note) (level : ℕ) (clock : Clock) → new.is_closed ≡ old.is_closed → Sets (drawn_of old.write.lane) level clock (drawn_of new.write.lane)
    → ((c : ℕ) (h : History NoMark) → subject_of n ≡ subject.Connection c → level_of old ≡ written c h → written c (Noted n ∷ h) ≡ level)
    → ((c : ℕ) (h : History NoMark) → was_closed c (Noted n ∷ h) ≡ was_closed c h) → ConnectionGoes old n clock new
left_with old new n level clock e w level_is closed_is = record {
  goes = λ c h s t is. record { write = w.goes (written c) (Noted n) h is.write t (level_is c h s is.write.now); closed = e ∙ is.closed ∙ sym (closed_is c h) };
}

filled_by : (c d k : ℕ) (was level : ℕ) → d ≡ c → level ≡ was → was + (if d == c then k else 0) ≡ level + k
filled_by c d k was level e f = ap (λ (b : Bool). was + (if b then k else 0)) (eq_true d c _ refl e) ∙ ap (λ (v : ℕ). v + k) (sym f)

pub head_goes : (old new : Connection) (n : Note) (d s : ℕ) (octets : List ℕ) (k : ℕ) (clock : Clock) → n ≡ note.Head d s octets → k ≡ length octets → new.is_closed ≡ old.is_closed → Sets (drawn_of old.write.lane) (level_of old + k) clock (drawn_of new.write.lane) → ConnectionGoes old n clock new
head_goes old new n d s octets k clock e l same w =
    subst (λ (v : Note). ConnectionGoes old v clock new) (sym e)
    (left_with old new (note.Head d s octets) (level_of old + k) clock same w
    (λ c h u f. filled_by c d (length octets) (written c h) (level_of old) (same_connection d c u) f ∙ ap (λ (v : ℕ). level_of old + v) (sym l)) (λ c h. refl))

pub answer_goes : (old new : Connection) (n : Note) (d : ℕ) (octets : List ℕ) (k : ℕ) (clock : Clock) → n ≡ note.Answer d octets → k ≡ length octets → new.is_closed ≡ old.is_closed → Sets (drawn_of old.write.lane) (level_of old + k) clock (drawn_of new.write.lane) → ConnectionGoes old n clock new
answer_goes old new n d octets k clock e l same w =
    subst (λ (v : Note). ConnectionGoes old v clock new) (sym e)
    (left_with old new (note.Answer d octets) (level_of old + k) clock same w
    (λ c h u f. filled_by c d (length octets) (written c h) (level_of old) (same_connection d c u) f ∙ ap (λ (v : ℕ). level_of old + v) (sym l)) (λ c h. refl))

pub credit_goes : (old new : Connection) (n : Note) (d s k : ℕ) (clock : Clock) → n ≡ note.Credit d s k → new.is_closed ≡ old.is_closed → Sets (drawn_of old.write.lane) (level_of old + 13) clock (drawn_of new.write.lane) → ConnectionGoes old n clock new
credit_goes old new n d s k clock e same w =
    subst (λ (v : Note). ConnectionGoes old v clock new) (sym e)
    (left_with old new (note.Credit d s k) (level_of old + 13) clock same w
    (λ c h u f. filled_by c d 13 (written c h) (level_of old) (same_connection d c u) f) (λ c h. refl))

pub out_goes : (old new : Connection) (n : Note) (d k m : ℕ) (clock : Clock) → n ≡ note.Out d k → m ≡ k → new.is_closed ≡ old.is_closed → Sets (drawn_of old.write.lane) (level_of old - m) clock (drawn_of new.write.lane) → ConnectionGoes old n clock new
out_goes old new n d k m clock e l same w =
    subst (λ (v : Note). ConnectionGoes old v clock new) (sym e)
    (left_with old new (note.Out d k) (level_of old - m) clock same w
    (λ c h u f. ap (λ (b : Bool). written c h - (if b then k else 0)) (eq_true d c _ refl (same_connection d c u)) ∙ ap (λ (v : ℕ). v - k) (sym f) ∙ ap (λ (v : ℕ). level_of old - v) (sym l)) (λ c h. refl))

-- ---- its end

now_closed : (c code : ℕ) (why : CloseCause) (h : History NoMark) → true ≡ was_closed c (Noted (note.Close c code why) ∷ h)
now_closed c code why h = rw (eq_true c c _ refl refl) refl

pub closes_lost : (old new : Connection) (cause : CloseCause) (clock : Clock) → cause ≡ closed.Lost → new.is_closed ≡ true → Sets (drawn_of old.write.lane) 0 clock (drawn_of new.write.lane) → Closes old cause clock new
closes_lost old new cause clock e same w = subst (λ (v : CloseCause). Closes old v clock new) (sym e) (record { goes = goes })
  where
    goes : (c code : ℕ) (h : History NoMark) → turns h ≡ clock.turn → ConnectionIs old c clock.first h → ConnectionIs new c clock.first (Noted (note.Close c code closed.Lost) ∷ h)
    goes c code h t is = record {
      write = w.goes (written c) (Noted (note.Close c code closed.Lost)) h is.write t (rw (eq_true c c _ refl refl) refl);
      closed = same ∙ now_closed c code closed.Lost h;
    }

kept_open : (c code : ℕ) (why : CloseCause) (h : History NoMark) → (why ≡ closed.Lost → ⊥) → written c (Noted (note.Close c code why) ∷ h) ≡ written c h
kept_open c code closed.Lost h differ = absurd (differ refl)
kept_open c code why h differ = refl

pub closes_kept : (old new : Connection) (cause : CloseCause) (clock : Clock) → (cause ≡ closed.Lost → ⊥) → new.is_closed ≡ true → drawn_of new.write.lane ≡ drawn_of old.write.lane → Closes old cause clock new
closes_kept old new cause clock differ same e = record {
  goes = λ c code h t is. record {
    write = subst (λ (d : Drawn). LaneIs d (written c) clock.first (Noted (note.Close c code cause) ∷ h)) (sym e)
        (still (drawn_of old.write.lane) (written c) clock.first (Noted (note.Close c code cause)) h is.write (kept_open c code cause h differ));
    closed = same ∙ now_closed c code cause h;
  };
}

gone : (c k : ℕ) (b : Bool) (h : History NoMark) → was_closed c h ≡ b → written c (Noted (note.Turn k (event.Gone c)) ∷ h) ≡ (if b then 0 else written c h)
gone c k b h e = rw (eq_true c c _ refl refl, e) refl

pub forgets_closed : (old new : Connection) (clock : Clock) → old.is_closed ≡ true → new.is_closed ≡ old.is_closed → Sets (drawn_of old.write.lane) 0 clock (drawn_of new.write.lane) → Forgets old clock new
forgets_closed old new clock b same w = record {
  goes = λ c k h t is. record {
    write = w.goes (written c) (Noted (note.Turn k (event.Gone c))) h is.write t (gone c k true h (sym is.closed ∙ b));
    closed = same ∙ is.closed;
  };
}

pub forgets_open : (old : Connection) (clock : Clock) → old.is_closed ≡ false → Forgets old clock old
forgets_open old clock b = record {
  goes = λ c k h t is. record {
    write = still (drawn_of old.write.lane) (written c) clock.first (Noted (note.Turn k (event.Gone c))) h is.write (gone c k false h (sym is.closed ∙ b));
    closed = is.closed;
  };
}

pub close_goes : (old new : Connection) (n : Note) (d code : ℕ) (cause : CloseCause) (clock : Clock) → n ≡ note.Close d code cause → Closes old cause clock new → ConnectionGoes old n clock new
close_goes old new n d code cause clock e k = record {
  goes = λ c h s t is.
      let m : n ≡ note.Close c code cause = e ∙ ap (λ (v : ℕ). note.Close v code cause) (same_connection d c (ap subject_of (sym e) ∙ s)) in
      subst (λ (v : Note). ConnectionIs new c clock.first (Noted v ∷ h)) (sym m) (k.goes c code h (subst (λ (v : Note). turns (Noted v ∷ h) ≡ clock.turn) m t) is);
}

pub turn_gone : (old new : Connection) (d : ℕ) (v : Event) (clock : Clock) → v ≡ event.Gone d → Forgets old clock new → Turns old v clock new
turn_gone old new d v clock ev f = subst (λ (u : Event). Turns old u clock new) (sym ev) (record {
  goes = λ k. record {
    goes = λ c h s t is.
        let i : note.Turn k (event.Gone d) ≡ note.Turn k (event.Gone c) = ap (λ (u : ℕ). note.Turn k (event.Gone u)) (same_connection d c s) in
        subst (λ (u : Note). ConnectionIs new c clock.first (Noted u ∷ h)) (sym i) (f.goes c k h (subst (λ (u : Note). turns (Noted u ∷ h) ≡ clock.turn) i t) is);
  };
})

not_gone : (k c : ℕ) (v : Event) → ((d : ℕ) → v ≡ event.Gone d → ⊥) → subject_of (note.Turn k v) ≡ subject.Connection c → ⊥
not_gone k c (event.Gone d) other s = other d refl
not_gone k c v other s = nothing_not _ c refl s

pub turn_idle : (old : Connection) (v : Event) (clock : Clock) → ((d : ℕ) → v ≡ event.Gone d → ⊥) → Turns old v clock old
turn_idle old v clock other = record { goes = λ k. record { goes = λ c h s t is. absurd (not_gone k c v other s) } }

pub turn_goes : (old new : Connection) (n : Note) (k : ℕ) (v : Event) (clock : Clock) → n ≡ note.Turn k v → Turns old v clock new → ConnectionGoes old n clock new
turn_goes old new n k v clock e t = subst (λ (u : Note). ConnectionGoes old u clock new) (sym e) (t.goes k)

-- ---- the plot

turns_more : (n : Note) (h : History NoMark) → turns h + turns_of n ≡ turns (Noted n ∷ h)
turns_more (note.Turn k e) h = refl
turns_more n h = omega arith

until_all : (last : ℕ) (h : History NoMark) → nat_lt last (turns h) ≡ false → until last h ≡ h
until_all last [] e = refl
until_all last (step ∷ past) e = rw e refl

not_yet : (last : ℕ) (step : Step NoMark) (h : History NoMark) → nat_lt last (turns (step ∷ h)) ≡ false → nat_lt last (turns h) ≡ false
not_yet last step h e = le-ltb last (turns h) (omega (arith, ltb-false last (turns (step ∷ h)) e, turns_rise step h))

ticked : (old new : Clock) (n : Note) (h : History NoMark) → Ticks old (turns_of n) new → old.turn ≡ turns h → new.turn ≡ turns (Noted n ∷ h)
ticked old new n h t e = t.turn ∙ ap (λ (v : ℕ). v + turns_of n) e ∙ turns_more n h

pub plot_on : (old new : Plot) (n : Note) (clock : Clock) (mid : Levels) → Ticks old.clock (turns_of n) clock → false ≡ nat_lt clock.last clock.turn → LevelsGo old.levels n clock mid → LevelsStay mid new.levels → new.clock ≡ clock
    → PlotGoes old n new
plot_on old new n clock mid t on g s e = record {
  goes = λ first last h is.
      let now : clock.turn ≡ turns (Noted n ∷ h) = ticked old.clock clock n h t is.turn in
      let ge : nat_lt last (turns (Noted n ∷ h)) ≡ false = ap (λ (v : ℕ). nat_lt v (turns (Noted n ∷ h))) (sym (t.last ∙ is.ends)) ∙ ap (nat_lt clock.last) (sym now) ∙ sym on in
      let was : LevelsAre old.levels clock.first h = subst (λ (v : ℕ). LevelsAre old.levels v h) (sym (t.first ∙ is.starts)) (subst (λ (v : History NoMark). LevelsAre old.levels first v) (until_all last h (not_yet last (Noted n) h ge)) is.levels) in record {
        starts = ap (λ (v : Clock). v.first) e ∙ t.first ∙ is.starts;
        ends = ap (λ (v : Clock). v.last) e ∙ t.last ∙ is.ends;
        turn = ap (λ (v : Clock). v.turn) e ∙ now;
        levels = subst (λ (v : History NoMark). LevelsAre new.levels first v) (sym (until_all last (Noted n ∷ h) ge))
            (subst (λ (v : ℕ). LevelsAre new.levels v (Noted n ∷ h)) (t.first ∙ is.starts) (s.goes clock.first (Noted n ∷ h) (g.goes h (sym now) was)));
      };
}

-- a line of the summary leaves the lanes
pub plot_same : (old new : Plot) → new.clock ≡ old.clock → new.levels ≡ old.levels → PlotStays old new
plot_same old new ec el = record {
  goes = λ first last h is. record {
    starts = ap (λ (v : Clock). v.first) ec ∙ is.starts;
    ends = ap (λ (v : Clock). v.last) ec ∙ is.ends;
    turn = ap (λ (v : Clock). v.turn) ec ∙ is.turn;
    levels = subst (λ (v : Levels). LevelsAre v first (until last h)) (sym el) is.levels;
  };
}

pub tells_peak : (old new : Limits) (l : Line) (b : BufferId) (limit most : ℕ) → l ≡ line.Peak b limit most → TellsLimit old b limit new → TellsLine old l new
tells_peak old new l b limit most e t = subst (λ (v : Line). TellsLine old v new) (sym e) t

pub tells_none : (old : Limits) (l : Line) → ((b : BufferId) (limit most : ℕ) → l ≡ line.Peak b limit most → ⊥) → TellsLine old l old
tells_none old (line.Peak b limit most) none = absurd (none b limit most refl)
tells_none old l none = refl

-- ---- the last dispatch that is drawn

turns_one : (step : Step NoMark) (h : History NoMark) → turns (step ∷ h) ≤ turns h + 1
turns_one (Noted (note.Turn k e)) h = omega arith
turns_one step h = omega arith

until_turns : (last : ℕ) (h : History NoMark) → min (turns h) last ≡ turns (until last h)
until_turns last [] = omega arith
until_turns last (step ∷ past) = by (nat_lt last (turns (step ∷ past))) refl (until_turns last past)
  where
    by : (b : Bool) → nat_lt last (turns (step ∷ past)) ≡ b → min (turns past) last ≡ turns (until last past) → min (turns (step ∷ past)) last ≡ turns (until last (step ∷ past))
    by true e was = rw e (omega (arith, was, turns_one step past, ltb-true last (turns (step ∷ past)) e))
    by false e was = rw e (omega (arith, ltb-false last (turns (step ∷ past)) e))

pub until_end : (turn last most : ℕ) (h : History NoMark) → turn ≡ turns h → most ≡ last → min turn most ≡ turns (until last h)
until_end turn last most h e f = ap (λ (v : ℕ). min v most) e ∙ ap (min (turns h)) f ∙ until_turns last h
