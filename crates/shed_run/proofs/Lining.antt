-- The lines of a session, one after another.
use Rattle.config_tables.specs.Reading.{config_of}
use Rattle.flow_notes.specs.Line.{newline}
use Rattle.flow_notes.specs.declared.events.Event.{Event}
use Rattle.io_ports.specs.declared.octets.NoMemory.{NoMemory}
use Rattle.proxy_config.specs.declared.config.Config.{Config}
use Rattle.session_config.specs.ClusterNames.{names_in, resources_in}
use Rattle.session_lines.specs.WireLines.{Behind, NoLine, ReadsWireLine, SpellsWire, WireEvent, WireHeader, WireItem, WireLinesAre, WireSeen, wire_events, wire_lines, wire_more, wire_read, wire_text}
use Rattle.session_lines.specs.declared.order.LineRead.{LineRead}
use Rattle.session_lines.specs.declared.wire_lines.WireLines.{WireLines}
use Rattle.session_run.specs.Players.{AddsSummary, IsPlaying, PlayedAs, PlaysLine}
use Rattle.session_run.specs.Runs.{Begins}
use Rattle.session_run.specs.declared.player.Went.{Went}
use Rattle.shed_points.specs.Shedders.{ShedderIs}
use Rattle.shed_run.specs.Played.{CanTake, HappensAs, PlayIs, Played, PlaysEvent, TakesEvent, shed_kind}
use Rattle.shed_run.specs.ShedLines.{IsShedSeen, is_own}
use Rattle.shed_run.specs.ShedText.{lines_of, notes_with, text_with}
use Rattle.shed_run.specs.declared.play.ShedPlay.{ShedPlay}
use Rattle.std.proofs.Common.{ap, append-nil, inl, inr, refl, subst, sym, ◌∙◌}
use Rattle.std.specs.Prelude.{Bool, Err, List, Ok, OnOk, Result, [], false, suc, true, ℕ, ◌++◌, ◌∷◌, ◌≡◌, ◌⊎◌}
use Rattle.tape_laws.specs.History.{History, Marked, NoMark, Noted}
use Rattle.tape_laws.specs.Text.{note_line, tape_text}
use Rattle.tape_laws.specs.declared.PlainLimits.{PlainLimits}
use Rattle.wire_run.proofs.Playing.{read_as, text_more}
use Rattle.wire_run.specs.Played as wire
use Rattle.wire_run.specs.Played.{PlayRests, wire_kind}
use Rattle.wire_run.specs.Tapes.{WireTape}
use Rattle.flow_notes.specs.declared.notes.Note.TheVariants as note
use Rattle.session_lines.specs.declared.order.LineRead.TheVariants as read
use Rattle.session_run.specs.declared.player.Went.TheVariants as went

-- one line more was read
lines_more : (names : List (List ℕ)) (resources : ℕ) (seen : WireSeen) (line : List ℕ) (item : WireItem) → SpellsWire names resources seen line item → wire_lines (wire_more seen item) ≡ suc (wire_lines seen)
lines_more names resources NoLine line WireHeader s = refl
lines_more names resources NoLine line (WireEvent e) s = absurd s.may
lines_more names resources (Behind es) line WireHeader s = absurd s.may
lines_more names resources (Behind es) line (WireEvent e) s = refl

-- ---- the header

module _ (old new : ShedPlay) (rests : (config : Config) (h : History NoMark) → PlayRests old.play config h → PlayRests new.play config h) (shedder : new.shedder ≡ old.shedder) (events : new.events ≡ old.events) where
  -- where a line alone was read, the play stands as it did
  pub still : (config : Config) (seen : WireSeen) (h : History NoMark) → PlayIs old config seen h → PlayIs new config seen h
  still config seen h k = record { shedder = rw shedder k.shedder; events = events ∙ k.events; rests = rests config h k.rests; may = k.may; tape = k.tape }

  header_is : (config : Config) (seen : WireSeen) (line : List ℕ) (item : WireItem) (h : History NoMark) → SpellsWire (names_in config) (resources_in config) seen line item → read.Header ≡ wire_read item → PlayIs old config seen h → PlayIs new config (wire_more seen item) h
  header_is config NoLine line WireHeader h s e k = record {
    shedder = rw shedder k.shedder;
    events = events ∙ k.events;
    rests = rests config h k.rests;
    may = record { may = tt; none_own = tt };
    tape = record { may = tt; shown = k.tape.shown; in_order = k.tape.in_order; spelled = k.tape.spelled; octets = k.tape.octets };
  }
  header_is config (Behind es) line WireHeader h s e k = absurd s.may
  header_is config seen line (WireEvent f) h s e k = cc

  no_events : (config : Config) (seen : WireSeen) (line : List ℕ) (item : WireItem) → SpellsWire (names_in config) (resources_in config) seen line item → read.Header ≡ wire_read item → wire_events (wire_more seen item) ≡ wire_events seen
  no_events config NoLine line WireHeader s e = refl
  no_events config (Behind es) line WireHeader s e = absurd s.may
  no_events config seen line (WireEvent f) s e = cc

  pub header_played : (line text_old text_new : List ℕ) → ReadsWireLine old.play.lines line new.play.lines (Ok read.Header) → text_new ≡ text_old → PlaysLine shed_kind old line text_old new text_new (Ok went.On)
  header_played line text_old text_new r same = record {
    goes = λ config lines count told k.
        let a = r.goes (names_in k.config) (resources_in k.config) k.seen k.read in
        record {
          added = [];
          text = same ∙ sym (append-nil text_old);
          stands = record {
            config = k.config;
            configured = k.configured;
            named = k.named;
            seen = wire_more k.seen a.item;
            history = k.history;
            read = a.lines;
            is = header_is k.config k.seen line a.item k.history a.spells a.read k.is;
            lines_are = ap (λ (v : List ℕ). v ++ (line ++ newline)) k.lines_are ∙ sym (text_more (names_in k.config) (resources_in k.config) k.seen line a.item a.spells);
            count_is = ap suc k.count_is ∙ sym (lines_more (names_in k.config) (resources_in k.config) k.seen line a.item a.spells);
            told_is = append-nil told ∙ k.told_is ∙ ap (λ (l : List Event). text_with (names_in k.config) (lines_of k.config.overload.shed l) k.history) (sym (no_events k.config k.seen line a.item a.spells a.read));
          };
        };
  }

-- ---- lines that are refused

pub line_refused : (old new : ShedPlay) (line : List ℕ) (lines : WireLines) (text_old text_new : List ℕ) → ReadsWireLine old.play.lines line lines (Ok read.Refused) → text_new ≡ text_old → PlaysLine shed_kind old line text_old new text_new (Ok went.Refused)
line_refused old new line lines text_old text_new r same = record { goes = λ config ls count told k. (record { goes = λ names resources seen w. inl (r.goes names resources seen w).none }, same) }

-- no line of a wire session is a line of limits
pub limits_refused : (old new : ShedPlay) (line : List ℕ) (lines : WireLines) (limits : PlainLimits) (text_old text_new : List ℕ) → ReadsWireLine old.play.lines line lines (Ok (read.Limits limits)) → text_new ≡ text_old → PlaysLine shed_kind old line text_old new text_new (Ok went.Refused)
limits_refused old new line lines limits text_old text_new r same = record { goes = λ config ls count told k. (record { goes = λ names resources seen w. (let a = r.goes names resources seen w in absurd (other a.item a.read)) }, same) }
  where
    other : (item : WireItem) → read.Limits limits ≡ wire_read item → ⊥
    other WireHeader e = cc
    other (WireEvent e) q = cc

-- it is either
pub none_played : (old new : ShedPlay) (line : List ℕ) (lines : WireLines) (found : LineRead) (text_old text_new : List ℕ) → ((limits : PlainLimits) × (found ≡ read.Limits limits)) ⊎ (found ≡ read.Refused) → ReadsWireLine old.play.lines line lines (Ok found)
    → text_new ≡ text_old → PlaysLine shed_kind old line text_old new text_new (Ok went.Refused)
none_played old new line lines found text_old text_new (inl p) r same = limits_refused old new line lines p.0 text_old text_new (read_as old.play.lines lines line found (read.Limits p.0) p.1 r) same
none_played old new line lines found text_old text_new (inr p) r same = line_refused old new line lines text_old text_new (read_as old.play.lines lines line found read.Refused p r) same

-- the line was read as the event that it spells
spelled : (names : List (List ℕ)) (resources : ℕ) (seen : WireSeen) (line : List ℕ) (item : WireItem) (e : Event) → SpellsWire names resources seen line item → read.Event e ≡ wire_read item → SpellsWire names resources seen line (WireEvent e)
spelled names resources seen line WireHeader e s q = cc
spelled names resources seen line (WireEvent f) e s q = let P : Event → Type 0 = λ v. SpellsWire names resources seen line (WireEvent v) in let same : f ≡ e = cc in subst P same s

pub own_refused : (old new : ShedPlay) (line : List ℕ) (lines : WireLines) (e : Event) (text_old text_new : List ℕ) → ReadsWireLine old.play.lines line lines (Ok (read.Event e)) → is_own e ≡ true → text_new ≡ text_old → PlaysLine shed_kind old line text_old new text_new (Ok went.Refused)
own_refused old new line lines e text_old text_new r own same = record {
  goes = λ config ls count told k. (
    record {
      goes = λ names resources seen w.
          let a = r.goes names resources seen w in
          inr (record { own = e; spells = spelled names resources seen line a.item e a.spells a.read; is = own });
    },
    same,
  );
}

-- ---- an event

-- the event of the next line
record NextEvent (config : Config) (seen : WireSeen) (item : WireItem) (e : Event) : Type 0 where
  events : wire_events (wire_more seen item) ≡ e ∷ wire_events seen
  may : IsShedSeen (names_in config) (resources_in config) seen → IsShedSeen (names_in config) (resources_in config) (wire_more seen item)

next_event : (config : Config) (seen : WireSeen) (line : List ℕ) (item : WireItem) (e : Event) → SpellsWire (names_in config) (resources_in config) seen line item → read.Event e ≡ wire_read item → is_own e ≡ false → NextEvent config seen item e
next_event config seen line WireHeader e s q own = cc
next_event config NoLine line (WireEvent f) e s q own = absurd s.may
next_event config (Behind es) line (WireEvent f) e s q own =
    let same : f ≡ e = cc in
    record { events = ap (λ v. v ∷ es) same; may = λ m. record { may = (s.may, m.may); none_own = (ap is_own same ∙ own, m.none_own) } }

module _ (old mid : ShedPlay) (line : List ℕ) (e : Event) (r : ReadsWireLine old.play.lines line mid.play.lines (Ok (read.Event e))) (own : is_own e ≡ false)
    (rests : (config : Config) (h : History NoMark) → PlayRests old.play config h → PlayRests mid.play config h) (shedder : mid.shedder ≡ old.shedder) (events : mid.events ≡ old.events) where
  pub can_take : IsPlaying shed_kind old → CanTake mid e
  can_take playing =
      let k = playing.stands in
      let a = r.goes (names_in k.config) (resources_in k.config) k.seen k.read in
      let n = next_event k.config k.seen line a.item e a.spells a.read own in
      record {
        config = k.config;
        seen = k.seen;
        after = wire_more k.seen a.item;
        history = k.history;
        named = a.lines.names_are;
        is = still old mid rests shedder events k.config k.seen k.history k.is;
        more = n.events;
        may = n.may k.is.may;
      }

  pub event_line_played : (new : ShedPlay) (text_old text_new : List ℕ) (result : Result Went NoMemory) → PlaysEvent mid e text_old new text_new result → PlaysLine shed_kind old line text_old new text_new result
  event_line_played new text_old text_new result p = record {
    goes = λ config lines count told k.
        let a = r.goes (names_in k.config) (resources_in k.config) k.seen k.read in
        let n = next_event k.config k.seen line a.item e a.spells a.read own in
        by config lines count told k result
        (p.goes k.config k.seen (wire_more k.seen a.item) k.history a.lines.names_are n.events (n.may k.is.may) (still old mid rests shedder events k.config k.seen k.history k.is));
  }
    where
      by : (config lines : List ℕ) (count : ℕ) (told : List ℕ) (k : Played old config lines count told) (result : Result Went NoMemory)
          → HappensAs mid e new k.config k.seen (wire_more k.seen (r.goes (names_in k.config) (resources_in k.config) k.seen k.read).item) k.history text_old text_new result
          → PlayedAs shed_kind old new line config lines count told text_old text_new result
      by config lines count told k (Ok went.On) d =
          let a = r.goes (names_in k.config) (resources_in k.config) k.seen k.read in
          record {
            added = d.added;
            text = d.text;
            stands = record {
              config = k.config;
              configured = k.configured;
              named = k.named;
              seen = wire_more k.seen a.item;
              history = d.history;
              read = (let P : WireLines → Type 0 = λ v. WireLinesAre v (names_in k.config) (resources_in k.config) (wire_more k.seen a.item) in subst P (sym d.lines) a.lines);
              is = d.is;
              lines_are = ap (λ (v : List ℕ). v ++ (line ++ newline)) k.lines_are ∙ sym (text_more (names_in k.config) (resources_in k.config) k.seen line a.item a.spells);
              count_is = ap suc k.count_is ∙ sym (lines_more (names_in k.config) (resources_in k.config) k.seen line a.item a.spells);
              told_is = ap (λ (v : List ℕ). v ++ d.added) k.told_is ∙ sym d.told;
            };
          }
      by config lines count told k (Ok went.Refused) d = absurd d
      by config lines count told k (Err x) d = d

-- by whether it is the shedder's own post
pub line_taken : (old mid : ShedPlay) (line : List ℕ) (e : Event) (new : ShedPlay) (text_old text_new : List ℕ) (result : Result Went NoMemory) → ReadsWireLine old.play.lines line mid.play.lines (Ok (read.Event e))
    → ((config : Config) (h : History NoMark) → PlayRests old.play config h → PlayRests mid.play config h) → mid.shedder ≡ old.shedder → mid.events ≡ old.events → TakesEvent mid e text_old new text_new result
    → PlaysLine shed_kind old line text_old new text_new result
line_taken old mid line e new text_old text_new result r rests shedder events t = by (is_own e) refl
  where
    by : (b : Bool) → is_own e ≡ b → PlaysLine shed_kind old line text_old new text_new result
    by true own =
        let k = t.own own in
        let P : Result Went NoMemory → Type 0 = λ v. PlaysLine shed_kind old line text_old new text_new v in
        subst P (sym k.0) (own_refused old new line mid.play.lines e text_old text_new r own k.1)
    by false other = event_line_played old mid line e r other rests shedder events new text_old text_new result (t.other other)

-- ---- before the first line

no_lines : (names : List (List ℕ)) (h : History NoMark) → notes_with names [] h ≡ tape_text names h
no_lines names [] = refl
no_lines names (Marked m ∷ past) = no_lines names past
no_lines names (Noted (note.Turn k e) ∷ past) = ap (λ (v : List ℕ). v ++ note_line names (note.Turn k e)) (append-nil (notes_with names [] past) ∙ no_lines names past)
no_lines names (Noted (note.Arrive f o) ∷ past) = ap (λ (v : List ℕ). v ++ note_line names (note.Arrive f o)) (no_lines names past)
no_lines names (Noted (note.Move f p n) ∷ past) = ap (λ (v : List ℕ). v ++ note_line names (note.Move f p n)) (no_lines names past)
no_lines names (Noted (note.Frame c f n last) ∷ past) = ap (λ (v : List ℕ). v ++ note_line names (note.Frame c f n last)) (no_lines names past)
no_lines names (Noted (note.Out c n) ∷ past) = ap (λ (v : List ℕ). v ++ note_line names (note.Out c n)) (no_lines names past)
no_lines names (Noted (note.Pause f b) ∷ past) = ap (λ (v : List ℕ). v ++ note_line names (note.Pause f b)) (no_lines names past)
no_lines names (Noted (note.Resume f b) ∷ past) = ap (λ (v : List ℕ). v ++ note_line names (note.Resume f b)) (no_lines names past)
no_lines names (Noted (note.Credit c s n) ∷ past) = ap (λ (v : List ℕ). v ++ note_line names (note.Credit c s n)) (no_lines names past)
no_lines names (Noted (note.Head c s o) ∷ past) = ap (λ (v : List ℕ). v ++ note_line names (note.Head c s o)) (no_lines names past)
no_lines names (Noted (note.Answer c o) ∷ past) = ap (λ (v : List ℕ). v ++ note_line names (note.Answer c o)) (no_lines names past)
no_lines names (Noted (note.Waste c s n) ∷ past) = ap (λ (v : List ℕ). v ++ note_line names (note.Waste c s n)) (no_lines names past)
no_lines names (Noted (note.Start x c s d) ∷ past) = ap (λ (v : List ℕ). v ++ note_line names (note.Start x c s d)) (no_lines names past)
no_lines names (Noted (note.Doom x why) ∷ past) = ap (λ (v : List ℕ). v ++ note_line names (note.Doom x why)) (no_lines names past)
no_lines names (Noted (note.Gone x) ∷ past) = ap (λ (v : List ℕ). v ++ note_line names (note.Gone x)) (no_lines names past)
no_lines names (Noted (note.Close c code why) ∷ past) = ap (λ (v : List ℕ). v ++ note_line names (note.Close c code why)) (no_lines names past)
no_lines names (Noted (note.Fire kind id) ∷ past) = ap (λ (v : List ℕ). v ++ note_line names (note.Fire kind id)) (no_lines names past)

no_line_yet : (names : List (List ℕ)) (seen : WireSeen) → [] ≡ wire_text names seen → seen ≡ NoLine
no_line_yet names NoLine e = refl
no_line_yet names (Behind es) e = cc

same_config : {E : Type 0} (c d : Config) (r : Result Config E) → r ≡ Ok c → r ≡ Ok d → c ≡ d
same_config c d r e f = let k : Ok c ≡ Ok d = sym e ∙ f in cc

pub play_begins : (play : ShedPlay) (config : Config) → ((text : List ℕ) → config_of text ≡ Ok config → Begins wire_kind play.play text) → ShedderIs play.shedder config.overload.shed [] → play.events ≡ 0 → (text : List ℕ) → config_of text ≡ Ok config → Begins shed_kind play text
play_begins play config begins shedder events text configured = record {
  stands = record {
    config = k.config;
    configured = k.configured;
    named = k.named;
    seen = NoLine;
    history = k.history;
    read = (let P : WireSeen → Type 0 = λ v. WireLinesAre play.play.lines (names_in k.config) (resources_in k.config) v in subst P first k.read);
    is = record {
      shedder = (let P : Config → Type 0 = λ v. ShedderIs play.shedder v.overload.shed [] in subst P (same_config config k.config (config_of text) configured k.configured) shedder);
      events = events;
      rests = k.rests;
      may = record { may = tt; none_own = tt };
      tape = (let P : WireSeen → Type 0 = λ v. WireTape k.config v k.history in subst P first k.tape);
    };
    lines_are = refl;
    count_is = refl;
    told_is = k.told_is ∙ sym (append-nil (notes_with (names_in k.config) [] k.history) ∙ no_lines (names_in k.config) k.history);
  };
}
  where
    k : wire.Played play.play text [] 0 []
    k = (begins text configured).stands

    first : k.seen ≡ NoLine
    first = no_line_yet (names_in k.config) k.seen k.lines_are

-- ---- the summary

pub play_summed : (play : ShedPlay) (old new : List ℕ) (r : Result (Unit {0}) NoMemory) → OnOk r (AddsSummary wire_kind play.play old new) → OnOk r (AddsSummary shed_kind play old new)
play_summed play old new (Ok x) s = record { added = s.added; text = s.text; sums = s.sums }
play_summed play old new (Err x) s = tt
