-- Lines of a relay's session that are played.
use Rattle.flow_notes.specs.Event.{event_spelling}
use Rattle.flow_notes.specs.Line.{newline}
use Rattle.flow_notes.specs.Name.{AreNames}
use Rattle.flow_notes.specs.Note.{IsNote}
use Rattle.flow_notes.specs.declared.events.Event.{Event}
use Rattle.flow_notes.specs.declared.notes.Note.{Note}
use Rattle.io_ports.specs.declared.octets.NoMemory.{NoMemory}
use Rattle.config_tables.specs.Reading.{config_of}
use Rattle.proxy_config.specs.declared.config.Config.{Config}
use Rattle.relay_laws.specs.Order.{MayCome}
use Rattle.relay_laws.specs.Pairs.{Tape, feed}
use Rattle.relay_laws.specs.Session.{MayRelayAll, is_held, reads_paused, relay_tape}
use Rattle.relay_laws.specs.Watermark.{above}
use Rattle.relay_laws.specs.World.{out}
use Rattle.relay_laws.specs.declared.Feed.{Feed}
use Rattle.relay_run.proofs.Following.{comes, one_item, spells_none, spells_wire}
use Rattle.relay_run.specs.Lines.{IsRelaySeen, MayComeRelay, SpellsNoRelay, SpellsRelay, seen_tape}
use Rattle.relay_run.specs.Logs.{RelayLogIs, RelayLogs}
use Rattle.relay_run.specs.Played.{CanTake, Dispatched, DispatchedAs, PlayIs, Played, PlaysEvent, RefusesLine, relay_kind}
use Rattle.relay_run.specs.Summaries.{Summarizes}
use Rattle.relay_run.specs.Terms.{limit_of}
use Rattle.session_config.specs.ClusterNames.{names_in, resources_in}
use Rattle.relay_run.specs.declared.play.RelayPlay.{RelayPlay}
use Rattle.relay_run.specs.declared.relay_log.RelayLog.{RelayLog}
use Rattle.session_lines.specs.WireLines.{AcceptsWire, Behind, NoLine, ReadsWireLine, SpellsWire, WireEvent, WireHeader, WireItem, WireLinesAre, WireSeen, wire_event_lines, wire_events, wire_header, wire_lines, wire_more, wire_read, wire_text}
use Rattle.session_lines.specs.declared.order.LineRead.{LineRead}
use Rattle.session_lines.specs.declared.wire_lines.WireLines.{WireLines}
use Rattle.session_run.specs.Players.{AddsSummary, IsPlaying, PlayedAs, PlaysLine}
use Rattle.session_run.specs.Runs.{Begins}
use Rattle.session_run.specs.declared.player.Went.{Went}
use Rattle.std.proofs.Common.{ap, append_assoc, arith, refl, subst, sym, ◌∙◌}
use Rattle.std.proofs.lemmas.List.{append-nil}
use Rattle.std.specs.List.{AllByRecursion}
use Rattle.std.specs.Prelude.{Bool, Err, List, None, Ok, OnOk, Option, Result, Some, [], false, if◌then◌else◌, length, suc, true, ℕ, ◌++◌, ◌∷◌, ◌≡◌}
use Rattle.tape_laws.specs.Dispatches.{events_back}
use Rattle.tape_laws.specs.History.{Noted, onto}
use Rattle.tape_laws.specs.Text.{note_line, tape_text}
use Rattle.tape_laws.specs.declared.PlainLimits.{PlainLimits}
use Rattle.tape_summary.specs.NotesText.{notes_text}
use Rattle.tcp_relay.specs.Rests.{GoesOn, GoesOnFrom, RefusesFrom, Rests, held_behind, held_by}
use Rattle.tcp_relay.specs.Turns.{Refuses}
use Rattle.tcp_relay.specs.declared.fault.RelayFault.{RelayFault}
use Rattle.tcp_relay.specs.declared.relay.Relay.{Relay}
use Rattle.flow_notes.specs.declared.events.Event.TheVariants as event
use Rattle.session_lines.specs.declared.order.LineRead.TheVariants as read
use Rattle.session_run.specs.declared.player.Went.TheVariants as went
use Rattle.tcp_relay.specs.declared.fault.RelayFault.TheVariants as fault

-- ---- an event

-- the text of a history with notes after it
onto_text : (names : List (List ℕ)) (ns : List Note) (h : Tape) → tape_text names (onto ns h) ≡ tape_text names h ++ notes_text names ns
onto_text names [] h = sym (append-nil (tape_text names h))
onto_text names (n ∷ ns) h = onto_text names ns (Noted n ∷ h) ∙ append_assoc (tape_text names h) (note_line names n) (notes_text names ns)

from_nothing : (old : Relay) (before : List Note) (e : Event) (new : Relay) (notes : List Note) → before ≡ [] → GoesOnFrom old before e new notes → GoesOnFrom old [] e new notes
from_nothing old before e new notes none g = let P : List Note → Type 0 = λ v. GoesOnFrom old v e new notes in subst P none g

-- one that was dispatched
pub event_played : (old : RelayPlay) (e : Event) (relay : Relay) (log : RelayLog) (before notes : List Note) (new : RelayPlay) (text_old text_new : List ℕ) → before ≡ [] → GoesOnFrom old.relay before e relay notes
    → RelayLogs old.log notes log → new.relay ≡ relay → new.log ≡ log → new.lines ≡ old.lines → text_new ≡ text_old ++ notes_text old.lines.names notes → PlaysEvent old e text_old new text_new (Ok went.On)
event_played old e relay log before notes new text_old text_new none g l er el es et = record {
  goes = λ limit names h named rests may logs.
      let k : GoesOn limit names [] e relay notes h = (from_nothing old.relay before e relay notes none g).goes limit names h rests may in
      let P : Relay → Type 0 = λ v. Rests limit names v (onto notes h) in
      let Q : RelayLog → Type 0 = λ v. RelayLogIs limit v (onto notes h) in
      record {
        history = onto notes h;
        added = notes_text names notes;
        rests = subst P (sym er) k.rests;
        logs = subst Q (sym el) (l.goes limit h logs);
        events = k.shows;
        tape = onto_text names notes h;
        text = et ∙ ap (λ (v : List (List ℕ)). text_old ++ notes_text v notes) named;
        lines = es;
      };
}

-- one that reads a paused flow
above_there : (b : Bool) (m n : ℕ) → (if b then Some m else None) ≡ Some n → b ≡ true
above_there true m n e = refl
above_there false m n e = cc

feed_held : (limit : ℕ) (h : Tape) (o : Option Feed) (n : ℕ) → held_behind limit o h ≡ Some n → is_held limit o h ≡ true
feed_held limit h None n e = cc
feed_held limit h (Some f) n e = above_there (above limit f.to h) (length (out f.to h)) n e

event_held : (limit : ℕ) (h : Tape) (e : Event) (n : ℕ) → held_by limit e h ≡ Some n → reads_paused limit e h ≡ true
event_held limit h (event.Read c octets) n q = feed_held limit h (feed c h) n q
event_held limit h (event.Accept c) n q = cc
event_held limit h (event.Join c j) n q = cc
event_held limit h (event.Gone c) n q = cc
event_held limit h (event.Room c m) n q = cc
event_held limit h (event.Tick t) n q = cc
event_held limit h (event.Post p k j) n q = cc
event_held limit h (event.Obey v ps) n q = cc
event_held limit h (event.Plain p) n q = cc

paused_by : (limit : ℕ) (h : Tape) (e : Event) (o : Option ℕ) (old new : Relay) (before after : List Note) (result : Result (Unit {0}) RelayFault) (held : ℕ) → held_by limit e h ≡ o → result ≡ Err (fault.Paused held)
    → Refuses o old before result new after → reads_paused limit e h ≡ true
paused_by limit h e None old new before after result held q is r = absurd (r held is)
paused_by limit h e (Some n) old new before after result held q is r = event_held limit h e n q

refuses_nothing : (old : Relay) (before : List Note) (e : Event) (result : Result (Unit {0}) RelayFault) (new : Relay) (notes : List Note) → before ≡ [] → RefusesFrom old before e result new notes → RefusesFrom old [] e result new notes
refuses_nothing old before e result new notes none g = let P : List Note → Type 0 = λ v. RefusesFrom old v e result new notes in subst P none g

pub event_held_back : (old : RelayPlay) (e : Event) (relay : Relay) (before notes : List Note) (new : RelayPlay) (text : List ℕ) (found : Result (Unit {0}) RelayFault) (x : RelayFault) (held : ℕ) → before ≡ [] → found ≡ Err x → x ≡ fault.Paused held
    → RefusesFrom old.relay before e found relay notes → PlaysEvent old e text new text (Ok went.Refused)
event_held_back old e relay before notes new text found x held none is paused g = record {
  goes = λ limit names h named rests may logs. record {
    paused = paused_by limit h e (held_by limit e h) old.relay relay [] notes found held refl (is ∙ ap Err paused)
        ((refuses_nothing old.relay before e found relay notes none g).goes limit names h rests);
    text = refl;
  };
}

pub event_lost : (old : RelayPlay) (e : Event) (new : RelayPlay) (text_old text_new : List ℕ) (x : NoMemory) → text_new ≡ text_old → PlaysEvent old e text_old new text_new (Err x)
event_lost old e new text_old text_new x et = record { goes = λ limit names h named rests may logs. et }

-- its notes have a spelling
pub notes_spelled : (old : RelayPlay) (e : Event) (relay : Relay) (before notes : List Note) (names : List (List ℕ)) → before ≡ [] → names ≡ old.lines.names → CanTake old e → GoesOnFrom old.relay before e relay notes
    → AllByRecursion (IsNote names) notes
notes_spelled old e relay before notes names none same k g =
    let P : List (List ℕ) → Type 0 = λ v. AllByRecursion (IsNote v) notes in
    subst P (sym (same ∙ k.named)) (((from_nothing old.relay before e relay notes none g).goes k.limit k.names k.history k.rests k.may).spelled tt)

-- ---- a line more

event_more : (h l e n : List ℕ) → h ++ (l ++ (e ++ n)) ≡ (h ++ l) ++ (e ++ n)
event_more h l e n = sym (append_assoc h l (e ++ n))

text_more : (names : List (List ℕ)) (resources : ℕ) (seen : WireSeen) (line : List ℕ) (item : WireItem) → SpellsWire names resources seen line item
    → wire_text names (wire_more seen item) ≡ wire_text names seen ++ (line ++ newline)
text_more names resources NoLine line WireHeader s = append-nil (wire_header ++ newline) ∙ ap (λ (v : List ℕ). v ++ newline) s.is
text_more names resources NoLine line (WireEvent e) s = absurd s.may
text_more names resources (Behind es) line WireHeader s = absurd s.may
text_more names resources (Behind es) line (WireEvent e) s =
    event_more (wire_header ++ newline) (wire_event_lines names es) (event_spelling names e) newline
    ∙ ap (λ (v : List ℕ). wire_text names (Behind es) ++ (v ++ newline)) s.is

lines_more : (names : List (List ℕ)) (resources : ℕ) (seen : WireSeen) (line : List ℕ) (item : WireItem) → SpellsWire names resources seen line item → wire_lines (wire_more seen item) ≡ suc (wire_lines seen)
lines_more names resources NoLine line WireHeader s = omega arith
lines_more names resources NoLine line (WireEvent e) s = absurd s.may
lines_more names resources (Behind es) line WireHeader s = absurd s.may
lines_more names resources (Behind es) line (WireEvent e) s = omega arith

-- the play stands for the lines with one more
stands_more : (config : Config) (new : RelayPlay) (seen : WireSeen) (line : List ℕ) (item : WireItem) (config_text lines : List ℕ) (count : ℕ) (told : List ℕ) → config_of config_text ≡ Ok config
    → SpellsWire (names_in config) (resources_in config) seen line item → PlayIs config new (wire_more seen item) → lines ≡ wire_text (names_in config) seen → count ≡ wire_lines seen
    → told ≡ tape_text (names_in config) (seen_tape config (wire_more seen item)) → Played new config_text (lines ++ (line ++ newline)) (suc count) told
stands_more config new seen line item config_text lines count told configured s p le ce te = record {
  config = config;
  configured = configured;
  seen = wire_more seen item;
  plays = p;
  lines_are = ap (λ (v : List ℕ). v ++ (line ++ newline)) le ∙ sym (text_more (names_in config) (resources_in config) seen line item s);
  count_is = ap suc ce ∙ sym (lines_more (names_in config) (resources_in config) seen line item s);
  told_is = te;
}

-- ---- the header
record HeaderNext (config : Config) (seen : WireSeen) (item : WireItem) : Type 0 where
  events : wire_events (wire_more seen item) ≡ wire_events seen
  may : IsRelaySeen config (wire_more seen item)

header_next : (config : Config) (seen : WireSeen) (line : List ℕ) (item : WireItem) → SpellsWire (names_in config) (resources_in config) seen line item → read.Header ≡ wire_read item → HeaderNext config seen item
header_next config NoLine line WireHeader s e = record { events = refl; may = tt }
header_next config NoLine line (WireEvent x) s e = absurd s.may
header_next config (Behind es) line WireHeader s e = absurd s.may
header_next config (Behind es) line (WireEvent x) s e = cc

pub header_line_played : (old : RelayPlay) (line : List ℕ) (lines : WireLines) (new : RelayPlay) (text_old text_new : List ℕ) → ReadsWireLine old.lines line lines (Ok read.Header) → new.lines ≡ lines → new.relay ≡ old.relay
    → new.log ≡ old.log → text_new ≡ text_old → PlaysLine relay_kind old line text_old new text_new (Ok went.On)
header_line_played old line lines new text_old text_new r es er el et = record {
  goes = λ config_text before count told k.
      let a : AcceptsWire (names_in k.config) (resources_in k.config) k.seen line lines read.Header = r.goes (names_in k.config) (resources_in k.config) k.seen k.plays.lines in
      let n = header_next k.config k.seen line a.item a.spells a.read in
      let same : seen_tape k.config (wire_more k.seen a.item) ≡ seen_tape k.config k.seen = ap (relay_tape (limit_of k.config)) n.events in
      let W : WireLines → Type 0 = λ v. WireLinesAre v (names_in k.config) (resources_in k.config) (wire_more k.seen a.item) in
      let R : Relay → Type 0 = λ v. Rests (limit_of k.config) (names_in k.config) v (seen_tape k.config k.seen) in
      let S : Tape → Type 0 = λ v. Rests (limit_of k.config) (names_in k.config) new.relay v in
      let L : RelayLog → Type 0 = λ v. RelayLogIs (limit_of k.config) v (seen_tape k.config k.seen) in
      let M : Tape → Type 0 = λ v. RelayLogIs (limit_of k.config) new.log v in
      record {
        added = [];
        text = et ∙ sym (append-nil text_old);
        stands = stands_more k.config new k.seen line a.item config_text before count (told ++ []) k.configured a.spells
            (record {
              named = k.plays.named;
              lines = subst W (sym es) a.lines;
              rests = subst S (sym same) (subst R (sym er) k.plays.rests);
              logs = subst M (sym same) (subst L (sym el) k.plays.logs);
              may = n.may;
              shown = ap (λ (v : Tape). events_back v) same ∙ k.plays.shown ∙ sym n.events;
            })
            k.lines_are k.count_is (append-nil told ∙ k.told_is ∙ ap (tape_text (names_in k.config)) (sym same));
      };
}

-- ---- a line that is refused
pub line_refused : (old : RelayPlay) (line : List ℕ) (lines : WireLines) (new : RelayPlay) (text_old text_new : List ℕ) → ReadsWireLine old.lines line lines (Ok read.Refused) → text_new ≡ text_old
    → PlaysLine relay_kind old line text_old new text_new (Ok went.Refused)
line_refused old line lines new text_old text_new r et = record {
  goes = λ config_text before count told k. (record { goes = λ config seen p. spells_none config seen line (r.goes (names_in config) (resources_in config) seen p.lines).none }, et);
}

no_limits : (item : WireItem) (l : PlainLimits) → read.Limits l ≡ wire_read item → ⊥
no_limits WireHeader l e = cc
no_limits (WireEvent x) l e = cc

pub limits_refused : (old : RelayPlay) (line : List ℕ) (lines : WireLines) (l : PlainLimits) (new : RelayPlay) (text_old text_new : List ℕ) → ReadsWireLine old.lines line lines (Ok (read.Limits l)) → text_new ≡ text_old
    → PlaysLine relay_kind old line text_old new text_new (Ok went.Refused)
limits_refused old line lines l new text_old text_new r et = record {
  goes = λ config_text before count told k.
      let a : AcceptsWire (names_in k.config) (resources_in k.config) k.seen line lines (read.Limits l) = r.goes (names_in k.config) (resources_in k.config) k.seen k.plays.lines in
      absurd (no_limits a.item l a.read);
}

-- ---- an event line
-- the header stands before it, and it may come
record EventNext (config : Config) (seen : WireSeen) (item : WireItem) (e : Event) : Type 0 where
  is : item ≡ WireEvent e
  may : MayCome (names_in config) (wire_events seen) e
  more : wire_events (wire_more seen item) ≡ e ∷ wire_events seen
  follows : reads_paused (limit_of config) e (relay_tape (limit_of config) (wire_events seen)) ≡ false → IsRelaySeen config seen → IsRelaySeen config (wire_more seen item)
  held : reads_paused (limit_of config) e (relay_tape (limit_of config) (wire_events seen)) ≡ true → MayComeRelay config seen item → ⊥

differ : (b : Bool) → b ≡ true → b ≡ false → ⊥
differ b t f = cc

same_event : (x e : Event) → read.Event e ≡ read.Event x → x ≡ e
same_event x e q = cc

event_next : (config : Config) (seen : WireSeen) (line : List ℕ) (item : WireItem) (e : Event) → SpellsWire (names_in config) (resources_in config) seen line item → read.Event e ≡ wire_read item → EventNext config seen item e
event_next config seen line WireHeader e s q = cc
event_next config NoLine line (WireEvent x) e s q = absurd s.may
event_next config (Behind es) line (WireEvent x) e s q =
    let same : x ≡ e = same_event x e q in
    let P : Event → Type 0 = λ v. MayCome (names_in config) es v in
    record {
      is = ap WireEvent same;
      may = subst P same (comes (names_in config) (resources_in config) es x s.may);
      more = ap (λ v. v ∷ es) same;
      follows = λ free k. (record { wire = s.may; backs_off = ap (λ v. reads_paused (limit_of config) v (relay_tape (limit_of config) es)) same ∙ free }, k);
      held = λ paused m. differ (reads_paused (limit_of config) x (relay_tape (limit_of config) es)) (ap (λ v. reads_paused (limit_of config) v (relay_tape (limit_of config) es)) same ∙ paused) m.backs_off;
    }

module _ (old mid : RelayPlay) (line : List ℕ) (e : Event) (r : ReadsWireLine old.lines line mid.lines (Ok (read.Event e))) (er : mid.relay ≡ old.relay) (el : mid.log ≡ old.log)
    (config : Config) (seen : WireSeen) (p : PlayIs config old seen) where
  abbrev limit : ℕ
  limit = limit_of config

  abbrev names : List (List ℕ)
  names = names_in config

  abbrev tape : Tape
  tape = seen_tape config seen

  pub taken : AcceptsWire names (resources_in config) seen line mid.lines (read.Event e)
  taken = r.goes names (resources_in config) seen p.lines

  next : EventNext config seen taken.item e
  next = event_next config seen line taken.item e taken.spells taken.read

  rests : Rests limit names mid.relay tape
  rests = let P : Relay → Type 0 = λ v. Rests limit names v tape in subst P (sym er) p.rests

  logs : RelayLogIs limit mid.log tape
  logs = let P : RelayLog → Type 0 = λ v. RelayLogIs limit v tape in subst P (sym el) p.logs

  may : MayCome names (events_back tape) e
  may = let P : List Event → Type 0 = λ v. MayCome names v e in subst P (sym p.shown) next.may

  pub can_take : CanTake mid e
  can_take = record { limit = limit; names = names; history = tape; named = taken.lines.names_are; rests = rests; may = may }

  done : (new : RelayPlay) (text_old text_new : List ℕ) (result : Result Went NoMemory) → PlaysEvent mid e text_old new text_new result → DispatchedAs limit names mid e new tape text_old text_new result
  done new text_old text_new result q = q.goes limit names tape taken.lines.names_are rests may logs

  -- it reads no paused flow, and it was dispatched
  module _ (new : RelayPlay) (text_old text_new : List ℕ) (d : Dispatched limit names mid e new tape text_old text_new) where
    abbrev more : WireSeen
    more = wire_more seen taken.item

    shows : events_back d.history ≡ wire_events more
    shows = d.events ∙ ap (λ (v : List Event). e ∷ v) p.shown ∙ sym next.more

    whole : d.history ≡ seen_tape config more
    whole = d.rests.tape.is ∙ ap (relay_tape limit) shows

    free : reads_paused limit e (relay_tape limit (wire_events seen)) ≡ false
    free = let P : List Event → Type 0 = λ v. MayRelayAll limit names v in
        (subst P (shows ∙ next.more) d.rests.tape.follows).0.backs_off

    pub plays_more : PlayIs config new more
    plays_more = record {
      named = p.named;
      lines = (let P : WireLines → Type 0 = λ v. WireLinesAre v names (resources_in config) more in subst P (sym d.lines) taken.lines);
      rests = (let P : Tape → Type 0 = λ v. Rests limit names new.relay v in subst P whole d.rests);
      logs = (let P : Tape → Type 0 = λ v. RelayLogIs limit new.log v in subst P whole d.logs);
      may = next.follows free p.may;
      shown = ap (λ (v : Tape). events_back v) (sym whole) ∙ shows;
    }

    pub told_more : (told : List ℕ) → told ≡ tape_text names tape → told ++ d.added ≡ tape_text names (seen_tape config more)
    told_more told e = ap (λ (v : List ℕ). v ++ d.added) e ∙ sym d.tape ∙ ap (tape_text names) whole

  -- it reads a paused flow, so the line spells nothing that may come
  pub none_may : reads_paused limit e tape ≡ true → SpellsNoRelay config seen line
  none_may paused = λ item s.
      let P : WireItem → Type 0 = λ v. MayComeRelay config seen v in
      next.held paused (subst P (one_item names (resources_in config) seen line item taken.item p.named (spells_wire config seen line item s) taken.spells) s.may)

pub event_line_played : (old mid : RelayPlay) (line : List ℕ) (e : Event) (text_old : List ℕ) (new : RelayPlay) (text_new : List ℕ) (result : Result Went NoMemory) → ReadsWireLine old.lines line mid.lines (Ok (read.Event e))
    → mid.relay ≡ old.relay → mid.log ≡ old.log → PlaysEvent mid e text_old new text_new result → PlaysLine relay_kind old line text_old new text_new result
event_line_played old mid line e text_old new text_new result r er el p = by result p
  where
    by : (result : Result Went NoMemory) → PlaysEvent mid e text_old new text_new result → PlaysLine relay_kind old line text_old new text_new result
    by (Ok went.On) p = record {
      goes = λ config_text before count told k.
          let d : Dispatched (limit_of k.config) (names_in k.config) mid e new (seen_tape k.config k.seen) text_old text_new = done old mid line e r er el k.config k.seen k.plays new text_old text_new (Ok went.On) p in
          let a = taken old mid line e r er el k.config k.seen k.plays in
          record {
            added = d.added;
            text = d.text;
            stands = stands_more k.config new k.seen line a.item config_text before count (told ++ d.added) k.configured a.spells
                (plays_more old mid line e r er el k.config k.seen k.plays new text_old text_new d) k.lines_are k.count_is
                (told_more old mid line e r er el k.config k.seen k.plays new text_old text_new d told k.told_is);
          };
    }
    by (Ok went.Refused) p = record {
      goes = λ config_text before count told k. (
        record { goes = λ config seen q. none_may old mid line e r er el config seen q (done old mid line e r er el config seen q new text_old text_new (Ok went.Refused) p).paused },
        (done old mid line e r er el k.config k.seen k.plays new text_old text_new (Ok went.Refused) p).text,
      );
    }
    by (Err x) p = record { goes = λ config_text before count told k. done old mid line e r er el k.config k.seen k.plays new text_old text_new (Err x) p }

pub event_taken : (old mid : RelayPlay) (line : List ℕ) (e : Event) → ReadsWireLine old.lines line mid.lines (Ok (read.Event e)) → mid.relay ≡ old.relay → mid.log ≡ old.log → IsPlaying relay_kind old → CanTake mid e
event_taken old mid line e r er el k = can_take old mid line e r er el k.stands.config k.stands.seen k.stands.plays

-- what a line was read as
pub read_as : (old new : WireLines) (line : List ℕ) (found answer : LineRead) → found ≡ answer → ReadsWireLine old line new (Ok found) → ReadsWireLine old line new (Ok answer)
read_as old new line found answer e r = let P : LineRead → Type 0 = λ v. ReadsWireLine old line new (Ok v) in subst P e r

-- ---- before the first line
pub play_begun : (config : Config) (play : RelayPlay) (own : List (List ℕ)) (n : ℕ) → own ≡ names_in config → AreNames own → n ≡ resources_in config → WireLinesAre play.lines own n NoLine
    → ((ns : List (List ℕ)) → Rests (limit_of config) ns play.relay []) → RelayLogIs (limit_of config) play.log [] → (text : List ℕ) → config_of text ≡ Ok config → Begins relay_kind play text
play_begun config play own n en are er w r l text configured =
    let A : List (List ℕ) → Type 0 = λ v. AreNames v in
    let W : List (List ℕ) → Type 0 = λ v. WireLinesAre play.lines v n NoLine in
    let V : ℕ → Type 0 = λ v. WireLinesAre play.lines (names_in config) v NoLine in
    record {
      stands = record {
        config = config;
        configured = configured;
        seen = NoLine;
        plays = record { named = subst A en are; lines = subst V er (subst W en w); rests = r (names_in config); logs = l; may = tt; shown = refl };
        lines_are = refl;
        count_is = refl;
        told_is = refl;
      };
    }

-- ---- the summary of the log's tape
pub play_sum_ends : (play : RelayPlay) (old new : List ℕ) (r : Result (Unit {0}) NoMemory) → OnOk r (Summarizes play.log old new) → OnOk r (AddsSummary relay_kind play old new)
play_sum_ends play old new (Ok x) s = record { added = s.added; text = s.is; sums = s.sums }
play_sum_ends play old new (Err x) s = tt
