-- Lines that are played.
use Rattle.flow_notes.specs.Event.{IsEvent, event_spelling}
use Rattle.flow_notes.specs.Line.{newline}
use Rattle.flow_notes.specs.Name.{AreNames}
use Rattle.flow_notes.specs.Note.{IsNote}
use Rattle.flow_notes.specs.declared.events.Event.{Event}
use Rattle.flow_notes.specs.declared.notes.Note.{Note}
use Rattle.io_ports.specs.declared.octets.NoMemory.{NoMemory}
use Rattle.config_tables.specs.Reading.{config_of}
use Rattle.proxy_config.specs.declared.config.Config.{Config}
use Rattle.proxy_config.specs.declared.routes.Route.{Route}
use Rattle.session_config.specs.ClusterNames.{names_in, resources_in}
use Rattle.session_lines.specs.WireLines.{Behind, IsWireSeen, NoLine, ReadsWireLine, SpellsWire, WireEvent, WireHeader, WireItem, WireLinesAre, WireSeen, wire_event_lines, wire_events, wire_header, wire_lines, wire_more, wire_read, wire_text}
use Rattle.session_lines.specs.declared.order.LineRead.{LineRead}
use Rattle.session_lines.specs.declared.wire_lines.WireLines.{WireLines}
use Rattle.session_run.specs.Players.{AddsSummary, IsPlaying, PlayedAs, PlaysLine}
use Rattle.session_run.specs.Runs.{Begins}
use Rattle.session_run.specs.declared.player.Went.{Went}
use Rattle.std.proofs.Common.{ap, append_assoc, arith, inl, inr, refl, subst, sym, ◌∙◌}
use Rattle.std.proofs.lemmas.List.{append-nil}
use Rattle.std.specs.List.{AllByRecursion}
use Rattle.std.specs.Prelude.{Err, IfSome, List, None, Ok, OnOk, Option, Result, [], false, suc, ℕ, ◌++◌, ◌+◌, ◌<◌, ◌∷◌, ◌≡◌, ◌≤◌, ◌⊎◌}
use Rattle.tape_laws.specs.Dispatches.{events_back}
use Rattle.tape_laws.specs.History.{History, NoMark, onto}
use Rattle.tape_laws.specs.declared.PlainLimits.{PlainLimits}
use Rattle.tape_summary.specs.NotesText.{notes_text}
use Rattle.wire_run.proofs.Noting.{dispatch_adds, onto_text, renamed}
use Rattle.wire_run.proofs.Staging.{rows_agree}
use Rattle.wire_run.proofs.Standing.{new_to, none_left, stands_first, stands_on}
use Rattle.wire_run.specs.Passing.{CarriesOn, PassesAll, row_told}
use Rattle.wire_run.specs.Played.{DispatchedAs, PlayRests, Played, PlaysEvent, wire_kind}
use Rattle.wire_run.specs.Rows.{limits_of, passes}
use Rattle.wire_run.specs.Stages.{AreStages, IsRow}
use Rattle.wire_run.specs.Tapes.{WireTape}
use Rattle.wire_run.specs.Worlds.{IsNewTo}
use Rattle.wire_run.specs.declared.play.WirePlay.{WirePlay}
use Rattle.wire_run.specs.declared.stages.StageTable.{StageTable}
use Rattle.wire_state.specs.Marks.{row_in}
use Rattle.wire_state.specs.Sound.{IsSound}
use Rattle.wire_state.specs.Worlds.{Rests}
use Rattle.wire_summary.specs.Levels.{StageLimits, known_limits}
use Rattle.wire_summary.specs.Logging.{WireLogIs, WireLogs}
use Rattle.wire_summary.specs.declared.levels.BufferLimits.{BufferLimits}
use Rattle.wire_summary.specs.declared.log.WireLog.{WireLog}
use Rattle.worker_core.specs.Dispatching.{Dispatches, Tells}
use Rattle.wire_summary.specs.Summarizes.{Summarizes}
use Rattle.session_lines.specs.declared.order.LineRead.TheVariants as read
use Rattle.session_run.specs.declared.player.Went.TheVariants as went

-- ---- one event

-- what a dispatch that was carried out leaves
carried_rests : (old new : WirePlay) (e : Event) (config : Config) (h : History NoMark) → CarriesOn old e new → IsNewTo e h → PlayRests old config h → PlayRests new config (onto new.notes h)
carried_rests old new e config h c new_one k =
    let adds = dispatch_adds (old.session.turn + 1) e new.notes h c.dispatches.notes in
    let table : AreStages new.stages.rows.items config.routes = (let P : StageTable → Type 0 = λ v. AreStages v.rows.items config.routes in subst P (sym c.stages) k.stages) in
    let on = stands_on old.session new.session config e new.notes h c.dispatches new_one k.octets in
    record {
      well = c.dispatches.well;
      sound = c.dispatches.sound;
      turn = c.dispatches.turn ∙ ap (λ n. n + 1) k.turn ∙ sym adds.turned;
      logs = c.logs.goes (limits_of config) h (c.passes.goes (limits_of config) h k.logs);
      stages = table;
      octets = on.stands;
      rows = on.rows old.stages.rows.items old.log c.before new.log k.stages c.passes c.logs k.rows;
    }

carried_tape : (old new : WirePlay) (e : Event) (config : Config) (h : History NoMark) (seen after : WireSeen) → CarriesOn old e new → IsNewTo e h → PlayRests old config h → IsEvent (names_in config) e
    → WireTape config seen h → wire_events after ≡ e ∷ wire_events seen → IsWireSeen (names_in config) (resources_in config) after → WireTape config after (onto new.notes h)
carried_tape old new e config h seen after c new_one k is t next may =
    let adds = dispatch_adds (old.session.turn + 1) e new.notes h c.dispatches.notes in
    record {
      may = may;
      shown = adds.shown ∙ ap (λ es. e ∷ es) t.shown ∙ sym next;
      in_order = adds.ordered (ap (λ n. n + 1) k.turn) t.in_order;
      spelled = adds.told (names_in config) (omega arith) is t.spelled;
      octets = (stands_on old.session new.session config e new.notes h c.dispatches new_one k.octets).stands.world;
    }

-- the notes have a spelling with the names of the lines
pub notes_spelled : (old new : WirePlay) (e : Event) (names : List (List ℕ)) → CarriesOn old e new → IsEvent old.lines.names e → names ≡ new.lines.names → AllByRecursion (IsNote names) new.notes
notes_spelled old new e names c is same =
    let adds = dispatch_adds (old.session.turn + 1) e new.notes [] c.dispatches.notes in
    let P : List (List ℕ) → Type 0 = λ v. AllByRecursion (IsNote v) new.notes in
    subst P (sym (same ∙ ap (λ v. v.names) c.lines)) (adds.spelled old.lines.names (omega arith) is)

pub event_played : (old new : WirePlay) (e : Event) (names : List (List ℕ)) (text_old text_new : List ℕ) → CarriesOn old e new → IsEvent old.lines.names e → names ≡ new.lines.names → text_new ≡ text_old ++ notes_text names new.notes
    → PlaysEvent old e text_old new text_new (Ok went.On)
event_played old new e names text_old text_new c is same told = record {
  goes = λ config h named new_one k. record {
    history = onto new.notes h;
    notes = new.notes;
    tells = (let P : ℕ → Type 0 = λ n. Tells (n + 1) e [] new.notes in subst P k.turn c.dispatches.notes);
    behind = refl;
    added = notes_text (names_in config) new.notes;
    rests = carried_rests old new e config h c new_one k;
    tape = λ seen after t next may. carried_tape old new e config h seen after c new_one k (renamed old.lines.names (names_in config) e named is) t next may;
    told = onto_text (names_in config) new.notes h;
    text = told ∙ ap (λ (v : List (List ℕ)). text_old ++ notes_text v new.notes) (same ∙ ap (λ v. v.names) c.lines ∙ named);
    lines = c.lines;
  };
}

-- ---- lines

-- what a line was read as
pub read_as : (old new : WireLines) (line : List ℕ) (found answer : LineRead) → found ≡ answer → ReadsWireLine old line new (Ok found) → ReadsWireLine old line new (Ok answer)
read_as old new line found answer e r = let P : LineRead → Type 0 = λ v. ReadsWireLine old line new (Ok v) in subst P e r

-- the text of the lines with one more
pub text_more : (names : List (List ℕ)) (resources : ℕ) (seen : WireSeen) (line : List ℕ) (item : WireItem) → SpellsWire names resources seen line item
    → wire_text names (wire_more seen item) ≡ wire_text names seen ++ (line ++ newline)
text_more names resources NoLine line WireHeader s = append-nil (wire_header ++ newline) ∙ ap (λ (v : List ℕ). v ++ newline) s.is
text_more names resources NoLine line (WireEvent e) s = absurd s.may
text_more names resources (Behind es) line WireHeader s = absurd s.may
text_more names resources (Behind es) line (WireEvent e) s =
    sym (append_assoc (wire_header ++ newline) (wire_event_lines names es) (event_spelling names e ++ newline)) ∙ ap (λ (v : List ℕ). wire_text names (Behind es) ++ (v ++ newline)) s.is

lines_more : (names : List (List ℕ)) (resources : ℕ) (seen : WireSeen) (line : List ℕ) (item : WireItem) → SpellsWire names resources seen line item → wire_lines (wire_more seen item) ≡ suc (wire_lines seen)
lines_more names resources NoLine line WireHeader s = refl
lines_more names resources NoLine line (WireEvent e) s = absurd s.may
lines_more names resources (Behind es) line WireHeader s = absurd s.may
lines_more names resources (Behind es) line (WireEvent e) s = refl

-- the header, behind which nothing has happened yet
header_tape : (config : Config) (seen : WireSeen) (line : List ℕ) (item : WireItem) (h : History NoMark) → SpellsWire (names_in config) (resources_in config) seen line item → read.Header ≡ wire_read item → WireTape config seen h → WireTape config (wire_more seen item) h
header_tape config NoLine line WireHeader h s e t = record { may = tt; shown = t.shown; in_order = t.in_order; spelled = t.spelled; octets = t.octets }
header_tape config (Behind es) line WireHeader h s e t = absurd s.may
header_tape config seen line (WireEvent f) h s e t = cc

-- an event that may come
record NextEvent (config : Config) (seen : WireSeen) (item : WireItem) (e : Event) : Type 0 where
  range : IsEvent (names_in config) e
  events : wire_events (wire_more seen item) ≡ e ∷ wire_events seen
  may : IsWireSeen (names_in config) (resources_in config) seen → IsWireSeen (names_in config) (resources_in config) (wire_more seen item)
  fresh : (h : History NoMark) → events_back h ≡ wire_events seen → IsNewTo e h

next_event : (config : Config) (seen : WireSeen) (line : List ℕ) (item : WireItem) (e : Event) → SpellsWire (names_in config) (resources_in config) seen line item → read.Event e ≡ wire_read item → NextEvent config seen item e
next_event config seen line WireHeader e s q = cc
next_event config NoLine line (WireEvent f) e s q = absurd s.may
next_event config (Behind es) line (WireEvent f) e s q =
    let same : f ≡ e = cc in
    record {
      range = (let P : Event → Type 0 = λ v. IsEvent (names_in config) v in subst P same s.may.0);
      events = ap (λ v. v ∷ es) same;
      may = λ m. (s.may, m);
      fresh = λ h shown. (let P : Event → Type 0 = λ v. IsNewTo v h in subst P same (new_to (resources_in config) f es h s.may.2 shown));
    }

-- where lines alone were read, the play rests as it did
pub lines_read : (old new : WirePlay) → new.session ≡ old.session → new.stages ≡ old.stages → new.log ≡ old.log → (config : Config) (h : History NoMark) → PlayRests old config h → PlayRests new config h
lines_read old new es et el config h k = record {
  well = ap (λ v. v.failed) es ∙ k.well;
  sound = rw es k.sound;
  turn = ap (λ v. v.turn) es ∙ k.turn;
  logs = rw el k.logs;
  stages = rw et k.stages;
  octets = record { under = ap (λ v. v.core.config) es ∙ k.octets.under; world = k.octets.world; stands = rw es k.octets.stands };
  rows = rw el k.rows;
}

pub header_played : (old new : WirePlay) (line text_old text_new : List ℕ) → ReadsWireLine old.lines line new.lines (Ok read.Header) → new.session ≡ old.session → new.stages ≡ old.stages → new.log ≡ old.log → text_new ≡ text_old
    → PlaysLine wire_kind old line text_old new text_new (Ok went.On)
header_played old new line text_old text_new r es et el tt_is = record {
  goes = λ config lines count told k.
      let a = r.goes (names_in k.config) (resources_in k.config) k.seen k.read in
      record {
        added = [];
        text = tt_is ∙ sym (append-nil text_old);
        stands = record {
          config = k.config;
          configured = k.configured;
          named = k.named;
          seen = wire_more k.seen a.item;
          history = k.history;
          read = a.lines;
          rests = lines_read old new es et el k.config k.history k.rests;
          tape = header_tape k.config k.seen line a.item k.history a.spells a.read k.tape;
          lines_are = ap (λ (v : List ℕ). v ++ (line ++ newline)) k.lines_are ∙ sym (text_more (names_in k.config) (resources_in k.config) k.seen line a.item a.spells);
          count_is = ap suc k.count_is ∙ sym (lines_more (names_in k.config) (resources_in k.config) k.seen line a.item a.spells);
          told_is = append-nil told ∙ k.told_is;
        };
      };
}

pub line_refused : (old : WirePlay) (line : List ℕ) (new : WirePlay) (lines : WireLines) (text_old text_new : List ℕ) → ReadsWireLine old.lines line lines (Ok read.Refused) → text_new ≡ text_old
    → PlaysLine wire_kind old line text_old new text_new (Ok went.Refused)
line_refused old line new lines text_old text_new r et = record { goes = λ config ls count told k. (record { goes = λ names resources seen w. (r.goes names resources seen w).none }, et) }

-- no line of a wire session is a line of limits
pub limits_refused : (old : WirePlay) (line : List ℕ) (new : WirePlay) (lines : WireLines) (limits : PlainLimits) (text_old text_new : List ℕ) → ReadsWireLine old.lines line lines (Ok (read.Limits limits)) → text_new ≡ text_old
    → PlaysLine wire_kind old line text_old new text_new (Ok went.Refused)
limits_refused old line new lines limits text_old text_new r et = record { goes = λ config ls count told k. (record { goes = λ names resources seen w. (let a = r.goes names resources seen w in absurd (other a.item a.read)) }, et) }
  where
    other : (item : WireItem) → read.Limits limits ≡ wire_read item → ⊥
    other WireHeader e = cc
    other (WireEvent e) q = cc

-- it is either
pub none_played : (old : WirePlay) (line : List ℕ) (new : WirePlay) (lines : WireLines) (found : LineRead) (text_old text_new : List ℕ) → ((limits : PlainLimits) × (found ≡ read.Limits limits)) ⊎ (found ≡ read.Refused) → ReadsWireLine old.lines line lines (Ok found)
    → text_new ≡ text_old → PlaysLine wire_kind old line text_old new text_new (Ok went.Refused)
none_played old line new lines found text_old text_new (inl p) r e = limits_refused old line new lines p.0 text_old text_new (read_as old.lines lines line found (read.Limits p.0) p.1 r) e
none_played old line new lines found text_old text_new (inr p) r e = line_refused old line new lines text_old text_new (read_as old.lines lines line found read.Refused p r) e

pub event_sound : (old : WirePlay) → IsPlaying wire_kind old → old.session.failed ≡ false → IsSound old.session.core
event_sound old k well = k.stands.rests.sound

pub event_range : (old : WirePlay) (line : List ℕ) (e : Event) (lines : WireLines) → ReadsWireLine old.lines line lines (Ok (read.Event e)) → IsPlaying wire_kind old → IsEvent lines.names e
event_range old line e lines r k =
    let a = r.goes (names_in k.stands.config) (resources_in k.stands.config) k.stands.seen k.stands.read in
    let n = next_event k.stands.config k.stands.seen line a.item e a.spells a.read in
    let P : List (List ℕ) → Type 0 = λ v. IsEvent v e in
    subst P (sym a.lines.names_are) n.range

pub event_line_played : (old mid : WirePlay) (line : List ℕ) (e : Event) (text_old : List ℕ) (new : WirePlay) (text_new : List ℕ) (result : Result Went NoMemory) → ReadsWireLine old.lines line mid.lines (Ok (read.Event e))
    → mid.session ≡ old.session → mid.stages ≡ old.stages → mid.log ≡ old.log → PlaysEvent mid e text_old new text_new result → PlaysLine wire_kind old line text_old new text_new result
event_line_played old mid line e text_old new text_new result r es et el p = record {
  goes = λ config lines count told k.
      let a = r.goes (names_in k.config) (resources_in k.config) k.seen k.read in
      let n = next_event k.config k.seen line a.item e a.spells a.read in
      by config lines count told k result (p.goes k.config k.history a.lines.names_are (n.fresh k.history k.tape.shown) (rests k.config k.history k.rests));
}
  where
    rests : (config : Config) (h : History NoMark) → PlayRests old config h → PlayRests mid config h
    rests config h k = record {
      well = ap (λ v. v.failed) es ∙ k.well;
      sound = rw es k.sound;
      turn = ap (λ v. v.turn) es ∙ k.turn;
      logs = rw el k.logs;
      stages = rw et k.stages;
      octets = record { under = ap (λ v. v.core.config) es ∙ k.octets.under; world = k.octets.world; stands = rw es k.octets.stands };
      rows = rw el k.rows;
    }

    by : (config lines : List ℕ) (count : ℕ) (told : List ℕ) (k : Played old config lines count told) (result : Result Went NoMemory) → DispatchedAs mid e new k.config k.history text_old text_new result → PlayedAs wire_kind old new line config lines count told text_old text_new result
    by config lines count told k (Ok went.On) d =
        let a = r.goes (names_in k.config) (resources_in k.config) k.seen k.read in
        let n = next_event k.config k.seen line a.item e a.spells a.read in
        record {
          added = d.added;
          text = d.text;
          stands = record {
            config = k.config;
            configured = k.configured;
            named = k.named;
            seen = wire_more k.seen a.item;
            history = d.history;
            read = (let P : WireLines → Type 0 = λ v. WireLinesAre v (names_in k.config) (resources_in k.config) (wire_more k.seen a.item) in subst P (sym d.lines) a.lines);
            rests = d.rests;
            tape = d.tape k.seen (wire_more k.seen a.item) k.tape n.events (n.may k.tape.may);
            lines_are = ap (λ (v : List ℕ). v ++ (line ++ newline)) k.lines_are ∙ sym (text_more (names_in k.config) (resources_in k.config) k.seen line a.item a.spells);
            count_is = ap suc k.count_is ∙ sym (lines_more (names_in k.config) (resources_in k.config) k.seen line a.item a.spells);
            told_is = ap (λ (v : List ℕ). v ++ d.added) k.told_is ∙ sym d.told;
          };
        }
    by config lines count told k (Ok went.Refused) d = absurd d
    by config lines count told k (Err x) d = d

-- ---- before the first line

pub play_begins : (play : WirePlay) (config : Config) (text : List ℕ) (names : List (List ℕ)) (resources : ℕ) (limits : BufferLimits) (routes : List Route) → config_of text ≡ Ok config
    → names ≡ names_in config → AreNames names → resources ≡ resources_in config → WireLinesAre play.lines names resources NoLine → play.session.failed ≡ false → IsSound play.session.core → play.session.turn ≡ 0
    → play.session.core.config ≡ config → Rests play.session.core.config.limits play.session.core.conns play.session.core.flows play.session.core.links [] → limits ≡ limits_of config → WireLogIs limits play.log [] → ((x : ℕ) → known_limits play.log.levels x ≡ None)
    → routes ≡ config.routes → AreStages play.stages.rows.items routes → Begins wire_kind play text
play_begins play config text names resources limits routes configured names_are known resources_are lines well sound turn same octets limits_are logs unsaid routes_are stages = record {
  stands = record {
    config = config;
    configured = configured;
    named = (let P : List (List ℕ) → Type 0 = λ v. AreNames v in subst P names_are known);
    seen = NoLine;
    history = [];
    read =
        let P : ℕ → Type 0 = λ n. WireLinesAre play.lines names n NoLine in
        let Q : List (List ℕ) → Type 0 = λ v. WireLinesAre play.lines v (resources_in config) NoLine in
        subst Q names_are (subst P resources_are lines);
    rests = record {
      well = well;
      sound = sound;
      turn = turn;
      logs = (let P : BufferLimits → Type 0 = λ v. WireLogIs v play.log [] in subst P limits_are logs);
      stages = (let P : List Route → Type 0 = λ v. AreStages play.stages.rows.items v in subst P routes_are stages);
      octets = stands_first play.session config same octets;
      rows = record {
        each = λ x. (let P : Option StageLimits → Type 0 = λ v. IfSome v (IsRow config.routes None) in subst P (sym (unsaid x)) tt);
        all = λ x some most. absurd (none_given x some most);
        none = λ x over. unsaid x;
      };
    };
    tape = record { may = tt; shown = refl; in_order = tt; spelled = tt; octets = none_left config };
    lines_are = refl;
    count_is = refl;
    told_is = refl;
  };
}
  where
    none_given : (x : ℕ) → 0 < x → x ≤ 0 → ⊥
    none_given x some most = omega (arith, some, most)

-- ---- the summary

pub play_summed : (play : WirePlay) (old new : List ℕ) (r : Result (Unit {0}) NoMemory) → OnOk r (Summarizes play.log old new) → OnOk r (AddsSummary wire_kind play old new)
play_summed play old new (Ok x) s = record {
  added = s.added;
  text = s.is;
  sums = record {
    goes = λ config h k. s.goes (limits_of config) (passes config.routes (λ x. row_in x k.octets.world.marked)) h k.logs (rows_agree config.routes play.log.levels k.octets.world.marked k.rows);
  };
}
play_summed play old new (Err x) s = tt

-- ---- a dispatch that was carried out

pub carried : (old new : WirePlay) (e : Event) (cleared : List Note) (before : WireLog) (r : Result (Unit {0}) NoMemory) → cleared ≡ [] → Dispatches old.session cleared e new.session new.notes → PassesAll old.stages.rows.items (row_told new.session) new.notes old.log before
    → OnOk r (WireLogs before new.notes new.log) → new.stages ≡ old.stages → new.lines ≡ old.lines → OnOk r (CarriesOn old e new)
carried old new e cleared before (Ok u) none d p l es el =
    let P : List Note → Type 0 = λ v. Dispatches old.session v e new.session new.notes in
    record { before = before; dispatches = subst P none d; passes = p; logs = l; stages = es; lines = el }
carried old new e cleared before (Err x) none d p l es el = tt
