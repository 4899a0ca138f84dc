-- Lines that are played.
use Rattle.flow_notes.specs.Event.{IsEvent, event_spelling}
use Rattle.flow_notes.specs.Line.{newline}
use Rattle.flow_notes.specs.declared.events.Event.{Event}
use Rattle.flow_notes.specs.declared.notes.Note.{Note}
use Rattle.io_ports.specs.declared.octets.NoMemory.{NoMemory}
use Rattle.replay_run.specs.SeenTape.{HasLimits, IsSeen}
use Rattle.tape_summary.specs.Logging.{TapeLogIs, TapeLogs}
use Rattle.tape_summary.specs.NotesText.{notes_text}
use Rattle.tape_summary.specs.Summarizes.{Summarizes}
use Rattle.session_lines.specs.Orders.{Accepts, OrderIs, ReadsLine, read_of}
use Rattle.replay_run.specs.Played.{DispatchedAs, Played, PlaysEvent, plain_kind}
use Rattle.session_run.specs.Players.{AddsSummary, IsPlaying, PlayedAs, PlaysLine}
use Rattle.session_run.specs.Runs.{Begins}
use Rattle.session_lines.specs.Seen.{EventOf, Headed, HeaderOf, Item, LimitsOf, Playing, Seen, Spells, Unread, are_limits, event_lines, header_line, is_quantum, limits_line, seen_events, seen_lines, seen_more, seen_text}
use Rattle.session_lines.specs.declared.order.Format.{Format}
use Rattle.session_lines.specs.declared.order.LineRead.{LineRead}
use Rattle.session_lines.specs.declared.order.Order.{Order}
use Rattle.replay_run.specs.declared.play.Play.{Play}
use Rattle.session_run.specs.declared.player.Went.{Went}
use Rattle.tape_summary.specs.declared.tape_log.TapeLog.{TapeLog}
use Rattle.std.proofs.Common.{ap, append_assoc, arith, refl, subst, sym, ◌∙◌}
use Rattle.std.proofs.lemmas.Bool.Decides.{nat_tests}
use Rattle.std.proofs.lemmas.Grind.{common_steps}
use Rattle.std.proofs.lemmas.List.{append-nil}
use Rattle.std.specs.List.{AllByRecursion}
use Rattle.flow_notes.specs.Note.{IsNote}
use Rattle.std.specs.Prelude.{Bool, Err, IsTrue, List, Ok, OnOk, Result, [], false, nat_le, suc, true, ℕ, ◌&&◌, ◌++◌, ◌∷◌, ◌≡◌, ◌≤◌}
use Rattle.tape_laws.specs.Dispatches.{events_back}
use Rattle.tape_laws.specs.Following.{MayFollowAll, MayFollowEvent}
use Rattle.tape_laws.specs.History.{History, NoMark, Noted, onto}
use Rattle.tape_laws.specs.PlainTape.{IsPlainWhole}
use Rattle.tape_laws.specs.Text.{note_line, tape_text}
use Rattle.tape_laws.specs.declared.PlainLimits.{PlainLimits}
use Rattle.plain_core.specs.Flows.{AreLimits}
use Rattle.plain_core.specs.Runs.{Turns}
use Rattle.plain_core.specs.Stands.{CanTake, Rests}
use Rattle.plain_core.specs.declared.plain.PlainCore.{PlainCore}
use Rattle.session_lines.specs.declared.order.Format.TheVariants as format
use Rattle.session_lines.specs.declared.order.LineRead.TheVariants as read
use Rattle.session_run.specs.declared.player.Went.TheVariants as went

-- the text of a history with notes after it
pub onto_text : (ns : List Note) (h : History NoMark) → tape_text [] (onto ns h) ≡ tape_text [] h ++ notes_text [] ns
onto_text [] h = sym (append-nil (tape_text [] h))
onto_text (n ∷ ns) h = onto_text ns (Noted n ∷ h) ∙ append_assoc (tape_text [] h) (note_line [] n) (notes_text [] ns)

-- a lawful tape of a core that rests
pub whole_of : (limits : PlainLimits) (core : PlainCore) (h : History NoMark) → Rests limits core h → IsPlainWhole limits h
whole_of limits core h r = r.whole

-- an event that was dispatched
pub event_played : (old : Play) (e : Event) (core : PlainCore) (log : TapeLog) (before notes : List Note) (new : Play) (text_old text_new : List ℕ) → before ≡ [] → Turns old.core before e core notes → TapeLogs old.log notes log
    → new.core ≡ core → new.log ≡ log → new.order ≡ old.order → text_new ≡ text_old ++ notes_text [] notes → PlaysEvent old e text_old new text_new (Ok went.On)
event_played old e core log before notes new text_old text_new none t l ec el eo et =
    let P : List Note → Type 0 = λ v. Turns old.core v e core notes in let k = subst P none t in
    record {
      goes = λ limits h r m g. record {
        history = onto notes h;
        added = notes_text [] notes;
        rests = (let Q : PlainCore → Type 0 = λ v. Rests limits v (onto notes h) in subst Q (sym ec) (k.goes limits h r m));
        logs = (let R : TapeLog → Type 0 = λ v. TapeLogIs limits v (onto notes h) in subst R (sym el) (l.goes limits h (whole_of limits core (onto notes h) (k.goes limits h r m)).lawful g));
        events = k.shows h;
        tape = onto_text notes h;
        text = et;
        order = eo;
      };
    }

-- the text of the lines with one more
event_more : (h l es e n : List ℕ) → h ++ l ++ (es ++ (e ++ n)) ≡ (h ++ l ++ es) ++ (e ++ n)
event_more h l es e n = grind (arith, common_steps)

pub text_more : (seen : Seen) (line : List ℕ) (item : Item) → Spells seen line item → seen_text (seen_more seen item) ≡ seen_text seen ++ (line ++ newline)
text_more Unread line (HeaderOf f) s = ap (λ (v : List ℕ). v ++ newline) s.is
text_more Unread line (LimitsOf l) s = absurd s.may
text_more Unread line (EventOf e) s = absurd s.may
text_more (Headed f) line (HeaderOf g) s = absurd s.may
text_more (Headed f) line (LimitsOf l) s =
    ap (λ (v : List ℕ). (header_line f ++ newline) ++ (v ++ newline) ++ []) s.is ∙ limits_more (header_line f ++ newline) (line ++ newline)
  where
    limits_more : (a b : List ℕ) → a ++ b ++ [] ≡ a ++ b
    limits_more a b = grind (arith, common_steps)
text_more (Headed f) line (EventOf e) s = absurd s.may
text_more (Playing f l es) line (HeaderOf g) s = absurd s.may
text_more (Playing f l es) line (LimitsOf m) s = absurd s.may
text_more (Playing f l es) line (EventOf e) s =
    event_more (header_line f ++ newline) (limits_line f l ++ newline) (event_lines es) (event_spelling [] e) newline
    ∙ ap (λ (v : List ℕ). seen_text (Playing f l es) ++ (v ++ newline)) s.is

-- what stands after each kind of line
pub record Next (seen : Seen) (limits : PlainLimits) (history : History NoMark) (shown : List Event) : Type 0 where
  pub may : IsSeen seen
  pub limited : HasLimits seen limits history
  pub events : seen_events seen ≡ shown

pub header_next : (seen : Seen) (line : List ℕ) (item : Item) (limits : PlainLimits) (h : History NoMark) → Spells seen line item → read.Header ≡ read_of item → HasLimits seen limits h
    → Next (seen_more seen item) limits h (seen_events seen)
header_next Unread line (HeaderOf f) limits h s e k = record { may = tt; limited = k; events = refl }
header_next (Headed g) line (HeaderOf f) limits h s e k = absurd s.may
header_next (Playing g l es) line (HeaderOf f) limits h s e k = absurd s.may
header_next seen line (LimitsOf l) limits h s e k = cc
header_next seen line (EventOf x) limits h s e k = cc

pub limits_next : (seen : Seen) (line : List ℕ) (item : Item) (l limits : PlainLimits) (h : History NoMark) → Spells seen line item → read.Limits l ≡ read_of item → HasLimits seen limits h
    → Next (seen_more seen item) l [] [] × (h ≡ [])
limits_next seen line (HeaderOf f) l limits h s e k = cc
limits_next Unread line (LimitsOf m) l limits h s e k = absurd s.may
limits_next (Headed f) line (LimitsOf m) l limits h s e k = (record { may = (s.may, tt); limited = (let eq : l ≡ m = cc in eq); events = refl }, k)
limits_next (Playing f n es) line (LimitsOf m) l limits h s e k = absurd s.may
limits_next seen line (EventOf x) l limits h s e k = cc

pub event_next : (seen : Seen) (line : List ℕ) (item : Item) (e : Event) (limits : PlainLimits) (h g : History NoMark) → Spells seen line item → read.Event e ≡ read_of item
    → IsSeen seen → HasLimits seen limits h → Next (seen_more seen item) limits g (e ∷ seen_events seen) × (item ≡ EventOf e)
event_next seen line (HeaderOf f) e limits h g s q i k = cc
event_next seen line (LimitsOf l) e limits h g s q i k = cc
event_next Unread line (EventOf x) e limits h g s q i k = absurd s.may
event_next (Headed f) line (EventOf x) e limits h g s q i k = absurd s.may
event_next (Playing f l es) line (EventOf x) e limits h g s q i k =
    let same : x ≡ e = cc in
    (record { may = (i.0, (s.may, i.1)); limited = k; events = ap (λ v. v ∷ es) same }, ap EventOf same)

lines_more : (seen : Seen) (line : List ℕ) (item : Item) → Spells seen line item → seen_lines (seen_more seen item) ≡ suc (seen_lines seen)
lines_more Unread line (HeaderOf f) s = omega arith
lines_more Unread line (LimitsOf l) s = absurd s.may
lines_more Unread line (EventOf e) s = absurd s.may
lines_more (Headed f) line (HeaderOf g) s = absurd s.may
lines_more (Headed f) line (LimitsOf l) s = omega arith
lines_more (Headed f) line (EventOf e) s = absurd s.may
lines_more (Playing f l es) line (HeaderOf g) s = absurd s.may
lines_more (Playing f l es) line (LimitsOf m) s = absurd s.may
lines_more (Playing f l es) line (EventOf e) s = omega arith

-- a line that was accepted
pub line_on : (old : Play) (line : List ℕ) (new : Play) (text_old text_new : List ℕ) (order : Order) (answer : LineRead)
    → ((seen : Seen) → OrderIs old.order seen → Accepts seen line order answer) → new.order ≡ order → text_new ≡ text_old
    → ((seen : Seen) (item : Item) (limits : PlainLimits) (h : History NoMark) → Spells seen line item → answer ≡ read_of item → IsSeen seen → HasLimits seen limits h
    → Rests limits old.core h → TapeLogIs limits old.log h → events_back h ≡ seen_events seen
    → (m : PlainLimits) × (g : History NoMark) × Rests m new.core g × TapeLogIs m new.log g × Next (seen_more seen item) m g (events_back g) × (tape_text [] h ≡ tape_text [] g))
    → PlaysLine plain_kind old line text_old new text_new (Ok went.On)
line_on old line new text_old text_new order answer reads eo et next = record {
  goes = λ config lines count told k.
      let a = reads k.seen k.order in
      let n = next k.seen a.item k.limits k.history a.spells a.read k.tape.may k.tape.limited k.rests k.logs k.tape.events in
      record {
        added = [];
        text = et ∙ sym (append-nil text_old);
        stands = record {
          seen = seen_more k.seen a.item;
          limits = n.0;
          history = n.1;
          order = (let P : Order → Type 0 = λ v. OrderIs v (seen_more k.seen a.item) in subst P (sym eo) a.order);
          rests = n.2;
          logs = n.3;
          tape = record { may = n.4.may; limited = n.4.limited; whole = whole_of _ _ _ n.2; events = sym n.4.events };
          lines_are = ap (λ (v : List ℕ). v ++ (line ++ newline)) k.lines_are ∙ sym (text_more k.seen line a.item a.spells);
          count_is = ap suc k.count_is ∙ sym (lines_more k.seen line a.item a.spells);
          told_is = append-nil told ∙ k.told_is ∙ n.5;
        };
      };
}

pub header_line_played : (old : Play) (line : List ℕ) (order : Order) (new : Play) (text_old text_new : List ℕ) → ReadsLine old.order line order (Ok read.Header) → new.order ≡ order → new.core ≡ old.core → new.log ≡ old.log → text_new ≡ text_old
    → PlaysLine plain_kind old line text_old new text_new (Ok went.On)
header_line_played old line order new text_old text_new r eo ec el et = line_on old line new text_old text_new order read.Header r.goes eo et
    (λ seen item limits h s q i k rests logs ev.
    let P : PlainCore → Type 0 = λ v. Rests limits v h in
    let n = header_next seen line item limits h s q k in
    let R : TapeLog → Type 0 = λ v. TapeLogIs limits v h in
    (limits, h, subst P (sym ec) rests, subst R (sym el) logs, record { may = n.may; limited = n.limited; events = n.events ∙ sym ev }, refl))

pub limits_line_played : (old : Play) (line : List ℕ) (order : Order) (l : PlainLimits) (new : Play) (text_old text_new : List ℕ) → ReadsLine old.order line order (Ok (read.Limits l)) → new.order ≡ order → Rests l new.core []
    → TapeLogIs l new.log [] → text_new ≡ text_old → PlaysLine plain_kind old line text_old new text_new (Ok went.On)
limits_line_played old line order l new text_old text_new r eo rests logged et = line_on old line new text_old text_new order (read.Limits l) r.goes eo et
    (λ seen item limits h s q i k was logs ev.
    let n = limits_next seen line item l limits h s q k in
    (l, [], rests, logged, record { may = n.0.may; limited = n.0.limited; events = n.0.events }, ap (tape_text []) n.1))

-- a line that was refused, or for which memory was wanting
pub line_refused : (old : Play) (line : List ℕ) (new : Play) (text_old text_new : List ℕ) (order : Order) → ReadsLine old.order line order (Ok read.Refused) → text_new ≡ text_old
    → PlaysLine plain_kind old line text_old new text_new (Ok went.Refused)
line_refused old line new text_old text_new order r et = record { goes = λ config lines count told k. (record { goes = λ seen o. (r.goes seen o).none }, et) }

-- an event that may come follows the events so far
event_may : (seen : Seen) (line : List ℕ) (item : Item) (e : Event) → Spells seen line item → read.Event e ≡ read_of item → IsSeen seen → MayFollowAll (e ∷ seen_events seen)
event_may seen line (HeaderOf f) e s q i = cc
event_may seen line (LimitsOf l) e s q i = cc
event_may Unread line (EventOf x) e s q i = absurd s.may
event_may (Headed f) line (EventOf x) e s q i = absurd s.may
event_may (Playing f l es) line (EventOf x) e s q i = let same : x ≡ e = cc in let P : Event → Type 0 = λ v. MayFollowEvent es v in (subst P same s.may, i.1)

event_follows : (old : Play) (line : List ℕ) (e : Event) (order : Order) → ReadsLine old.order line order (Ok (read.Event e)) → {config lines : List ℕ} → {count : ℕ} → {told : List ℕ} → (k : Played old config lines count told) → MayFollowAll (e ∷ events_back k.history)
event_follows old line e order r k =
    let a = r.goes k.seen k.order in
    let P : List Event → Type 0 = λ v. MayFollowAll (e ∷ v) in
    subst P (sym k.tape.events) (event_may k.seen line a.item e a.spells a.read k.tape.may)

pub event_line_played : (old mid : Play) (line : List ℕ) (e : Event) (text_old : List ℕ) (new : Play) (text_new : List ℕ) (result : Result Went NoMemory) → ReadsLine old.order line mid.order (Ok (read.Event e)) → mid.core ≡ old.core → mid.log ≡ old.log
    → PlaysEvent mid e text_old new text_new result → PlaysLine plain_kind old line text_old new text_new result
event_line_played old mid line e text_old new text_new result r ec el p = record { goes = λ config lines count told k. by config lines count told k result (p.goes k.limits k.history (let P : PlainCore → Type 0 = λ v. Rests k.limits v k.history in subst P (sym ec) k.rests) (event_follows old line e mid.order r k) (let R : TapeLog → Type 0 = λ v. TapeLogIs k.limits v k.history in subst R (sym el) k.logs)) }
  where
    by : (config lines : List ℕ) (count : ℕ) (told : List ℕ) (k : Played old config lines count told) (result : Result Went NoMemory) → DispatchedAs mid e new k.limits k.history text_old text_new result → PlayedAs plain_kind old new line config lines count told text_old text_new result
    by config lines count told k (Ok went.On) d =
        let a = r.goes k.seen k.order in
        let n = event_next k.seen line a.item e k.limits k.history d.history a.spells a.read k.tape.may k.tape.limited in
        record {
          added = d.added;
          text = d.text;
          stands = record {
            seen = seen_more k.seen a.item;
            limits = k.limits;
            history = d.history;
            order = (let P : Order → Type 0 = λ v. OrderIs v (seen_more k.seen a.item) in subst P (sym d.order) a.order);
            rests = d.rests;
            logs = d.logs;
            tape = record { may = n.0.may; limited = n.0.limited; whole = whole_of _ _ _ d.rests; events = d.events ∙ ap (λ v. e ∷ v) k.tape.events ∙ sym n.0.events };
            lines_are = ap (λ (v : List ℕ). v ++ (line ++ newline)) k.lines_are ∙ sym (text_more k.seen line a.item a.spells);
            count_is = ap suc k.count_is ∙ sym (lines_more k.seen line a.item a.spells);
            told_is = ap (λ (v : List ℕ). v ++ d.added) k.told_is ∙ sym d.tape;
          };
        }
    by config lines count told k (Ok went.Refused) d = absurd d
    by config lines count told k (Err x) d = d

-- the limits of a line that may come
all_of : (a b c d e : Bool) → IsTrue (a && b && c && d && e) → (a ≡ true) × (b ≡ true) × (c ≡ true) × (d ≡ true) × (e ≡ true)
all_of true true true true e t = (refl, refl, refl, refl, t)
all_of true true true false e t = cc
all_of true true false d e t = cc
all_of true false c d e t = cc
all_of false b c d e t = cc

at_most : (a b : ℕ) → nat_le a b ≡ true → a ≤ b
at_most a b e = grind (arith, nat_tests)

quantum_range : (f : Format) (q : ℕ) → is_quantum f q ≡ true → (16384 ≤ q) × (q ≤ 1048576)
quantum_range format.One q e = (let k : q ≡ 16384 = grind (arith, nat_tests) in (omega (arith, k), omega (arith, k)))
quantum_range format.Two q e = (grind (arith, nat_tests), grind (arith, nat_tests))

limits_fit : (f : Format) (l : PlainLimits) → IsTrue (are_limits f l) → AreLimits l
limits_fit f l t =
    let k = all_of (nat_le 1 l.recv) (nat_le l.recv 16777216) (nat_le l.send 16777216) (nat_le l.write 16777216) (is_quantum f l.quantum) t in
    let q = quantum_range f l.quantum k.4 in
    record {
      recv = at_most l.recv 16777216 k.1;
      send = at_most l.send 16777216 k.2;
      write = at_most l.write 16777216 k.3;
      quantum = q;
    }

pub limits_may : (seen : Seen) (line : List ℕ) (item : Item) (l : PlainLimits) → Spells seen line item → read.Limits l ≡ read_of item → AreLimits l
limits_may seen line (HeaderOf f) l s q = cc
limits_may Unread line (LimitsOf m) l s q = absurd s.may
limits_may (Headed f) line (LimitsOf m) l s q = let same : m ≡ l = cc in let P : PlainLimits → Type 0 = λ v. AreLimits v in subst P same (limits_fit f m s.may)
limits_may (Playing f n es) line (LimitsOf m) l s q = absurd s.may
limits_may seen line (EventOf x) l s q = cc

pub limits_taken : (old : Play) (line : List ℕ) (order : Order) (l : PlainLimits) → ReadsLine old.order line order (Ok (read.Limits l)) → IsPlaying plain_kind old → AreLimits l
limits_taken old line order l r k = let a = r.goes k.stands.seen k.stands.order in limits_may k.stands.seen line a.item l a.spells a.read

pub no_notes : (core : PlainCore) (e : Event) (notes : List Note) → notes ≡ [] → CanTake core e [] → CanTake core e notes
no_notes core e notes none k = let P : List Note → Type 0 = λ v. CanTake core e v in subst P (sym none) k

-- what a line was read as
pub read_as : (old new : Order) (line : List ℕ) (found answer : LineRead) → found ≡ answer → ReadsLine old line new (Ok found) → ReadsLine old line new (Ok answer)
read_as old new line found answer e r = let P : LineRead → Type 0 = λ v. ReadsLine old line new (Ok v) in subst P e r

pub play_begun : (play : Play) (limits : PlainLimits) → OrderIs play.order Unread → Rests limits play.core [] → TapeLogIs limits play.log [] → Begins plain_kind play []
play_begun play limits o r l = record {
  stands = record {
    seen = Unread;
    limits = limits;
    history = [];
    order = o;
    rests = r;
    logs = l;
    tape = record { may = tt; limited = refl; whole = whole_of limits play.core [] r; events = refl };
    lines_are = refl;
    count_is = refl;
    told_is = refl;
  };
}

-- the summary of the log's tape
pub play_summed : (play : Play) (old new : List ℕ) → Summarizes play.log old new → AddsSummary plain_kind play old new
play_summed play old new s = record { added = s.added; text = s.is; sums = record { goes = λ limits h l c. s.goes limits h l c } }

pub play_sum_ends : (play : Play) (old new : List ℕ) (r : Result (Unit {0}) NoMemory) → OnOk r (Summarizes play.log old new) → OnOk r (AddsSummary plain_kind play old new)
play_sum_ends play old new (Ok x) s = play_summed play old new s
play_sum_ends play old new (Err x) s = tt

-- a plain session has no names
pub notes_spelled : (names : List (List ℕ)) (notes : List Note) → names ≡ [] → AllByRecursion (IsNote []) notes → AllByRecursion (IsNote names) notes
notes_spelled names notes e s = let P : List (List ℕ) → Type 0 = λ v. AllByRecursion (IsNote v) notes in subst P (sym e) s

pub unnamed : (text : List ℕ) (names : List (List ℕ)) (notes : List Note) → names ≡ [] → text ++ notes_text names notes ≡ text ++ notes_text [] notes
unnamed text names notes e = ap (λ (v : List (List ℕ)). text ++ notes_text v notes) e

pub turn_spelled : (old new : PlainCore) (before after : List Note) (e : Event) → before ≡ [] → Turns old before e new after → IsEvent [] e → AllByRecursion (IsNote []) after
turn_spelled old new before after e none t is = let P : List Note → Type 0 = λ v. AllByRecursion (IsNote []) v in t.spelled is (subst P (sym none) tt)
