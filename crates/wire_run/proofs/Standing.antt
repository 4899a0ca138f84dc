-- The session stands for the tape with one dispatch more.
use Rattle.flow_notes.specs.declared.events.Event.{Event}
use Rattle.flow_notes.specs.declared.notes.Note.{Note}
use Rattle.paged_map.specs.PagedMap.{PagedMap}
use Rattle.proxy_config.specs.declared.config.Config.{Config}
use Rattle.proxy_config.specs.declared.config.LimitKeys.{LimitKeys}
use Rattle.session_lines.specs.WireOrder.{may_follow_wire, named}
use Rattle.std.proofs.Common.{ap, arith, refl, subst, sym, ◌∙◌}
use Rattle.std.proofs.lemmas.Bool.Decides.{nat_tests}
use Rattle.std.proofs.lemmas.List.{append-nil}
use Rattle.std.proofs.lemmas.List.Folds.{list_any-append}
use Rattle.std.specs.Bool.{OnTrue}
use Rattle.std.specs.List.{AllByRecursion, list_all}
use Rattle.std.specs.Prelude.{Bool, IsTrue, List, Option, Some, [], false, length, nat_lt, true, ℕ, ◌&&◌, ◌++◌, ◌+◌, ◌==◌, ◌||◌, ◌∷◌, ◌≡◌}
use Rattle.tape_laws.specs.Bounds.{IsBounded}
use Rattle.tape_laws.specs.Connections.{connections}
use Rattle.tape_laws.specs.Dispatches.{before_dispatch, events_back, has, started, this_event}
use Rattle.tape_laws.specs.Headline.{Headline}
use Rattle.tape_laws.specs.History.{BeforeTurn, EachFollows, History, Marked, NoMark, Noted, notes_of, onto}
use Rattle.tape_laws.specs.World.{gone, out}
use Rattle.wire_run.proofs.Rowing.{rows_on}
use Rattle.wire_run.specs.Passing.{PassesAll, row_told}
use Rattle.wire_run.specs.Stages.{AreStages, HaveRows}
use Rattle.wire_run.specs.declared.stages.RouteStages.{RouteStages}
use Rattle.wire_run.specs.Worlds.{HasWorld, IsNewTo, LeavesByRoom, StandsFor, leaves_by}
use Rattle.wire_state.proofs.Counted.{rests_headline}
use Rattle.wire_state.specs.Courses.{row_of}
use Rattle.wire_state.specs.Counts.{EachHeeds}
use Rattle.wire_state.specs.Marks.{AreWays}
use Rattle.wire_state.specs.Noting.{IsStep}
use Rattle.wire_state.specs.Tapes.{tape_setup}
use Rattle.wire_state.specs.Ways.{WayHistory, WayStep, after, shown, world_setup}
use Rattle.wire_state.specs.Worlds.{IsFresh, Rests, left_after, octets_of}
use Rattle.wire_state.specs.declared.conn.Conn.{Conn}
use Rattle.wire_summary.specs.Logging.{WireLogs}
use Rattle.wire_summary.specs.declared.log.WireLog.{WireLog}
use Rattle.worker_core.specs.Dispatching.{Dispatches}
use Rattle.worker_core.specs.declared.wire.WireSession.{WireSession}
use Rattle.flow_notes.specs.declared.events.Event.TheVariants as event
use Rattle.flow_notes.specs.declared.notes.Note.TheVariants as note

-- ---- before the first line
pub none_fits : (l : LimitKeys) → IsBounded (tape_setup l) []
none_fits l = record { recv = tt; stages = tt; send = on_true (nat_lt 0 l.send_buffer); write = on_true (nat_lt 0 l.write_buffer); together = tt }
  where
    on_true : (b : Bool) → OnTrue b (Unit {0})
    on_true true = tt
    on_true false = tt

abbrev pub none_left : (config : Config) → HasWorld config []
none_left config = record { marked = []; notes = refl; ways = tt; promises = record { sent = λ f. refl; bounded = none_fits config.limits; counted = tt; last = tt }; left = tt; last = λ c. refl; taking = tt; heeding = tt }

abbrev pub stands_first : (session : WireSession) (config : Config) → session.core.config ≡ config → Rests session.core.config.limits session.core.conns session.core.flows session.core.links [] → StandsFor session config []
stands_first session config e s = record { under = e; world = none_left config; stands = s }

-- ---- a connection that comes is new
-- the events of these notes, the last note first
abbrev events_in : List Note → List Event
events_in [] = []
events_in (note.Turn k e ∷ ns) = e ∷ events_in ns
events_in (n ∷ ns) = events_in ns

events_are : {Mark : Type 0} (h : History Mark) → events_back h ≡ events_in (notes_of h)
events_are [] = refl
events_are (Marked m ∷ past) = events_are past
events_are (Noted (note.Turn k e) ∷ past) = ap (λ (es : List Event). e ∷ es) (events_are past)
events_are (Noted (note.Arrive f octets) ∷ past) = events_are past
events_are (Noted (note.Move f p n) ∷ past) = events_are past
events_are (Noted (note.Frame c f n last) ∷ past) = events_are past
events_are (Noted (note.Out c n) ∷ past) = events_are past
events_are (Noted (note.Pause f b) ∷ past) = events_are past
events_are (Noted (note.Resume f b) ∷ past) = events_are past
events_are (Noted (note.Credit c s n) ∷ past) = events_are past
events_are (Noted (note.Head c s octets) ∷ past) = events_are past
events_are (Noted (note.Answer c octets) ∷ past) = events_are past
events_are (Noted (note.Waste c s n) ∷ past) = events_are past
events_are (Noted (note.Start x c s d) ∷ past) = events_are past
events_are (Noted (note.Doom x why) ∷ past) = events_are past
events_are (Noted (note.Gone x) ∷ past) = events_are past
events_are (Noted (note.Close c code why) ∷ past) = events_are past
events_are (Noted (note.Fire kind id) ∷ past) = events_are past

swapped : (a b : Bool) → (b || (a || false)) ≡ (a || b)
swapped true true = refl
swapped true false = refl
swapped false true = refl
swapped false false = refl

came : (xs : List ℕ) (d c : ℕ) (b : Bool) → has xs c ≡ b → has (xs ++ d ∷ []) c ≡ ((d == c) || b)
came xs d c b e = list_any-append (λ y. y == c) xs (d ∷ []) ∙ ap (λ (v : Bool). v || ((d == c) || false)) e ∙ swapped (d == c) b

conns_named : (k : WayHistory) (c : ℕ) → has (connections world_setup k) c ≡ has (named (events_back k)) c
conns_named [] c = refl
conns_named (Marked m ∷ past) c = conns_named past c
conns_named (Noted (note.Turn k (event.Accept d)) ∷ past) c = came (connections world_setup past) d c (has (named (events_back past)) c) (conns_named past c)
conns_named (Noted (note.Turn k (event.Join d cluster)) ∷ past) c = came (connections world_setup past) d c (has (named (events_back past)) c) (conns_named past c)
conns_named (Noted (note.Turn k (event.Read d octets)) ∷ past) c = conns_named past c
conns_named (Noted (note.Turn k (event.Gone d)) ∷ past) c = conns_named past c
conns_named (Noted (note.Turn k (event.Room d n)) ∷ past) c = conns_named past c
conns_named (Noted (note.Turn k (event.Tick now)) ∷ past) c = conns_named past c
conns_named (Noted (note.Turn k (event.Post poster number job)) ∷ past) c = conns_named past c
conns_named (Noted (note.Turn k (event.Obey version pressures)) ∷ past) c = conns_named past c
conns_named (Noted (note.Turn k (event.Plain e)) ∷ past) c = conns_named past c
conns_named (Noted (note.Arrive f octets) ∷ past) c = conns_named past c
conns_named (Noted (note.Move f p n) ∷ past) c = conns_named past c
conns_named (Noted (note.Frame d f n last) ∷ past) c = conns_named past c
conns_named (Noted (note.Out d n) ∷ past) c = conns_named past c
conns_named (Noted (note.Pause f b) ∷ past) c = conns_named past c
conns_named (Noted (note.Resume f b) ∷ past) c = conns_named past c
conns_named (Noted (note.Credit d s n) ∷ past) c = conns_named past c
conns_named (Noted (note.Head d s octets) ∷ past) c = conns_named past c
conns_named (Noted (note.Answer d octets) ∷ past) c = conns_named past c
conns_named (Noted (note.Waste d s n) ∷ past) c = conns_named past c
conns_named (Noted (note.Start x d s t) ∷ past) c = conns_named past c
conns_named (Noted (note.Doom x why) ∷ past) c = conns_named past c
conns_named (Noted (note.Gone x) ∷ past) c = conns_named past c
conns_named (Noted (note.Close d code why) ∷ past) c = conns_named past c
conns_named (Noted (note.Fire kind id) ∷ past) c = conns_named past c

module _ (k : WayHistory) (h : History NoMark) (same : notes_of k ≡ notes_of h) where
  not_there : (c : ℕ) → has (named (events_back h)) c ≡ false → has (connections world_setup k) c ≡ false
  not_there c new = conns_named k c ∙ ap (λ (es : List Event). has (named es) c) (events_are k ∙ ap events_in same ∙ sym (events_are h)) ∙ new

  fresh_of : (e : Event) → IsNewTo e h → IsFresh e k
  fresh_of (event.Accept c) new = not_there c new
  fresh_of (event.Join c cluster) new = not_there c new
  fresh_of (event.Read c octets) new = tt
  fresh_of (event.Gone c) new = tt
  fresh_of (event.Room c n) new = tt
  fresh_of (event.Tick now) new = tt
  fresh_of (event.Post poster number job) new = tt
  fresh_of (event.Obey version pressures) new = tt
  fresh_of (event.Plain e) new = tt

-- by the order rules its number is above that of each before
second_true : (a b : Bool) → (a && b) ≡ true → b ≡ true
second_true true b e = e
second_true false b e = cc

first_true : (a b : Bool) → (a && b) ≡ true → a ≡ true
first_true true b e = refl
first_true false b e = cc

not_same : (d c : ℕ) → nat_lt d c ≡ true → (d == c) ≡ false
not_same d c less = grind (arith, nat_tests)

above_all : (ds : List ℕ) (c : ℕ) → list_all (λ d. nat_lt d c) ds ≡ true → has ds c ≡ false
above_all [] c all = refl
above_all (d ∷ ds) c all = ap (λ (b : Bool). b || has ds c) (not_same d c (first_true (nat_lt d c) (list_all (λ x. nat_lt x c) ds) all)) ∙ above_all ds c (second_true (nat_lt d c) (list_all (λ x. nat_lt x c) ds) all)

pub new_to : (resources : ℕ) (e : Event) (es : List Event) (h : History NoMark) → IsTrue (may_follow_wire resources es e) → events_back h ≡ es → IsNewTo e h
new_to resources (event.Accept c) es h may shown = ap (λ (v : List Event). has (named v) c) shown ∙ above_all (named es) c (second_true (nat_lt 0 c) (list_all (λ d. nat_lt d c) (named es)) may)
new_to resources (event.Join c cluster) es h may shown = ap (λ (v : List Event). has (named v) c) shown ∙ above_all (named es) c (second_true (nat_lt 0 c) (list_all (λ d. nat_lt d c) (named es)) may)
new_to resources (event.Read c octets) es h may shown = tt
new_to resources (event.Gone c) es h may shown = tt
new_to resources (event.Room c n) es h may shown = tt
new_to resources (event.Tick now) es h may shown = tt
new_to resources (event.Post poster number job) es h may shown = tt
new_to resources (event.Obey version pressures) es h may shown = tt
new_to resources (event.Plain e) es h may shown = tt

-- ---- the notes of a history with steps behind it
abbrev behind : List Note → List Note → List Note
behind [] ms = ms
behind (n ∷ ns) ms = behind ns (n ∷ ms)

notes_after : (steps : List WayStep) (k : WayHistory) → notes_of (after steps k) ≡ behind (shown steps) (notes_of k)
notes_after [] k = refl
notes_after (Noted n ∷ ss) k = notes_after ss (Noted n ∷ k)
notes_after (Marked m ∷ ss) k = notes_after ss (Marked m ∷ k)

notes_onto : (ns : List Note) (h : History NoMark) → notes_of (onto ns h) ≡ behind ns (notes_of h)
notes_onto [] h = refl
notes_onto (n ∷ ns) h = notes_onto ns (Noted n ∷ h)

same_notes : (steps : List WayStep) (k : WayHistory) (ns : List Note) (h : History NoMark) → ns ≡ shown steps → notes_of k ≡ notes_of h → notes_of (after steps k) ≡ notes_of (onto ns h)
same_notes steps k ns h is same = notes_after steps k ∙ ap (λ (ms : List Note). behind ms (notes_of k)) (sym is) ∙ ap (behind ns) same ∙ sym (notes_onto ns h)

-- ---- a dispatch's steps
-- a note that begins no dispatch
record StaysOne (n : Note) (k : WayHistory) : Type 0 where
  event_is : this_event (Noted n ∷ k) ≡ this_event k
  before : before_dispatch (Noted n ∷ k) ≡ before_dispatch k
  may : BeforeTurn LeavesByRoom (Noted n) k

stays_one : (n : Note) (k : WayHistory) → IsStep n → StaysOne n k
stays_one (note.Turn number e) k i = absurd i
stays_one (note.Arrive f octets) k i = record { event_is = refl; before = refl; may = tt }
stays_one (note.Move f p n) k i = record { event_is = refl; before = refl; may = tt }
stays_one (note.Frame c f n last) k i = record { event_is = refl; before = refl; may = tt }
stays_one (note.Out c n) k i = record { event_is = refl; before = refl; may = tt }
stays_one (note.Pause f b) k i = record { event_is = refl; before = refl; may = tt }
stays_one (note.Resume f b) k i = record { event_is = refl; before = refl; may = tt }
stays_one (note.Credit c s n) k i = record { event_is = refl; before = refl; may = tt }
stays_one (note.Head c s octets) k i = record { event_is = refl; before = refl; may = tt }
stays_one (note.Answer c octets) k i = record { event_is = refl; before = refl; may = tt }
stays_one (note.Waste c s n) k i = record { event_is = refl; before = refl; may = tt }
stays_one (note.Start x c s d) k i = record { event_is = refl; before = refl; may = tt }
stays_one (note.Doom x why) k i = record { event_is = refl; before = refl; may = tt }
stays_one (note.Gone x) k i = record { event_is = refl; before = refl; may = tt }
stays_one (note.Close c code why) k i = record { event_is = refl; before = refl; may = tt }
stays_one (note.Fire fire id) k i = record { event_is = refl; before = refl; may = tt }

-- so do such steps
record Stays (steps : List WayStep) (k : WayHistory) : Type 0 where
  event_is : this_event (after steps k) ≡ this_event k
  before : before_dispatch (after steps k) ≡ before_dispatch k
  each : EachFollows (BeforeTurn LeavesByRoom) k → EachFollows (BeforeTurn LeavesByRoom) (after steps k)

stays : (steps : List WayStep) (k : WayHistory) → AllByRecursion IsStep (shown steps) → Stays steps k
stays [] k a = record { event_is = refl; before = refl; each = λ e. e }
stays (Marked m ∷ ss) k a = let more = stays ss (Marked m ∷ k) a in record { event_is = more.event_is; before = more.before; each = λ e. more.each (tt, e) }
stays (Noted n ∷ ss) k a =
    let one = stays_one n k a.0 in
    let more = stays ss (Noted n ∷ k) a.1 in
    record { event_is = more.event_is ∙ one.event_is; before = more.before ∙ one.before; each = λ e. more.each (one.may, e) }

-- from before its turn note on, behind which no other stands
record Turned (steps : List WayStep) (k : WayHistory) (e : Event) : Type 0 where
  event_is : this_event (after steps k) ≡ Some e
  left_is : (c : ℕ) → gone world_setup c (before_dispatch (after steps k)) ≡ gone world_setup c k
  waits_is : (c : ℕ) → out world_setup c (before_dispatch (after steps k)) ≡ out world_setup c k
  each : EachFollows (BeforeTurn LeavesByRoom) k → LeavesByRoom k → EachFollows (BeforeTurn LeavesByRoom) (after steps k)

turned_first : (ss : List WayStep) (k : WayHistory) (number : ℕ) (e : Event) → AllByRecursion IsStep (shown ss) → Turned (Noted (note.Turn number e) ∷ ss) k e
turned_first ss k number e a =
    let s = stays ss (Noted (note.Turn number e) ∷ k) a in
    record { event_is = s.event_is; left_is = λ c. ap (gone world_setup c) s.before; waits_is = λ c. ap (out world_setup c) s.before; each = λ follows last. s.each (last, follows) }

turned : (steps : List WayStep) (k : WayHistory) (number : ℕ) (e : Event) (added : List Note) → shown steps ≡ note.Turn number e ∷ added → AllByRecursion IsStep added → Turned steps k e
turned [] k number e added is a = cc
turned (Marked m ∷ ss) k number e added is a =
    let more = turned ss (Marked m ∷ k) number e added is a in
    record { event_is = more.event_is; left_is = more.left_is; waits_is = more.waits_is; each = λ follows last. more.each (tt, follows) last }
turned (Noted n ∷ ss) k number e added is a =
    let whole : n ∷ shown ss ≡ note.Turn number e ∷ added = is in
    let same : n ≡ note.Turn number e = cc in
    let rest : shown ss ≡ added = cc in
    subst (λ (v : Note). Turned (Noted v ∷ ss) k e) (sym same) (turned_first ss k number e (subst (λ (ns : List Note). AllByRecursion IsStep ns) (sym rest) a))

-- ---- one dispatch more
left_by : (e : Event) (conns : PagedMap Conn) (g : ℕ → List ℕ) (c : ℕ) → left_after e conns g c ≡ g c ++ leaves_by (Some e) c (octets_of c conns)
left_by (event.Room d n) conns g c = refl
left_by (event.Accept d) conns g c = sym (append-nil (g c))
left_by (event.Join d cluster) conns g c = sym (append-nil (g c))
left_by (event.Read d octets) conns g c = sym (append-nil (g c))
left_by (event.Gone d) conns g c = sym (append-nil (g c))
left_by (event.Tick now) conns g c = sym (append-nil (g c))
left_by (event.Post poster number job) conns g c = sym (append-nil (g c))
left_by (event.Obey version pressures) conns g c = sym (append-nil (g c))
left_by (event.Plain p) conns g c = sym (append-nil (g c))

leaves_as : (c : ℕ) (xs ys waits waited : List ℕ) (o p : Option Event) → ys ≡ xs → waited ≡ waits → p ≡ o → xs ++ leaves_by o c waits ≡ ys ++ leaves_by p c waited
leaves_as c xs ys waits waited o p e f g =
    ap (λ (v : List ℕ). v ++ leaves_by o c waits) (sym e) ∙ ap (λ (v : List ℕ). ys ++ leaves_by o c v) (sym f) ∙ ap (λ (v : Option Event). ys ++ leaves_by v c waited) (sym g)

-- it stands for that tape, and what the log knows of exchanges stays tied to the marks
pub record StandsWith (old new : WireSession) (l : Config) (notes : List Note) (h : History NoMark) (s : StandsFor old l h) : Type 0 where
  pub stands : StandsFor new l (onto notes h)
  pub rows : (table : List RouteStages) (a b c : WireLog) → AreStages table l.routes → PassesAll table (row_told new) notes a b → WireLogs b notes c → HaveRows l.routes a.levels s.world.marked → HaveRows l.routes c.levels stands.world.marked

pub stands_on : (old new : WireSession) (l : Config) (e : Event) (notes : List Note) (h : History NoMark) → Dispatches old [] e new notes → IsNewTo e h → (s : StandsFor old l h) → StandsWith old new l notes h s
stands_on old new l e notes h d new_one s =
    let k = s.world.marked in
    let fresh = fresh_of k h s.world.notes e new_one in
    let t = d.octets.goes k (λ c. gone world_setup c k) s.stands (λ c. refl) fresh in
    let same : new.core.config ≡ l = t.under ∙ s.under in
    let turn = turned t.steps k (old.turn + 1) e d.notes.added (sym t.is ∙ d.notes.is) d.notes.steps in
    let rests : Rests new.core.config.limits new.core.conns new.core.flows new.core.links (after t.steps k) = record { stands = t.stands; counts = t.counts } in
    let tied : AreWays l (after t.steps k) = subst (λ (v : Config). AreWays v k → AreWays v (after t.steps k)) same t.ways s.world.ways in
    record {
      rows = λ table a b c stages p logs was. rows_on l t.steps k s.world.ways tied table (row_told new) a b c stages
          (λ x. ap (λ (n : ℕ). row_of x n new.core.rows.items) t.since ∙ ap (row_of x (length (started k))) t.rows)
          (subst (λ (ns : List Note). PassesAll table (row_told new) ns a b) t.is p) (subst (λ (ns : List Note). WireLogs b ns c) t.is logs) was;
      stands = record {
        under = same;
        world = record {
          marked = after t.steps k;
          notes = same_notes t.steps k notes h t.is s.world.notes;
          ways = tied;
          promises = subst (λ (v : Config). Headline (tape_setup v.limits) (after t.steps k)) same (rests_headline new.core.conns new.core.flows new.core.links (after t.steps k) rests);
          left = turn.each s.world.left s.world.last;
          last = λ c. t.left c ∙ left_by e old.core.conns (λ x. gone world_setup x k) c
              ∙ leaves_as c (gone world_setup c k) (gone world_setup c (before_dispatch (after t.steps k))) (octets_of c old.core.conns) (out world_setup c (before_dispatch (after t.steps k)))
              (Some e) (this_event (after t.steps k)) (turn.left_is c) (turn.waits_is c ∙ sym (s.stands.stands.writes c)) turn.event_is;
          taking = t.stands.taking;
          heeding = subst (λ (v : Config). EachHeeds v.limits (after t.steps k)) same t.counts.turns;
        };
        stands = rests;
      };
    }
