-- Lines that are read, and that are refused.
use Rattle.flow_notes.specs.Event.{IsEvent, event_spelling, is_plain}
use Rattle.flow_notes.specs.Fields.{Fits32, FitsEvent}
use Rattle.flow_notes.specs.declared.events.Event.{Event}
use Rattle.flow_notes.specs.declared.events.PlainEvent.{PlainEvent}
use Rattle.io_ports.specs.declared.octets.NoMemory.{NoMemory}
use Rattle.session_lines.specs.Courses.{CoursesAre, Follows}
use Rattle.tape_laws.specs.Following.{may_follow}
use Rattle.session_lines.specs.Grammar.{IsLimitsLine}
use Rattle.session_lines.specs.Orders.{Accepts, PlaysNow, ReadsAt, ReadsLine, StageIs, has_played, plays_at}
use Rattle.session_lines.specs.Reading.{EventAt, EventReadAt, FollowsRead, ReadsEvent, SpellsEvent}
use Rattle.session_lines.specs.Seen.{EventOf, Headed, HeaderOf, Item, LimitsOf, Playing, Seen, Spells, Unread, are_limits, header_line, is_playing, is_quantum, limit_numbers}
use Rattle.session_lines.specs.declared.courses.Courses.{Courses}
use Rattle.session_lines.specs.declared.order.Format.{Format}
use Rattle.session_lines.specs.declared.order.LineRead.{LineRead}
use Rattle.session_lines.specs.declared.order.Order.{Order}
use Rattle.session_lines.specs.declared.order.Stage.{Stage}
use Rattle.std.proofs.Common.{ap, arith, refl, subst, sym, ◌∙◌}
use Rattle.std.proofs.lemmas.Bool.Decides.{nat_tests}
use Rattle.std.specs.List.{AllByRecursion}
use Rattle.std.specs.Prelude.{Bool, Err, IfNone, IfSome, List, None, Ok, Option, Result, Some, [], false, nat_le, true, ℕ, ◌&&◌, ◌<◌, ◌^◌, ◌≡◌, ◌≤◌}
use Rattle.tape_laws.specs.declared.PlainLimits.{PlainLimits}
use Rattle.flow_notes.specs.declared.events.Event.TheVariants as event
use Rattle.session_lines.specs.declared.order.Format.TheVariants as format
use Rattle.session_lines.specs.declared.order.LineRead.TheVariants as read
use Rattle.session_lines.specs.declared.order.Stage.TheVariants as stage

-- the ranges of limits, one by one
pub record InRanges (f : Format) (l : PlainLimits) : Type 0 where
  pub recv : l.recv ≤ 16777216
  pub send : l.send ≤ 16777216
  pub write : l.write ≤ 16777216
  pub quantum : is_quantum f l.quantum ≡ true

ranges_of : (r s w : ℕ) (q : Bool) → (nat_le 1 r && nat_le r 16777216 && nat_le s 16777216 && nat_le w 16777216 && q) ≡ true
    → (r ≤ 16777216) × (s ≤ 16777216) × (w ≤ 16777216) × (q ≡ true)
ranges_of r s w true e = grind (arith, nat_tests)
ranges_of r s w false e = grind (arith, nat_tests)

pub in_ranges : (f : Format) (l : PlainLimits) → are_limits f l ≡ true → InRanges f l
in_ranges f l e = let k = ranges_of l.recv l.send l.write (is_quantum f l.quantum) e in record { recv = k.0; send = k.1; write = k.2; quantum = k.3 }

two_quantum : (q : ℕ) → (nat_le 16384 q && nat_le q 1048576) ≡ true → q < 2 ^ 32
two_quantum q e = grind (arith, nat_tests)

pub numbers_fit : (f : Format) (l : PlainLimits) → InRanges f l → AllByRecursion Fits32 (limit_numbers f l)
numbers_fit format.One l r = let a = r.recv in let b = r.send in let c = r.write in (omega (arith, a), (omega (arith, b), (omega (arith, c), tt)))
numbers_fit format.Two l r =
    let a = r.recv in let b = r.send in let c = r.write in let q = two_quantum l.quantum r.quantum in
    (omega (arith, a), (omega (arith, b), (omega (arith, c), (omega (arith, q), tt))))

clash : (b : Bool) → b ≡ true → b ≡ false → ⊥
clash b t f = cc

-- the header
pub header_read : (old : Order) (line : List ℕ) (f : Format) → old.stage ≡ stage.Begins → header_line f ≡ line → ReadsLine old line (record old { stage = stage.Headed f }) (Ok read.Header)
header_read old line f begins e = record { goes = λ seen o. at seen o.names (let P : Stage → Type 0 = λ v. StageIs v seen in subst P begins o.stage) }
  where
    at : (seen : Seen) → old.names ≡ [] → StageIs stage.Begins seen → ReadsAt seen line (record old { stage = stage.Headed f }) (Ok read.Header)
    at Unread n s = record { item = HeaderOf f; spells = record { may = tt; is = e }; read = refl; order = record { names = n; stage = refl } }
    at (Headed g) n s = absurd s
    at (Playing g l es) n s = absurd s

-- the limits
pub limits_read : (old : Order) (line : List ℕ) (f : Format) (l : PlainLimits) (courses : Courses) → old.stage ≡ stage.Headed f → IsLimitsLine f line l → CoursesAre courses []
    → ReadsLine old line (record old { stage = stage.Plays courses }) (Ok (read.Limits l))
limits_read old line f l courses headed is none = record { goes = λ seen o. at seen o.names (let P : Stage → Type 0 = λ v. StageIs v seen in subst P headed o.stage) }
  where
    at : (seen : Seen) → old.names ≡ [] → StageIs (stage.Headed f) seen → ReadsAt seen line (record old { stage = stage.Plays courses }) (Ok (read.Limits l))
    at Unread n s = absurd s
    at (Headed g) n s =
        let P : Format → Type 0 = λ v. IsLimitsLine v line l in let k = subst P s is in
        record { item = LimitsOf l; spells = record { may = k.ranges; is = k.is }; read = refl; order = record { names = n; stage = none } }
    at (Playing g m es) n s = absurd s

-- an event
pub event_read : (old : Order) (line : List ℕ) (courses new : Courses) (result : Result LineRead NoMemory) → old.stage ≡ stage.Plays courses → ReadsEvent old.names courses line new result
    → ReadsLine old line (record old { stage = stage.Plays new }) result
event_read old line courses new result plays r = record { goes = λ seen o. at seen o.names (let P : Stage → Type 0 = λ v. StageIs v seen in subst P plays o.stage) }
  where
    no_item : (g : Format) (l : PlainLimits) (es : List Event) → old.names ≡ [] → ((e : PlainEvent) → SpellsEvent old.names es line e → ⊥) → (item : Item) → Spells (Playing g l es) line item → ⊥
    no_item g l es n none (HeaderOf h) s = s.may
    no_item g l es n none (LimitsOf m) s = s.may
    no_item g l es n none (EventOf (event.Plain e)) s =
        let P : List (List ℕ) → Type 0 = λ v. SpellsEvent v es line e in
        none e (subst P (sym n) (record { in_range = s.may.0; fits = s.may.1; follows = s.may.2; is = s.is }))
    no_item g l es n none (EventOf (event.Accept c)) s = s.may
    no_item g l es n none (EventOf (event.Join c k)) s = s.may
    no_item g l es n none (EventOf (event.Read c o)) s = s.may
    no_item g l es n none (EventOf (event.Gone c)) s = s.may
    no_item g l es n none (EventOf (event.Room c k)) s = s.may
    no_item g l es n none (EventOf (event.Tick t)) s = s.may
    no_item g l es n none (EventOf (event.Post p k j)) s = s.may
    no_item g l es n none (EventOf (event.Obey v p)) s = s.may

    one_event : (g : Format) (l : PlainLimits) (es : List Event) (e : Event) → old.names ≡ [] → EventAt old.names es line new e
        → Accepts (Playing g l es) line (record old { stage = stage.Plays new }) (read.Event e)
    one_event g l es (event.Plain e) n s =
        let P : List (List ℕ) → Type 0 = λ v. SpellsEvent v es line e in let k = subst P n s.0 in
        record { item = EventOf (event.Plain e); spells = record { may = (k.in_range, k.fits, k.follows); is = k.is }; read = refl; order = record { names = n; stage = s.1 } }
    one_event g l es (event.Accept c) n s = absurd s
    one_event g l es (event.Join c k) n s = absurd s
    one_event g l es (event.Read c o) n s = absurd s
    one_event g l es (event.Gone c) n s = absurd s
    one_event g l es (event.Room c k) n s = absurd s
    one_event g l es (event.Tick t) n s = absurd s
    one_event g l es (event.Post p k j) n s = absurd s
    one_event g l es (event.Obey v p) n s = absurd s

    gives : (g : Format) (l : PlainLimits) (es : List Event) (answer : Result LineRead NoMemory) → old.names ≡ [] → EventReadAt old.names es line new answer
        → ReadsAt (Playing g l es) line (record old { stage = stage.Plays new }) answer
    gives g l es (Ok read.Header) n s = absurd s
    gives g l es (Ok (read.Limits m)) n s = absurd s
    gives g l es (Ok (read.Event e)) n s = one_event g l es e n s
    gives g l es (Ok read.Refused) n s = record { none = no_item g l es n s.0; order = record { names = n; stage = s.1 } }
    gives g l es (Err x) n s = record { names = n; stage = s }

    at : (seen : Seen) → old.names ≡ [] → StageIs (stage.Plays courses) seen → ReadsAt seen line (record old { stage = stage.Plays new }) result
    at Unread n s = absurd s
    at (Headed g) n s = absurd s
    at (Playing g l es) n s = gives g l es result n (r.goes es s)

-- reading an event, once its spelling is known
pub event_refused : (names : List (List ℕ)) (c : Courses) (line : List ℕ) → ((e : Event) → FitsEvent e → IsEvent names e → is_plain e ≡ true → event_spelling names e ≡ line → ⊥)
    → ReadsEvent names c line c (Ok read.Refused)
event_refused names c line none = record { goes = λ es a. ((λ e s. none (event.Plain e) s.fits s.in_range refl s.is), a) }

pub event_followed : (names : List (List ℕ)) (old new : Courses) (line : List ℕ) (e : PlainEvent) → line ≡ event_spelling names (event.Plain e) → IsEvent names (event.Plain e) → FitsEvent (event.Plain e)
    → Follows old e new (Ok true) → ReadsEvent names old line new (Ok (read.Event (event.Plain e)))
event_followed names old new line e is range fits f = record {
  goes = λ es a. let k = f.goes es a in (record { in_range = range; fits = fits; follows = k.0; is = sym is }, k.1);
}

pub event_out_of_order : (names : List (List ℕ)) (old new : Courses) (line : List ℕ) (e : PlainEvent)
    → ((f : Event) → FitsEvent f → IsEvent names f → is_plain f ≡ true → event_spelling names f ≡ line → f ≡ event.Plain e)
    → Follows old e new (Ok false) → ReadsEvent names old line new (Ok read.Refused)
event_out_of_order names old new line e only f = record {
  goes = λ es a. let k = f.goes es a in (
    (λ g s.
        let same : event.Plain g ≡ event.Plain e = only (event.Plain g) s.fits s.in_range refl s.is in
        let eq : g ≡ e = cc in
        clash (may_follow es e) (ap (may_follow es) (sym eq) ∙ s.follows) k.0),
    k.1,
  );
}

pub event_lost : (names : List (List ℕ)) (old new : Courses) (line : List ℕ) (e : PlainEvent) (x : NoMemory) → Follows old e new (Err x) → ReadsEvent names old line new (Err x)
event_lost names old new line e x f = record { goes = λ es a. f.goes es a }

-- reading and following together
pub followed_read : (names : List (List ℕ)) (old new : Courses) (line : List ℕ) (e : PlainEvent) (result : Result LineRead NoMemory)
    → (line ≡ event_spelling names (event.Plain e)) × IsEvent names (event.Plain e) × FitsEvent (event.Plain e) × (is_plain (event.Plain e) ≡ true)
    → ((f : Event) → FitsEvent f → IsEvent names f → is_plain f ≡ true → event_spelling names f ≡ line → f ≡ event.Plain e)
    → FollowsRead old e new result → ReadsEvent names old line new result
followed_read names old new line e (Ok read.Header) some only f = absurd f.as_read
followed_read names old new line e (Ok (read.Limits m)) some only f = absurd f.as_read
followed_read names old new line e (Ok (read.Event g)) some only f =
    let P : Event → Type 0 = λ v. ReadsEvent names old line new (Ok (read.Event v)) in
    subst P (sym f.as_read.0) (event_followed names old new line e some.0 some.1 some.2 f.as_read.1)
followed_read names old new line e (Ok read.Refused) some only f = event_out_of_order names old new line e only f.as_read
followed_read names old new line e (Err x) some only f = event_lost names old new line e x f.as_read

-- what a search found, or not
pub some_limits : (line : List ℕ) (f : Format) (l : PlainLimits) (found : Option PlainLimits) → found ≡ Some l → IfSome found (λ l. IsLimitsLine f line l) → IsLimitsLine f line l
some_limits line f l found e k = let P : Option PlainLimits → Type 0 = λ v. IfSome v (λ l. IsLimitsLine f line l) in subst P e k

pub no_event : (found : Option Event) (P : Type 0) → found ≡ None → IfNone found P → P
no_event found P e k = let Q : Option Event → Type 0 = λ v. IfNone v P in subst Q e k

pub an_event : (found : Option Event) (e : Event) (p : PlainEvent) (P : Event → Type 0) → found ≡ Some e → e ≡ event.Plain p → IfSome found P → P (event.Plain p)
an_event found e p P s i k = let Q : Option Event → Type 0 = λ v. IfSome v P in subst P i (subst Q s k)

-- an event that was read from its spelling
abbrev pub IsRead : List (List ℕ) → List ℕ → Event → Type 0
IsRead names line e = (line ≡ event_spelling names e) × IsEvent names e × FitsEvent e × (is_plain e ≡ true)

abbrev pub IsOnly : List (List ℕ) → List ℕ → Event → Type 0
IsOnly names line e = (f : Event) → FitsEvent f → IsEvent names f → is_plain f ≡ true → event_spelling names f ≡ line → f ≡ e

-- whether the limits were read
pub plays_stage : (order : Order) (courses : Courses) → order.stage ≡ stage.Plays courses → true ≡ has_played order
plays_stage order courses e = sym (ap plays_at e)

other_at : (s : Stage) → ((courses : Courses) → s ≡ stage.Plays courses → ⊥) → false ≡ plays_at s
other_at stage.Begins n = refl
other_at (stage.Headed f) n = refl
other_at (stage.Plays courses) n = absurd (n courses refl)

pub seen_at : (s : Stage) (seen : Seen) → StageIs s seen → plays_at s ≡ is_playing seen
seen_at stage.Begins Unread k = refl
seen_at stage.Begins (Headed g) k = absurd k
seen_at stage.Begins (Playing g l es) k = absurd k
seen_at (stage.Headed f) Unread k = absurd k
seen_at (stage.Headed f) (Headed g) k = refl
seen_at (stage.Headed f) (Playing g l es) k = absurd k
seen_at (stage.Plays c) Unread k = absurd k
seen_at (stage.Plays c) (Headed g) k = absurd k
seen_at (stage.Plays c) (Playing g l es) k = refl

-- what the test of the stage says of the lines
pub plays_now : (order : Order) (answer : Bool) → answer ≡ has_played order → PlaysNow order answer
plays_now order answer e = record { goes = λ seen o. e ∙ seen_at order.stage seen o.stage }

pub other_stage : (order : Order) → ((courses : Courses) → order.stage ≡ stage.Plays courses → ⊥) → false ≡ has_played order
other_stage order n = other_at order.stage n
