-- The events of a drill, one after another.
use Rattle.flow_notes.specs.declared.events.Event.{Event}
use Rattle.replay_run.specs.DrillEvents.{amount, draw, drill, ended, fed, fed_in, next_number, number_after, opened, stream_at}
use Rattle.replay_run.specs.Drill.{DrillIs, GoesTo, IsPlaced, Yields, drains_from, ends_from, opens_from, rest_of, round_from, rounds_from}
use Rattle.replay_run.specs.declared.drill.Drill.{Drill}
use Rattle.replay_run.specs.declared.drill.Upcoming.{Upcoming}
use Rattle.std.proofs.Common.{ap, append_assoc, arith, refl, subst, sym, ◌∙◌}
use Rattle.std.proofs.lemmas.List.{append-nil}
use Rattle.std.specs.List.{range_with_len}
use Rattle.std.specs.Prelude.{List, None, Option, Some, [], flat_map, length, map, replicate, suc, ℕ, ◌%◌, ◌*◌, ◌++◌, ◌+◌, ◌-◌, ◌/◌, ◌<◌, ◌∷◌, ◌≡◌}
use Rattle.flow_notes.specs.declared.events.Event.TheVariants as event
use Rattle.flow_notes.specs.declared.events.PlainEvent.TheVariants as plain
use Rattle.replay_run.specs.declared.drill.Upcoming.TheVariants as next

-- ---- ranges

range_first : (i n : ℕ) → i < n → range_with_len i (n - i) ≡ i ∷ range_with_len (i + 1) (n - (i + 1))
range_first i n lt = let e : n - i ≡ suc (n - (i + 1)) = omega (arith, lt) in ap (range_with_len i) e

opens_more : (n i : ℕ) → i < n → opens_from n i ≡ opened i ∷ opens_from n (i + 1)
opens_more n i lt = ap (map opened) (range_first i n lt)

ends_more : (n i : ℕ) → i < n → ends_from n i ≡ ended i ∷ ends_from n (i + 1)
ends_more n i lt = ap (map ended) (range_first i n lt)

round_more : (n r i : ℕ) → i < n → round_from n r i ≡ fed_in n r i ++ round_from n r (i + 1)
round_more n r i lt = ap (flat_map (fed_in n r)) (range_first i n lt)

-- ---- a drill under way

placed_as : (d : Drill) (u : Upcoming) (es : List Event) → d.next ≡ u → DrillIs d es → IsPlaced d.streams d.x u × (es ≡ rest_of d.streams u)
placed_as d u es e k =
    let P : Upcoming → Type 0 = λ v. IsPlaced d.streams d.x v in
    (subst P e k.placed, k.is ∙ ap (rest_of d.streams) e)

-- a drill with its next number and place
abbrev with_next : Drill → ℕ → Upcoming → Drill
with_next d x u = record { streams = d.streams; x = x; next = u }

gone_on : (d : Drill) (x : ℕ) (u : Upcoming) (later es : List Event) → DrillIs d es → GoesTo d.streams x later u → DrillIs (with_next d x u) later
gone_on d x u later es k g = record { some = k.some; few = k.few; placed = g.placed; is = g.rest }

pub yields_open : (d : Drill) (i s : ℕ) (u : Upcoming) → d.next ≡ next.Open i → s ≡ stream_at i
    → GoesTo d.streams d.streams (opens_from d.streams (i + 1) ++ (rounds_from d.streams 0 ++ (ends_from d.streams 0 ++ drains_from d.streams 0))) u
    → Yields d (Some (event.Plain (plain.Begin s))) (with_next d d.x u)
yields_open d i s u e es g = record {
  goes = λ all k.
      let n = d.streams in
      let p = placed_as d (next.Open i) all e k in
      let more : List Event = rounds_from n 0 ++ (ends_from n 0 ++ drains_from n 0) in
      let later : List Event = opens_from n (i + 1) ++ more in
      let G : ℕ → Type 0 = λ v. GoesTo n v later u in (
        later,
        p.1 ∙ ap (λ (v : List Event). v ++ more) (opens_more n i p.0.0) ∙ ap (λ v. event.Plain (plain.Begin v) ∷ later) (sym es),
        gone_on d d.x u later all k (subst G (sym p.0.1) g),
      );
}

pub yields_body : (d : Drill) (r i s x : ℕ) (octets : List ℕ) → d.next ≡ next.Body r i → s ≡ stream_at i → x ≡ next_number d.x → octets ≡ replicate (amount (x / 65536)) (s % 256)
    → Yields d (Some (event.Plain (plain.Body s octets))) (with_next d x (next.Room r i))
yields_body d r i s x octets e es ex eo = record {
  goes = λ all k.
      let n = d.streams in
      let at : ℕ = 2 * (r * n + i) in
      let p = placed_as d (next.Body r i) all e k in
      let more : List Event = rounds_from n (r + 1) ++ (ends_from n 0 ++ drains_from n 0) in
      let later : List Event = rest_of n (next.Room r i) in
      let one : suc at ≡ at + 1 = omega arith in
      let drawn : x ≡ number_after n (at + 1) = ex ∙ ap next_number p.0.2 ∙ ap (number_after n) one in
      let octets_are : octets ≡ replicate (amount (draw n at)) (stream_at i % 256) = eo ∙ ap (λ (v : ℕ). replicate (amount (v / 65536)) (s % 256)) drawn ∙ ap (λ (v : ℕ). replicate (amount (draw n at)) (v % 256)) es in
      let given : event.Plain (plain.Body s octets) ≡ fed i (draw n at) = ap (λ (v : ℕ). event.Plain (plain.Body v octets)) es ∙ ap (λ (v : List ℕ). event.Plain (plain.Body (stream_at i) v)) octets_are in (
        later,
        p.1 ∙ ap (λ (v : List Event). v ++ more) (round_more n r i p.0.0) ∙ ap (λ (v : Event). v ∷ later) (sym given),
        gone_on d x (next.Room r i) later all k (record { rest = refl; placed = (p.0.0, p.0.1, drawn) }),
      );
}

pub yields_end : (d : Drill) (i s : ℕ) (u : Upcoming) → d.next ≡ next.End i → s ≡ stream_at i → ((x : ℕ) → GoesTo d.streams x (ends_from d.streams (i + 1) ++ drains_from d.streams 0) u)
    → Yields d (Some (event.Plain (plain.Finish s))) (with_next d d.x u)
yields_end d i s u e es g = record {
  goes = λ all k.
      let n = d.streams in
      let p = placed_as d (next.End i) all e k in
      let later : List Event = ends_from n (i + 1) ++ drains_from n 0 in (
        later,
        p.1 ∙ ap (λ (v : List Event). v ++ drains_from n 0) (ends_more n i p.0) ∙ ap (λ v. event.Plain (plain.Finish v) ∷ later) (sym es),
        gone_on d d.x u later all k (g d.x),
      );
}

-- what is left to come grows shorter
pub drill_less : (old new : Drill) (given : Event) → Yields old (Some given) new → (es : List Event) × DrillIs old es → length (rest_of new.streams new.next) < length (rest_of old.streams old.next)
drill_less old new given y k =
    let g = y.goes k.0 k.1 in
    let a : length (rest_of old.streams old.next) ≡ suc (length g.0) = ap length (sym k.1.is ∙ g.1) in
    let b : length (rest_of new.streams new.next) ≡ length g.0 = ap length (sym g.2.is) in
    omega (arith, a, b)

-- ---- all events

pub events_more : (n : ℕ) (old new : Drill) (given : Option Event) (e : Event) (events pushed later : List Event) → DrillIs old later → drill n ≡ events ++ later → Yields old given new → given ≡ Some e
    → pushed ≡ events ++ e ∷ [] → (left : List Event) × DrillIs new left × (drill n ≡ pushed ++ left)
events_more n old new given e events pushed later k split y is p =
    let P : Option Event → Type 0 = λ v. Yields old v new in
    let g = (subst P is y).goes later k in
    (g.0, g.2, split ∙ ap (λ (v : List Event). events ++ v) g.1 ∙ sym (append_assoc events (e ∷ []) g.0) ∙ ap (λ (v : List Event). v ++ g.0) (sym p))

pub events_less : (old new : Drill) (given : Option Event) (e : Event) (later : List Event) → DrillIs old later → Yields old given new → given ≡ Some e
    → length (rest_of new.streams new.next) < length (rest_of old.streams old.next)
events_less old new given e later k y is = let P : Option Event → Type 0 = λ v. Yields old v new in drill_less old new e (subst P is y) (later, k)

pub events_all : (n : ℕ) (old new : Drill) (given : Option Event) (events later : List Event) → DrillIs old later → drill n ≡ events ++ later → Yields old given new
    → ((e : Event) → given ≡ Some e → ⊥) → events ≡ drill n
events_all n old new None events later k split y none =
    let g = y.goes later k in sym (split ∙ ap (λ (v : List Event). events ++ v) g.0 ∙ append-nil events)
events_all n old new (Some e) events later k split y none = absurd (none e refl)
