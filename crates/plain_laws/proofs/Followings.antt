-- What the order of the events tells of the streams.
use Rattle.std.proofs.lemmas.Bool.{and_parts, or_parts, not-true}
use Rattle.plain_laws.proofs.Streams.{by_case, number_is}
use Rattle.plain_laws.specs.Owing.{nothing}
use Rattle.plain_laws.specs.Pairs.{seconds}
use Rattle.plain_laws.specs.Regular.{AtMost, Regular}
use Rattle.std.proofs.lemmas.Bool.{ltb-true}
use Rattle.std.proofs.Common.{ap, arith, refl, sym, ◌∙◌}
use Rattle.std.specs.List.{list_all}
use Rattle.std.specs.Prelude.{Bool, List, [], false, if◌then◌else◌, nat_lt, not, true, ℕ, ◌&&◌, ◌++◌, ◌-◌, ◌<◌, ◌==◌, ◌∷◌, ◌≡◌, ◌≤◌}
use Rattle.plain_laws.specs.Words.{Past}
use Rattle.tape_laws.specs.Dispatches.{events_back, has, started}
use Rattle.tape_laws.specs.Following.{begun, cut, finished, is_flowing, may_follow, paired}
use Rattle.tape_laws.specs.History.{Noted}
use Rattle.tape_laws.specs.Plain.{plain_ended}
use Rattle.tape_laws.specs.declared.PlainLimits.{PlainLimits}
use Rattle.flow_notes.specs.declared.events.Event.TheVariants as event
use Rattle.flow_notes.specs.declared.events.PlainEvent.TheVariants as plain
use Rattle.flow_notes.specs.declared.notes.Note.TheVariants as note
use Rattle.plain_laws.proofs.Streams.{or_true as later}

-- the end of a stream came where an event said so
pub ended_is : (x : ℕ) (h : Past) → plain_ended x h ≡ has (finished (events_back h)) x
ended_is x [] = refl
ended_is x (Noted (note.Turn k (event.Plain (plain.Finish s))) ∷ past) = cc (ended_is x past)
ended_is x (step ∷ past) = ended_is x past

-- a stream that has no pair yet has no seconds
pub seconds_none : (s : ℕ) (h : Past) → has (paired (events_back h)) s ≡ false → seconds s h ≡ []
seconds_none s [] e = refl
seconds_none s (Noted (note.Turn k (event.Plain (plain.Pair first second))) ∷ past) e =
    let d = or_parts (first == s) (has (paired (events_back past)) s) e in
    ap (λ b. (if b then second ∷ [] else []) ++ seconds s past) d.0 ∙ seconds_none s past d.1
seconds_none s (step ∷ past) e = seconds_none s past e

-- at rest the streams that the events began are those that were started
pub begun_is : (limits : PlainLimits) (x : ℕ) (h : Past) → Regular limits nothing h → has (begun (events_back h)) x ≡ has (started h) x
begun_is limits x h r = r.books.said x

each_below : (s : ℕ) (xs : List ℕ) (y : ℕ) → list_all (λ t. nat_lt t s) xs ≡ true → has xs y ≡ true → y < s
each_below s [] y a e = cc
each_below s (x ∷ xs) y a e =
    let k = and_parts (nat_lt x s) (list_all (λ t. nat_lt t s) xs) a in
    by_case (x == y) (λ t. rw (← number_is x y t) (ltb-true x s k.0)) (λ d. each_below s xs y k.1 (later (x == y) (has xs y) e d))

-- a stream that may begin is above each that was started
module _ (limits : PlainLimits) (s : ℕ) (h : Past) where
  pub begin_above : Regular limits nothing h → may_follow (events_back h) (plain.Begin s) ≡ true
      → (y : ℕ) → has (started h) y ≡ true → y < s
  begin_above r m y e = each_below s (begun (events_back h)) y m (begun_is limits y h r ∙ e)

  pub begin_most : Regular limits nothing h → may_follow (events_back h) (plain.Begin s) ≡ true → AtMost (s - 1) (started h)
  begin_most r m = record { most = λ y e. less _ _ (begin_above r m y e) }
    where
      less : (a b : ℕ) → a < b → a ≤ b - 1
      less a b e = omega arith

-- octets and an end are of a stream that was started, whose end hasn't come
pub record Flowing (s : ℕ) (h : Past) : Type 0 where
  pub was : has (started h) s ≡ true
  pub goes_on : plain_ended s h ≡ false

module _ (limits : PlainLimits) (s : ℕ) where
  flowing : (h : Past) → Regular limits nothing h → is_flowing (events_back h) s ≡ true → Flowing s h
  flowing h r m =
      let es = events_back h in
      let k = three (has (begun es) s) (not (has (finished es) s)) (not (has (cut es) s)) m in
      record { was = sym (begun_is limits s h r) ∙ k.0; goes_on = ended_is s h ∙ not-true (has (finished es) s) k.1 }
    where
      three : (a b c : Bool) → (a && b && c) ≡ true → (a ≡ true) × (b ≡ true)
      three true true c e = (refl, refl)
      three true false c e = cc
      three false b c e = cc

  pub body_flowing : (octets : List ℕ) (h : Past) → Regular limits nothing h → may_follow (events_back h) (plain.Body s octets) ≡ true → Flowing s h
  body_flowing octets h r m = flowing h r m

  pub finish_flowing : (h : Past) → Regular limits nothing h → may_follow (events_back h) (plain.Finish s) ≡ true → Flowing s h
  finish_flowing h r m = flowing h r m

-- a pair is of two streams that were started, the first of which has no second yet
pub record Pairable (s t : ℕ) (h : Past) : Type 0 where
  pub first : has (started h) s ≡ true
  pub second : has (started h) t ≡ true
  pub apart : (s == t) ≡ false
  pub none : seconds s h ≡ []

pub pair_may : (limits : PlainLimits) (s t : ℕ) (h : Past) → Regular limits nothing h → may_follow (events_back h) (plain.Pair s t) ≡ true → Pairable s t h
pair_may limits s t h r m =
    let es = events_back h in
    let k = four (has (begun es) s) (has (begun es) t) (s == t) (has (paired es) s) m in
    record { first = sym (begun_is limits s h r) ∙ k.0; second = sym (begun_is limits t h r) ∙ k.1; apart = k.2; none = seconds_none s h k.3 }
  where
    four : (a b c d : Bool) → (a && b && not c && not d) ≡ true → (a ≡ true) × (b ≡ true) × (c ≡ false) × (d ≡ false)
    four true true false false e = (refl, refl, refl, refl)
    four true true false true e = cc
    four true true true d e = cc
    four true false c d e = cc
    four false b c d e = cc
