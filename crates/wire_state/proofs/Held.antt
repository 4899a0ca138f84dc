-- What the places of a flow hold once some of its octets went on, came or left.
use Rattle.exchange_core.specs.Effects.{arrived, body_framed, finished, headed, list_framed, moved}
use Rattle.exchange_core.specs.Exchange.{at_moment, begun_flow}
use Rattle.exchange_core.specs.Flow.{Flow, last_place, octets_in}
use Rattle.exchange_core.specs.declared.start.StartSpec.{StartSpec}
use Rattle.filter_chain.proofs.Changes.{place_at-changed_other, place_at-changed_same}
use Rattle.filter_chain.specs.Chain.{place_at, stages}
use Rattle.filter_chain.specs.Effects.{changed_at, passed, ticked, whole_steps}
use Rattle.filter_chain.specs.Place.{Place, empty_place, gaining, letting_go, losing, refilled}
use Rattle.filter_chain.specs.declared.stage.StageKind.TheVariants.{Send}
use Rattle.flow_rules.specs.declared.ids.FlowId.{FlowId}
use Rattle.hpack_codec.specs.declared.fields.Field.{Field}
use Rattle.proxy_config.specs.declared.routes.Filter.{Filter}
use Rattle.proxy_config.specs.declared.routes.Filter.TheVariants as filter
use Rattle.std.proofs.Common.{ap, arith, refl, subst, sym, ◌∙◌}
use Rattle.std.proofs.lemmas.Bool.Decides.{nat_tests}
use Rattle.std.proofs.lemmas.List.{append-nil, length-set}
use Rattle.std.specs.Option.{option_map, option_map_or}
use Rattle.std.specs.Prelude.{Bool, List, None, Option, Some, [], drop, false, if◌then◌else◌, length, map, nat_lt, slice_get, slice_set, suc, take, true, zero, ℕ, ◌++◌, ◌+◌, ◌-◌, ◌<◌, ◌==◌, ◌∷◌, ◌≡◌}
use Rattle.wire_state.proofs.Shapes.{SameShape, seen_shape}
use Rattle.wire_state.specs.Limits.{shape_of}

-- ---- tests of numbers
pub by_test : {X : Type 0} (b : Bool) {x a c : X} → (b ≡ true → x ≡ a) → (b ≡ false → x ≡ c) → x ≡ (if b then a else c)
by_test true f g = f refl
by_test false f g = g refl

pub is_number : (p q : ℕ) → (p == q) ≡ true → p ≡ q
is_number p q e = grind (arith, nat_tests)

pub number_same : (p : ℕ) → (p == p) ≡ true
number_same p = grind (arith, nat_tests)

pub apart : (p q : ℕ) → (p == q) ≡ false → q ≡ p → ⊥
apart p q e same = let one : (q == q) ≡ false = subst (λ (v : ℕ). (v == q) ≡ false) (sym same) e in absurd (cc (one, number_same q))

pub turned : (p q : ℕ) (b : Bool) → (p == q) ≡ b → (q == p) ≡ b
turned p q true e = grind (arith, nat_tests)
turned p q false e = grind (arith, nat_tests)

-- ---- one place
abbrev pub held : Option Place → List ℕ
held o = option_map_or (λ place. place.octets) o []

drop_none : (n : ℕ) → [] ≡ drop {A = ℕ} n []
drop_none zero = refl
drop_none (suc n) = refl

let_go_held : (n : ℕ) (o : Option Place) → held (option_map (letting_go n) o) ≡ drop n (held o)
let_go_held n None = drop_none n
let_go_held n (Some x) = refl

lost_held : (n : ℕ) (o : Option Place) → held (option_map (losing n) o) ≡ drop n (held o)
lost_held n None = drop_none n
lost_held n (Some x) = refl

gained_held : (octets : List ℕ) (o : Option Place) (y : Place) → o ≡ Some y → held (option_map (gaining octets) o) ≡ held o ++ octets
gained_held octets o y e = ap (λ (v : Option Place). held (option_map (gaining octets) v)) e ∙ sym (ap (λ (v : Option Place). held v ++ octets) e)

module _ (f : Place → Place) (places : List Place) (p q : ℕ) where
  held_same : (p == q) ≡ true → held (place_at (changed_at f p places) q) ≡ held (option_map f (place_at places q))
  held_same e =
      let is = is_number p q e in
      ap (λ v. held (place_at (changed_at f p places) v)) (sym is) ∙ (ap held (place_at-changed_same f places p) ∙ ap (λ v. held (option_map f (place_at places v))) is)

  held_other : (p == q) ≡ false → held (place_at (changed_at f p places) q) ≡ held (place_at places q)
  held_other e = ap held (place_at-changed_other f places p q (apart p q e))

pub changed_length : (f : Place → Place) (places : List Place) (p : ℕ) → length (changed_at f p places) ≡ length places
changed_length f places zero = refl
changed_length f places (suc i) = at (slice_get places i)
  where
    at : (o : Option Place) → length (option_map_or (λ place. slice_set places i (f place)) o places) ≡ length places
    at None = refl
    at (Some x) = length-set places i (f x)

-- ---- a move from a stage to the next place
module _ (places : List Place) (p n : ℕ) (y : Place) (next : place_at places (p + 1) ≡ Some y) where
  abbrev mid : List Place
  mid = changed_at (letting_go n) p places

  abbrev came : List ℕ
  came = take n (held (place_at places p))

  behind : (p + 1 == p) ≡ false
  behind = grind (arith, nat_tests)

  still_next : place_at mid (p + 1) ≡ Some y
  still_next = place_at-changed_other (letting_go n) places p (p + 1) (apart p (p + 1) (turned (p + 1) p false behind)) ∙ next

  at_next : (r : ℕ) → (p + 1 == r) ≡ true → held (place_at (passed places p n) r) ≡ held (place_at places r) ++ came
  at_next r e =
      let is = is_number (p + 1) r e in
      held_same (gaining came) mid (p + 1) r e
      ∙ (gained_held came (place_at mid r) y (ap (place_at mid) (sym is) ∙ still_next)
      ∙ ap (λ xs. xs ++ came) (held_other (letting_go n) places p r (turned r p false (ap (λ v. v == p) (sym is) ∙ behind))))

  pub passed_held : (r : ℕ) → held (place_at (passed places p n) r)
      ≡ (if r == p then drop n (held (place_at places r)) else (if r == p + 1 then held (place_at places r) ++ came else held (place_at places r)))
  passed_held r = by_test (r == p)
      (λ here. let there = is_number r p here in
      held_other (gaining came) mid (p + 1) r (ap (λ v. p + 1 == v) there ∙ behind)
      ∙ (held_same (letting_go n) places p r (turned r p true here) ∙ let_go_held n (place_at places r)))
      (λ past. by_test (r == p + 1)
      (λ follows. at_next r (turned r (p + 1) true follows))
      (λ beyond. held_other (gaining came) mid (p + 1) r (turned r (p + 1) false beyond) ∙ held_other (letting_go n) places p r (turned r p false past)))

-- ---- a move of a flow
-- the first n octets of a place go to the end of the next, where there is one
pub moved_held : (flow : Flow) (p n : ℕ) (y : Place) → slice_get flow.chain.places p ≡ Some y → (r : ℕ)
    → octets_in (moved p n flow) r ≡ (if r == p then drop n (octets_in flow r) else (if r == p + 1 then octets_in flow r ++ take n (octets_in flow p) else octets_in flow r))
moved_held flow zero n y next zero = refl
moved_held flow zero n y next (suc r) = by_test (suc r == 0)
    (λ e. absurd (grind (arith, nat_tests)))
    (λ past. by_test (suc r == 0 + 1)
    (λ e. let one : 1 ≡ suc r = sym (is_number (suc r) (0 + 1) e) in
    held_same (gaining (take n flow.recv)) flow.chain.places 1 (suc r) (ap (λ v. 1 == v) (sym one) ∙ number_same 1)
    ∙ gained_held (take n flow.recv) (place_at flow.chain.places (suc r)) y (ap (place_at flow.chain.places) (sym one) ∙ next))
    (λ e. held_other (gaining (take n flow.recv)) flow.chain.places 1 (suc r) (turned (suc r) 1 false e)))
moved_held flow (suc p) n y next zero = by_test (0 == suc p)
    (λ e. absurd (grind (arith, nat_tests)))
    (λ past. by_test (0 == suc p + 1) (λ e. absurd (grind (arith, nat_tests))) (λ e. refl))
moved_held flow (suc p) n y next (suc r) = passed_held flow.chain.places (suc p) n y (ap (place_at flow.chain.places) one ∙ next) (suc r)
  where
    one : suc p + 1 ≡ suc (suc p)
    one = omega arith

pub moved_last : (p n : ℕ) (flow : Flow) → last_place (moved p n flow) ≡ last_place flow
moved_last zero n flow = changed_length (gaining (take n flow.recv)) flow.chain.places 1
moved_last (suc p) n flow =
    changed_length (gaining (take n (octets_in flow (suc p)))) (changed_at (letting_go n) (suc p) flow.chain.places) (suc p + 1)
    ∙ changed_length (letting_go n) flow.chain.places (suc p)

-- ---- a DATA frame
by_drop : (b : Bool) (n : ℕ) {xs ys : List ℕ} → (b ≡ true → xs ≡ drop n ys) → (b ≡ false → xs ≡ ys) → xs ≡ drop (if b then n else 0) ys
by_drop true n f g = f refl
by_drop false n f g = g refl

-- the first n octets of the last place go
pub framed_held : (n : ℕ) (last : Bool) (flow : Flow) → 0 < last_place flow → (r : ℕ)
    → octets_in (body_framed n last flow) r ≡ drop (if r == last_place flow then n else 0) (octets_in flow r)
framed_held n last flow some zero = by_drop (0 == last_place flow) n (λ e. absurd (grind (arith, nat_tests))) (λ e. refl)
framed_held n last flow some (suc r) = by_drop (suc r == last_place flow) n
    (λ e. held_same (losing n) flow.chain.places (last_place flow) (suc r) (turned (suc r) (last_place flow) true e) ∙ lost_held n (place_at flow.chain.places (suc r)))
    (λ e. held_other (losing n) flow.chain.places (last_place flow) (suc r) (turned (suc r) (last_place flow) false e))

pub framed_last : (n : ℕ) (last : Bool) (flow : Flow) → last_place (body_framed n last flow) ≡ last_place flow
framed_last n last flow = changed_length (losing n) flow.chain.places (length flow.chain.places)

-- ---- octets that come
by_more : (b : Bool) {xs ys : List ℕ} (octets : List ℕ) → (b ≡ true → xs ≡ ys ++ octets) → (b ≡ false → xs ≡ ys) → xs ≡ ys ++ (if b then octets else [])
by_more true octets f g = f refl
by_more false octets f g = g refl ∙ sym (append-nil _)

pub arrived_held : (octets : List ℕ) (flow : Flow) (r : ℕ) → octets_in (arrived octets flow) r ≡ octets_in flow r ++ (if r == 0 then octets else [])
arrived_held octets flow zero = refl
arrived_held octets flow (suc r) = by_more (suc r == 0) octets (λ e. absurd (grind (arith, nat_tests))) (λ e. refl)

-- ---- what moves none
pub record KeepsOctets (old new : Flow) : Type 0 where
  pub last : last_place new ≡ last_place old
  pub holds : (p : ℕ) → octets_in new p ≡ octets_in old p
  pub shape : SameShape old new

pub kept_if : (old new : Flow) → new.window ≡ old.window → new.chain.quantum ≡ old.chain.quantum → new.recv ≡ old.recv → new.chain.places ≡ old.chain.places → KeepsOctets old new
kept_if old new w q r e = record { last = ap length e; holds = at; shape = record { window = w; quantum = q; places = ap (λ (ps : List Place). map shape_of ps) e } }
  where
    at : (p : ℕ) → octets_in new p ≡ octets_in old p
    at zero = r
    at (suc p) = ap (λ ps. held (place_at ps (suc p))) e

pub headed_keeps : (fields : List Field) (last : Bool) (flow : Flow) → KeepsOctets flow (headed fields last flow)
headed_keeps fields true flow = kept_if flow (headed fields true flow) refl refl refl refl
headed_keeps fields false flow = kept_if flow (headed fields false flow) refl refl refl refl

pub finished_keeps : (trailers : Option (List Field)) (flow : Flow) → KeepsOctets flow (finished trailers flow)
finished_keeps trailers flow = kept_if flow (finished trailers flow) refl refl refl refl

pub listed_keeps : (last : Bool) (flow : Flow) → KeepsOctets flow (list_framed last flow)
listed_keeps last flow = kept_if flow (list_framed last flow) refl refl refl refl

map_held : (f : Place → Place) → ((x : Place) → (f x).octets ≡ x.octets) → (places : List Place) (i : ℕ) → held (slice_get (map f places) i) ≡ held (slice_get places i)
map_held f same [] i = refl
map_held f same (x ∷ xs) zero = same x
map_held f same (x ∷ xs) (suc i) = map_held f same xs i

map_length : (f : Place → Place) (places : List Place) → length (map f places) ≡ length places
map_length f [] = refl
map_length f (x ∷ xs) = ap suc (map_length f xs)

pub seen_keeps : (now : ℕ) (flow : Flow) → KeepsOctets flow (at_moment now flow)
seen_keeps now flow = at (nat_lt flow.chain.time now) (seen_shape now flow)
  where
    at : (b : Bool) → SameShape flow (record flow { chain = if b then ticked flow.chain now else flow.chain }) → KeepsOctets flow (record flow { chain = if b then ticked flow.chain now else flow.chain })
    at true shape = record { last = map_length (refilled (whole_steps flow.chain.started now - whole_steps flow.chain.started flow.chain.time)) flow.chain.places; holds = here; shape = shape }
      where
        here : (p : ℕ) → octets_in (record flow { chain = ticked flow.chain now }) p ≡ octets_in flow p
        here zero = refl
        here (suc p) = map_held (refilled (whole_steps flow.chain.started now - whole_steps flow.chain.started flow.chain.time)) (λ x. refl) flow.chain.places p
    at false shape = record { last = refl; holds = λ p. refl; shape = shape }

-- ---- a flow that begins
stages_empty : (filters : List Filter) (rest : List Place) → ((i : ℕ) → held (slice_get rest i) ≡ []) → (i : ℕ) → held (slice_get (stages filters ++ rest) i) ≡ []
stages_empty [] rest none i = none i
stages_empty (filter.Pass ∷ fs) rest none i = stages_empty fs rest none i
stages_empty (filter.Hold limit ∷ fs) rest none zero = refl
stages_empty (filter.Hold limit ∷ fs) rest none (suc i) = stages_empty fs rest none i
stages_empty (filter.Meter limit rate ∷ fs) rest none zero = refl
stages_empty (filter.Meter limit rate ∷ fs) rest none (suc i) = stages_empty fs rest none i

one_empty : (limit i : ℕ) → held (slice_get (empty_place Send limit ∷ []) i) ≡ []
one_empty limit zero = refl
one_empty limit (suc i) = refl

pub begun_held : (f : FlowId) (filters : List Filter) (spec : StartSpec) (multiple p : ℕ) → octets_in (begun_flow f filters spec multiple) p ≡ []
begun_held f filters spec multiple zero = refl
begun_held f filters spec multiple (suc p) = stages_empty filters (empty_place Send spec.send ∷ []) (one_empty spec.send) p
