-- The flows that stand in a line.
use Rattle.flow_gate.proofs.Rising.{Rises, Rises-tail}
use Rattle.flow_gate.specs.Line.{Places, is_taken, live, places_of}
use Rattle.flow_rules.specs.declared.ids.FlowId.{FlowId}
use Rattle.flow_gate.specs.declared.stands.Stand.{Stand}
use Rattle.std.proofs.Common.{ap, arith, inl, inr, refl, subst, sym, ◌∙◌}
use Rattle.std.proofs.lemmas.Bool.{cases_Bool}
use Rattle.std.proofs.lemmas.Bool.Decides.{nat_tests}
use Rattle.std.proofs.lemmas.List.{drop_more, map_push, take-append-drop, take_more}
use Rattle.std.proofs.lemmas.List.Elements.{filter_map-append}
use Rattle.std.proofs.lemmas.Map.Keys.{sorted_head}
use Rattle.std.specs.List.{AllByRecursion, cons_option}
use Rattle.std.specs.List.Sorted.{IsStrictlySortedBy}
use Rattle.std.specs.Map.{keys_of}
use Rattle.std.specs.Ordering.{nat_cmp}
use Rattle.std.specs.Prelude.{Bool, List, None, Option, Some, [], cond, drop, false, filter, is_some, length, option_map, slice_get, slice_index_or, take, true, ℕ, ◌++◌, ◌+◌, ◌<◌, ◌∷◌, ◌≡◌}
use Rattle.std.specs.declared.cmp.Ordering.TheVariants.{Less}

lt_cmp : (p q : ℕ) → p < q → nat_cmp p q ≡ Less
lt_cmp p q less = grind (arith, nat_tests)

-- the entry of a stand
abbrev pub entry : Stand → Option (ℕ × FlowId)
entry s = option_map (λ f. (s.place, f)) s.flow

pub live-append : (ss ts : List Stand) → live (ss ++ ts) ≡ live ss ++ live ts
live-append ss ts = filter_map-append entry ss ts

pub live-parts : (i : ℕ) (ss : List Stand) → live ss ≡ live (take i ss) ++ live (drop i ss)
live-parts i ss = ap live (sym (take-append-drop i ss)) ∙ live-append (take i ss) (drop i ss)

-- ---- a part by places
module _ (test : ℕ → Bool) where
  passes : (p : ℕ) (o : Option FlowId) (es : Places) → test p ≡ true →
      filter (λ e. test e.0) (cons_option (option_map (λ f. (p, f)) o) es) ≡ cons_option (option_map (λ f. (p, f)) o) (filter (λ e. test e.0) es)
  passes p None es pass = refl
  passes p (Some f) es pass = ap (λ b. cond b ((p, f) ∷ filter (λ e. test e.0) es) (filter (λ e. test e.0) es)) pass

  fails : (p : ℕ) (o : Option FlowId) (es : Places) → test p ≡ false →
      filter (λ e. test e.0) (cons_option (option_map (λ f. (p, f)) o) es) ≡ filter (λ e. test e.0) es
  fails p None es fail = refl
  fails p (Some f) es fail = ap (λ b. cond b ((p, f) ∷ filter (λ e. test e.0) es) (filter (λ e. test e.0) es)) fail

  pub live-filter : (ss : List Stand) → live (filter (λ s. test s.place) ss) ≡ filter (λ e. test e.0) (live ss)
  live-filter [] = refl
  live-filter (s ∷ ss) = elim (cases_Bool (test s.place)) [
    | inl pass ↦
        ap (λ b. live (cond b (s ∷ filter (λ t. test t.place) ss) (filter (λ t. test t.place) ss))) pass
        ∙ ap (cons_option (entry s)) (live-filter ss) ∙ sym (passes s.place s.flow (live ss) pass)
    | inr fail ↦
        ap (λ b. live (cond b (s ∷ filter (λ t. test t.place) ss) (filter (λ t. test t.place) ss))) fail
        ∙ live-filter ss ∙ sym (fails s.place s.flow (live ss) fail)
  ]

-- ---- what holds of all places holds of those of the flows
module _ (P : ℕ → Type 0) where
  keys-cons : (p : ℕ) (o : Option FlowId) (es : Places) → P p → AllByRecursion P (keys_of es) → AllByRecursion P (keys_of (cons_option (option_map (λ f. (p, f)) o) es))
  keys-cons p None es here all = all
  keys-cons p (Some f) es here all = (here, all)

  pub live-keys : (ss : List Stand) → AllByRecursion P (places_of ss) → AllByRecursion P (keys_of (live ss))
  live-keys [] all = tt
  live-keys (s ∷ ss) all = keys-cons s.place s.flow (live ss) all.0 (live-keys ss all.1)

  entries-from_keys : (es : Places) → AllByRecursion P (keys_of es) → AllByRecursion (λ e. P e.0) es
  entries-from_keys [] all = tt
  entries-from_keys (e ∷ es) all = (all.0, entries-from_keys es all.1)

  pub live-all : (ss : List Stand) → AllByRecursion P (places_of ss) → AllByRecursion (λ e. P e.0) (live ss)
  live-all ss all = entries-from_keys (live ss) (live-keys ss all)

rises-cons : (p : ℕ) (o : Option FlowId) (es : Places) → AllByRecursion (λ q. nat_cmp p q ≡ Less) (keys_of es) → IsStrictlySortedBy nat_cmp (keys_of es) →
    IsStrictlySortedBy nat_cmp (keys_of (cons_option (option_map (λ f. (p, f)) o) es))
unfolding IsStrictlySortedBy
rises-cons p None es head rises = rises
rises-cons p (Some f) es head rises = (head, rises)

-- the places of the flows rise
pub live-rises : (ss : List Stand) → Rises ss → IsStrictlySortedBy nat_cmp (keys_of (live ss))
live-rises [] rises = rises
live-rises (s ∷ ss) rises = rises-cons s.place s.flow (live ss) (live-keys (λ q. nat_cmp s.place q ≡ Less) ss (sorted_head nat_cmp s.place (places_of ss) rises)) (live-rises ss (Rises-tail s ss rises))

-- ---- the gaps go
taken-cons : (s : Stand) (o : Option FlowId) (ss : List Stand) → s.flow ≡ o → live (filter is_taken ss) ≡ live ss → live (cond (is_some o) (s ∷ filter is_taken ss) (filter is_taken ss)) ≡ live (s ∷ ss)
taken-cons s None ss is rest = rest ∙ sym (ap (λ o. cons_option (option_map (λ f. (s.place, f)) o) (live ss)) is)
taken-cons s (Some f) ss is rest = ap (cons_option (entry s)) rest

pub live-taken : (ss : List Stand) → live (filter is_taken ss) ≡ live ss
live-taken [] = refl
live-taken (s ∷ ss) = taken-cons s s.flow ss refl (live-taken ss)

places-cons : (s : Stand) (o : Option FlowId) (ss : List Stand) → s.flow ≡ o → places_of (filter is_taken ss) ≡ keys_of (live ss) →
    places_of (cond (is_some o) (s ∷ filter is_taken ss) (filter is_taken ss)) ≡ keys_of (live (s ∷ ss))
places-cons s None ss is rest = rest ∙ sym (ap (λ o. keys_of (cons_option (option_map (λ f. (s.place, f)) o) (live ss))) is)
places-cons s (Some f) ss is rest = ap (λ ps. s.place ∷ ps) rest ∙ sym (ap (λ o. keys_of (cons_option (option_map (λ f. (s.place, f)) o) (live ss))) is)

pub places-taken : (ss : List Stand) → places_of (filter is_taken ss) ≡ keys_of (live ss)
places-taken [] = refl
places-taken (s ∷ ss) = places-cons s s.flow ss refl (places-taken ss)

-- a line of which the gaps may have gone
abbrev pub closed : Bool → List Stand → List Stand
closed b ss = cond b (filter is_taken ss) ss

pub live-closed : (b : Bool) (ss : List Stand) → live (closed b ss) ≡ live ss
live-closed true ss = live-taken ss
live-closed false ss = refl

pub Rises-closed : (b : Bool) (ss : List Stand) → Rises ss → Rises (closed b ss)
Rises-closed true ss rises = subst (IsStrictlySortedBy nat_cmp) (sym (places-taken ss)) (live-rises ss rises)
Rises-closed false ss rises = rises

pub all-closed : (P : ℕ → Type 0) (b : Bool) (ss : List Stand) → AllByRecursion P (places_of ss) → AllByRecursion P (places_of (closed b ss))
all-closed P true ss all = subst (AllByRecursion P) (sym (places-taken ss)) (live-keys P ss all)
all-closed P false ss all = all

-- ---- one more comes
pub Rises-nil : Rises []
unfolding IsStrictlySortedBy
Rises-nil = tt

rises-push : (n : ℕ) (ps : List ℕ) → AllByRecursion (λ p. p < n) ps → IsStrictlySortedBy nat_cmp ps → IsStrictlySortedBy nat_cmp (ps ++ n ∷ [])
unfolding IsStrictlySortedBy
rises-push n [] below rises = (tt, tt)
rises-push n (p ∷ ps) below rises = (less_push p n ps below.0 rises.0, rises-push n ps below.1 rises.1)
  where
    less_push : (p n : ℕ) (ps : List ℕ) → p < n → AllByRecursion (λ q. nat_cmp p q ≡ Less) ps → AllByRecursion (λ q. nat_cmp p q ≡ Less) (ps ++ n ∷ [])
    less_push p n [] less all = (lt_cmp p n less, tt)
    less_push p n (q ∷ ps) less all = (all.0, less_push p n ps less all.1)

pub Rises-push : (s : Stand) (ss : List Stand) → AllByRecursion (λ p. p < s.place) (places_of ss) → Rises ss → Rises (ss ++ s ∷ [])
Rises-push s ss below rises = subst (IsStrictlySortedBy nat_cmp) (sym (map_push (λ (t : Stand). t.place) ss s)) (rises-push s.place (places_of ss) below rises)

below_push : (n : ℕ) (ps : List ℕ) → AllByRecursion (λ p. p < n) ps → AllByRecursion (λ p. p < n + 1) (ps ++ n ∷ [])
below_push n [] below = (omega arith, tt)
below_push n (p ∷ ps) below = (omega (arith, below.0), below_push n ps below.1)

pub below-push : (s : Stand) (ss : List Stand) → AllByRecursion (λ p. p < s.place) (places_of ss) → AllByRecursion (λ p. p < s.place + 1) (places_of (ss ++ s ∷ []))
below-push s ss below = subst (AllByRecursion (λ p. p < s.place + 1)) (sym (map_push (λ (t : Stand). t.place) ss s)) (below_push s.place (places_of ss) below)

pub live-push : (line new : List Stand) (place : ℕ) (flow : FlowId) → new ≡ line ++ record { place = place; flow = Some flow } ∷ [] → live new ≡ live line ++ (place, flow) ∷ []
live-push line new place flow is =
    let last : List Stand = record { place = place; flow = Some flow } ∷ [] in
    ap live is ∙ live-append line last

-- ---- the first flow
pub first_here : (i : ℕ) (ss : List Stand) (d : Stand) (f : FlowId) → i < length ss → live (take i ss) ≡ [] → (slice_index_or ss i d).flow ≡ Some f →
    slice_get (live ss) 0 ≡ Some ((slice_index_or ss i d).place, f)
first_here i ss d f less none is =
    ap (λ es. slice_get es 0)
    (live-parts i ss ∙ ap (λ es. es ++ live (drop i ss)) none ∙ ap live (drop_more ss i d less)
    ∙ ap (λ o. cons_option (option_map (λ g. ((slice_index_or ss i d).place, g)) o) (live (drop (i + 1) ss))) is)

-- one more stand is passed
pub live-more : (i : ℕ) (ss : List Stand) (d : Stand) → i < length ss → live (take (i + 1) ss) ≡ live (take i ss) ++ cons_option (entry (slice_index_or ss i d)) []
live-more i ss d less = ap live (take_more ss i d less) ∙ live-append (take i ss) (slice_index_or ss i d ∷ [])
