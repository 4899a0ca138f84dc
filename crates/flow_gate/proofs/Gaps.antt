-- A flow leaves its stand, which becomes a gap.
use Rattle.flow_gate.proofs.Places.{eq_by_place, weaken}
use Rattle.flow_gate.proofs.Rising.{Rises, Rises-tail, later}
use Rattle.flow_gate.specs.Line.{IsBefore, Places, live, places_of}
use Rattle.flow_rules.specs.declared.ids.FlowId.{FlowId}
use Rattle.flow_gate.specs.declared.stands.Stand.{Stand}
use Rattle.std.proofs.Common.{ap, arith, inl, inr, refl, sym, ◌∙◌}
use Rattle.std.proofs.lemmas.Bool.{cases_Bool, eqb-true, false≢true}
use Rattle.std.proofs.lemmas.Bool.Decides.{nat_tests}
use Rattle.std.proofs.lemmas.Option.{none-some}
use Rattle.std.specs.BTreeMap.{is_at}
use Rattle.std.specs.List.{AllByRecursion, cons_option}
use Rattle.std.specs.Map.{remove_entry}
use Rattle.std.specs.Ordering.{nat_cmp}
use Rattle.std.specs.Prelude.{List, None, Option, Some, [], cond, is_some, length, nat_eq, option_map, slice_index_or, slice_set, suc, true, zero, ℕ, ◌+◌, ◌<◌, ◌∷◌, ◌≡◌, ◌≤◌}

-- the line without what stands at a place
abbrev without_place : ℕ → Places → Places
without_place p = remove_entry (is_at (nat_cmp p))

-- the flow of a stand, before the others
abbrev stood : ℕ → Option FlowId → Places → Places
stood q o es = cons_option (option_map (λ f. (q, f)) o) es

here : (p q : ℕ) → q ≡ p → is_at (nat_cmp p) q ≡ true
here p q same = grind (arith, nat_tests)

-- what doesn't stand there stays
other_stays : (p q : ℕ) (o : Option FlowId) (es es' : Places) → (q ≡ p → o ≡ None) → es' ≡ without_place p es → stood q o es' ≡ without_place p (stood q o es)
other_stays p q None es es' gone rest = rest
other_stays p q (Some f) es es' gone rest = elim (cases_Bool (nat_eq p q)) [
  | inl same ↦ absurd (none-some f (sym (gone (sym (eqb-true p q same)))))
  | inr apart ↦ ap (λ ds. (q, f) ∷ ds) rest ∙ sym (ap (λ b. cond b es ((q, f) ∷ without_place p es)) (eq_by_place p q ∙ apart))
]

-- what stands there goes
this_goes : (p q : ℕ) (o : Option FlowId) (es : Places) → q ≡ p → is_some o ≡ true → es ≡ without_place p (stood q o es)
this_goes p q None es same some = absurd (false≢true some)
this_goes p q (Some f) es same some = sym (ap (λ b. cond b es ((q, f) ∷ without_place p es)) (here p q same))

one_less : (q : ℕ) (o : Option FlowId) (es : Places) → is_some o ≡ true → length es + 1 ≡ length (stood q o es)
one_less q None es some = absurd (false≢true some)
one_less q (Some f) es some = omega arith

one_more : (q : ℕ) (o : Option FlowId) (es es' : Places) → length es' + 1 ≡ length es → length (stood q o es') + 1 ≡ length (stood q o es)
one_more q None es es' rest = rest
one_more q (Some f) es es' rest = omega (arith, rest)

before_tail : (p i : ℕ) (s : Stand) (ss : List Stand) → IsBefore p (suc i) (s ∷ ss) → IsBefore p i ss
before_tail p i s ss is = record { within = omega (arith, is.within); before = is.before.1; after = is.after }

-- the stand that a flow left
abbrev pub left_stand : List Stand → ℕ → Stand → Stand
left_stand ss i d = record { place = (slice_index_or ss i d).place; flow = None }

pub flow_goes : (p i : ℕ) (ss : List Stand) (d : Stand) → i < length ss → IsBefore p i ss → (slice_index_or ss i d).place ≡ p → is_some (slice_index_or ss i d).flow ≡ true →
    live (slice_set ss i (left_stand ss i d)) ≡ remove_entry (is_at (nat_cmp p)) (live ss)
flow_goes p i [] d less is same some = absurd (omega (arith, less))
flow_goes p zero (s ∷ ss) d less is same some = this_goes p s.place s.flow (live ss) same some
flow_goes p (suc i) (s ∷ ss) d less is same some =
    other_stays p s.place s.flow (live ss) (live (slice_set ss i (left_stand ss i d))) (λ e. absurd (omega (arith, e, is.before.0)))
    (flow_goes p i ss d (omega (arith, less)) (before_tail p i s ss is) same some)

pub one_goes : (i : ℕ) (ss : List Stand) (d : Stand) → i < length ss → is_some (slice_index_or ss i d).flow ≡ true →
    length (live (slice_set ss i (left_stand ss i d))) + 1 ≡ length (live ss)
one_goes i [] d less some = absurd (omega (arith, less))
one_goes zero (s ∷ ss) d less some = one_less s.place s.flow (live ss) some
one_goes (suc i) (s ∷ ss) d less some = one_more s.place s.flow (live ss) _ (one_goes i ss d (omega (arith, less)) some)

pub places_stay : (i : ℕ) (ss : List Stand) (d : Stand) → i < length ss → places_of (slice_set ss i (left_stand ss i d)) ≡ places_of ss
places_stay i [] d less = absurd (omega (arith, less))
places_stay zero (s ∷ ss) d less = refl
places_stay (suc i) (s ∷ ss) d less = ap (λ ps. s.place ∷ ps) (places_stay i ss d (omega (arith, less)))

-- ---- nobody stands there
none_above : (p : ℕ) (ss : List Stand) → AllByRecursion (λ t. p < t.place) ss → live ss ≡ without_place p (live ss)
none_above p [] above = refl
none_above p (s ∷ ss) above = other_stays p s.place s.flow (live ss) (live ss) (λ e. absurd (omega (arith, e, above.0))) (none_above p ss above.1)

pub all_stay : (p i : ℕ) (ss : List Stand) (d : Stand) → Rises ss → IsBefore p i ss → (i < length ss → (slice_index_or ss i d).place ≡ p → (slice_index_or ss i d).flow ≡ None) →
    live ss ≡ remove_entry (is_at (nat_cmp p)) (live ss)
all_stay p i [] d rises is gone = refl
all_stay p zero (s ∷ ss) d rises is gone =
    other_stays p s.place s.flow (live ss) (live ss) (λ e. gone (omega arith) e)
    (none_above p ss (weaken ss (λ t h. let low : p ≤ s.place = is.after.0 in omega (arith, low, h)) (later s ss rises)))
all_stay p (suc i) (s ∷ ss) d rises is gone =
    other_stays p s.place s.flow (live ss) (live ss) (λ e. absurd (omega (arith, e, is.before.0)))
    (all_stay p i ss d (Rises-tail s ss rises) (before_tail p i s ss is) (λ less. gone (omega (arith, less))))
