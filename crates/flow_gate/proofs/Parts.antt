-- The flows between two places, where the first of them are taken.
use Rattle.flow_gate.proofs.Live.{entry, live-filter, live-more, live-parts}
use Rattle.flow_gate.proofs.Places.{between_below, between_from, between_high, between_low, between_yes, filter_none, filter_same, first_of, no_first, weaken}
use Rattle.flow_gate.proofs.Rising.{Rises, Rises-tail, later}
use Rattle.flow_gate.specs.Line.{Places, between, is_between, live}
use Rattle.flow_rules.specs.declared.ids.FlowId.{FlowId}
use Rattle.flow_gate.specs.declared.stands.Stand.{Stand}
use Rattle.std.proofs.Common.{ap, arith, inl, inr, refl, subst, sym, ◌∙◌}
use Rattle.std.proofs.lemmas.Bool.{cases_Bool, false_from_ne_true, false≢true}
use Rattle.std.proofs.lemmas.Bool.Decides.{nat_tests}
use Rattle.std.proofs.lemmas.List.{drop_all, drop_at, length-append, take_all}
use Rattle.std.proofs.lemmas.List.Elements.{All-filter, All-from_recursion, filter_passes}
use Rattle.std.specs.List.{AllByRecursion, cons_option}
use Rattle.std.specs.Prelude.{Bool, List, None, Option, Some, [], cond, drop, false, filter, is_some, length, option_map, slice_get, slice_index_or, suc, take, true, zero, ℕ, ◌+◌, ◌<◌, ◌∷◌, ◌≡◌, ◌≤◌}

-- the stands between two places
abbrev pub stands_between : ℕ → ℕ → List Stand → List Stand
stands_between from to = filter (λ s. is_between from to s.place)

-- those from the i-th of them on are those from its place on
cut : (from to i : ℕ) (ss : List Stand) (d : Stand) → Rises ss → i < length (stands_between from to ss) →
    stands_between (slice_index_or (stands_between from to ss) i d).place to ss ≡ drop i (stands_between from to ss)
cut from to i [] d rises less = absurd (omega (arith, less))
cut from to i (s ∷ ss) d rises less =
    let part : List Stand = stands_between from to ss in
    let goal : Bool → Type 0 = λ b. i < length (cond b (s ∷ part) part) → stands_between (slice_index_or (cond b (s ∷ part) part) i d).place to (s ∷ ss) ≡ drop i (cond b (s ∷ part) part) in
    elim (cases_Bool (is_between from to s.place)) [
      | inl inside ↦ subst goal (sym inside) (within (λ j. cut from to j ss d (Rises-tail s ss rises)) inside i) less
      | inr outside ↦ subst goal (sym outside) (without (cut from to i ss d (Rises-tail s ss rises)) outside) less
    ]
  where
    part : List Stand
    part = stands_between from to ss

    within : ((j : ℕ) → j < length part → stands_between (slice_index_or part j d).place to ss ≡ drop j part) → is_between from to s.place ≡ true → (j : ℕ) → j < length (s ∷ part) → stands_between (slice_index_or (s ∷ part) j d).place to (s ∷ ss) ≡ drop j (s ∷ part)
    within others inside zero short =
        let low = between_low from to s.place inside in
        ap (λ b. cond b (s ∷ stands_between s.place to ss) (stands_between s.place to ss)) (between_yes s.place to s.place (omega arith) (between_high from to s.place inside))
        ∙ ap (λ ts. s ∷ ts) (filter_same (λ t. is_between s.place to t.place) (λ t. is_between from to t.place) ss
        (weaken ss (λ t h. between_from s.place from to t.place (omega (arith, h)) (omega (arith, h, low))) (later s ss rises)))
    within others inside (suc j) short =
        let q : ℕ = (slice_index_or part j d).place in
        let above : s.place < q = All-filter (λ t. is_between from to t.place) (λ t. s.place < t.place) ss (All-from_recursion (λ t. s.place < t.place) ss (later s ss rises)) j d (omega (arith, short)) in
        ap (λ b. cond b (s ∷ stands_between q to ss) (stands_between q to ss)) (between_below q to s.place above)
        ∙ others j (omega (arith, short))

    without : (i < length part → stands_between (slice_index_or part i d).place to ss ≡ drop i part) → is_between from to s.place ≡ false → i < length part → stands_between (slice_index_or part i d).place to (s ∷ ss) ≡ drop i part
    without others outside short =
        let q : ℕ = (slice_index_or part i d).place in
        let low : from ≤ q = between_low from to q (filter_passes (λ t. is_between from to t.place) ss i d short) in
        let out : is_between q to s.place ≡ false = false_from_ne_true (is_between q to s.place) (λ h.
        let a = between_low q to s.place h in let b = between_high q to s.place h in
        false≢true (sym outside ∙ between_yes from to s.place (omega (arith, low, a)) b)) in
        ap (λ b. cond b (s ∷ stands_between q to ss) (stands_between q to ss)) out ∙ others short

pub live_part : (from to : ℕ) (ss part : List Stand) → part ≡ stands_between from to ss → live part ≡ between from to (live ss)
live_part from to ss part is = ap live is ∙ live-filter (is_between from to) ss

-- of a line that is lent as a slice
pub lent_part : (from to : ℕ) (line ss part : List Stand) → ss ≡ line → part ≡ stands_between from to ss → live part ≡ between from to (live line)
lent_part from to line ss part same is = live_part from to ss part is ∙ ap (λ ts. between from to (live ts)) same

-- the first flow of it, and nobody
pub lent_first : (from to : ℕ) (line ss part : List Stand) (e : ℕ × FlowId) → ss ≡ line → part ≡ stands_between from to ss → Some e ≡ slice_get (live part) 0 →
    between from to (live line) ≡ e ∷ drop 1 (between from to (live line))
lent_first from to line ss part e same is first = first_of (between from to (live line)) e (first ∙ ap (λ (es : Places). slice_get es 0) (lent_part from to line ss part same is))

pub lent_nobody : (from to : ℕ) (line ss part : List Stand) → ss ≡ line → part ≡ stands_between from to ss → None ≡ slice_get (live part) 0 → between from to (live line) ≡ []
lent_nobody from to line ss part same is none = no_first (between from to (live line)) (none ∙ ap (λ (es : Places). slice_get es 0) (lent_part from to line ss part same is))

module _ (from to n : ℕ) (ss part : List Stand) (is : part ≡ stands_between from to ss) where
  -- after the first n
  pub rest_from : (i : ℕ) (d : Stand) → Rises ss → i < length part → length (live (take i part)) ≡ n →
      between (slice_index_or part i d).place to (live ss) ≡ drop n (between from to (live ss))
  rest_from i d rises less taken =
      sym (live-filter (is_between (slice_index_or part i d).place to) ss)
      ∙ ap live (subst (λ ts. i < length ts → stands_between (slice_index_or ts i d).place to ss ≡ drop i ts) (sym is) (cut from to i ss d rises) less)
      ∙ sym (drop_at (live (take i part)) (live (drop i part)) n taken)
      ∙ ap (drop n) (sym (live-parts i part) ∙ live_part from to ss part is)

  -- after all
  pub rest_none : (i : ℕ) → length part ≤ i → length (live (take i part)) ≤ n → between to to (live ss) ≡ drop n (between from to (live ss))
  rest_none i past taken =
      let all : length (live (take i part)) ≡ length (live part) = ap (λ ts. length (live ts)) (take_all i part past) in
      filter_none (λ e. is_between to to e.0) (live ss) (nowhere (live ss))
      ∙ sym (drop_all n (live part) (omega (arith, all, taken))) ∙ ap (drop n) (live_part from to ss part is)
    where
      none : (q : ℕ) → is_between to to q ≡ false
      none q = grind (arith, nat_tests)

      nowhere : (es : Places) → AllByRecursion (λ e. is_between to to e.0 ≡ false) es
      nowhere [] = tt
      nowhere (e ∷ es) = (none e.0, nowhere es)

  pub high : (i : ℕ) (d : Stand) → i < length part → (slice_index_or part i d).place < to
  high i d less = between_high from to (slice_index_or part i d).place
      (subst (λ ts. i < length ts → is_between from to (slice_index_or ts i d).place ≡ true) (sym is) (filter_passes (λ t. is_between from to t.place) ss i d) less)

-- one more flow is passed, or a gap
pub one_passed : (i n left left' : ℕ) (ss : List Stand) (d : Stand) → i < length ss → left + length (live (take i ss)) ≡ n → cond (is_some (slice_index_or ss i d).flow) 1 0 + left' ≡ left →
    left' + length (live (take (i + 1) ss)) ≡ n
one_passed i n left left' ss d less counted less' =
    let one = unit (slice_index_or ss i d).place (slice_index_or ss i d).flow in
    let more : length (live (take (i + 1) ss)) ≡ length (live (take i ss)) + length (cons_option (entry (slice_index_or ss i d)) []) =
    ap length (live-more i ss d less) ∙ length-append (live (take i ss)) (cons_option (entry (slice_index_or ss i d)) []) in
    omega (arith, one, more, counted, less')
  where
    none : Places
    none = []

    unit : (q : ℕ) (o : Option FlowId) → length (cons_option (option_map (λ f. (q, f)) o) none) ≡ cond (is_some o) 1 0
    unit q None = refl
    unit q (Some f) = refl
