-- The balance of counts, by induction over the history.
use Rattle.flow_rules.specs.declared.ids.BufferId.{BufferId}
use Rattle.flow_rules.specs.declared.ids.FlowId.{FlowId}
use Rattle.flow_laws.proofs.Crossings.{EasedToDrain, FedToRise, sources_cross}
use Rattle.flow_laws.proofs.Flags.{crossing}
use Rattle.flow_laws.proofs.Lists.{both, buffer_is, buffer_same, by_case, count_append, count_cons, flow_is, flow_swapped, none, not_both, number_is, one_if, or_left, or_right}
use Rattle.flow_laws.proofs.Lives.{Lives, count_of, each_of, is_live_is, is_of, lives}
use Rattle.flow_laws.proofs.Lows.{gone_of, heads_is, lows_step, tells, untold, watches, watching}
use Rattle.flow_laws.proofs.Sources.{sources_apart, sources_stay}
use Rattle.flow_laws.proofs.Spared.{IsUnborn, life_stays, lives_spared, spares, unborn}
use Rattle.flow_laws.specs.Balance.{IsBalanced, IsPaced, LeavesClosed, owed_times}
use Rattle.flow_laws.specs.Steps.{fed_by}
use Rattle.flow_laws.specs.Ways.{AreApart, HasWays, starts}
use Rattle.std.proofs.Common.{ap, arith, refl, subst, sym, ◌∙◌}
use Rattle.std.proofs.lemmas.List.Sums.{sum_by-cons}
use Rattle.std.specs.List.{AllByRecursion, list_any}
use Rattle.std.specs.Prelude.{Bool, List, None, Option, Some, [], count_by, drop, false, filter, flat_map, if◌then◌else◌, map, option_to_list, sum_by, true, ℕ, ◌&&◌, ◌++◌, ◌+◌, ◌==◌, ◌||◌, ◌∷◌, ◌≡◌}
use Rattle.tape_laws.specs.Dispatches.{has, live, started}
use Rattle.tape_laws.specs.Doomed.{LeavesDoomed}
use Rattle.tape_laws.specs.Flows.{same_buffer, same_flow}
use Rattle.tape_laws.specs.History.{BeforeTurn, EachFollows, History, Noted, Step}
use Rattle.tape_laws.specs.Pauses.{Owed, PausesInOrder, due_pauses, lows, pauses, pending_lows, resumes}
use Rattle.tape_laws.specs.Setup.{Setup}
use Rattle.tape_laws.specs.Sources.{EachLive, disabled, is_live, live_flows, source_buffers, watchers}
use Rattle.tape_laws.specs.Watermark.{above, drains_at, rises_at}
use Rattle.flow_notes.specs.declared.notes.Note.TheVariants as note

module _ (p : BufferId → Bool) where
  -- where only c may pass, it is among them or nothing passes
  pub only_one : (c : BufferId) (bs : List BufferId) → AreApart same_buffer bs → AllByRecursion (λ b. p b ≡ true → Some c ≡ Some b) bs
      → count_by p bs ≡ (if p c then one_if (list_any (same_buffer c) bs) else 0)
  only_one c [] a e = none (p c)
  only_one c (b ∷ bs) a e = count_cons p b bs ∙ at (p b) (same_buffer c b) refl refl (only_one c bs a.1 e.1)
    where
      named : Some c ≡ Some b → c ≡ b
      named i = cc

      at : (pb sb : Bool) → p b ≡ pb → same_buffer c b ≡ sb → count_by p bs ≡ (if p c then one_if (list_any (same_buffer c) bs) else 0)
          → one_if (p b) + count_by p bs ≡ (if p c then one_if (same_buffer c b || list_any (same_buffer c) bs) else 0)
      at pb true epb esb ih =
          let is : c ≡ b = buffer_is c b esb in
          let apart : list_any (same_buffer c) bs ≡ false = ap (λ v. list_any (same_buffer v) bs) is ∙ a.0 in
          own (p c) (p b) (ap p is) _ apart _ esb ih
        where
          own : (x y : Bool) → x ≡ y → (l : Bool) → l ≡ false → (s : Bool) → s ≡ true → {k : ℕ} → k ≡ (if x then one_if l else 0) → one_if y + k ≡ (if x then one_if (s || l) else 0)
          own true true e true f s g i = cc
          own true true e false f true g i = omega (arith, i)
          own true true e false f false g i = cc
          own true false e l f s g i = cc
          own false true e l f s g i = cc
          own false false e l f s g i = omega (arith, i)
      at true false epb esb ih = not_both (same_buffer c b) (ap (λ v. same_buffer c v) (sym (named (e.0 epb))) ∙ buffer_same c) esb
      at false false epb esb ih = other (p b) epb (same_buffer c b) esb (p c) _ ih
        where
          other : (y : Bool) → y ≡ false → (s : Bool) → s ≡ false → (x : Bool) (l : Bool) → {k : ℕ} → k ≡ (if x then one_if l else 0) → one_if y + k ≡ (if x then one_if (s || l) else 0)
          other true e s f x l i = cc
          other false e true f x l i = cc
          other false e false f x l i = omega (arith, i)

  pub nothing : (bs : List BufferId) → AllByRecursion (λ b. p b ≡ true → None ≡ Some b) bs → count_by p bs ≡ 0
  nothing [] e = refl
  nothing (b ∷ bs) e = count_cons p b bs ∙ at (p b) refl (nothing bs e.1)
    where
      at : (y : Bool) → p b ≡ y → count_by p bs ≡ 0 → one_if (p b) + count_by p bs ≡ 0
      at true f ih = let k = e.0 f in cc
      at false f ih = sum (p b) f _ ih
        where
          sum : (y : Bool) → y ≡ false → (k : ℕ) → k ≡ 0 → one_if y + k ≡ 0
          sum true e k f = cc
          sum false e k f = omega (arith, f)

module _ {Mark : Type 0} (setup : Setup Mark) (ways : HasWays setup) (f : FlowId) (h : History Mark) where
  abbrev bs : List BufferId
  bs = source_buffers setup f h

  -- one pause is owed for each buffer that rose
  owed_of : (c : BufferId) (gs : List FlowId) → owed_times f (map (λ g. record { flow = g; buffer = c }) gs ++ []) ≡ count_by (same_flow f) gs
  owed_of c [] = refl
  owed_of c (g ∷ gs) =
      count_cons (λ (o : Owed). same_flow f o.flow) (record { flow = g; buffer = c }) (map (λ g. record { flow = g; buffer = c }) gs ++ [])
      ∙ (ap (λ k. one_if (same_flow f g) + k) (owed_of c gs) ∙ sym (count_cons (same_flow f) g gs))

  abbrev rise_due : (BufferId → Bool) → Option BufferId → List Owed
  rise_due rises one = flat_map (λ b. map (λ g. record { flow = g; buffer = b }) (watchers setup b h)) (filter rises (option_to_list one))

  owed_rise : (rises : BufferId → Bool) (one : Option BufferId) → ((c : BufferId) → count_by (same_flow f) (watchers setup c h) ≡ one_if (list_any (same_buffer c) bs))
      → AllByRecursion (λ b. rises b ≡ true → one ≡ Some b) bs → owed_times f (rise_due rises one) ≡ count_by rises bs
  owed_rise rises None w r = sym (nothing rises bs r)
  owed_rise rises (Some c) w r = rose (rises c) ∙ sym (only_one rises c bs (sources_apart setup f h) r)
    where
      rose : (x : Bool) → owed_times f (flat_map (λ b. map (λ g. record { flow = g; buffer = b }) (watchers setup b h)) (if x then c ∷ [] else []))
          ≡ (if x then one_if (list_any (same_buffer c) bs) else 0)
      rose true = owed_of c (watchers setup c h) ∙ w c
      rose false = refl

-- what the sources hold of marks and of lows, before a step and after it
module _ {Mark : Type 0} (setup : Setup Mark) (f : FlowId) (step : Step Mark) (h : History Mark) where
  abbrev left : BufferId → ℕ
  left b = count_by (same_flow f) (pending_lows setup b h)

  abbrev left_then : BufferId → ℕ
  left_then b = count_by (same_flow f) (pending_lows setup b (step ∷ h))

  totals : (bs : List BufferId) → AllByRecursion (λ b. left_then b + tells f b step ≡ left b + one_if (drains_at setup b step h)) bs
      → count_by (λ b. above setup b (step ∷ h)) bs + sum_by left_then bs + sum_by (λ b. tells f b step) bs
      ≡ count_by (λ b. above setup b h) bs + sum_by left bs + count_by (λ b. rises_at setup b step h) bs
  totals [] a = refl
  totals (b ∷ bs) a =
      sums _ _ _ _ _ _ _ _ _ _ _ _ _ _ _ _ _ _ _ (count_cons (λ b. above setup b (step ∷ h)) b bs) (sum_by-cons left_then b bs) (sum_by-cons (λ b. tells f b step) b bs)
      (count_cons (λ b. above setup b h) b bs) (sum_by-cons left b bs) (count_cons (λ b. rises_at setup b step h) b bs)
      (crossing (above setup b h) (above setup b (step ∷ h))) a.0 (totals bs a.1)
    where
      sums : (A A1 A2 L L1 L2 T T1 T2 a a1 a2 l l1 l2 r r1 r2 d : ℕ) → A ≡ A1 + A2 → L ≡ L1 + L2 → T ≡ T1 + T2 → a ≡ a1 + a2 → l ≡ l1 + l2 → r ≡ r1 + r2
          → A1 + d ≡ a1 + r1 → L1 + T1 ≡ l1 + d → A2 + L2 + T2 ≡ a2 + l2 + r2 → A + L + T ≡ a + l + r
      sums A A1 A2 L L1 L2 T T1 T2 a a1 a2 l l1 l2 r r1 r2 d e1 e2 e3 e4 e5 e6 e7 e8 e9 = omega (arith, e1, e2, e3, e4, e5, e6, e7, e8, e9)

no_sum : (bs : List BufferId) → sum_by (λ (b : BufferId). 0) bs ≡ 0
no_sum [] = refl
no_sum (b ∷ bs) = sum_by-cons (λ (v : BufferId). 0) b bs ∙ nought _ (no_sum bs)
  where
    nought : (k : ℕ) → k ≡ 0 → 0 + k ≡ 0
    nought k e = omega (arith, e)

-- a flow's tellings are those of one source
sum_tells : (f g : FlowId) (a : BufferId) (bs : List BufferId) → AreApart same_buffer bs → (same_flow f g ≡ true → list_any (same_buffer a) bs ≡ true)
    → sum_by (λ b. one_if (same_flow f g && same_buffer a b)) bs ≡ one_if (same_flow f g)
sum_tells f g a bs ap_ i = at (same_flow f g) i
  where
    none_of : (cs : List BufferId) → sum_by (λ (b : BufferId). one_if (false && same_buffer a b)) cs ≡ 0
    none_of cs = no_sum cs

    count_one : (cs : List BufferId) → AreApart same_buffer cs → count_by (same_buffer a) cs ≡ one_if (list_any (same_buffer a) cs)
    count_one cs p = only_one (same_buffer a) a cs p (each cs) ∙ pick (same_buffer a a) (buffer_same a)
      where
        each : (ds : List BufferId) → AllByRecursion (λ b. same_buffer a b ≡ true → Some a ≡ Some b) ds
        each [] = tt
        each (d ∷ ds) = ((λ t. ap (λ v. Some v) (buffer_is a d t)), each ds)

        pick : (x : Bool) → x ≡ true → (if x then one_if (list_any (same_buffer a) cs) else 0) ≡ one_if (list_any (same_buffer a) cs)
        pick true e = refl
        pick false e = cc

    at : (s : Bool) → (s ≡ true → list_any (same_buffer a) bs ≡ true) → sum_by (λ b. one_if (s && same_buffer a b)) bs ≡ one_if s
    at true i = count_one bs ap_ ∙ ap one_if (i refl)
    at false i = none_of bs

module _ {Mark : Type 0} (setup : Setup Mark) (ways : HasWays setup) (f : FlowId) where
  -- a live flow that a step neither starts nor dooms
  module _ (step : Step Mark) (h : History Mark) (r : Lives h) (old : starts f step ≡ false) (spared : spares f step ≡ true)
      (alive : is_live setup f h ≡ true) (paused : PausesInOrder setup step h) (closed : BeforeTurn (LeavesClosed setup) step h) where
    is_there : (has (live h) f.exchange && is_of setup ways f) ≡ true
    is_there = sym (is_live_is setup ways f h r) ∙ alive

    watched : (c : BufferId) → count_by (same_flow f) (watchers setup c h) ≡ one_if (list_any (same_buffer c) (source_buffers setup f h))
    watched c = watching setup ways f c h r ∙ ap (λ b. one_if (b && list_any (same_buffer c) (source_buffers setup f h))) is_there

    each_step : (bs : List BufferId) → AllByRecursion (λ b. list_any (same_buffer b) (source_buffers setup f h) ≡ true) bs
        → AllByRecursion (λ b. FedToRise setup ways f step h old spared b × EasedToDrain setup ways f step h old spared b) bs
        → AllByRecursion (λ b. left_then setup f step h b + tells f b step ≡ left setup f step h b + one_if (drains_at setup b step h)) bs
    each_step [] m s = tt
    each_step (b ∷ bs) m s = (lows_step setup f b step h paused spared (watched b ∙ ap one_if m.0) s.0.1, each_step bs m.1 s.1)

    among : (all bs : List BufferId) → ((b : BufferId) → list_any (same_buffer b) bs ≡ true → list_any (same_buffer b) all ≡ true)
        → AllByRecursion (λ b. list_any (same_buffer b) all ≡ true) bs
    among all [] i = tt
    among all (b ∷ bs) i =
        (i b (or_left (same_buffer b b) _ (buffer_same b)), among all bs (λ c e. i c (or_right (same_buffer c b) _ e)))

    crosses : AllByRecursion (λ b. FedToRise setup ways f step h old spared b × EasedToDrain setup ways f step h old spared b) (source_buffers setup f h)
    crosses = sources_cross setup ways f step h old spared closed alive

    pub same_sources : source_buffers setup f (step ∷ h) ≡ source_buffers setup f h
    same_sources = sources_stay setup f h step (ways.stages f step h old) (ways.goes f step h old)

    -- its sources above and its lows, with those that it is told of now, are those before, and the rises
    pub kept : disabled setup f (step ∷ h) + lows setup f (step ∷ h) + sum_by (λ b. tells f b step) (source_buffers setup f h)
        ≡ disabled setup f h + lows setup f h + count_by (λ b. rises_at setup b step h) (source_buffers setup f h)
    kept =
        ap (λ bs. count_by (λ b. above setup b (step ∷ h)) bs + sum_by (left_then setup f step h) bs + sum_by (λ b. tells f b step) (source_buffers setup f h)) same_sources
        ∙ totals setup f step h (source_buffers setup f h) (each_step (source_buffers setup f h) (among (source_buffers setup f h) (source_buffers setup f h) (λ b e. e)) crosses)

    fed_all : (bs : List BufferId) → AllByRecursion (λ b. FedToRise setup ways f step h old spared b × EasedToDrain setup ways f step h old spared b) bs
        → AllByRecursion (λ b. rises_at setup b step h ≡ true → fed_by setup step h ≡ Some b) bs
    fed_all [] s = tt
    fed_all (b ∷ bs) s = (s.0.0, fed_all bs s.1)

    pub rises_owed : owed_times f (rise_due setup ways f h (λ b. rises_at setup b step h) (fed_by setup step h)) ≡ count_by (λ b. rises_at setup b step h) (source_buffers setup f h)
    rises_owed = owed_rise setup ways f h (λ b. rises_at setup b step h) (fed_by setup step h) watched (fed_all (source_buffers setup f h) crosses)

    -- a step that neither pauses nor resumes
    pub balance_kept : due_pauses setup h ≡ [] → due_pauses setup (step ∷ h) ≡ rise_due setup ways f h (λ b. rises_at setup b step h) (fed_by setup step h)
        → pauses f (step ∷ h) ≡ pauses f h → resumes f (step ∷ h) ≡ resumes f h → sum_by (λ b. tells f b step) (source_buffers setup f h) ≡ 0
        → IsBalanced setup f h → IsBalanced setup f (step ∷ h)
    balance_kept none due ep er mute b = sums _ _ _ _ _ _ _ _ _ _ _ _ ep er (ap (owed_times f) none) (ap (owed_times f) due ∙ rises_owed) mute kept b
      where
        sums : (p p' r r' o o' d d' l l' t u : ℕ) → p' ≡ p → r' ≡ r → o ≡ 0 → o' ≡ u → t ≡ 0 → d' + l' + t ≡ d + l + u → p + o ≡ r + (d + l) → p' + o' ≡ r' + (d' + l')
        sums p p' r r' o o' d d' l l' t u e1 e2 e3 e4 e5 e6 e7 = omega (arith, e1, e2, e3, e4, e5, e6, e7)

  abbrev Untold : History Mark → Type 0
  Untold h = (b : BufferId) → watches setup ways f b h ≡ false → count_by (same_flow f) (pending_lows setup b h) ≡ 0

  abbrev Keeps : Step Mark → History Mark → Type 0
  Keeps step h = (r : Lives h) → starts f step ≡ false → spares f step ≡ true → is_live setup f h ≡ true → PausesInOrder setup step h
      → BeforeTurn (LeavesClosed setup) step h → Untold h → IsBalanced setup f h → IsBalanced setup f (step ∷ h)

  pause_keeps : (g : FlowId) (b : BufferId) (h : History Mark) → Keeps (Noted (note.Pause g b)) h
  pause_keeps g b h r o s a p c u q =
      let step : Step Mark = Noted (note.Pause g b) in
      sums _ _ _ _ _ _ _ _ _ _ _ _ (ap one_if (flow_swapped g f))
      (heads_is (record { flow = g; buffer = b }) (due_pauses setup h) p (λ due. owed_times f due ≡ one_if (same_flow f g) + owed_times f (drop 1 due)) (λ due. count_cons (λ (v : Owed). same_flow f v.flow) (record { flow = g; buffer = b }) due))
      (no_sum (source_buffers setup f h))
      (sym (rises_owed step h r o s a p c))
      (kept step h r o s a p c) q
    where
      sums : (p r o o' d d' l l' t t' z u : ℕ) → t' ≡ t → o ≡ t + o' → z ≡ 0 → u ≡ 0 → d' + l' + z ≡ d + l + u → p + o ≡ r + (d + l) → (t' + p) + o' ≡ r + (d' + l')
      sums p r o o' d d' l l' t t' z u e1 e2 e3 e4 e5 e6 = omega (arith, e1, e2, e3, e4, e5, e6)

  resume_keeps : (g : FlowId) (b : BufferId) (h : History Mark) → Keeps (Noted (note.Resume g b)) h
  resume_keeps g b h r o s a p c u q =
      let step : Step Mark = Noted (note.Resume g b) in
      sums _ _ _ _ _ _ _ _ _ _ _ (ap one_if (flow_swapped g f)) (ap (owed_times f) p.0)
      (sum_tells f g b (source_buffers setup f h) (sources_apart setup f h) source)
      (sym (rises_owed step h r o s a p c))
      (kept step h r o s a p c) q
    where
      sums : (p r o d d' l l' t t' z u : ℕ) → t' ≡ t → o ≡ 0 → z ≡ t → u ≡ 0 → d' + l' + z ≡ d + l + u → p + o ≡ r + (d + l) → p + 0 ≡ (t' + r) + (d' + l')
      sums p r o d d' l l' t t' z u e1 e2 e3 e4 e5 e6 = omega (arith, e1, e2, e3, e4, e5, e6)

      -- the flow that is told watches the buffer
      one : (k n : ℕ) → n ≡ 1 + k → n ≡ 0 → ⊥
      one k n e z = omega (arith, e, z)

      source : same_flow f g ≡ true → list_any (same_buffer b) (source_buffers setup f h) ≡ true
      source t = by_case (watches setup ways f b h) (λ w. (both (has (live h) f.exchange && is_of setup ways f) _ w).1) (λ w. absurd (heads_is g (pending_lows setup b h) p.1
          (λ gs. count_by (same_flow f) gs ≡ 0 → ⊥) (λ gs z. one _ _ (count_cons (same_flow f) g gs ∙ ap (λ x. one_if x + count_by (same_flow f) gs) t) z) (u b w)))

  -- ---- a start
  length_filter : (A : BufferId → Bool) (g : FlowId) (cs : List BufferId) → owed_times f (map (λ b. record { flow = g; buffer = b }) (filter A cs)) ≡ (if same_flow f g then count_by A cs else 0)
  length_filter A g [] = none (same_flow f g)
  length_filter A g (c ∷ cs) = at (A c) refl (length_filter A g cs)
    where
      more : (x : Bool) (k n : ℕ) → n ≡ 1 + k → one_if x + (if x then k else 0) ≡ (if x then n else 0)
      more true k n e = sym e
      more false k n e = refl

      less : (x : Bool) (k n : ℕ) → n ≡ 0 + k → (if x then k else 0) ≡ (if x then n else 0)
      less true k n e = omega (arith, e)
      less false k n e = refl

      at : (x : Bool) → A c ≡ x → owed_times f (map (λ b. record { flow = g; buffer = b }) (filter A cs)) ≡ (if same_flow f g then count_by A cs else 0)
          → owed_times f (map (λ b. record { flow = g; buffer = b }) (if x then c ∷ filter A cs else filter A cs)) ≡ (if same_flow f g then count_by A (c ∷ cs) else 0)
      at true e i = count_cons (λ (v : Owed). same_flow f v.flow) (record { flow = g; buffer = c }) (map (λ b. record { flow = g; buffer = b }) (filter A cs))
          ∙ (ap (λ k. one_if (same_flow f g) + k) i ∙ more (same_flow f g) (count_by A cs) (count_by A (c ∷ cs)) (count_cons A c cs ∙ ap (λ x. one_if x + count_by A cs) e))
      at false e i = i ∙ less (same_flow f g) (count_by A cs) (count_by A (c ∷ cs)) (count_cons A c cs ∙ ap (λ x. one_if x + count_by A cs) e)

  abbrev start_due : (BufferId → Bool) → (FlowId → List BufferId) → List FlowId → List Owed
  start_due A src fs = flat_map (λ g. map (λ b. record { flow = g; buffer = b }) (filter A (src g))) fs

  owed_start : (A : BufferId → Bool) (src : FlowId → List BufferId) (fs : List FlowId) (t : Bool) → count_by (same_flow f) fs ≡ one_if t
      → owed_times f (start_due A src fs) ≡ (if t then count_by A (src f) else 0)
  owed_start A src [] t e = at t e
    where
      at : (t : Bool) → 0 ≡ one_if t → 0 ≡ (if t then count_by A (src f) else 0)
      at true e = absurd (omega (arith, e))
      at false e = refl
  owed_start A src (g ∷ gs) t e =
      count_append (λ (v : Owed). same_flow f v.flow) (map (λ b. record { flow = g; buffer = b }) (filter A (src g))) (start_due A src gs)
      ∙ (ap (λ k. k + owed_times f (start_due A src gs)) (length_filter A g (src g))
      ∙ at (owed_start A src gs) (same_flow f g) t refl (sym (count_cons (same_flow f) g gs) ∙ e))
    where
      at : ((t : Bool) → count_by (same_flow f) gs ≡ one_if t → owed_times f (start_due A src gs) ≡ (if t then count_by A (src f) else 0)) → (s t : Bool) → same_flow f g ≡ s → one_if s + count_by (same_flow f) gs ≡ one_if t
          → (if s then count_by A (src g) else 0) + owed_times f (start_due A src gs) ≡ (if t then count_by A (src f) else 0)
      at r true true i e =
          sum _ _ _ (ap (λ v. count_by A (src v)) (sym (flow_is f g i))) (r false (less _ e))
        where
          less : (k : ℕ) → 1 + k ≡ 1 → k ≡ 0
          less k e = omega (arith, e)

          sum : (a b c : ℕ) → a ≡ c → b ≡ 0 → a + b ≡ c
          sum a b c e z = omega arith
      at r true false i e = absurd (never _ e)
        where
          never : (k : ℕ) → 1 + k ≡ 0 → ⊥
          never k e = omega (arith, e)
      at r false t i e = plus_none _ _ (r t (less _ _ e))
        where
          plus_none : (k n : ℕ) → k ≡ n → 0 + k ≡ n
          plus_none k n e = omega (arith, e)

          less : (k n : ℕ) → 0 + k ≡ n → k ≡ n
          less k n e = omega (arith, e)

  sum_zero : (F : BufferId → ℕ) (bs : List BufferId) → ((b : BufferId) → F b ≡ 0) → sum_by F bs ≡ 0
  sum_zero F [] z = refl
  sum_zero F (b ∷ bs) z = sum_by-cons F b bs ∙ both_zero _ _ (z b) (sum_zero F bs z)
    where
      both_zero : (a k : ℕ) → a ≡ 0 → k ≡ 0 → a + k ≡ 0
      both_zero a k e i = omega arith

  -- a flow that starts is paused for each source that is above, and nothing else is known of it
  start_own : (x c s d : ℕ) (h : History Mark) → (x == f.exchange) ≡ true → IsUnborn setup f h → is_of setup ways f ≡ true → has (live h) f.exchange ≡ false → Untold h
      → IsBalanced setup f (Noted (note.Start x c s d) ∷ h)
  start_own x c s d h e n i dead u =
      let h' : History Mark = Noted (note.Start x c s d) ∷ h in
      sums _ _ _ _ _ n.unpaused n.unresumed
      (owed_start (λ b. above setup b h') (λ g. source_buffers setup g h') (setup.flows x) true (count_of setup ways f x ∙ ap one_if (two (x == f.exchange) (is_of setup ways f) e i)))
      (sum_zero (λ b. count_by (same_flow f) (pending_lows setup b h)) (source_buffers setup f h') (λ b. u b (gone_of setup ways f b h dead)))
    where
      two : (a b : Bool) → a ≡ true → b ≡ true → (a && b) ≡ true
      two true b e i = i
      two false b e i = cc

      sums : (p r o d l : ℕ) → p ≡ 0 → r ≡ 0 → o ≡ d → l ≡ 0 → p + o ≡ r + (d + l)
      sums p r o d l e1 e2 e3 e4 = omega (arith, e1, e2, e3, e4)

  start_keeps : (x c s d : ℕ) (h : History Mark) → Keeps (Noted (note.Start x c s d)) h
  start_keeps x c s d h r o sp a p cl u q =
      let step : Step Mark = Noted (note.Start x c s d) in
      sums _ _ _ _ _ _ _ _ _ _ (ap (owed_times f) p)
      (owed_start (λ b. above setup b (step ∷ h)) (λ g. source_buffers setup g (step ∷ h)) (setup.flows x) false (count_of setup ways f x ∙ ap (λ b. one_if (b && is_of setup ways f)) o))
      (no_sum (source_buffers setup f h))
      (sym (rises_owed step h r o sp a p cl))
      (kept step h r o sp a p cl) q
    where
      sums : (p r o o' d d' l l' z u : ℕ) → o ≡ 0 → o' ≡ 0 → z ≡ 0 → u ≡ 0 → d' + l' + z ≡ d + l + u → p + o ≡ r + (d + l) → p + o' ≡ r + (d' + l')
      sums p r o o' d d' l l' z u e1 e2 e3 e4 e5 e6 = omega (arith, e1, e2, e3, e4, e5, e6)

  -- ---- all kinds
  keeps : (step : Step Mark) (h : History Mark) → Keeps step h
  keeps (Noted (note.Pause g b)) h r o s a p c u q = pause_keeps g b h r o s a p c u q
  keeps (Noted (note.Resume g b)) h r o s a p c u q = resume_keeps g b h r o s a p c u q
  keeps (Noted (note.Start x c s d)) h r o sp a p cl u q = start_keeps x c s d h r o sp a p cl u q
  keeps step h r o' s' a p c' u q = balance_kept step h r o' s' a p c' p refl refl refl (no_sum (source_buffers setup f h)) q

  dead_before : (step : Step Mark) (h : History Mark) → LeavesDoomed step h → Lives h → starts f step ≡ true
      → (has (started h) f.exchange ≡ false) × (has (live h) f.exchange ≡ false)
  dead_before (Noted (note.Start x c s d)) h l r t =
      let new : has (started h) f.exchange ≡ false = subst (λ v. has (started h) v ≡ false) (number_is x f.exchange t) l in (new, r.born f.exchange new)
  dead_before step h l r t = cc

  started_own : (step : Step Mark) (h : History Mark) → starts f step ≡ true → IsUnborn setup f h → is_of setup ways f ≡ true → has (live h) f.exchange ≡ false → Untold h
      → IsBalanced setup f (step ∷ h)
  started_own (Noted (note.Start x c s d)) h t n i dead u = start_own x c s d h t n i dead u
  started_own step h t n i' dead u = cc

  pub balance : (h : History Mark) → EachFollows (PausesInOrder setup) h → EachFollows LeavesDoomed h → EachFollows (BeforeTurn (LeavesClosed setup)) h
      → is_live setup f h ≡ true → IsBalanced setup f h
  balance [] p l c a = cc
  balance (step ∷ h) p l c a =
      let r = lives h l.1 in
      let now = both (has (live (step ∷ h)) f.exchange) (is_of setup ways f) (sym (is_live_is setup ways f (step ∷ h) (lives (step ∷ h) l)) ∙ a) in
      let u : Untold h = λ b w. untold setup ways f b h l.1 w in
      by_case (starts f step)
      (λ t. let k = dead_before step h l.0 r t in started_own step h t (unborn setup f h l.1 k.0) now.1 k.1 u)
      (λ o.
      let s = lives_spared f step h now.0 in
      let alive : is_live setup f h ≡ true = is_live_is setup ways f h r ∙ (ap (λ b. b && is_of setup ways f) (sym (life_stays f step h o s)) ∙ two _ _ now.0 now.1) in
      keeps step h r o s alive p.0 c.0 u (balance h p.1 l.1 c.1 alive))
    where
      two : (a b : Bool) → a ≡ true → b ≡ true → (a && b) ≡ true
      two true b e i = i
      two false b e i = cc

pub counts_balance : {Mark : Type 0} (setup : Setup Mark) (h : History Mark) → HasWays setup → IsPaced setup h → EachLive setup (λ f. IsBalanced setup f h) h
counts_balance setup h ways p = each_of (λ f. IsBalanced setup f h) (live_flows setup h) (λ f a. balance setup ways f h p.paused p.doomed p.closed a)
