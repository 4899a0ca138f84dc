-- Which sources of a flow a step makes rise or drain, and how many of them are above then.
use Rattle.flow_gate.specs.Board.{times_of_buffer}
use Rattle.flow_gate.specs.Ids.{same_buffer}
use Rattle.flow_rules.specs.declared.ids.BufferId.{BufferId}
use Rattle.flow_rules.specs.declared.ids.BufferId.TheVariants as buffer
use Rattle.flow_rules.specs.declared.ids.FlowId.{FlowId}
use Rattle.flow_laws.proofs.Flags.{crossing, no_drain, no_rise}
use Rattle.flow_laws.proofs.Lengths.{Arrives, Comes, Doomed, Easing, Feeding, Framed, Leaves, NotEased, NotFed, easing, feeding, out_eased, out_fed}
use Rattle.flow_laws.proofs.Lists.{buffer_is, buffer_same, count_cons, not_both, not_so, number_is, one_if, same_number}
use Rattle.flow_laws.proofs.Sources.{at_send, at_stage, each_source, sources_stay}
use Rattle.flow_laws.proofs.Spared.{spares}
use Rattle.flow_laws.specs.Steps.{eased_by, fed_by}
use Rattle.flow_notes.specs.declared.events.Event.TheVariants as event
use Rattle.flow_notes.specs.declared.notes.Note.TheVariants as note
use Rattle.proxy_config.specs.declared.config.LimitKeys.{LimitKeys}
use Rattle.std.proofs.Common.{ap, arith, inl, inr, refl, sym, ◌∙◌}
use Rattle.std.proofs.lemmas.Bool.Decides.{nat_tests}
use Rattle.std.specs.List.{AllByRecursion}
use Rattle.std.specs.Option.{option_map_or}
use Rattle.std.specs.Prelude.{Bool, List, None, Option, Some, [], count_by, false, if◌then◌else◌, length, not, true, ℕ, ◌&&◌, ◌+◌, ◌<◌, ◌==◌, ◌∷◌, ◌≡◌, ◌≤◌, ◌⊎◌}
use Rattle.tape_laws.specs.Connections.{was_closed}
use Rattle.tape_laws.specs.History.{Noted}
use Rattle.tape_laws.specs.Pauses.{place_buffer}
use Rattle.tape_laws.specs.Sources.{disabled, source_buffers}
use Rattle.tape_laws.specs.Units.{StageKind}
use Rattle.tape_laws.specs.Watermark.{above, drains_at, limit, rises_at, stage_limit}
use Rattle.tape_laws.specs.World.{last_place, len, out, place}
use Rattle.wire_state.specs.Tapes.{conn_to, tape_setup}
use Rattle.wire_state.specs.Ways.{WayHistory, WayStep, stages_passed}

-- the buffer that a step eases: also the write buffer of a connection whose loss is told
abbrev pub eased_at : LimitKeys → WayStep → WayHistory → Option BufferId
eased_at l (Noted (note.Turn k (event.Gone c))) h = Some (buffer.Write c)
eased_at l step h = eased_by (tape_setup l) step h

-- ---- how many pass
none_passes : (p : BufferId → Bool) (bs : List BufferId) → AllByRecursion (λ b. p b ≡ true → None ≡ Some b) bs → count_by p bs ≡ 0
none_passes p [] e = refl
none_passes p (b ∷ bs) e = count_cons p b bs ∙ at (p b) refl (none_passes p bs e.1)
  where
    at : (x : Bool) → p b ≡ x → {n : ℕ} → n ≡ 0 → one_if x + n ≡ 0
    at true is i = cc (e.0 is)
    at false is i = omega (arith, i)

one_passes : (p : BufferId → Bool) (c : BufferId) (bs : List BufferId) → AllByRecursion (λ b. p b ≡ true → Some c ≡ Some b) bs → count_by p bs ≡ (if p c then times_of_buffer c bs else 0)
one_passes p c [] e = none (p c) 0
  where
    none : (y : Bool) (n : ℕ) → n ≡ (if y then n else n)
    none true n = refl
    none false n = refl
one_passes p c (b ∷ bs) e = count_cons p b bs ∙ at (p b) (same_buffer c b) (p c) refl refl refl _ _ _ (one_passes p c bs e.1) (count_cons (same_buffer c) b bs)
  where
    named : Some c ≡ Some b → c ≡ b
    named i = cc

    at : (x s y : Bool) → p b ≡ x → same_buffer c b ≡ s → p c ≡ y → (n m k : ℕ) → n ≡ (if y then m else 0) → k ≡ one_if s + m → one_if x + n ≡ (if y then k else 0)
    at true true true px sx py n m k i j = omega (arith, i, j)
    at true true false px sx py n m k i j = absurd (cc (ap p (buffer_is c b sx), px, py))
    at true false y px sx py n m k i j = not_both (same_buffer c b) (ap (same_buffer c) (sym (named (e.0 px))) ∙ buffer_same c) sx
    at false true true px sx py n m k i j = absurd (cc (ap p (buffer_is c b sx), px, py))
    at false true false px sx py n m k i j = omega (arith, i)
    at false false true px sx py n m k i j = omega (arith, i, j)
    at false false false px sx py n m k i j = omega (arith, i)

-- of these the one that passes, if any
abbrev pub of_one : (BufferId → Bool) → List BufferId → Option BufferId → ℕ
of_one p bs o = option_map_or (λ b. if p b then times_of_buffer b bs else 0) o 0

pub passes : (p : BufferId → Bool) (o : Option BufferId) (bs : List BufferId) → AllByRecursion (λ b. p b ≡ true → o ≡ Some b) bs → count_by p bs ≡ of_one p bs o
passes p None bs e = none_passes p bs e
passes p (Some c) bs e = one_passes p c bs e

-- those that pass now and those that did but don't are those that did and those that didn't but do
pub crossings : (p q : BufferId → Bool) (bs : List BufferId) → count_by q bs + count_by (λ b. p b && not (q b)) bs ≡ count_by p bs + count_by (λ b. not (p b) && q b) bs
crossings p q [] = refl
crossings p q (b ∷ bs) = sums _ _ _ _ _ _ _ _ _ _ _ _ (count_cons q b bs) (count_cons (λ c. p c && not (q c)) b bs) (count_cons p b bs) (count_cons (λ c. not (p c) && q c) b bs) (crossing (p b) (q b)) (crossings p q bs)
  where
    sums : (q1 d1 p1 r1 a b c e q0 d0 p0 r0 : ℕ) → q1 ≡ a + q0 → d1 ≡ b + d0 → p1 ≡ c + p0 → r1 ≡ e + r0 → a + b ≡ c + e → q0 + d0 ≡ p0 + r0 → q1 + d1 ≡ p1 + r1
    sums q1 d1 p1 r1 a b c e q0 d0 p0 r0 e1 e2 e3 e4 e5 e6 = omega (arith, e1, e2, e3, e4, e5, e6)

-- how many sources of a flow a step makes rise, and how many it makes drain
abbrev pub risen : LimitKeys → FlowId → WayStep → WayHistory → ℕ
risen l f step h = of_one (λ b. rises_at (tape_setup l) b step h) (source_buffers (tape_setup l) f h) (fed_by (tape_setup l) step h)

abbrev pub drained : LimitKeys → FlowId → WayStep → WayHistory → ℕ
drained l f step h = of_one (λ b. drains_at (tape_setup l) b step h) (source_buffers (tape_setup l) f h) (eased_at l step h)

-- ---- one step
fits : (a b c d : ℕ) → a ≡ c → b ≡ d → c ≤ d → a ≤ b
fits a b c d e f le = omega (arith, e, f, le)

above_none : (p : ℕ) → 1 ≤ p → (p == 0) ≡ false
above_none p le = grind (arith, nat_tests)

below_last : (p l : ℕ) → p < l → (p == l) ≡ false
below_last p l lt = grind (arith, nat_tests)

never_first : (p : ℕ) → 1 ≤ p → p ≡ 0 → ⊥
never_first p le e = omega (arith, le, e)

module _ (l : LimitKeys) (c : ℕ) where
  abbrev waits : WayHistory → ℕ
  waits h = length (out (tape_setup l) c h)

  -- a write buffer is eased, or holds no less
  out_eases : (step : WayStep) (h : WayHistory) → (eased_at l step h ≡ Some (buffer.Write c)) ⊎ (waits h ≤ waits (step ∷ h))
  out_eases (Noted (note.Turn k (event.Gone d))) h = at (d == c) refl
    where
      same : (n : ℕ) → n ≤ n
      same n = omega arith

      at : (b : Bool) → (d == c) ≡ b → (Some (buffer.Write d) ≡ Some (buffer.Write c)) ⊎ (waits h ≤ length (if b && was_closed c h then [] else out (tape_setup l) c h))
      at true e = inl (ap (λ (v : ℕ). Some (buffer.Write v)) (number_is d c e))
      at false e = inr (same (waits h))
  out_eases (Noted (note.Turn k e)) h = inr (same (waits h))
    where
      same : (n : ℕ) → n ≤ n
      same n = omega arith
  out_eases step h = out_eased (tape_setup l) c step h tt

  eases : (step : WayStep) (h : WayHistory) → eased_by (tape_setup l) step h ≡ Some (buffer.Write c) → eased_at l step h ≡ Some (buffer.Write c)
  eases (Noted (note.Turn k e)) h i = cc
  eases step h i = i

module _ (l : LimitKeys) (f : FlowId) (step : WayStep) (h : WayHistory) (stays : stages_passed f (step ∷ h) ≡ stages_passed f h) (spared : spares f step ≡ true) where
  last_stays : last_place (tape_setup l) f (step ∷ h) ≡ last_place (tape_setup l) f h
  last_stays = ap (λ (ss : List StageKind). length ss + 1) stays

  -- it rises only where it is fed, and drains only where it is eased
  abbrev Sided : BufferId → Type 0
  Sided b = (rises_at (tape_setup l) b step h ≡ true → fed_by (tape_setup l) step h ≡ Some b) × (drains_at (tape_setup l) b step h ≡ true → eased_at l step h ≡ Some b)

  -- a buffer of one of its places
  module _ (b : BufferId) (p : ℕ) (now : len (tape_setup l) b (step ∷ h) ≡ length (place (tape_setup l) f p (step ∷ h))) (before : len (tape_setup l) b h ≡ length (place (tape_setup l) f p h))
      (same : limit (tape_setup l) b (step ∷ h) ≡ limit (tape_setup l) b h) (some : 1 ≤ p) (is : place_buffer (tape_setup l) f p h ≡ b) where
    place_rises : rises_at (tape_setup l) b step h ≡ true → fed_by (tape_setup l) step h ≡ Some b
    place_rises r = at (feeding (tape_setup l) f p step h)
      where
        at : Feeding (tape_setup l) f p step h → fed_by (tape_setup l) step h ≡ Some b
        at (Arrives octets e z) = absurd (never_first p some z)
        at (Comes q n e z) = ap (λ s. fed_by (tape_setup l) s h) e ∙ (ap (λ v. Some (place_buffer (tape_setup l) f v h)) (sym z) ∙ ap (λ v. Some v) is)
        at (NotFed le) = not_both (rises_at (tape_setup l) b step h) r (no_rise (tape_setup l) b step h same (fits _ _ _ _ now before le))

    place_drains : drains_at (tape_setup l) b step h ≡ true → eased_at l step h ≡ Some b
    place_drains d = at (easing (tape_setup l) f p step h)
      where
        at : Easing (tape_setup l) f p step h → eased_at l step h ≡ Some b
        at (Leaves n e) = ap (λ s. eased_at l s h) e ∙ ap (λ v. Some v) is
        at (Framed c n last e z) = ap (λ s. eased_at l s h) e ∙ ap (λ v. Some v) (sym (at_send (tape_setup l) f h) ∙ (ap (λ v. place_buffer (tape_setup l) f v h) (sym z) ∙ is))
        at (Doomed why e) = not_both (f.exchange == f.exchange) (same_number f.exchange) (not_so (f.exchange == f.exchange) (ap (λ s. spares f s) (sym e) ∙ spared))
        at (NotEased le) = not_both (drains_at (tape_setup l) b step h) d (no_drain (tape_setup l) b step h same (fits _ _ _ _ before now le))

  write_rises : (c : ℕ) → rises_at (tape_setup l) (buffer.Write c) step h ≡ true → fed_by (tape_setup l) step h ≡ Some (buffer.Write c)
  write_rises c r = at (out_fed (tape_setup l) c step h)
    where
      at : (fed_by (tape_setup l) step h ≡ Some (buffer.Write c)) ⊎ (length (out (tape_setup l) c (step ∷ h)) ≤ length (out (tape_setup l) c h)) → fed_by (tape_setup l) step h ≡ Some (buffer.Write c)
      at (inl e) = e
      at (inr le) = not_both (rises_at (tape_setup l) (buffer.Write c) step h) r (no_rise (tape_setup l) (buffer.Write c) step h refl le)

  write_drains : (c : ℕ) → drains_at (tape_setup l) (buffer.Write c) step h ≡ true → eased_at l step h ≡ Some (buffer.Write c)
  write_drains c d = at (out_eases l c step h)
    where
      at : (eased_at l step h ≡ Some (buffer.Write c)) ⊎ (length (out (tape_setup l) c h) ≤ length (out (tape_setup l) c (step ∷ h))) → eased_at l step h ≡ Some (buffer.Write c)
      at (inl e) = e
      at (inr le) = not_both (drains_at (tape_setup l) (buffer.Write c) step h) d (no_drain (tape_setup l) (buffer.Write c) step h refl le)

  sided : AllByRecursion Sided (source_buffers (tape_setup l) f h)
  sided = each_source (tape_setup l) f h Sided stage send (λ c g. (write_rises c, write_drains c))
    where
      stage : (p : ℕ) → 1 ≤ p → p < last_place (tape_setup l) f h → Sided (buffer.Stage f p)
      stage p some lt =
          let same : limit (tape_setup l) (buffer.Stage f p) (step ∷ h) ≡ limit (tape_setup l) (buffer.Stage f p) h = ap (λ (ss : List StageKind). stage_limit ss p) stays in
          let is = at_stage (tape_setup l) f h p (above_none p some) (below_last p (last_place (tape_setup l) f h) lt) in
          (place_rises (buffer.Stage f p) p refl refl same some is, place_drains (buffer.Stage f p) p refl refl same some is)

      send : Sided (buffer.Send f)
      send =
          let now : len (tape_setup l) (buffer.Send f) (step ∷ h) ≡ length (place (tape_setup l) f (last_place (tape_setup l) f h) (step ∷ h)) = ap (λ v. length (place (tape_setup l) f v (step ∷ h))) last_stays in
          let some : 1 ≤ last_place (tape_setup l) f h = one (length (stages_passed f h)) in
          (place_rises (buffer.Send f) (last_place (tape_setup l) f h) now refl refl some (at_send (tape_setup l) f h), place_drains (buffer.Send f) (last_place (tape_setup l) f h) now refl refl some (at_send (tape_setup l) f h))
        where
          one : (k : ℕ) → 1 ≤ k + 1
          one k = omega arith

  firsts : {A : Type 0} (P Q : A → Type 0) (xs : List A) → AllByRecursion (λ x. P x × Q x) xs → AllByRecursion P xs
  firsts P Q [] a = tt
  firsts P Q (x ∷ xs) a = (a.0.0, firsts P Q xs a.1)

  seconds : {A : Type 0} (P Q : A → Type 0) (xs : List A) → AllByRecursion (λ x. P x × Q x) xs → AllByRecursion Q xs
  seconds P Q [] a = tt
  seconds P Q (x ∷ xs) a = (a.0.1, seconds P Q xs a.1)

  pub disabled_goes : conn_to f (step ∷ h) ≡ conn_to f h → disabled (tape_setup l) f (step ∷ h) + drained l f step h ≡ disabled (tape_setup l) f h + risen l f step h
  disabled_goes goes =
      let bs = source_buffers (tape_setup l) f h in
      let now = ap (λ (cs : List BufferId). count_by (λ b. above (tape_setup l) b (step ∷ h)) cs) (sources_stay (tape_setup l) f h step stays goes) in
      let up = passes (λ b. rises_at (tape_setup l) b step h) (fed_by (tape_setup l) step h) bs (firsts (λ b. rises_at (tape_setup l) b step h ≡ true → fed_by (tape_setup l) step h ≡ Some b) (λ b. drains_at (tape_setup l) b step h ≡ true → eased_at l step h ≡ Some b) bs sided) in
      let down = passes (λ b. drains_at (tape_setup l) b step h) (eased_at l step h) bs (seconds (λ b. rises_at (tape_setup l) b step h ≡ true → fed_by (tape_setup l) step h ≡ Some b) (λ b. drains_at (tape_setup l) b step h ≡ true → eased_at l step h ≡ Some b) bs sided) in
      sums _ _ _ _ _ _ _ now down up (crossings (λ b. above (tape_setup l) b h) (λ b. above (tape_setup l) b (step ∷ h)) bs)
    where
      sums : (n m d e r u p : ℕ) → n ≡ m → d ≡ e → r ≡ u → m + d ≡ p + r → n + e ≡ p + u
      sums n m d e r u p e1 e2 e3 e4 = omega (arith, e1, e2, e3, e4)
