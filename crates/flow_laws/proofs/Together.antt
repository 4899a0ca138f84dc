-- The receive buffers of all flows from one connection hold at most its window together.
use Rattle.flow_rules.specs.declared.ids.FlowId.{FlowId}
use Rattle.flow_laws.proofs.Lengths.{Arrives, Comes, Feeding, NotFed, feeding}
use Rattle.flow_laws.proofs.Lists.{by_case, count_cons, flow_is, flow_same, not_both, number_is, one_if, or_none}
use Rattle.flow_laws.proofs.Lives.{EachOnce, Lives, count_among, lives}
use Rattle.flow_laws.proofs.Spared.{unborn}
use Rattle.flow_laws.specs.Fitting.{FitsIn}
use Rattle.flow_laws.specs.Ways.{AreApart, HasWays, starts}
use Rattle.flow_rules.specs.declared.causes.Cause.{Cause}
use Rattle.std.proofs.Common.{ap, arith, length-append, refl, subst, sym, ◌∙◌}
use Rattle.std.proofs.lemmas.List.Sums.{sum_by-append, sum_by-cons}
use Rattle.std.specs.List.{AllByRecursion, list_any}
use Rattle.std.specs.Prelude.{Bool, IfSome, List, None, Option, Some, [], count_by, false, filter, flat_map, if◌then◌else◌, length, not, sum_by, true, ℕ, ◌&&◌, ◌++◌, ◌+◌, ◌==◌, ◌||◌, ◌∷◌, ◌≡◌, ◌≤◌}
use Rattle.tape_laws.specs.Bounds.{held_from}
use Rattle.tape_laws.specs.Dispatches.{has, is_some_of, live, started}
use Rattle.tape_laws.specs.Doomed.{LeavesDoomed}
use Rattle.tape_laws.specs.Flows.{same_flow}
use Rattle.tape_laws.specs.History.{EachFollows, History, Noted, Step}
use Rattle.tape_laws.specs.Setup.{Setup}
use Rattle.tape_laws.specs.Sources.{live_flows}
use Rattle.tape_laws.specs.World.{recv}
use Rattle.flow_notes.specs.declared.notes.Note.TheVariants as note

-- ---- sums over flows
module _ (F G : FlowId → ℕ) where
  -- no flow has more
  sum_less : (fs : List FlowId) → ((g : FlowId) → F g ≤ G g) → sum_by F fs ≤ sum_by G fs
  sum_less [] le = omega arith
  sum_less (g ∷ gs) le = sums _ _ _ _ _ _ (sum_by-cons F g gs) (sum_by-cons G g gs) (le g) (sum_less gs le)
    where
      sums : (s a k t b m : ℕ) → s ≡ a + k → t ≡ b + m → a ≤ b → k ≤ m → s ≤ t
      sums s a k t b m e i le j = omega arith

  -- one flow has at most so many more
  sum_more : (f : FlowId) (n : ℕ) (fs : List FlowId) → ((g : FlowId) → same_flow f g ≡ false → F g ≤ G g) → F f ≤ G f + n → AreApart same_flow fs → sum_by F fs ≤ sum_by G fs + n
  sum_more f n [] other own a = least n
    where
      least : (n : ℕ) → 0 ≤ 0 + n
      least n = omega arith
  sum_more f n (g ∷ gs) other own a =
      by_case (same_flow f g)
      (λ t. first (subst (λ v. F v ≤ G v + n) (flow_is f g t) own) (rest gs (subst (λ v. list_any (same_flow v) gs ≡ false) (sym (flow_is f g t)) a.0)))
      (λ d. sums _ _ _ _ _ _ _ (sum_by-cons F g gs) (sum_by-cons G g gs) (other g d) (sum_more f n gs other own a.1))
    where
      sums : (s a k t b m n : ℕ) → s ≡ a + k → t ≡ b + m → a ≤ b → k ≤ m + n → s ≤ t + n
      sums s a k t b m n e i le j = omega arith

      one : (s a k t b m n : ℕ) → s ≡ a + k → t ≡ b + m → a ≤ b + n → k ≤ m → s ≤ t + n
      one s a k t b m n e i le j = omega arith

      each : (s a k t b m : ℕ) → s ≡ a + k → t ≡ b + m → a ≤ b → k ≤ m → s ≤ t
      each s a k t b m e i le j = omega arith

      first : F g ≤ G g + n → sum_by F gs ≤ sum_by G gs → sum_by F (g ∷ gs) ≤ sum_by G (g ∷ gs) + n
      first le i = one _ _ _ _ _ _ _ (sum_by-cons F g gs) (sum_by-cons G g gs) le i

      rest : (hs : List FlowId) → list_any (same_flow f) hs ≡ false → sum_by F hs ≤ sum_by G hs
      rest [] e = omega arith
      rest (h ∷ hs) e = let k = or_none (same_flow f h) (list_any (same_flow f) hs) e in each _ _ _ _ _ _ (sum_by-cons F h hs) (sum_by-cons G h hs) (other h k.0) (rest hs k.1)

sum_zero : (F : FlowId → ℕ) (fs : List FlowId) → AllByRecursion (λ f. F f ≡ 0) fs → sum_by F fs ≡ 0
sum_zero F [] a = refl
sum_zero F (f ∷ fs) a = sum_by-cons F f fs ∙ both_zero _ _ a.0 (sum_zero F fs a.1)
  where
    both_zero : (a k : ℕ) → a ≡ 0 → k ≡ 0 → a + k ≡ 0
    both_zero a k e i = omega arith

-- ---- the flows of fewer exchanges, and of one more
module _ (flows : ℕ → List FlowId) (F : FlowId → ℕ) where
  sum_among : (p : ℕ → Bool) (xs : List ℕ) → sum_by F (flat_map flows (filter p xs)) ≤ sum_by F (flat_map flows xs)
  sum_among p [] = omega arith
  sum_among p (x ∷ xs) = at (p x) (sum_among p xs)
    where
      more : (t a k m : ℕ) → t ≡ a + k → m ≤ k → m ≤ t
      more t a k m e le = omega arith

      both_more : (t a k s m : ℕ) → t ≡ a + k → s ≡ a + m → m ≤ k → s ≤ t
      both_more t a k s m e i le = omega arith

      at : (b : Bool) → sum_by F (flat_map flows (filter p xs)) ≤ sum_by F (flat_map flows xs)
          → sum_by F (flat_map flows (if b then x ∷ filter p xs else filter p xs)) ≤ sum_by F (flat_map flows (x ∷ xs))
      at true le = both_more _ _ _ _ _ (sum_by-append F (flows x) (flat_map flows xs)) (sum_by-append F (flows x) (flat_map flows (filter p xs))) le
      at false le = more _ _ _ _ (sum_by-append F (flows x) (flat_map flows xs)) le

  sum_one_more : (xs : List ℕ) (x : ℕ) → sum_by F (flat_map flows (xs ++ x ∷ [])) ≡ sum_by F (flat_map flows xs) + sum_by F (flows x)
  sum_one_more [] x = sum_by-append F (flows x) [] ∙ turned _
    where
      turned : (a : ℕ) → a + 0 ≡ 0 + a
      turned a = omega arith
  sum_one_more (y ∷ ys) x =
      sum_by-append F (flows y) (flat_map flows (ys ++ x ∷ []))
      ∙ (ap (λ k. sum_by F (flows y) + k) (sum_one_more ys x) ∙ (grouped _ _ _ ∙ ap (λ k. k + sum_by F (flows x)) (sym (sum_by-append F (flows y) (flat_map flows ys)))))
    where
      grouped : (a b c : ℕ) → a + (b + c) ≡ (a + b) + c
      grouped a b c = omega arith

-- ---- by one step
apart_live : {Mark : Type 0} (setup : Setup Mark) (ways : HasWays setup) (xs : List ℕ) → EachOnce xs → AreApart same_flow (flat_map setup.flows xs)
apart_live setup ways xs a = each_apart (flat_map setup.flows xs) (λ f. count_live f)
  where
    most : (k : ℕ) (b : Bool) → k ≡ one_if b → k ≤ 1
    most k true e = omega (arith, e)
    most k false e = omega (arith, e)

    count_live : (f : FlowId) → count_by (same_flow f) (flat_map setup.flows xs) ≤ 1
    count_live f = most _ _ (count_among setup ways f xs a)

    each_apart : (fs : List FlowId) → ((f : FlowId) → count_by (same_flow f) fs ≤ 1) → AreApart same_flow fs
    each_apart [] c = tt
    each_apart (f ∷ fs) c = (
      none fs (one _ _ (count_cons (same_flow f) f fs ∙ ap (λ b. one_if b + count_by (same_flow f) fs) (flow_same f)) (c f)),
      each_apart fs (λ g. fewer _ _ _ (count_cons (same_flow g) f fs) (c g)),
    )
      where
        one : (t k : ℕ) → t ≡ 1 + k → t ≤ 1 → k ≤ 0
        one t k e le = omega (arith, e, le)

        fewer : (t a k : ℕ) → t ≡ a + k → t ≤ 1 → k ≤ 1
        fewer t a k e le = omega (arith, e, le)

        none : (gs : List FlowId) → count_by (same_flow f) gs ≤ 0 → list_any (same_flow f) gs ≡ false
        none [] e = refl
        none (g ∷ gs) e = at (same_flow f g) refl (none gs (fewer_none _ _ _ (count_cons (same_flow f) g gs) e))
          where
            fewer_none : (t a k : ℕ) → t ≡ a + k → t ≤ 0 → k ≤ 0
            fewer_none t a k e le = omega (arith, e, le)

            some : (t k : ℕ) → t ≡ 1 + k → t ≤ 0 → ⊥
            some t k e le = omega (arith, e, le)

            at : (b : Bool) → same_flow f g ≡ b → list_any (same_flow f) gs ≡ false → (same_flow f g || list_any (same_flow f) gs) ≡ false
            at true i r = absurd (some _ _ (count_cons (same_flow f) g gs ∙ ap (λ b. one_if b + count_by (same_flow f) gs) i) e)
            at false i r = ap (λ b. b || list_any (same_flow f) gs) i ∙ r

-- the flow for which octets arrive by a step
abbrev arrived_at : {Mark : Type 0} → FlowId → Step Mark → FlowId
arrived_at f (Noted (note.Arrive g octets)) = g
arrived_at f step = f

module _ {Mark : Type 0} (setup : Setup Mark) (ways : HasWays setup) (c : ℕ) where
  abbrev share : History Mark → FlowId → ℕ
  share h f = if is_some_of (setup.comes_from f h) c then length (recv setup f h) else 0

  -- a flow's share by where it comes from
  share_by : (h : History Mark) (f : FlowId) (step : Step Mark) → starts f step ≡ false → share (step ∷ h) f ≡ (if is_some_of (setup.comes_from f h) c then length (recv setup f (step ∷ h)) else 0)
  share_by h f step o = ap (λ v. if is_some_of v c then length (recv setup f (step ∷ h)) else 0) (ways.comes f step h o)

  share_less : (h : History Mark) (f : FlowId) (step : Step Mark) → starts f step ≡ false → length (recv setup f (step ∷ h)) ≤ length (recv setup f h) → share (step ∷ h) f ≤ share h f
  share_less h f step o le = subst (λ v. v ≤ share h f) (sym (share_by h f step o)) (at (is_some_of (setup.comes_from f h) c))
    where
      at : (b : Bool) → (if b then length (recv setup f (step ∷ h)) else 0) ≤ (if b then length (recv setup f h) else 0)
      at true = le
      at false = omega arith

  recv_less : (g : FlowId) (step : Step Mark) (h : History Mark) → ((octets : List ℕ) → step ≡ Noted (note.Arrive g octets) → ⊥) → length (recv setup g (step ∷ h)) ≤ length (recv setup g h)
  recv_less g step h no_arrival = at (feeding setup g 0 step h)
    where
      never : (q : ℕ) → 0 ≡ q + 1 → ⊥
      never q e = omega (arith, e)

      at : Feeding setup g 0 step h → length (recv setup g (step ∷ h)) ≤ length (recv setup g h)
      at (Arrives octets e z) = absurd (no_arrival octets e)
      at (Comes q n e z) = absurd (never q z)
      at (NotFed le) = le

  abbrev Holds : ℕ → History Mark → Type 0
  Holds most h = held_from setup c h ≤ most

  within : (a b c : ℕ) → a ≤ b → b ≤ c → a ≤ c
  within a b c i j = omega arith

  -- a step that starts no exchange, dooms none and brings nothing
  holds_same : (most : ℕ) (step : Step Mark) (h : History Mark) → live (step ∷ h) ≡ live h → ((f : FlowId) → starts f step ≡ false)
      → ((g : FlowId) (octets : List ℕ) → step ≡ Noted (note.Arrive g octets) → ⊥) → Holds most h → Holds most (step ∷ h)
  holds_same most step h e o a r =
      within _ _ _ (subst (λ xs. sum_by (share (step ∷ h)) (flat_map setup.flows xs) ≤ sum_by (share h) (live_flows setup h)) (sym e)
      (sum_less (share (step ∷ h)) (share h) (live_flows setup h) (λ g. share_less h g step (o g) (recv_less g step h (a g))))) r

  doom_holds : (most x : ℕ) (why : Cause) (h : History Mark) → Holds most h → Holds most (Noted (note.Doom x why) ∷ h)
  doom_holds most x why h r =
      let step : Step Mark = Noted (note.Doom x why) in
      within _ _ _ (sum_among setup.flows (share (step ∷ h)) (λ y. not (y == x)) (live h))
      (within _ _ _ (sum_less (share (step ∷ h)) (share h) (live_flows setup h) (λ g. share_less h g step refl (recv_less g step h (λ octets e. cc)))) r)

  start_holds : (most x d s to : ℕ) (h : History Mark) → has (started h) x ≡ false → EachFollows LeavesDoomed h → Holds most h → Holds most (Noted (note.Start x d s to) ∷ h)
  start_holds most x d s to h new l r =
      sums _ _ _ _ (sum_one_more setup.flows (share (Noted (note.Start x d s to) ∷ h)) (live h) x)
      (sum_less (share (Noted (note.Start x d s to) ∷ h)) (share h) (live_flows setup h) old_share)
      (sum_zero (share (Noted (note.Start x d s to) ∷ h)) (setup.flows x) (own_none (setup.flows x) (ways.own x))) r
    where
      sums : (t a b g : ℕ) {m : ℕ} → t ≡ a + b → a ≤ g → b ≡ 0 → g ≤ m → t ≤ m
      sums t a b g e i z le = omega (arith, e, i, z, le)

      no_share : (b : Bool) (xs : List ℕ) → xs ≡ [] → (if b then length xs else 0) ≡ 0
      no_share true xs e = ap length e
      no_share false xs e = refl

      new_share : (g : FlowId) → g.exchange ≡ x → share (Noted (note.Start x d s to) ∷ h) g ≡ 0
      new_share g e = no_share (is_some_of (setup.comes_from g (Noted (note.Start x d s to) ∷ h)) c) (recv setup g h) ((unborn setup g h l (ap (has (started h)) e ∙ new)).empty 0)

      own_none : (fs : List FlowId) → AllByRecursion (λ g. g.exchange ≡ x) fs → AllByRecursion (λ g. share (Noted (note.Start x d s to) ∷ h) g ≡ 0) fs
      own_none [] a = tt
      own_none (g ∷ gs) a = (new_share g a.0, own_none gs a.1)

      least : (n k : ℕ) → n ≡ 0 → n ≤ k
      least n k e = omega (arith, e)

      same_len : (n : ℕ) → n ≤ n
      same_len n = omega arith

      old_share : (g : FlowId) → share (Noted (note.Start x d s to) ∷ h) g ≤ share h g
      old_share g = by_case (x == g.exchange) (λ t. least _ _ (new_share g (sym (number_is x g.exchange t)))) (λ i. share_less h g (Noted (note.Start x d s to)) i (same_len (length (recv setup g h))))

  arrive_holds : (most : ℕ) (f : FlowId) (octets : List ℕ) (h : History Mark) → Lives h → IfSome (setup.comes_from f h) (λ d. held_from setup d h + length octets ≤ most) → Holds most h → Holds most (Noted (note.Arrive f octets) ∷ h)
  arrive_holds most f octets h r fits k = at (setup.comes_from f h) refl fits
    where
      other : (g : FlowId) → same_flow f g ≡ false → share (Noted (note.Arrive f octets) ∷ h) g ≤ share h g
      other g d = share_less h g (Noted (note.Arrive f octets)) refl (recv_less g (Noted (note.Arrive f octets)) h (λ os e. not_both (same_flow f g) (ap (λ v. same_flow f v) (sym (ap (arrived_at f) e)) ∙ flow_same f) d))

      more : (b : Bool) (xs ys : List ℕ) → length (xs ++ (if b then ys else [])) ≤ length xs + length ys
      more true xs ys = omega (arith, length-append xs ys)
      more false xs ys = omega (arith, length-append xs [])

      own : share (Noted (note.Arrive f octets) ∷ h) f ≤ share h f + length octets
      own = subst (λ v. v ≤ share h f + length octets) (sym (share_by h f (Noted (note.Arrive f octets)) refl)) (pick (is_some_of (setup.comes_from f h) c))
        where
          least : (n : ℕ) → 0 ≤ 0 + n
          least n = omega arith

          pick : (b : Bool) → (if b then length (recv setup f (Noted (note.Arrive f octets) ∷ h)) else 0) ≤ (if b then length (recv setup f h) else 0) + length octets
          pick true = more (same_flow f f && (0 == 0)) (recv setup f h) octets
          pick false = least (length octets)

      summed : held_from setup c (Noted (note.Arrive f octets) ∷ h) ≤ held_from setup c h + length octets
      summed = sum_more (share (Noted (note.Arrive f octets) ∷ h)) (share h) f (length octets) (live_flows setup h) other own (apart_live setup ways (live h) r.once)

      -- where it comes from elsewhere, this connection's share stays
      elsewhere : is_some_of (setup.comes_from f h) c ≡ false → Holds most (Noted (note.Arrive f octets) ∷ h)
      elsewhere e = within _ _ _ (sum_less (share (Noted (note.Arrive f octets) ∷ h)) (share h) (live_flows setup h) (λ g. by_case (same_flow f g) (λ t. subst (λ v. share (Noted (note.Arrive f octets) ∷ h) v ≤ share h v) (flow_is f g t) none) (λ d. other g d))) k
        where
          none : share (Noted (note.Arrive f octets) ∷ h) f ≤ share h f
          none = subst (λ v. v ≤ share h f) (sym (share_by h f (Noted (note.Arrive f octets)) refl ∙ ap (λ b. if b then length (recv setup f (Noted (note.Arrive f octets) ∷ h)) else 0) e)) (omega arith)

      number : (d : ℕ) → (d == c) ≡ true → held_from setup d h + length octets ≤ most → Holds most (Noted (note.Arrive f octets) ∷ h)
      number d e le = within _ _ _ summed (subst (λ v. held_from setup v h + length octets ≤ most) (number_is d c e) le)

      at : (o : Option ℕ) → setup.comes_from f h ≡ o → IfSome o (λ d. held_from setup d h + length octets ≤ most) → Holds most (Noted (note.Arrive f octets) ∷ h)
      at None e i = elsewhere (ap (λ v. is_some_of v c) e)
      at (Some d) e i = by_case (d == c) (λ t. number d t i) (λ n. elsewhere (ap (λ v. is_some_of v c) e ∙ n))

  abbrev Kept : Step Mark → History Mark → Type 0
  Kept step h = (most : ℕ) → setup.together ≡ Some most → EachFollows LeavesDoomed (step ∷ h) → FitsIn setup step h → Holds most h → Holds most (step ∷ h)

  some_of : (P : ℕ → Type 0) (o : Option ℕ) (n : ℕ) → o ≡ Some n → IfSome o P → P n
  some_of P None n e i = cc
  some_of P (Some d) n e i = subst P (number e) i
    where
      number : Some d ≡ Some n → d ≡ n
      number e = cc

  holds_step : (step : Step Mark) (h : History Mark) → Kept step h
  holds_step (Noted (note.Arrive f octets)) h most e l t r =
      arrive_holds most f octets h (lives h l.1) (some_of (λ n. IfSome (setup.comes_from f h) (λ d. held_from setup d h + length octets ≤ n)) setup.together most e t.together) r
  holds_step (Noted (note.Start x d s to)) h most e l t r = start_holds most x d s to h l.0 l.1 r
  holds_step (Noted (note.Doom x why)) h most e l t r = doom_holds most x why h r
  holds_step step h most e3 l3 t3 r = holds_same most step h refl (λ f. refl) (λ v os i. cc) r

  pub holds : (h : History Mark) → EachFollows LeavesDoomed h → EachFollows (FitsIn setup) h → (most : ℕ) → setup.together ≡ Some most → Holds most h
  holds [] l t most e = omega arith
  holds (step ∷ h) l t most e = holds_step step h most e l t.0 (holds h l.1 t.1 most e)
