-- No buffer of a flow holds more than its bound.
use Rattle.flow_rules.specs.declared.ids.FlowId.{FlowId}
use Rattle.flow_laws.proofs.Flags.{within_limit}
use Rattle.flow_laws.proofs.Sources.{at_stage}
use Rattle.flow_rules.specs.Kinds.{Hold as HoldKind, Kind, Meter as MeterKind, Send as SendKind, is_overfilled}
use Rattle.flow_rules.specs.Moves.{overfills as overfills_at}
use Rattle.flow_rules.specs.Sources.{SourceAt, sources_from, write_source}
use Rattle.flow_rules.specs.State.{kind_at}
use Rattle.std.proofs.Common.{ap, arith, inl, inr, subst, sym, ◌∙◌}
use Rattle.std.proofs.lemmas.Bool.Decides.{nat_tests}
use Rattle.std.specs.List.{AllByRecursion}
use Rattle.std.specs.Option.{option_map_or}
use Rattle.std.specs.Prelude.{Bool, List, None, Option, Some, [], false, if◌then◌else◌, length, map, nat_lt, slice_get, suc, true, ℕ, ◌&&◌, ◌++◌, ◌+◌, ◌-◌, ◌<◌, ◌==◌, ◌∷◌, ◌≡◌, ◌≤◌, ◌⊎◌}
use Rattle.tape_laws.specs.Bounds.{StagesBounded}
use Rattle.tape_laws.specs.History.{History, Step}
use Rattle.tape_laws.specs.Pauses.{place_buffer}
use Rattle.tape_laws.specs.Setup.{Setup}
use Rattle.tape_laws.specs.State.{state_of}
use Rattle.tape_laws.specs.Units.{Hold, Meter, StageKind, kind_of}
use Rattle.tape_laws.specs.Watermark.{above, kind_limit, limit, stage_limit}
use Rattle.tape_laws.specs.World.{len, place}
use Rattle.flow_rules.specs.declared.ids.BufferId.TheVariants as buffer

-- ---- the stages of a flow from place p on, where it moves n octets out of place q
within_or : (x y : Bool) → x ≡ true → (x && y) ≡ false → y ≡ false
within_or true y e f = f
within_or false y e f = cc

module _ {Mark : Type 0} (setup : Setup Mark) (f : FlowId) (q n : ℕ) (h : History Mark) where
  abbrev NotAbove : SourceAt → Type 0
  NotAbove s = (nat_lt q s.place && above setup s.buffer h) ≡ false

  abbrev rest_of : ℕ → List StageKind → ℕ → Option ℕ → List SourceAt
  rest_of p ss w to = sources_from f p (map kind_of ss ++ SendKind ∷ []) ++ write_source w to

  -- the send buffer behind place q isn't above
  pub send_low : (p : ℕ) (ss : List StageKind) (w : ℕ) (to : Option ℕ) → q < p + length ss → AllByRecursion NotAbove (rest_of p ss w to) → above setup (buffer.Send f) h ≡ false
  send_low p [] w to lt a = within_or (nat_lt q p) (above setup (buffer.Send f) h) (is_less q p lt) a.0
    where
      is_less : (q p : ℕ) → q < p + 0 → nat_lt q p ≡ true
      is_less q p lt = grind (arith, nat_tests)
  send_low p (Hold l ∷ ss) w to lt a = send_low (p + 1) ss w to (more q p (length ss) lt) a
    where
      more : (q p k : ℕ) → q < p + suc k → q < (p + 1) + k
      more q p k lt = omega (arith, lt)
  send_low p (Meter l r ∷ ss) w to lt a = send_low (p + 1) ss w to (more q p (length ss) lt) a.1
    where
      more : (q p k : ℕ) → q < p + suc k → q < (p + 1) + k
      more q p k lt = omega (arith, lt)

  -- how much more place p may hold than its stage's limit, and the kind of each stage
  abbrev pub Stands : ℕ → StageKind → Type 0
  Stands p s = (place_buffer setup f p h ≡ buffer.Stage f p) × (stage_limit (setup.stages f h) p ≡ kind_limit s) × (kind_at (state_of setup f h) p ≡ Some (kind_of s))

  abbrev pub AllStand : ℕ → List StageKind → Type 0
  AllStand p [] = Unit {0}
  AllStand p (s ∷ ss) = Stands p s × AllStand (p + 1) ss

  hold_fits : (l len : ℕ) (kind : Option Kind) → kind ≡ Some HoldKind → option_map_or (λ k. is_overfilled k l len n) kind false ≡ false → len + n ≤ l
  hold_fits l len None e o = cc
  hold_fits l len (Some HoldKind) e o = fits l (len + n) o
    where
      fits : (l k : ℕ) → nat_lt l k ≡ false → k ≤ l
      fits l k e = grind (arith, nat_tests)
  hold_fits l len (Some MeterKind) e o = cc
  hold_fits l len (Some SendKind) e o = cc

  -- after the step a stage holds what it held, or n octets more where it stands behind place q
  abbrev pub Grows : Step Mark → Type 0
  Grows step = (p : ℕ) → 1 ≤ p → (length (place setup f p (step ∷ h)) ≤ length (place setup f p h)) ⊎ ((p ≡ q + 1) × (length (place setup f p (step ∷ h)) ≤ length (place setup f p h) + n))

  module _ (step : Step Mark) (grows : Grows step) (quantum : n ≤ setup.quantum) (fits : overfills_at (state_of setup f h) q n ≡ false) where
    hold_room : (p l : ℕ) → 1 ≤ p → Stands p (Hold l) → length (place setup f p h) ≤ l → length (place setup f p (step ∷ h)) ≤ l
    hold_room p l some st le = at (grows p some)
      where
        room : p ≡ q + 1 → length (place setup f p h) + n ≤ l
        room e =
            let o : option_map_or (λ k. is_overfilled k (limit setup (place_buffer setup f p h) h) (length (place setup f p h)) n) (kind_at (state_of setup f h) p) false ≡ false =
            subst (λ v. option_map_or (λ k. is_overfilled k (limit setup (place_buffer setup f v h) h) (length (place setup f v h)) n) (kind_at (state_of setup f h) v) false ≡ false) (sym e) fits in
            let lim : limit setup (place_buffer setup f p h) h ≡ l = ap (λ b. limit setup b h) st.0 ∙ st.1 in
            hold_fits l (length (place setup f p h)) (kind_at (state_of setup f h) p) st.2
            (subst (λ v. option_map_or (λ k. is_overfilled k v (length (place setup f p h)) n) (kind_at (state_of setup f h) p) false ≡ false) lim o)

        at : (length (place setup f p (step ∷ h)) ≤ length (place setup f p h)) ⊎ ((p ≡ q + 1) × (length (place setup f p (step ∷ h)) ≤ length (place setup f p h) + n))
            → length (place setup f p (step ∷ h)) ≤ l
        at (inl k) = both_le _ _ _ k le
          where
            both_le : (a b c : ℕ) → a ≤ b → b ≤ c → a ≤ c
            both_le a b c i j = omega arith
        at (inr k) = both_le _ _ _ k.1 (room k.0)
          where
            both_le : (a b c : ℕ) → a ≤ b → b ≤ c → a ≤ c
            both_le a b c i j = omega arith

    meter_room : (p l r : ℕ) → 1 ≤ p → Stands p (Meter l r) → 0 < l → NotAbove (record { place = p; buffer = buffer.Stage f p }) → length (place setup f p h) ≤ l + setup.quantum
        → length (place setup f p (step ∷ h)) ≤ l + setup.quantum
    meter_room p l r some st sure low le = at (grows p some)
      where
        both_le : (a b c : ℕ) → a ≤ b → b ≤ c → a ≤ c
        both_le a b c i j = omega arith

        more : (a b l n q : ℕ) → a ≤ b + n → b ≤ l → n ≤ q → a ≤ l + q
        more a b l n q i j k = omega arith

        is_behind : (q p : ℕ) → p ≡ q + 1 → nat_lt q p ≡ true
        is_behind q p e = grind (arith, nat_tests)

        held : p ≡ q + 1 → length (place setup f p h) ≤ l
        held e =
            let lim : limit setup (buffer.Stage f p) h ≡ l = st.1 in
            subst (λ v. length (place setup f p h) ≤ v) lim
            (within_limit setup (buffer.Stage f p) h (within_or (nat_lt q p) _ (is_behind q p e) low) (subst (λ v. 0 < v) (sym lim) sure))

        at : (length (place setup f p (step ∷ h)) ≤ length (place setup f p h)) ⊎ ((p ≡ q + 1) × (length (place setup f p (step ∷ h)) ≤ length (place setup f p h) + n))
            → length (place setup f p (step ∷ h)) ≤ l + setup.quantum
        at (inl k) = both_le _ _ _ k le
        at (inr k) = more _ _ _ _ _ k.1 (held k.0) quantum

    pub stages_room : (p : ℕ) (ss : List StageKind) (w : ℕ) (to : Option ℕ) → 1 ≤ p → AllStand p ss → AllByRecursion (λ s. 0 < kind_limit s) ss → AllByRecursion NotAbove (rest_of p ss w to)
        → StagesBounded setup f p ss h → StagesBounded setup f p ss (step ∷ h)
    stages_room p [] w to some st sure low b = tt
    stages_room p (Hold l ∷ ss) w to some st sure low b =
        (hold_room p l some st.0 b.0, stages_room (p + 1) ss w to (later p some) st.1 sure.1 low b.1)
      where
        later : (p : ℕ) → 1 ≤ p → 1 ≤ p + 1
        later p le = omega (arith, le)
    stages_room p (Meter l r ∷ ss) w to some st sure low b =
        (meter_room p l r some st.0 sure.0 low.0 b.0, stages_room (p + 1) ss w to (later p some) st.1 sure.1 low.1 b.1)
      where
        later : (p : ℕ) → 1 ≤ p → 1 ≤ p + 1
        later p le = omega (arith, le)

-- ---- where its stages stand
module _ {Mark : Type 0} (setup : Setup Mark) (f : FlowId) (h : History Mark) where
  limits_from : (ss : List StageKind) (k : ℕ) (s : StageKind) → ((i : ℕ) → 1 ≤ i → stage_limit (setup.stages f h) (i + k) ≡ stage_limit (s ∷ ss) i)
      → (i : ℕ) → 1 ≤ i → stage_limit (setup.stages f h) (i + (k + 1)) ≡ stage_limit ss i
  limits_from ss k s e i some =
      ap (λ v. stage_limit (setup.stages f h) v) (moved i k) ∙ (e (i + 1) (later i) ∙ (ap (λ b. if b then kind_limit s else stage_limit ss ((i + 1) - 1)) (not_first i some) ∙ ap (λ v. stage_limit ss v) (back i)))
    where
      moved : (i k : ℕ) → i + (k + 1) ≡ (i + 1) + k
      moved i k = omega arith

      later : (i : ℕ) → 1 ≤ i + 1
      later i = omega arith

      not_first : (i : ℕ) → 1 ≤ i → (i + 1 == 1) ≡ false
      not_first i some = grind (arith, nat_tests)

      back : (i : ℕ) → (i + 1) - 1 ≡ i
      back i = omega arith

  abbrev kinds_here : List Kind
  kinds_here = map kind_of (setup.stages f h) ++ SendKind ∷ []

  all_stand : (ss : List StageKind) (k : ℕ) → k + length ss ≡ length (setup.stages f h)
      → ((i : ℕ) → 1 ≤ i → stage_limit (setup.stages f h) (i + k) ≡ stage_limit ss i)
      → ((i : ℕ) → slice_get kinds_here (i + k) ≡ slice_get (map kind_of ss ++ SendKind ∷ []) i)
      → AllStand setup f 0 0 h (k + 1) ss
  all_stand [] k l e g = tt
  all_stand (s ∷ ss) k l e g = (
    (at_stage setup f h (k + 1) (not_zero k) (not_last k (length ss) _ l), ap (λ v. stage_limit (setup.stages f h) v) (turned k) ∙ e 1 one, kind),
    all_stand ss (k + 1) (ap (λ v. v) (summed k (length ss)) ∙ l) (limits_from ss k s e)
        (λ i. ap (λ v. slice_get kinds_here v) (moved i k) ∙ g (suc i)),
  )
    where
      one : 1 ≤ 1
      one = omega arith

      turned : (k : ℕ) → k + 1 ≡ 1 + k
      turned k = omega arith

      moved : (i k : ℕ) → i + (k + 1) ≡ suc i + k
      moved i k = omega arith

      summed : (k n : ℕ) → (k + 1) + n ≡ k + suc n
      summed k n = omega arith

      not_zero : (k : ℕ) → (k + 1 == 0) ≡ false
      not_zero k = grind (arith, nat_tests)

      not_last : (k n m : ℕ) → k + suc n ≡ m → (k + 1 == m + 1) ≡ false
      not_last k n m e = let lt : k < m = omega (arith, e) in differs k m lt
        where
          differs : (k m : ℕ) → k < m → (k + 1 == m + 1) ≡ false
          differs k m lt = grind (arith, nat_tests)

      next : (k : ℕ) → k + 1 ≡ suc k
      next k = omega arith

      plain : (k : ℕ) → k ≡ 0 + k
      plain k = omega arith

      kind : kind_at (state_of setup f h) (k + 1) ≡ Some (kind_of s)
      kind = ap (λ v. kind_at (state_of setup f h) v) (next k) ∙ (ap (λ v. slice_get kinds_here v) (plain k) ∙ g 0)

  pub stand_all : (q n : ℕ) → AllStand setup f q n h 1 (setup.stages f h)
  stand_all q n = all_stand (setup.stages f h) 0 (nothing (length (setup.stages f h))) (λ i some. ap (λ v. stage_limit (setup.stages f h) v) (more i)) (λ i. ap (λ v. slice_get kinds_here v) (more i))
    where
      nothing : (n : ℕ) → 0 + n ≡ n
      nothing n = omega arith

      more : (i : ℕ) → i + 0 ≡ i
      more i = omega arith
