-- The receive buffer, the stages and the send buffer of a live flow stay within their bounds.
use Rattle.flow_rules.specs.declared.ids.FlowId.{FlowId}
use Rattle.flow_laws.proofs.Bounds.{Grows, send_low, stages_room, stand_all}
use Rattle.flow_laws.proofs.Flags.{within_limit}
use Rattle.flow_laws.proofs.Induction.{by_life}
use Rattle.flow_laws.proofs.Lengths.{Arrives, Comes, Feeding, NotFed, feeding}
use Rattle.flow_laws.proofs.Lists.{by_case, flow_is, flow_same}
use Rattle.flow_laws.proofs.Moves.{IsMove, move_is}
use Rattle.flow_laws.proofs.Spared.{IsUnborn}
use Rattle.flow_laws.specs.Fitting.{FitsIn}
use Rattle.flow_laws.specs.Ways.{HasLimits, HasWays, starts}
use Rattle.std.proofs.Common.{ap, arith, inl, inr, length-append, length-drop, length-take, subst, sym, ◌∙◌}
use Rattle.std.proofs.lemmas.Bool.Decides.{nat_tests}
use Rattle.std.specs.Prelude.{Bool, List, [], drop, false, if◌then◌else◌, length, take, true, ℕ, ◌&&◌, ◌++◌, ◌+◌, ◌<◌, ◌==◌, ◌∷◌, ◌≡◌, ◌≤◌, ◌⊎◌}
use Rattle.tape_laws.specs.Bounds.{StagesBounded}
use Rattle.tape_laws.specs.Doomed.{LeavesDoomed}
use Rattle.tape_laws.specs.Flows.{same_flow}
use Rattle.tape_laws.specs.History.{EachFollows, History, Noted, Step}
use Rattle.tape_laws.specs.Release.{MayStand}
use Rattle.tape_laws.specs.Setup.{Setup}
use Rattle.tape_laws.specs.Sources.{is_live}
use Rattle.tape_laws.specs.Units.{StageKind}
use Rattle.tape_laws.specs.World.{last_place, place}
use Rattle.flow_rules.specs.declared.ids.BufferId.TheVariants as buffer
use Rattle.flow_notes.specs.declared.notes.Note.TheVariants as note

-- how a step may make a flow's stages longer: by a move of that flow
data Moving {Mark : Type 0} (setup : Setup Mark) (f : FlowId) (step : Step Mark) (h : History Mark) : Type 0 where
  MovesFrom : (q n : ℕ) → step ≡ Noted (note.Move f q n) → Moving setup f step h
  MovesNone : ((p : ℕ) → 1 ≤ p → length (place setup f p (step ∷ h)) ≤ length (place setup f p h)) → Moving setup f step h

-- the place that a move leaves
abbrev moved_from : {Mark : Type 0} → Step Mark → ℕ
moved_from (Noted (note.Move f p n)) = p
moved_from step = 0

same_len : (n : ℕ) → n ≤ n
same_len n = omega arith

within : (a b c : ℕ) → a ≤ b → b ≤ c → a ≤ c
within a b c i j = omega arith

module _ {Mark : Type 0} (setup : Setup Mark) (f : FlowId) where
  moving : (step : Step Mark) (h : History Mark) → Moving setup f step h
  moving (Noted (note.Move g q n)) h = by_case (same_flow g f) (λ t. MovesFrom q n (ap (λ (v : FlowId). Noted (note.Move v q n)) (flow_is g f t)))
      (λ d. MovesNone (λ p some. rw d (same_len (length (place setup f p h)))))
  moving (Noted (note.Arrive g octets)) h = MovesNone (λ p some. rw (not_first p some) (none (same_flow g f) p))
    where
      not_first : (p : ℕ) → 1 ≤ p → (p == 0) ≡ false
      not_first p some = grind (arith, nat_tests)

      no_longer : (xs : List ℕ) → length (xs ++ []) ≤ length xs
      no_longer xs = omega (arith, length-append xs [])

      none : (b : Bool) (p : ℕ) → length (place setup f p h ++ (if b && false then octets else [])) ≤ length (place setup f p h)
      none true p = no_longer (place setup f p h)
      none false p = no_longer (place setup f p h)
  moving (Noted (note.Frame c g n last)) h = MovesNone (λ p some. dropped (if same_flow g f && (p == last_place setup f h) then n else 0) (place setup f p h))
    where
      dropped : (n : ℕ) (xs : List ℕ) → length (drop n xs) ≤ length xs
      dropped n xs = omega (arith, length-drop n xs)
  moving (Noted (note.Doom x why)) h = MovesNone (λ p some. emptied (f.exchange == x) (place setup f p h))
    where
      emptied : (b : Bool) (xs : List ℕ) → length (if b then [] else xs) ≤ length xs
      emptied true xs = omega arith
      emptied false xs = omega arith
  moving step h = MovesNone (λ p some. same_len (length (place setup f p h)))

  -- a move adds no more than it carries
  moved_in : (q n p : ℕ) (h : History Mark) → length (place setup f p (Noted (note.Move f q n) ∷ h)) ≤ length (place setup f p h) + n
  moved_in q n p h = rw (flow_same f) (at (p == q) (p == q + 1))
    where
      less : (xs : List ℕ) → length (drop n xs) ≤ length xs + n
      less xs = omega (arith, length-drop n xs)

      more : (xs ys : List ℕ) → length (xs ++ take n ys) ≤ length xs + n
      more xs ys = omega (arith, length-append xs (take n ys), length-take n ys)

      same : (n k : ℕ) → k ≤ k + n
      same n k = omega arith

      at : (a b : Bool) → length (if a then drop n (place setup f p h) else (if b then place setup f p h ++ take n (place setup f q h) else place setup f p h)) ≤ length (place setup f p h) + n
      at true b = less (place setup f p h)
      at false true = more (place setup f p h) (place setup f q h)
      at false false = same n (length (place setup f p h))

  pub record HasRoom (h : History Mark) : Type 0 where
    pub window : length (place setup f 0 h) ≤ setup.recv
    pub stages : StagesBounded setup f 1 (setup.stages f h) h
    pub send : 0 < setup.send → length (place setup f (last_place setup f h) h) ≤ setup.send + setup.quantum

  stages_kept : (step : Step Mark) (h : History Mark) (p : ℕ) (ss : List StageKind) → 1 ≤ p → ((q : ℕ) → 1 ≤ q → length (place setup f q (step ∷ h)) ≤ length (place setup f q h))
      → StagesBounded setup f p ss h → StagesBounded setup f p ss (step ∷ h)
  stages_kept step h p [] some le b = tt
  stages_kept step h p (s ∷ ss) some le b = (within _ _ _ (le p some) b.0, stages_kept step h (p + 1) ss (later p some) le b.1)
    where
      later : (p : ℕ) → 1 ≤ p → 1 ≤ p + 1
      later p le = omega (arith, le)

  stages_empty : (h : History Mark) (p : ℕ) (ss : List StageKind) → ((q : ℕ) → place setup f q h ≡ []) → StagesBounded setup f p ss h
  stages_empty h p [] e = tt
  stages_empty h p (s ∷ ss) e = (least _ _ (ap length (e p)), stages_empty h (p + 1) ss e)
    where
      least : (n k : ℕ) → n ≡ 0 → n ≤ k
      least n k e = omega (arith, e)

  empty_room : (h : History Mark) → ((q : ℕ) → place setup f q h ≡ []) → HasRoom h
  empty_room h e = record {
    window = least _ _ (ap length (e 0));
    stages = stages_empty h 1 (setup.stages f h) e;
    send = λ some. least _ _ (ap length (e (last_place setup f h)));
  }
    where
      least : (n k : ℕ) → n ≡ 0 → n ≤ k
      least n k e = omega (arith, e)

module _ {Mark : Type 0} (setup : Setup Mark) (ways : HasWays setup) (limited : HasLimits setup) (f : FlowId) where
  module _ (step : Step Mark) (h : History Mark) (old : starts f step ≡ false) (may : MayStand setup step h) (fits : FitsIn setup step h) (r : HasRoom setup f h) where
    window_then : length (place setup f 0 (step ∷ h)) ≤ setup.recv
    window_then = at (feeding setup f 0 step h)
      where
        added : (b : Bool) (xs ys : List ℕ) (l : ℕ) → length xs + length ys ≤ l → length (xs ++ (if b then ys else [])) ≤ l
        added true xs ys l le = omega (arith, length-append xs ys, le)
        added false xs ys l le = omega (arith, length-append xs [], le)

        never : (q : ℕ) → 0 ≡ q + 1 → ⊥
        never q e = omega (arith, e)

        at : Feeding setup f 0 step h → length (place setup f 0 (step ∷ h)) ≤ setup.recv
        at (Arrives octets e z) =
            subst (λ s. length (place setup f 0 (s ∷ h)) ≤ setup.recv) (sym e)
            (added (same_flow f f && (0 == 0)) (place setup f 0 h) octets setup.recv (subst (λ s. FitsIn setup s h) e fits).window)
        at (Comes q n e z) = absurd (never q z)
        at (NotFed le) = within _ _ _ le r.window

    move_of : (q n : ℕ) → step ≡ Noted (note.Move f q n) → IsMove setup f q n h
    move_of q n e = move_is setup f q n h (subst (λ s. MayStand setup s h) e may)

    send_then : 0 < setup.send → length (place setup f (last_place setup f (step ∷ h)) (step ∷ h)) ≤ setup.send + setup.quantum
    send_then some =
        subst (λ (ss : List StageKind). length (place setup f (length ss + 1) (step ∷ h)) ≤ setup.send + setup.quantum) (sym (ways.stages f step h old)) (at (moving setup f step h))
      where
        more : (a b n s q : ℕ) → a ≤ b + n → b ≤ s → n ≤ q → a ≤ s + q
        more a b n s q i j k = omega arith

        one : (k : ℕ) → 1 ≤ k + 1
        one k = omega arith

        turned : (q k : ℕ) → q < k + 1 → q < 1 + k
        turned q k lt = omega (arith, lt)

        at : Moving setup f step h → length (place setup f (last_place setup f h) (step ∷ h)) ≤ setup.send + setup.quantum
        at (MovesFrom q n e) =
            let m = move_of q n e in
            let low = send_low setup f q n h 1 (setup.stages f h) (last_place setup f h + 1) (setup.goes_to f h) (turned q (length (setup.stages f h)) m.before) m.low in
            subst (λ s. length (place setup f (last_place setup f h) (s ∷ h)) ≤ setup.send + setup.quantum) (sym e)
            (more _ _ _ _ _ (moved_in setup f q n (last_place setup f h) h) (within_limit setup (buffer.Send f) h low some) m.within)
        at (MovesNone le) = within _ _ _ (le (last_place setup f h) (one (length (setup.stages f h)))) (r.send some)

    stages_then : StagesBounded setup f 1 (setup.stages f (step ∷ h)) (step ∷ h)
    stages_then = subst (λ ss. StagesBounded setup f 1 ss (step ∷ h)) (sym (ways.stages f step h old)) (at (moving setup f step h))
      where
        self : 1 ≤ 1
        self = omega arith

        grown : (q n : ℕ) → Grows setup f q n h (Noted (note.Move f q n))
        grown q n p some = at (feeding setup f p (Noted (note.Move f q n)) h)
          where
            at : Feeding setup f p (Noted (note.Move f q n)) h → (length (place setup f p (Noted (note.Move f q n) ∷ h)) ≤ length (place setup f p h))
                ⊎ ((p ≡ q + 1) × (length (place setup f p (Noted (note.Move f q n) ∷ h)) ≤ length (place setup f p h) + n))
            at (Arrives octets e z) = cc
            at (Comes a m e z) = inr (z ∙ ap (λ v. v + 1) (sym (ap moved_from e)), moved_in setup f q n p h)
            at (NotFed le) = inl le

        at : Moving setup f step h → StagesBounded setup f 1 (setup.stages f h) (step ∷ h)
        at (MovesFrom q n e) =
            let m = move_of q n e in
            subst (λ s. StagesBounded setup f 1 (setup.stages f h) (s ∷ h)) (sym e)
            (stages_room setup f q n h (Noted (note.Move f q n)) (grown q n) m.within (subst (λ s. FitsIn setup s h) e fits) 1 (setup.stages f h) (last_place setup f h + 1) (setup.goes_to f h) self
            (stand_all setup f h q n) (limited.limits f h) m.low r.stages)
        at (MovesNone le) = stages_kept setup f step h 1 (setup.stages f h) self le r.stages

    room_then : HasRoom setup f (step ∷ h)
    room_then = record { window = window_then; stages = stages_then; send = send_then }

  pub rooms : (h : History Mark) → EachFollows LeavesDoomed h → EachFollows (λ s k. MayStand setup s k × FitsIn setup s k) h → is_live setup f h ≡ true → HasRoom setup f h
  rooms h l m a = by_life setup ways f (HasRoom setup f) (λ s k. MayStand setup s k × FitsIn setup s k) own (λ step k o s alive may r. room_then step k o may.0 may.1 r) h l m a
    where
      own_empty : (step : Step Mark) (k : History Mark) → starts f step ≡ true → IsUnborn setup f k → (p : ℕ) → place setup f p (step ∷ k) ≡ []
      own_empty (Noted (note.Start x c s d)) k t u p = u.empty p
      own_empty step k' t u p = cc

      own : (step : Step Mark) (k : History Mark) → starts f step ≡ true → IsUnborn setup f k → HasRoom setup f (step ∷ k)
      own step k t u = empty_room setup f (step ∷ k) (own_empty step k t u)
