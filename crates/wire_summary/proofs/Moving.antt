-- The levels of a flow's places, note by note.
use Rattle.flow_rules.specs.declared.ids.FlowId.{FlowId}
use Rattle.flow_notes.specs.declared.notes.Note.{Note}
use Rattle.std.proofs.Common.{ap, arith, length-append, length-drop, refl, subst, sym, ◌∙◌}
use Rattle.std.proofs.lemmas.Bool.Decides.{nat_tests}
use Rattle.std.proofs.lemmas.List.{length-map, length-take}
use Rattle.std.specs.Prelude.{Bool, List, [], drop, false, if◌then◌else◌, length, map, min, nat_lt, not, suc, take, true, ℕ, ◌&&◌, ◌++◌, ◌+◌, ◌-◌, ◌<◌, ◌==◌, ◌∷◌, ◌≡◌, ◌≤◌}
use Rattle.tape_laws.specs.Flows.{same_flow}
use Rattle.tape_laws.specs.History.{History, NoMark, Noted, Step}
use Rattle.tape_laws.specs.Units.{StageKind}
use Rattle.tape_laws.specs.World.{place}
use Rattle.tape_summary.specs.Levels.{emptied, fallen, no_level, risen}
use Rattle.tape_summary.specs.declared.level.Level.{Level}
use Rattle.wire_summary.proofs.Siding.{emptied_from, fallen_beyond, fallen_from, fallen_long, held_beyond, held_from, risen_beyond, risen_from, risen_long, same_from}
use Rattle.wire_summary.specs.Levels.{LevelsFrom, SideIs, peak_place, place_level, shaped}
use Rattle.wire_summary.specs.Places.{Side, changed, changed_side, emptied_side, fallen_at, held_at, last_of, risen_at, taken}
use Rattle.wire_summary.specs.declared.levels.BufferLimits.{BufferLimits}
use Rattle.wire_summary.specs.declared.places.Change.{Change}
use Rattle.flow_notes.specs.declared.notes.Note.TheVariants as note
use Rattle.wire_summary.specs.declared.places.Change.TheVariants as change

module _ (limits : BufferLimits) (stages : FlowId → List StageKind) where
  -- ---- one place

  held_most : (f : FlowId) (p : ℕ) (h : History NoMark) → length (place (shaped limits stages) f p h) ≤ peak_place (shaped limits stages) f p h
  held_most f p [] = omega arith
  held_most f p (step ∷ past) = omega arith

  level_is : (a b c d : ℕ) → a ≡ c → b ≡ d → (let l : Level = record { held = a; most = b } in l) ≡ record { held = c; most = d }
  level_is a b c d p q =
      ap (λ (v : ℕ). let l : Level = record { held = v; most = b } in l) p ∙ ap (λ (v : ℕ). let l : Level = record { held = c; most = v } in l) q

  pub level_same : (f : FlowId) (p : ℕ) (step : Step NoMark) (h : History NoMark) → length (place (shaped limits stages) f p (step ∷ h)) ≡ length (place (shaped limits stages) f p h)
      → place_level (shaped limits stages) f h p ≡ place_level (shaped limits stages) f (step ∷ h) p
  level_same f p step h e = level_is _ _ _ _ (sym e) (let m = held_most f p h in omega (arith, e, m))

  level_risen : (f : FlowId) (p n : ℕ) (step : Step NoMark) (h : History NoMark) → length (place (shaped limits stages) f p (step ∷ h)) ≡ length (place (shaped limits stages) f p h) + n
      → risen (place_level (shaped limits stages) f h p) n ≡ place_level (shaped limits stages) f (step ∷ h) p
  level_risen f p n step h e = level_is _ _ _ _ (sym e) (omega (arith, e))

  level_fallen : (f : FlowId) (p n : ℕ) (step : Step NoMark) (h : History NoMark) → length (place (shaped limits stages) f p (step ∷ h)) ≡ length (place (shaped limits stages) f p h) - n
      → fallen (place_level (shaped limits stages) f h p) n ≡ place_level (shaped limits stages) f (step ∷ h) p
  level_fallen f p n step h e = level_is _ _ _ _ (sym e) (let m = held_most f p h in omega (arith, e, m))

  level_emptied : (f : FlowId) (p : ℕ) (step : Step NoMark) (h : History NoMark) → length (place (shaped limits stages) f p (step ∷ h)) ≡ 0
      → emptied (place_level (shaped limits stages) f h p) ≡ place_level (shaped limits stages) f (step ∷ h) p
  level_emptied f p step h e = level_is _ _ _ _ (sym e) (omega (arith, e))

  -- ---- octets come

  arrive_length : (b c : Bool) (xs o : List ℕ) → length (xs ++ (if b && c then o else [])) ≡ length xs + (if b && c then length o else 0)
  arrive_length true true xs o = length-append xs o
  arrive_length true false xs o = length-append xs []
  arrive_length false c xs o = length-append xs []

  pub arrive_other : (g : FlowId) (o : List ℕ) (f : FlowId) (p : ℕ) (h : History NoMark) → same_flow g f ≡ false
      → place_level (shaped limits stages) f h p ≡ place_level (shaped limits stages) f (Noted (note.Arrive g o) ∷ h) p
  arrive_other g o f p h e =
      let k = arrive_length (same_flow g f) (p == 0) (place (shaped limits stages) f p h) o in
      let z : (if same_flow g f && (p == 0) then length o else 0) ≡ 0 = ap (λ (b : Bool). if b && (p == 0) then length o else 0) e in
      level_same f p (Noted (note.Arrive g o)) h (omega (arith, k, z))

  pub arrive_here : (g : FlowId) (o : List ℕ) (f : FlowId) (h : History NoMark) (side : Side) → same_flow g f ≡ true → SideIs limits stages f h side
      → SideIs limits stages f (Noted (note.Arrive g o) ∷ h) (changed_side (change.Arrive (length o)) side)
  arrive_here g o f h side e k = record {
    limits_are = k.limits_are;
    long = risen_long 0 (length o) side.levels ∙ k.long;
    levels_are = risen_from (place_level (shaped limits stages) f h) (place_level (shaped limits stages) f (Noted (note.Arrive g o) ∷ h)) 0 0 0 (length o) side.levels (omega arith) others first k.levels_are;
  }
    where
      others : (q : ℕ) → (q == 0) ≡ false → place_level (shaped limits stages) f h q ≡ place_level (shaped limits stages) f (Noted (note.Arrive g o) ∷ h) q
      others q d =
          let k = arrive_length (same_flow g f) (q == 0) (place (shaped limits stages) f q h) o in
          let z : (if same_flow g f && (q == 0) then length o else 0) ≡ 0 = (ap (λ (b : Bool). if b && (q == 0) then length o else 0) e ∙ ap (λ (b : Bool). if b then length o else 0) d) in
          level_same f q (Noted (note.Arrive g o)) h (omega (arith, k, z))

      first : risen (place_level (shaped limits stages) f h 0) (length o) ≡ place_level (shaped limits stages) f (Noted (note.Arrive g o) ∷ h) 0
      first =
          let k = arrive_length (same_flow g f) true (place (shaped limits stages) f 0 h) o in
          let z : (if same_flow g f && true then length o else 0) ≡ length o = ap (λ (b : Bool). if b && true then length o else 0) e in
          level_risen f 0 (length o) (Noted (note.Arrive g o)) h (omega (arith, k, z))

  -- ---- octets go on

  move_length : (b c d : Bool) (held from : List ℕ) (n : ℕ) → length (if b then (if c then drop n held else (if d then held ++ take n from else held)) else held)
      ≡ (if b then (if c then length held - n else (if d then length held + min n (length from) else length held)) else length held)
  move_length true true d held from n = length-drop n held
  move_length true false true held from n = length-append held (take n from) ∙ ap (λ k. length held + k) (length-take n from)
  move_length true false false held from n = refl
  move_length false c d held from n = refl

  pub move_other : (g : FlowId) (r n : ℕ) (f : FlowId) (p : ℕ) (h : History NoMark) → same_flow g f ≡ false
      → place_level (shaped limits stages) f h p ≡ place_level (shaped limits stages) f (Noted (note.Move g r n) ∷ h) p
  move_other g r n f p h e =
      level_same f p (Noted (note.Move g r n)) h
      (move_length (same_flow g f) (p == r) (p == r + 1) (place (shaped limits stages) f p h) (place (shaped limits stages) f r h) n
      ∙ ap (λ (b : Bool). if b then (if p == r then length (place (shaped limits stages) f p h) - n else (if p == r + 1 then length (place (shaped limits stages) f p h) + min n (length (place (shaped limits stages) f r h)) else length (place (shaped limits stages) f p h))) else length (place (shaped limits stages) f p h)) e)

  -- by the two places that it changes
  moved_length : (g : FlowId) (r n : ℕ) (f : FlowId) (p : ℕ) (h : History NoMark) (c d : Bool) → same_flow g f ≡ true → (p == r) ≡ c → (p == r + 1) ≡ d
      → length (place (shaped limits stages) f p (Noted (note.Move g r n) ∷ h))
      ≡ (if c then length (place (shaped limits stages) f p h) - n else (if d then length (place (shaped limits stages) f p h) + min n (length (place (shaped limits stages) f r h)) else length (place (shaped limits stages) f p h)))
  moved_length g r n f p h c d e ec ed =
      let held = place (shaped limits stages) f p h in
      let from = place (shaped limits stages) f r h in
      move_length (same_flow g f) (p == r) (p == r + 1) held from n
      ∙ ap (λ (b : Bool). if b then (if p == r then length held - n else (if p == r + 1 then length held + min n (length from) else length held)) else length held) e
      ∙ ap (λ (b : Bool). if b then length held - n else (if p == r + 1 then length held + min n (length from) else length held)) ec
      ∙ ap (λ (b : Bool). if c then length held - n else (if b then length held + min n (length from) else length held)) ed

  -- what stands between the octets' leave and their coming
  abbrev between : (g : FlowId) (r n : ℕ) (f : FlowId) (h : History NoMark) → ℕ → Level
  between g r n f h q = if q == r then place_level (shaped limits stages) f (Noted (note.Move g r n) ∷ h) q else place_level (shaped limits stages) f h q

  itself : (r : ℕ) → (r == r) ≡ true
  itself r = grind (arith, nat_tests)

  next_other : (r : ℕ) → (r == suc r) ≡ false
  next_other r = grind (arith, nat_tests)

  next_differs : (r : ℕ) → (suc r == r) ≡ false
  next_differs r = grind (arith, nat_tests)

  one_more : (r : ℕ) → suc r ≡ r + 1
  one_more r = omega arith

  pub move_here : (g : FlowId) (r n : ℕ) (f : FlowId) (h : History NoMark) (side : Side) → same_flow g f ≡ true → SideIs limits stages f h side
      → SideIs limits stages f (Noted (note.Move g r n) ∷ h) (changed_side (change.Shift r n) side)
  move_here g r n f h side e k = record {
    limits_are = k.limits_are;
    long = risen_long (suc r) (taken r n side.levels) (fallen_at r (taken r n side.levels) side.levels) ∙ fallen_long r (taken r n side.levels) side.levels ∙ k.long;
    levels_are = by (nat_lt r (length side.levels)) refl;
  }
    where
      was : ℕ → Level
      was = place_level (shaped limits stages) f h

      now : ℕ → Level
      now = place_level (shaped limits stages) f (Noted (note.Move g r n) ∷ h)

      mid : ℕ → Level
      mid = between g r n f h

      t : ℕ
      t = taken r n side.levels

      elsewhere : (q : ℕ) → (q == r) ≡ false → (q == suc r) ≡ false → was q ≡ now q
      elsewhere q c d =
          let e1 : (q == r + 1) ≡ false = ap (λ v. q == v) (sym (one_more r)) ∙ d in
          level_same f q (Noted (note.Move g r n)) h (moved_length g r n f q h false false e c e1)

      by : (b : Bool) → nat_lt r (length side.levels) ≡ b → LevelsFrom now 0 (changed (change.Shift r n) side.levels)
      by true there =
          let within : r < length side.levels = grind (arith, nat_tests) in
          let held_is : held_at r side.levels ≡ length (place (shaped limits stages) f r h) = held_from was 0 r r side.levels (omega arith) within k.levels_are in
          let t_is : t ≡ min n (length (place (shaped limits stages) f r h)) = ap (min n) held_is in
          let left : fallen (was r) t ≡ now r =
          (let l = moved_length g r n f r h true (r == r + 1) e (itself r) refl in level_fallen f r t (Noted (note.Move g r n)) h (omega (arith, l, t_is))) in
          let left_mid : fallen (was r) t ≡ mid r = left ∙ sym (ap (λ (b : Bool). if b then now r else was r) (itself r)) in
          let others_mid : (q : ℕ) → (q == r) ≡ false → was q ≡ mid q = λ q d. sym (ap (λ (b : Bool). if b then now q else was q) d) in
          let fell : LevelsFrom mid 0 (fallen_at r t side.levels) = fallen_from was mid 0 r r t side.levels (omega arith) others_mid left_mid k.levels_are in
          let came : risen (mid (suc r)) t ≡ now (suc r) =
          (let e1 : (suc r == r + 1) ≡ true = ap (λ v. suc r == v) (sym (one_more r)) ∙ itself (suc r) in
          let l = moved_length g r n f (suc r) h false true e (next_differs r) e1 in
          ap (λ v. risen v t) (ap (λ (b : Bool). if b then now (suc r) else was (suc r)) (next_differs r)) ∙ level_risen f (suc r) t (Noted (note.Move g r n)) h (l ∙ ap (λ v. length (place (shaped limits stages) f (suc r) h) + v) (sym t_is))) in
          let others_now : (q : ℕ) → (q == suc r) ≡ false → mid q ≡ now q = λ q d. at q d (q == r) refl in
          risen_from mid now 0 (suc r) (suc r) t (fallen_at r t side.levels) (omega arith) others_now came fell
        where
          at : (q : ℕ) → (q == suc r) ≡ false → (b : Bool) → (q == r) ≡ b → mid q ≡ now q
          at q d true c = ap (λ (b : Bool). if b then now q else was q) c
          at q d false c = ap (λ (b : Bool). if b then now q else was q) c ∙ elsewhere q c d
      by false there =
          let beyond : length side.levels ≤ r = grind (arith, nat_tests) in
          let same : changed (change.Shift r n) side.levels ≡ side.levels =
          (ap (risen_at (suc r) t) (fallen_beyond r t side.levels beyond) ∙ risen_beyond (suc r) t side.levels (omega (arith, beyond))) in
          let P : List Level → Type 0 = λ v. LevelsFrom now 0 v in
          subst P (sym same) (same_from was now 0 side.levels (λ q le lt. elsewhere q (before q r (omega (arith, lt, beyond))) (before q (suc r) (omega (arith, lt, beyond)))) k.levels_are)
        where
          before : (q s : ℕ) → q < s → (q == s) ≡ false
          before q s lt = grind (arith, nat_tests)

  -- ---- octets are framed

  frame_length : (b : Bool) (held : List ℕ) (n : ℕ) → length (drop (if b then n else 0) held) ≡ length held - (if b then n else 0)
  frame_length b held n = length-drop (if b then n else 0) held

  pub frame_other : (c : ℕ) (g : FlowId) (n : ℕ) (last : Bool) (f : FlowId) (p : ℕ) (h : History NoMark) → same_flow g f ≡ false
      → place_level (shaped limits stages) f h p ≡ place_level (shaped limits stages) f (Noted (note.Frame c g n last) ∷ h) p
  frame_other c g n last f p h e =
      let k = frame_length (same_flow g f && (p == length (stages f) + 1)) (place (shaped limits stages) f p h) n in
      let z : (if same_flow g f && (p == length (stages f) + 1) then n else 0) ≡ 0 = ap (λ (b : Bool). if b && (p == length (stages f) + 1) then n else 0) e in
      level_same f p (Noted (note.Frame c g n last)) h (omega (arith, k, z))

  pub frame_here : (c : ℕ) (g : FlowId) (n : ℕ) (last : Bool) (f : FlowId) (h : History NoMark) (side : Side) → same_flow g f ≡ true → SideIs limits stages f h side
      → SideIs limits stages f (Noted (note.Frame c g n last) ∷ h) (changed_side (change.Frame n) side)
  frame_here c g n last f h side e k = record {
    limits_are = k.limits_are;
    long = fallen_long z t side.levels ∙ k.long;
    levels_are = fallen_from was now 0 z z t side.levels (omega arith) others left k.levels_are;
  }
    where
      was : ℕ → Level
      was = place_level (shaped limits stages) f h

      now : ℕ → Level
      now = place_level (shaped limits stages) f (Noted (note.Frame c g n last) ∷ h)

      z : ℕ
      z = last_of side.levels

      t : ℕ
      t = taken z n side.levels

      at_last : z ≡ length (stages f) + 1
      at_last = let long = k.long in omega (arith, long)

      framed_length : (p : ℕ) (b : Bool) → (p == length (stages f) + 1) ≡ b → length (place (shaped limits stages) f p (Noted (note.Frame c g n last) ∷ h)) ≡ length (place (shaped limits stages) f p h) - (if b then n else 0)
      framed_length p b d =
          frame_length (same_flow g f && (p == length (stages f) + 1)) (place (shaped limits stages) f p h) n
          ∙ ap (λ (v : Bool). length (place (shaped limits stages) f p h) - (if v && (p == length (stages f) + 1) then n else 0)) e
          ∙ ap (λ (v : Bool). length (place (shaped limits stages) f p h) - (if v then n else 0)) d

      others : (q : ℕ) → (q == z) ≡ false → was q ≡ now q
      others q d =
          let d1 : (q == length (stages f) + 1) ≡ false = ap (λ v. q == v) (sym at_last) ∙ d in
          let l = framed_length q false d1 in
          level_same f q (Noted (note.Frame c g n last)) h (omega (arith, l))

      left : fallen (was z) t ≡ now z
      left =
          let within : z < length side.levels = (let long = k.long in omega (arith, long)) in
          let held_is : held_at z side.levels ≡ length (place (shaped limits stages) f z h) = held_from was 0 z z side.levels (omega arith) within k.levels_are in
          let t_is : t ≡ min n (length (place (shaped limits stages) f z h)) = ap (min n) held_is in
          let d1 : (z == length (stages f) + 1) ≡ true = ap (λ v. z == v) (sym at_last) ∙ itself z in
          let l = framed_length z true d1 in
          level_fallen f z t (Noted (note.Frame c g n last)) h (omega (arith, l, t_is))

  -- ---- all octets are dropped

  pub doom_other : (x : ℕ) (n : Note) (f : FlowId) (p : ℕ) (h : History NoMark) → place (shaped limits stages) f p (Noted n ∷ h) ≡ (if f.exchange == x then [] else place (shaped limits stages) f p h) → (f.exchange == x) ≡ false
      → place_level (shaped limits stages) f h p ≡ place_level (shaped limits stages) f (Noted n ∷ h) p
  doom_other x n f p h is e = level_same f p (Noted n) h (ap length is ∙ ap (λ (b : Bool). length (if b then [] else place (shaped limits stages) f p h)) e)

  pub doom_here : (x : ℕ) (n : Note) (f : FlowId) (h : History NoMark) (side : Side) → ((p : ℕ) → place (shaped limits stages) f p (Noted n ∷ h) ≡ (if f.exchange == x then [] else place (shaped limits stages) f p h)) → (f.exchange == x) ≡ true
      → SideIs limits stages f h side → SideIs limits stages f (Noted n ∷ h) (emptied_side side)
  doom_here x n f h side is e k = record {
    limits_are = k.limits_are;
    long = length-map side.levels emptied ∙ k.long;
    levels_are = emptied_from (place_level (shaped limits stages) f h) (place_level (shaped limits stages) f (Noted n ∷ h)) 0 side.levels
        (λ q. level_emptied f q (Noted n) h (ap length (is q) ∙ ap (λ (b : Bool). length (if b then [] else place (shaped limits stages) f q h)) e)) k.levels_are;
  }
