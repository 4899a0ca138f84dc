-- The stages that the log knows of an exchange are those of the row that its mark names.
use Rattle.flow_notes.specs.declared.notes.Note.TheVariants as note
use Rattle.proxy_config.specs.declared.config.Config.{Config}
use Rattle.std.proofs.Common.{ap, append_assoc, arith, inl, inr, refl, subst, sym, ◌∙◌}
use Rattle.std.proofs.lemmas.Bool.Decides.{nat_tests}
use Rattle.std.proofs.lemmas.List.{append-nil, length-append}
use Rattle.std.proofs.lemmas.Option.{same_Some, slice_get_within}
use Rattle.std.specs.Prelude.{Bool, IfSome, IsSome, List, None, Option, Some, [], false, is_some, length, nat_lt, slice_get, suc, true, zero, ℕ, ◌++◌, ◌+◌, ◌-◌, ◌<◌, ◌==◌, ◌||◌, ◌∷◌, ◌≡◌, ◌≤◌, ◌⊎◌}
use Rattle.tape_laws.specs.Dispatches.{has, started}
use Rattle.tape_laws.specs.History.{Marked, Noted}
use Rattle.wire_run.specs.Passing.{PassesAll, begun_in}
use Rattle.wire_run.specs.Stages.{AreStages, HaveRows, IsRow}
use Rattle.wire_run.specs.declared.stages.RouteStages.{RouteStages}
use Rattle.wire_state.proofs.Staged.{get_behind, get_front, row_kept, rows_after, rows_of, staged}
use Rattle.wire_state.specs.Courses.{row_of}
use Rattle.wire_state.specs.Marks.{AreWays, row_in, rows_in}
use Rattle.wire_state.specs.Ways.{Opens, Passes, WayHistory, WayStep, after, shown}
use Rattle.wire_summary.specs.Levels.{StageLimits, known_limits, named, names, no_limits}
use Rattle.wire_summary.specs.Logging.{WireLogs}
use Rattle.wire_summary.specs.declared.log.WireLog.{WireLog}

-- ---- the exchanges that steps begin
started_after : (steps : List WayStep) (h : WayHistory) → started (after steps h) ≡ started h ++ begun_in (shown steps)
started_after [] h = sym (append-nil (started h))
started_after (Marked m ∷ ss) h = started_after ss (Marked m ∷ h)
started_after (Noted (note.Start x c s d) ∷ ss) h = started_after ss (Noted (note.Start x c s d) ∷ h) ∙ append_assoc (started h) (x ∷ []) (begun_in (shown ss))
started_after (Noted (note.Turn k e) ∷ ss) h = started_after ss (Noted (note.Turn k e) ∷ h)
started_after (Noted (note.Arrive f octets) ∷ ss) h = started_after ss (Noted (note.Arrive f octets) ∷ h)
started_after (Noted (note.Move f p n) ∷ ss) h = started_after ss (Noted (note.Move f p n) ∷ h)
started_after (Noted (note.Frame c f n last) ∷ ss) h = started_after ss (Noted (note.Frame c f n last) ∷ h)
started_after (Noted (note.Out c n) ∷ ss) h = started_after ss (Noted (note.Out c n) ∷ h)
started_after (Noted (note.Pause f b) ∷ ss) h = started_after ss (Noted (note.Pause f b) ∷ h)
started_after (Noted (note.Resume f b) ∷ ss) h = started_after ss (Noted (note.Resume f b) ∷ h)
started_after (Noted (note.Credit c s n) ∷ ss) h = started_after ss (Noted (note.Credit c s n) ∷ h)
started_after (Noted (note.Head c s octets) ∷ ss) h = started_after ss (Noted (note.Head c s octets) ∷ h)
started_after (Noted (note.Answer c octets) ∷ ss) h = started_after ss (Noted (note.Answer c octets) ∷ h)
started_after (Noted (note.Waste c s n) ∷ ss) h = started_after ss (Noted (note.Waste c s n) ∷ h)
started_after (Noted (note.Doom x why) ∷ ss) h = started_after ss (Noted (note.Doom x why) ∷ h)
started_after (Noted (note.Gone x) ∷ ss) h = started_after ss (Noted (note.Gone x) ∷ h)
started_after (Noted (note.Close c code why) ∷ ss) h = started_after ss (Noted (note.Close c code why) ∷ h)
started_after (Noted (note.Fire kind id) ∷ ss) h = started_after ss (Noted (note.Fire kind id) ∷ h)

-- ---- the exchanges that notes name
abbrev names_in : ℕ → WayHistory → Bool
names_in x [] = false
names_in x (Noted n ∷ past) = names n x || names_in x past
names_in x (Marked m ∷ past) = names_in x past

named_stays : (x : ℕ) (ss : List WayStep) (h : WayHistory) → names_in x h ≡ true → names_in x (after ss h) ≡ true
named_stays x [] h e = e
named_stays x (Noted n ∷ ss) h e = named_stays x ss (Noted n ∷ h) (later (names n x) (names_in x h) e)
  where
    later : (a b : Bool) → b ≡ true → (a || b) ≡ true
    later true b e = refl
    later false b e = e
named_stays x (Marked m ∷ ss) h e = named_stays x ss (Marked m ∷ h) e

named_after : (x : ℕ) (ss : List WayStep) (h : WayHistory) → named (shown ss) x ≡ true → names_in x (after ss h) ≡ true
named_after x [] h e = cc
named_after x (Noted n ∷ ss) h e = at (names n x) refl e (named_after x ss (Noted n ∷ h))
  where
    at : (b : Bool) → names n x ≡ b → (b || named (shown ss) x) ≡ true → (named (shown ss) x ≡ true → names_in x (after ss (Noted n ∷ h)) ≡ true) → names_in x (after ss (Noted n ∷ h)) ≡ true
    at true is e more = named_stays x ss (Noted n ∷ h) (ap (λ (v : Bool). v || names_in x h) is)
    at false is e more = more e
named_after x (Marked m ∷ ss) h e = named_after x ss (Marked m ∷ h) e

-- by number
module _ (x : ℕ) where
  same_number : (a n : ℕ) → (a == x) ≡ true → a ≤ n → x ≤ n
  same_number a n e most = grind (arith, nat_tests)

  either : (a : Bool) (b : Bool) (n : ℕ) → (a ≡ true → x ≤ n) → (b ≡ true → x ≤ n) → (a || b) ≡ true → x ≤ n
  either true b n f g e = f refl
  either false b n f g e = g e

  one_more : (n : ℕ) (xs ys : List ℕ) → length xs ≡ n → x ≤ n → x ≤ length (xs ++ ys)
  one_more n xs ys is most = let long = length-append xs ys in omega (arith, long, is, most)

  -- what is named was given
  named_given : (config : Config) (h : WayHistory) → AreWays config h → names_in x h ≡ true → x ≤ length (started h)
  named_given config [] w e = cc
  named_given config (Noted (note.Start y c s d) ∷ Marked (Passes z row to there back) ∷ past) w e = one_more (length (started past)) (started past) (y ∷ []) refl (named_given config past w.1 e)
  named_given config (Noted (note.Start y c s d) ∷ Marked (Opens z t) ∷ past) w e = absurd w
  named_given config (Noted (note.Start y c s d) ∷ Noted n ∷ past) w e = absurd w
  named_given config (Noted (note.Start y c s d) ∷ []) w e = absurd w
  named_given config (Marked (Passes y row to there back) ∷ past) w e = absurd w
  named_given config (Marked (Opens y s) ∷ past) w e = named_given config past w.1 e
  named_given config (Noted (note.Arrive f octets) ∷ past) w e = either (f.exchange == x) (names_in x past) (length (started past)) (λ is. same_number f.exchange (length (started past)) is w.0.1) (λ is. named_given config past w.1 is) e
  named_given config (Noted (note.Move f p n) ∷ past) w e = either (f.exchange == x) (names_in x past) (length (started past)) (λ is. same_number f.exchange (length (started past)) is w.0.1) (λ is. named_given config past w.1 is) e
  named_given config (Noted (note.Frame c f n last) ∷ past) w e = either (f.exchange == x) (names_in x past) (length (started past)) (λ is. same_number f.exchange (length (started past)) is w.0.1) (λ is. named_given config past w.1 is) e
  named_given config (Noted (note.Doom y why) ∷ past) w e = either (y == x) (names_in x past) (length (started past)) (λ is. same_number y (length (started past)) is w.0.1) (λ is. named_given config past w.1 is) e
  named_given config (Noted (note.Turn k t) ∷ past) w e = named_given config past w e
  named_given config (Noted (note.Out c n) ∷ past) w e = named_given config past w e
  named_given config (Noted (note.Pause f b) ∷ past) w e = named_given config past w e
  named_given config (Noted (note.Resume f b) ∷ past) w e = named_given config past w e
  named_given config (Noted (note.Credit c s n) ∷ past) w e = named_given config past w e
  named_given config (Noted (note.Head c s octets) ∷ past) w e = named_given config past w e
  named_given config (Noted (note.Answer c octets) ∷ past) w e = named_given config past w e
  named_given config (Noted (note.Waste c s n) ∷ past) w e = named_given config past w e
  named_given config (Noted (note.Gone y) ∷ past) w e = named_given config past w e
  named_given config (Noted (note.Close c code why) ∷ past) w e = named_given config past w e
  named_given config (Noted (note.Fire kind id) ∷ past) w e = named_given config past w e

-- ---- places in a list
has_at : (xs : List ℕ) (x : ℕ) → has xs x ≡ true → (i : ℕ) × (slice_get xs i ≡ Some x)
has_at [] x e = cc
has_at (y ∷ xs) x e = at (y == x) refl e (has_at xs x)
  where
    same : (y x : ℕ) → (y == x) ≡ true → y ≡ x
    same y x e = grind (arith, nat_tests)

    at : (b : Bool) → (y == x) ≡ b → (b || has xs x) ≡ true → (has xs x ≡ true → (i : ℕ) × (slice_get xs i ≡ Some x)) → (i : ℕ) × (slice_get (y ∷ xs) i ≡ Some x)
    at true is e behind = (zero, ap Some (same y x is))
    at false is e behind = let more = behind e in (suc more.0, more.1)

at_has : (xs : List ℕ) (i x : ℕ) → slice_get xs i ≡ Some x → has xs x ≡ true
at_has [] i x e = cc
at_has (y ∷ xs) zero x e = ap (λ (b : Bool). b || has xs x) (same y x (same_Some y x e))
  where
    same : (y x : ℕ) → y ≡ x → (y == x) ≡ true
    same y x e = grind (arith, nat_tests)
at_has (y ∷ xs) (suc i) x e = later (y == x) (has xs x) (at_has xs i x e)
  where
    later : (a b : Bool) → b ≡ true → (a || b) ≡ true
    later true b e = refl
    later false b e = e

-- ---- one dispatch
module _ (config : Config) (steps : List WayStep) (k : WayHistory) (before : AreWays config k) (now : AreWays config (after steps k)) where
  abbrev then_ : WayHistory
  then_ = after steps k

  long : length (started then_) ≡ length (started k) + length (begun_in (shown steps))
  long = ap (λ (xs : List ℕ). length xs) (started_after steps k) ∙ length-append (started k) (begun_in (shown steps))

  -- an exchange that begins has a number that comes in this dispatch
  record IsNew (x : ℕ) : Type 0 where
    above : length (started k) < x
    within : x ≤ length (started then_)

  begun_new : (x : ℕ) → has (begun_in (shown steps)) x ≡ true → IsNew x
  begun_new x e =
      let found = has_at (begun_in (shown steps)) x e in
      let less = slice_get_within (begun_in (shown steps)) found.0 x found.1 in
      let here : slice_get (started then_) (length (started k) + found.0) ≡ Some x =
      ap (λ (xs : List ℕ). slice_get xs (length (started k) + found.0)) (started_after steps k) ∙ get_behind (started k) (begun_in (shown steps)) found.0 (length (started k) + found.0) refl ∙ found.1 in
      let number = same_Some (suc (length (started k) + found.0)) x (sym ((staged config then_ now).numbered (length (started k) + found.0) (inside (length (started k)) found.0 (length (begun_in (shown steps))) (length (started then_)) less long)) ∙ here) in
      record { above = over (length (started k)) found.0 x number; within = most (length (started k)) found.0 x (length (begun_in (shown steps))) (length (started then_)) number less long }
    where
      inside : (n i m l : ℕ) → i < m → l ≡ n + m → n + i < l
      inside n i m l less is = omega (arith, less, is)

      over : (n i x : ℕ) → suc (n + i) ≡ x → n < x
      over n i x is = omega (arith, is)

      most : (n i x m l : ℕ) → suc (n + i) ≡ x → i < m → l ≡ n + m → x ≤ l
      most n i x m l is less long = omega (arith, is, less, long)

  new_begun : (x : ℕ) → IsNew x → has (begun_in (shown steps)) x ≡ true
  new_begun x new = at_has (begun_in (shown steps)) (x - length (started k) - 1) x
      (sym (get_behind (started k) (begun_in (shown steps)) (x - length (started k) - 1) (x - 1) (place (length (started k)) x new.above))
      ∙ (ap (λ (xs : List ℕ). slice_get xs (x - 1)) (sym (started_after steps k))
      ∙ ((staged config then_ now).numbered (x - 1) (inside x (length (started then_)) (length (started k)) new.above new.within) ∙ ap Some (back x (length (started k)) new.above))))
    where
      place : (n x : ℕ) → n < x → x - 1 ≡ n + (x - n - 1)
      place n x over = omega (arith, over)

      inside : (x l n : ℕ) → n < x → x ≤ l → x - 1 < l
      inside x l n over most = omega (arith, over, most)

      back : (x n : ℕ) → n < x → suc (x - 1) ≡ x
      back x n over = omega (arith, over)

  -- the row of one that had begun stays
  row_stays : (x : ℕ) → x ≤ length (started k) → row_in x then_ ≡ row_in x k
  row_stays x most = at x refl
    where
      some : (x y : ℕ) → x ≡ suc y → 0 < x
      some x y is = omega (arith, is)

      further : (x n m l : ℕ) → x ≤ n → l ≡ n + m → x ≤ l
      further x n m l most long = omega (arith, most, long)

      inside : (x y n l : ℕ) → x ≡ suc y → x ≤ n → l ≡ n → x - 1 < l
      inside x y n l is most count = omega (arith, is, most, count)

      at : (y : ℕ) → x ≡ y → row_in x then_ ≡ row_in x k
      at zero is = ap (λ (v : ℕ). row_in v then_) is ∙ ((staged config then_ now).zero_ ∙ sym (ap (λ (v : ℕ). row_in v k) is ∙ (staged config k before).zero_))
      at (suc y) is = same_Some (row_in x then_) (row_in x k)
          (sym ((staged config then_ now).known x (some x y is) (further x (length (started k)) (length (begun_in (shown steps))) (length (started then_)) most long))
          ∙ (ap (λ (rows : List (Option ℕ)). slice_get rows (x - 1)) (rows_after steps k)
          ∙ (get_front (rows_of k) (rows_in steps) (x - 1) (inside x y (length (started k)) (length (rows_of k)) is most (staged config k before).count) ∙ (staged config k before).known x (some x y is) most)))

  -- ---- the log
  abbrev Rowed : ℕ → Option StageLimits → Type 0
  Rowed x o = IfSome o (IsRow config.routes (row_in x then_))

  module _ (table : List RouteStages) (row : ℕ → Option ℕ) (old mid new : WireLog) (a : AreStages table config.routes) (told : (x : ℕ) → row x ≡ row_of x (length (started k)) (rows_in steps))
      (p : PassesAll table row (shown steps) old mid) (l : WireLogs mid (shown steps) new) (was : HaveRows config.routes old.levels k) where
    above_of : (n x : ℕ) → nat_lt n x ≡ true → n < x
    above_of n x e = grind (arith, nat_tests)

    within_of : (n x : ℕ) → nat_lt n x ≡ false → x ≤ n
    within_of n x e = grind (arith, nat_tests)

    -- one that was known had begun
    given : (x : ℕ) (m : StageLimits) → known_limits old.levels x ≡ Some m → x ≤ length (started k)
    given x m e = at (nat_lt (length (started k)) x) refl
      where
        at : (b : Bool) → nat_lt (length (started k)) x ≡ b → x ≤ length (started k)
        at true is = let unknown = was.none x (above_of (length (started k)) x is) in absurd (cc (unknown, e))
        at false is = within_of (length (started k)) x is

    -- each that began is known before the notes are taken up
    known_now : (x : ℕ) → 0 < x → x ≤ length (started then_) → IsSome (known_limits mid.levels x)
    known_now x some most = at (nat_lt (length (started k)) x) refl
      where
        stays : (o : Option StageLimits) → known_limits old.levels x ≡ o → is_some o ≡ true → IsSome (known_limits mid.levels x)
        stays None e there = cc
        stays (Some m) e there = ap is_some (p.stay x m e)

        at : (b : Bool) → nat_lt (length (started k)) x ≡ b → IsSome (known_limits mid.levels x)
        at true is = p.all x (new_begun x (record { above = above_of (length (started k)) x is; within = most }))
        at false is = stays (known_limits old.levels x) refl (was.all x some (within_of (length (started k)) x is))

    -- what the notes name was given
    named_so : (x : ℕ) → named (shown steps) x ≡ true → x ≤ length (started then_)
    named_so x e = named_given x config then_ now (named_after x steps k e)

    -- one of which nothing was known, and something is now, is of number 0
    is_zero : (x : ℕ) (m : StageLimits) → known_limits mid.levels x ≡ None → known_limits new.levels x ≡ Some m → (y : ℕ) → x ≡ y → row_in x then_ ≡ None
    is_zero x m f g zero is = ap (λ (v : ℕ). row_in v then_) is ∙ (staged config then_ now).zero_
    is_zero x m f g (suc y) is = by_name (named (shown steps) x) refl
      where
        some : (x y : ℕ) → x ≡ suc y → 0 < x
        some x y is = omega (arith, is)

        by_name : (b : Bool) → named (shown steps) x ≡ b → row_in x then_ ≡ None
        by_name true e = let there : is_some (known_limits mid.levels x) ≡ true = known_now x (some x y is) (named_so x e) in absurd (cc (there, f))
        by_name false e = let gone = l.hides x e f in absurd (cc (gone, g))

    each : (x : ℕ) (o q r : Option StageLimits) → known_limits old.levels x ≡ o → known_limits mid.levels x ≡ q → known_limits new.levels x ≡ r → Rowed x (known_limits new.levels x)
    each x (Some m) q r e f g =
        subst (Rowed x) (sym (l.grow.stay x m (p.stay x m e)))
        (subst (λ (v : Option ℕ). IsRow config.routes v m) (sym (row_stays x (given x m e))) (subst (λ (v : Option StageLimits). IfSome v (IsRow config.routes (row_in x k))) e (was.each x)))
    each x None (Some m) r e f g =
        let said = subst (λ (v : Option StageLimits). IfSome v (λ s. (has (begun_in (shown steps)) x ≡ true) × IsRow config.routes (row x) s)) f (p.come config.routes a x e) in
        let is_new = begun_new x said.0 in
        subst (Rowed x) (sym (l.grow.stay x m f)) (subst (λ (v : Option ℕ). IsRow config.routes v m) (told x ∙ row_kept config steps k before now x is_new.above is_new.within) said.1)
    each x None None None e f g = subst (Rowed x) (sym g) tt
    each x None None (Some m) e f g = by (l.grow.come x f)
      where
        no_row : IsRow config.routes None no_limits
        no_row = record { request_is = refl; response_is = refl }

        by : (known_limits new.levels x ≡ None) ⊎ (known_limits new.levels x ≡ Some no_limits) → Rowed x (known_limits new.levels x)
        by (inl none) = subst (Rowed x) (sym none) tt
        by (inr bare) = subst (Rowed x) (sym bare) (subst (λ (v : Option ℕ). IsRow config.routes v no_limits) (sym (is_zero x m f g x refl)) no_row)

    all : (x : ℕ) (o : Option StageLimits) → known_limits mid.levels x ≡ o → is_some o ≡ true → IsSome (known_limits new.levels x)
    all x None f there = cc
    all x (Some m) f there = ap is_some (l.grow.stay x m f)

    none : (x : ℕ) → length (started then_) < x → known_limits new.levels x ≡ None
    none x over = l.hides x (unnamed (named (shown steps) x) refl) (unsaid (known_limits mid.levels x) refl)
      where
        beyond : (x l : ℕ) → l < x → x ≤ l → ⊥
        beyond x l over most = omega (arith, over, most)

        before_too : (x n m l : ℕ) → l < x → l ≡ n + m → n < x
        before_too x n m l over long = omega (arith, over, long)

        unnamed : (b : Bool) → named (shown steps) x ≡ b → b ≡ false
        unnamed true e = absurd (beyond x (length (started then_)) over (named_so x e))
        unnamed false e = refl

        unsaid : (o : Option StageLimits) → known_limits mid.levels x ≡ o → known_limits mid.levels x ≡ None
        unsaid None e = e
        unsaid (Some m) e =
            let unknown = was.none x (before_too x (length (started k)) (length (begun_in (shown steps))) (length (started then_)) over long) in
            let said = subst (λ (v : Option StageLimits). IfSome v (λ s. (has (begun_in (shown steps)) x ≡ true) × IsRow config.routes (row x) s)) e (p.come config.routes a x unknown) in
            absurd (beyond x (length (started then_)) over (begun_new x said.0).within)

    pub rows_on : HaveRows config.routes new.levels then_
    rows_on = record {
      each = λ x. each x (known_limits old.levels x) (known_limits mid.levels x) (known_limits new.levels x) refl refl refl;
      all = λ x some most. all x (known_limits mid.levels x) refl (known_now x some most);
      none = none;
    }
