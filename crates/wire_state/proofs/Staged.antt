-- What tied marks say of a history: which stages each flow passes, and on which row each exchange began.
use Rattle.flow_rules.specs.declared.ids.FlowId.{FlowId}
use Rattle.flow_notes.specs.declared.notes.Note.TheVariants as note
use Rattle.proxy_config.specs.declared.config.Config.{Config}
use Rattle.std.proofs.Common.{ap, append_assoc, arith, refl, sym, ◌∙◌}
use Rattle.std.proofs.lemmas.Bool.Decides.{nat_tests}
use Rattle.std.proofs.lemmas.List.{append-nil, length-append}
use Rattle.std.specs.Option.{option_and_then}
use Rattle.std.specs.Prelude.{Bool, List, None, Option, Some, [], false, if◌then◌else◌, length, nat_le, nat_lt, slice_get, suc, true, zero, ℕ, ◌++◌, ◌+◌, ◌-◌, ◌<◌, ◌==◌, ◌∷◌, ◌≡◌, ◌≤◌}
use Rattle.tape_laws.specs.Dispatches.{started}
use Rattle.tape_laws.specs.History.{Marked, Noted}
use Rattle.tape_laws.specs.Units.{StageKind}
use Rattle.wire_state.proofs.Held.{is_number}
use Rattle.wire_state.specs.Courses.{row_of}
use Rattle.wire_state.specs.Marks.{AreWays, IsBegun, row_in, rows_in, side_stages}
use Rattle.wire_state.specs.Ways.{Opens, Passes, WayHistory, WayStep, after, stages_passed}

-- the rows of the exchanges that began, in the order of their numbers
abbrev pub rows_of : WayHistory → List (Option ℕ)
rows_of [] = []
rows_of (Marked (Passes x row to there back) ∷ past) = rows_of past ++ row ∷ []
rows_of (step ∷ past) = rows_of past

-- Each flow of an exchange that began passes the stages of its side of the exchange's row, and no other flow has any; each of these
-- exchanges has its row among the rows; and they are numbered from 1 on.
pub record AreStaged (config : Config) (h : WayHistory) : Type 0 where
  pub each : (f : FlowId) → 0 < f.exchange → f.exchange ≤ length (started h) → stages_passed f h ≡ side_stages config (row_in f.exchange h) f.back
  pub none : (f : FlowId) → length (started h) < f.exchange → stages_passed f h ≡ []
  pub count : length (rows_of h) ≡ length (started h)
  pub known : (x : ℕ) → 0 < x → x ≤ length (started h) → slice_get (rows_of h) (x - 1) ≡ Some (row_in x h)
  pub zero_ : row_in 0 h ≡ None
  pub numbered : (i : ℕ) → i < length (started h) → slice_get (started h) i ≡ Some (suc i)

-- ---- a list with one more
pub get_front : {A : Type 0} (xs ys : List A) (i : ℕ) → i < length xs → slice_get (xs ++ ys) i ≡ slice_get xs i
get_front [] ys i less = absurd (omega (arith, less))
get_front (x ∷ xs) ys zero less = refl
get_front (x ∷ xs) ys (suc i) less = get_front xs ys i (omega (arith, less))

pub get_behind : {A : Type 0} (xs ys : List A) (i j : ℕ) → j ≡ length xs + i → slice_get (xs ++ ys) j ≡ slice_get ys i
get_behind [] ys i j is = ap (slice_get ys) (none_more i j is)
  where
    none_more : (i j : ℕ) → j ≡ 0 + i → j ≡ i
    none_more i j is = omega (arith, is)
get_behind (x ∷ xs) ys i zero is = absurd (some_more (length xs) i is)
  where
    some_more : (n i : ℕ) → zero ≡ suc n + i → ⊥
    some_more n i is = omega (arith, is)
get_behind (x ∷ xs) ys i (suc j) is = get_behind xs ys i j (one_less (length xs) i j is)
  where
    one_less : (n i j : ℕ) → suc j ≡ suc n + i → j ≡ n + i
    one_less n i j is = omega (arith, is)

get_last : {A : Type 0} (xs : List A) (x : A) (i : ℕ) → i ≡ length xs → slice_get (xs ++ x ∷ []) i ≡ Some x
get_last xs x i is = get_behind xs (x ∷ []) 0 i (is ∙ none_more (length xs))
  where
    none_more : (n : ℕ) → n ≡ n + 0
    none_more n = omega arith

-- ---- an exchange begins
module _ (config : Config) (x c s d y : ℕ) (row to : Option ℕ) (there back : List StageKind) (past : WayHistory) (b : IsBegun config x d y row to there back past) (was : AreStaged config past) where
  abbrev then_ : WayHistory
  then_ = Noted (note.Start x c s d) ∷ Marked (Passes y row to there back) ∷ past

  more : length (started then_) ≡ length (started past) + 1
  more = length-append (started past) (x ∷ [])

  -- the number of its mark is the last one
  mark : y ≡ length (started past) + 1
  mark = b.same ∙ b.number

  below : (z n : ℕ) → n ≡ length (started past) + 1 → z ≤ n → (y == z) ≡ false → z ≤ length (started past)
  below z n is most other = at y z (length (started past)) n mark is most other
    where
      at : (y z m n : ℕ) → y ≡ m + 1 → n ≡ m + 1 → z ≤ n → (y == z) ≡ false → z ≤ m
      at y z m n e is most other = grind (arith, nat_tests)

  above : (z n : ℕ) → n ≡ length (started past) + 1 → n < z → (y == z) ≡ false
  above z n is over = at y z (length (started past)) n mark is over
    where
      at : (y z m n : ℕ) → y ≡ m + 1 → n ≡ m + 1 → n < z → (y == z) ≡ false
      at y z m n e is over = grind (arith, nat_tests)

  side : (back_ : Bool) → (if back_ then back else there) ≡ side_stages config row back_
  side false = b.request
  side true = b.response

  passes_so : (f : FlowId) (same : Bool) → (y == f.exchange) ≡ same → 0 < f.exchange → f.exchange ≤ length (started then_) → stages_passed f then_ ≡ side_stages config (row_in f.exchange then_) f.back
  passes_so f true e some most =
      ap (λ (v : Bool). if v then (if f.back then back else there) else stages_passed f past) e
      ∙ (side f.back ∙ sym (ap (λ (v : Bool). side_stages config (if v then row else row_in f.exchange past) f.back) e))
  passes_so f false e some most =
      ap (λ (v : Bool). if v then (if f.back then back else there) else stages_passed f past) e
      ∙ (was.each f some (below f.exchange (length (started then_)) more most e) ∙ sym (ap (λ (v : Bool). side_stages config (if v then row else row_in f.exchange past) f.back) e))

  last_row : (z : ℕ) → y ≡ z → z - 1 ≡ length (rows_of past)
  last_row z is = omega (arith, is, mark, was.count)

  known_so : (z : ℕ) (same : Bool) → (y == z) ≡ same → 0 < z → z ≤ length (started then_) → slice_get (rows_of then_) (z - 1) ≡ Some (row_in z then_)
  known_so z true e some most = get_last (rows_of past) row (z - 1) (last_row z (is_number y z e)) ∙ sym (ap (λ (v : Bool). Some (if v then row else row_in z past)) e)
  known_so z false e some most =
      let most_then = below z (length (started then_)) more most e in
      get_front (rows_of past) (row ∷ []) (z - 1) (within most_then) ∙ (was.known z some most_then ∙ sym (ap (λ (v : Bool). Some (if v then row else row_in z past)) e))
    where
      within : z ≤ length (started past) → z - 1 < length (rows_of past)
      within most_then = omega (arith, most_then, some, was.count)

  not_zero : (y n : ℕ) → y ≡ n + 1 → (y == 0) ≡ false
  not_zero y n e = grind (arith, nat_tests)

  number_so : (i : ℕ) (b : Bool) → nat_lt i (length (started past)) ≡ b → i < length (started then_) → slice_get (started then_) i ≡ Some (suc i)
  number_so i true e less = get_front (started past) (x ∷ []) i (before i (length (started past)) e) ∙ was.numbered i (before i (length (started past)) e)
    where
      before : (i n : ℕ) → nat_lt i n ≡ true → i < n
      before i n e = grind (arith, nat_tests)
  number_so i false e less = get_last (started past) x i (here i (length (started past)) (length (started then_)) e more less) ∙ ap Some next
    where
      here : (i n m : ℕ) → nat_lt i n ≡ false → m ≡ n + 1 → i < m → i ≡ n
      here i n m e is less = grind (arith, nat_tests)

      next : x ≡ suc i
      next = omega (arith, b.number, here i (length (started past)) (length (started then_)) e more less)

  begun : AreStaged config then_
  begun = record {
    each = λ f. passes_so f (y == f.exchange) refl;
    none = λ f over. ap (λ (v : Bool). if v then (if f.back then back else there) else stages_passed f past) (above f.exchange (length (started then_)) more over)
        ∙ was.none f (omega (arith, over, more));
    count = length-append (rows_of past) (row ∷ []) ∙ (ap (λ (n : ℕ). n + 1) was.count ∙ sym more);
    known = λ z. known_so z (y == z) refl;
    zero_ = ap (λ (v : Bool). if v then row else row_in 0 past) (not_zero y (length (started past)) mark) ∙ was.zero_;
    numbered = λ i less. number_so i (nat_lt i (length (started past))) refl less;
  }

nothing_given : (n : ℕ) → 0 < n → n ≤ 0 → ⊥
nothing_given n some most = omega (arith, some, most)

none_below : (n : ℕ) → n < 0 → ⊥
none_below n less = omega (arith, less)

pub staged : (config : Config) (h : WayHistory) → AreWays config h → AreStaged config h
staged config [] w = record { each = λ f some most. absurd (nothing_given f.exchange some most); none = λ f over. refl; count = refl; known = λ x some most. absurd (nothing_given x some most); zero_ = refl; numbered = λ i less. absurd (none_below i less) }
staged config (Noted (note.Start x c s d) ∷ Marked (Passes y row to there back) ∷ past) w = begun config x c s d y row to there back past w.0 (staged config past w.1)
staged config (Noted (note.Start x c s d) ∷ Marked (Opens y t) ∷ past) w = absurd w
staged config (Noted (note.Start x c s d) ∷ Noted n ∷ past) w = absurd w
staged config (Noted (note.Start x c s d) ∷ []) w = absurd w
staged config (Marked (Passes y row to there back) ∷ past) w = absurd w
staged config (Marked (Opens x s) ∷ past) w = let was = staged config past w.1 in record { each = was.each; none = was.none; count = was.count; known = was.known; zero_ = was.zero_; numbered = was.numbered }
staged config (Noted (note.Turn k e) ∷ past) w = let was = staged config past w in record { each = was.each; none = was.none; count = was.count; known = was.known; zero_ = was.zero_; numbered = was.numbered }
staged config (Noted (note.Arrive g octets) ∷ past) w = let was = staged config past w.1 in record { each = was.each; none = was.none; count = was.count; known = was.known; zero_ = was.zero_; numbered = was.numbered }
staged config (Noted (note.Move g p n) ∷ past) w = let was = staged config past w.1 in record { each = was.each; none = was.none; count = was.count; known = was.known; zero_ = was.zero_; numbered = was.numbered }
staged config (Noted (note.Frame c g n last) ∷ past) w = let was = staged config past w.1 in record { each = was.each; none = was.none; count = was.count; known = was.known; zero_ = was.zero_; numbered = was.numbered }
staged config (Noted (note.Out c n) ∷ past) w = let was = staged config past w in record { each = was.each; none = was.none; count = was.count; known = was.known; zero_ = was.zero_; numbered = was.numbered }
staged config (Noted (note.Pause g b) ∷ past) w = let was = staged config past w in record { each = was.each; none = was.none; count = was.count; known = was.known; zero_ = was.zero_; numbered = was.numbered }
staged config (Noted (note.Resume g b) ∷ past) w = let was = staged config past w in record { each = was.each; none = was.none; count = was.count; known = was.known; zero_ = was.zero_; numbered = was.numbered }
staged config (Noted (note.Credit c s n) ∷ past) w = let was = staged config past w in record { each = was.each; none = was.none; count = was.count; known = was.known; zero_ = was.zero_; numbered = was.numbered }
staged config (Noted (note.Head c s octets) ∷ past) w = let was = staged config past w in record { each = was.each; none = was.none; count = was.count; known = was.known; zero_ = was.zero_; numbered = was.numbered }
staged config (Noted (note.Answer c octets) ∷ past) w = let was = staged config past w in record { each = was.each; none = was.none; count = was.count; known = was.known; zero_ = was.zero_; numbered = was.numbered }
staged config (Noted (note.Waste c s n) ∷ past) w = let was = staged config past w in record { each = was.each; none = was.none; count = was.count; known = was.known; zero_ = was.zero_; numbered = was.numbered }
staged config (Noted (note.Doom x why) ∷ past) w = let was = staged config past w.1 in record { each = was.each; none = was.none; count = was.count; known = was.known; zero_ = was.zero_; numbered = was.numbered }
staged config (Noted (note.Gone x) ∷ past) w = let was = staged config past w in record { each = was.each; none = was.none; count = was.count; known = was.known; zero_ = was.zero_; numbered = was.numbered }
staged config (Noted (note.Close c code why) ∷ past) w = let was = staged config past w in record { each = was.each; none = was.none; count = was.count; known = was.known; zero_ = was.zero_; numbered = was.numbered }
staged config (Noted (note.Fire kind id) ∷ past) w = let was = staged config past w in record { each = was.each; none = was.none; count = was.count; known = was.known; zero_ = was.zero_; numbered = was.numbered }

-- ---- the row that a dispatch tells
pub rows_after : (steps : List WayStep) (h : WayHistory) → rows_of (after steps h) ≡ rows_of h ++ rows_in steps
rows_after [] h = sym (append-nil (rows_of h))
rows_after (Noted n ∷ ss) h = rows_after ss (Noted n ∷ h)
rows_after (Marked (Opens x s) ∷ ss) h = rows_after ss (Marked (Opens x s) ∷ h)
rows_after (Marked (Passes x row to there back) ∷ ss) h = rows_after ss (Marked (Passes x row to there back) ∷ h) ∙ append_assoc (rows_of h) (row ∷ []) (rows_in ss)

-- the row that is kept of an exchange that began in these steps is that of its mark
pub row_kept : (config : Config) (steps : List WayStep) (h : WayHistory) → AreWays config h → AreWays config (after steps h) → (x : ℕ) → length (started h) < x → x ≤ length (started (after steps h))
    → row_of x (length (started h)) (rows_in steps) ≡ row_in x (after steps h)
row_kept config steps h before now x above most =
    ap (λ (b : Bool). if b then None else option_and_then (λ row. row) (slice_get (rows_in steps) (x - length (started h) - 1))) (not_below x (length (started h)) above)
    ∙ ap (option_and_then (λ row. row)) (at_it ∙ (staged config (after steps h) now).known x (some x (length (started h)) above) most)
  where
    not_below : (x n : ℕ) → n < x → nat_le x n ≡ false
    not_below x n over = grind (arith, nat_tests)

    some : (x n : ℕ) → n < x → 0 < x
    some x n over = omega (arith, over)

    place : (x n l : ℕ) → l ≡ n → n < x → x - 1 ≡ l + (x - n - 1)
    place x n l is over = omega (arith, is, over)

    at_it : slice_get (rows_in steps) (x - length (started h) - 1) ≡ slice_get (rows_of (after steps h)) (x - 1)
    at_it =
        sym (get_behind (rows_of h) (rows_in steps) (x - length (started h) - 1) (x - 1) (place x (length (started h)) (length (rows_of h)) (staged config h before).count above))
        ∙ ap (λ (rows : List (Option ℕ)). slice_get rows (x - 1)) (sym (rows_after steps h))
