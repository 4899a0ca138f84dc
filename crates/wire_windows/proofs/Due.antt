-- The streams that are due a WINDOW_UPDATE, when one stream changes, begins or goes.
use Rattle.std.proofs.Common.{ap, arith, refl, sym, ◌∙◌}
use Rattle.std.proofs.lemmas.Bool.Decides.{nat_tests}
use Rattle.std.specs.FinMap.{get, insert, len, remove}
use Rattle.std.specs.Option.{option_map_or}
use Rattle.std.specs.Prelude.{Bool, None, Option, Some, cond, false, if◌then◌else◌, length, nat_eq, true, ℕ, ◌+◌, ◌<◌, ◌==◌, ◌≡◌, ◌≤◌}
use Rattle.wire_windows.proofs.Maps.{get_insert, get_remove}
use Rattle.wire_windows.proofs.Sums.{sum_insert, sum_less, sum_remove}
use Rattle.number_set.specs.NumberSet.{NumberSet, has}
use Rattle.wire_windows.specs.Kept.{AreDue}
use Rattle.wire_windows.specs.RecvWindows.{RecvStreams, is_due_stream}
use Rattle.wire_windows.specs.declared.recv_stream.RecvStream.{RecvStream}

abbrev pub one : Bool → ℕ
one b = if b then 1 else 0

-- the number is there from now on, or isn't
pub record Marks (x : ℕ) (is_there : Bool) (old new : NumberSet) : Type 0 where
  pub items : (y : ℕ) → has new.items y ≡ (if x == y then is_there else has old.items y)
  pub len : length new.items + (if has old.items x then 1 else 0) ≡ length old.items + (if is_there then 1 else 0)

light : (s : RecvStream) → one (is_due_stream s) ≤ 1
light s = at (is_due_stream s)
  where
    at : (b : Bool) → one b ≤ 1
    at true = omega arith
    at false = omega arith

-- what a stream counts for is what it counts for in the set
weight_is : (o : Option RecvStream) → option_map_or (λ s. one (is_due_stream s)) o 0 ≡ one (option_map_or is_due_stream o false)
weight_is None = refl
weight_is (Some s) = refl

module _ (streams : RecvStreams) (due : NumberSet) (are : AreDue streams due) (x : ℕ) where
  weight_has : option_map_or (λ s. one (is_due_stream s)) (get streams x) 0 ≡ one (has due.items x)
  weight_has = weight_is (get streams x) ∙ ap one (sym (are.those x))

  -- a stream is put, and marked
  pub due_put : (t : RecvStream) (new : NumberSet) → Marks x (is_due_stream t) due new → AreDue (insert streams x t) new
  due_put t new marks = record {
    those = λ y. marks.items y ∙ ap (λ b. if x == y then is_due_stream t else b) (are.those y) ∙ at y (nat_eq x y) ∙ ap (λ (o : Option RecvStream). option_map_or is_due_stream o false) (sym (get_insert streams x t y));
    counted = omega (arith, marks.len, are.counted, weight_has, sum_insert (λ (s : RecvStream). one (is_due_stream s)) streams x t);
  }
    where
      at : (y : ℕ) (b : Bool) → (if b then is_due_stream t else option_map_or is_due_stream (get streams y) false) ≡ option_map_or is_due_stream (cond b (Some t) (get streams y)) false
      at y true = refl
      at y false = refl

  -- it goes, and is marked no more
  pub due_gone : (new : NumberSet) → Marks x false due new → AreDue (remove streams x) new
  due_gone new marks = record {
    those = λ y. marks.items y ∙ ap (λ b. if x == y then false else b) (are.those y) ∙ at y (nat_eq x y) ∙ ap (λ (o : Option RecvStream). option_map_or is_due_stream o false) (sym (get_remove streams x y));
    counted = omega (arith, marks.len, are.counted, weight_has, sum_remove (λ (s : RecvStream). one (is_due_stream s)) streams x);
  }
    where
      at : (y : ℕ) (b : Bool) → (if b then false else option_map_or is_due_stream (get streams y) false) ≡ option_map_or is_due_stream (cond b None (get streams y)) false
      at y true = refl
      at y false = refl

  -- a stream that is as due as it was needs no mark
  pub stays_marked : (is_due : Bool) (new : NumberSet) → new.items ≡ due.items → is_due ≡ has due.items x → Marks x is_due due new
  stays_marked is_due new items same = record {
    items = λ y. ap (λ xs. has xs y) items ∙ at y (nat_eq x y) refl;
    len = ap (λ xs. length xs + (if has due.items x then 1 else 0)) items ∙ ap (λ b. length due.items + (if b then 1 else 0)) (sym same);
  }
    where
      at : (y : ℕ) (b : Bool) → nat_eq x y ≡ b → has due.items y ≡ (if b then is_due else has due.items y)
      at y true e = let is : x ≡ y = grind (arith, nat_tests) in sym (same ∙ ap (has due.items) is)
      at y false e = refl

  -- there is room for a stream that isn't marked
  pub room_left : (s : RecvStream) → get streams x ≡ Some s → len streams ≤ due.room → has due.items x ≡ false → length due.items < due.room
  room_left s there ready unmarked =
      let not_due : one (is_due_stream s) ≡ 0 = sym (ap (λ (o : Option RecvStream). option_map_or (λ s. one (is_due_stream s)) o 0) there) ∙ weight_has ∙ ap one unmarked in
      omega (arith, ready, are.counted, sum_less (λ (s : RecvStream). one (is_due_stream s)) streams x s light there not_due)
