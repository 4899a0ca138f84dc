-- The windows of open streams: what stays sound, and what the peer's new initial windows do.
use Rattle.h2_windows.specs.InitialWindows.{greatest, last, moved_through, moved_to}
use Rattle.h2_windows.specs.SendWindow.{Sending, Shift, Spend, changed}
use Rattle.std.proofs.Common.{ap, arith, refl, subst, sym, ◌∙◌}
use Rattle.std.proofs.lemmas.Bool.{false≢true}
use Rattle.std.proofs.lemmas.Bool.Decides.{nat_tests}
use Rattle.std.proofs.lemmas.Int.{ints}
use Rattle.std.specs.FinMap.{empty, get, get-empty, insert, remove}
use Rattle.std.specs.Option.{option_and_then, option_map_or, unwrap_or}
use Rattle.std.specs.Ordering.{nat_cmp}
use Rattle.std.specs.Prelude.{Bool, IfSome, List, None, Option, Some, [], cond, false, if◌then◌else◌, int_le, is_some, max, nat_eq, nat_le, option_map, pos, true, ℕ, ℤ, ◌&&◌, ◌++◌, ◌+ℤ◌, ◌-ℤ◌, ◌-◌, ◌^◌, ◌∷◌, ◌≡◌, ◌≤ℤ◌, ◌≤◌}
use Rattle.wire_windows.proofs.Maps.{get_insert, get_remove, put_same}
use Rattle.wire_windows.specs.SendWindows.{AreGreatestAndLast, GoesThrough, IsSound, Overflows, SendStreams, SendWindows, changed_at, spends}
use Rattle.wire_windows.specs.Shifts.{Refuses, may_move, moved_by, try_move}

abbrev pub GoesBy : ℕ → Sending → Type 0
GoesBy initial s = s.initial ≡ initial

-- ---- of a stream that is there, and of one that isn't
module _ (streams : SendStreams) (x : ℕ) (change : Sending → Sending) where
  pub changed_there : (s : Sending) → get streams x ≡ Some s → changed_at x change streams ≡ insert streams x (change s)
  changed_there s there = ap (λ (o : Option Sending). option_map_or (λ s. insert streams x (change s)) o streams) there

  pub changed_absent : get streams x ≡ None → changed_at x change streams ≡ streams
  changed_absent none = ap (λ (o : Option Sending). option_map_or (λ s. insert streams x (change s)) o streams) none

-- ---- soundness
module _ (w : SendWindows) (sound : IsSound w) (conn : Sending) (x : ℕ) (streams : SendStreams) where
  -- a stream changes, or opens
  pub sound_put : (t : Sending) → GoesBy w.initial t → streams ≡ insert w.streams x t → IsSound (record w { conn = conn; streams = streams })
  sound_put t by put = record {
    most = sound.most;
    streams = λ y. subst (λ (o : Option Sending). IfSome o (GoesBy w.initial)) (sym (ap (λ (m : SendStreams). get m y) put ∙ get_insert w.streams x t y)) (at y (nat_eq x y));
  }
    where
      at : (y : ℕ) (b : Bool) → IfSome (cond b (Some t) (get w.streams y)) (GoesBy w.initial)
      at y true = by
      at y false = sound.streams y

  -- it goes
  pub sound_gone : streams ≡ remove w.streams x → IsSound (record w { conn = conn; streams = streams })
  sound_gone gone = record {
    most = sound.most;
    streams = λ y. subst (λ (o : Option Sending). IfSome o (GoesBy w.initial)) (sym (ap (λ (m : SendStreams). get m y) gone ∙ get_remove w.streams x y)) (at y (nat_eq x y));
  }
    where
      at : (y : ℕ) (b : Bool) → IfSome (cond b None (get w.streams y)) (GoesBy w.initial)
      at y true = tt
      at y false = sound.streams y

-- at first
pub sound_first : (conn : Sending) (payload : ℕ) (streams : SendStreams) → streams ≡ empty → IsSound (record { conn = conn; initial = 65535; payload = payload; streams = streams })
sound_first conn payload streams none = record {
  most = omega arith;
  streams = λ x. subst (λ (o : Option Sending). IfSome o (GoesBy 65535)) (sym (ap (λ (m : SendStreams). get m x) none ∙ get-empty nat_cmp x)) tt;
}

pub goes_by : (w : SendWindows) → IsSound w → (x : ℕ) (s : Sending) → get w.streams x ≡ Some s → s.initial ≡ w.initial
goes_by w sound x s there = subst (λ (o : Option Sending). IfSome o (GoesBy w.initial)) there (sound.streams x)

-- ---- no octets
unspent : (s : Sending) → changed (Spend 0) s ≡ s
unspent s = let same : s.room -ℤ pos 0 ≡ s.room = omega (arith, ints) in λ i. record s { room = same i }

pub spends_nothing : (w : SendWindows) (x n : ℕ) → n ≤ 0 → w ≡ spends x n w
spends_nothing w x n none = let is : 0 ≡ n = omega (arith, none) in subst (λ m. w ≡ spends x m w) is (sym (λ i. record w { conn = unspent w.conn i; streams = streams_stay (get w.streams x) refl i }))
  where
    streams_stay : (o : Option Sending) → get w.streams x ≡ o → changed_at x (changed (Spend 0)) w.streams ≡ w.streams
    streams_stay None absent = changed_absent w.streams x (changed (Spend 0)) absent
    streams_stay (Some s) there = changed_there w.streams x (changed (Spend 0)) s there ∙ (ap (insert w.streams x) (unspent s) ∙ put_same w.streams x s there)

-- ---- new initial windows
abbrev largest : ℕ
largest = 2 ^ 31 - 1

-- a window whose initial window is no larger than the largest moves as it is tried
pub tried : (new : ℕ) (s : Sending) → s.initial ≤ largest → new ≤ largest → try_move new s ≡ moved_to new s
tried new s old_fits new_fits =
    let old_is : nat_le s.initial largest ≡ true = grind (arith, nat_tests) in
    let new_is : nat_le new largest ≡ true = grind (arith, nat_tests) in
    ap (λ b. if b && nat_le new largest then moved_to new s else None) old_is ∙ ap (λ b. if b then moved_to new s else None) new_is

-- where it may move to a greater one, it may move to a lesser one, and through the greater to the lesser
through : (room : ℤ) (i g l : ℕ) → l ≤ g → int_le (room +ℤ (pos g -ℤ pos i)) (pos largest) ≡ true →
    int_le (room +ℤ (pos l -ℤ pos i)) (pos largest) ≡ true
through room i g l less fits = grind (arith, ints)

again : (room : ℤ) (i g l : ℕ) → (room +ℤ (pos g -ℤ pos i)) +ℤ (pos l -ℤ pos g) ≡ room +ℤ (pos l -ℤ pos i)
again room i g l = omega (arith, ints)

abbrev moved : ℕ → Sending → Sending
moved new s = changed (Shift s.initial new) s

module _ (most end : ℕ) (s : Sending) (order : end ≤ most) (old_fits : s.initial ≤ largest) (most_fits : most ≤ largest) where
  fits : may_move most s ≡ true → int_le (moved most s).room (pos largest) ≡ true
  fits may = at (int_le (moved most s).room (pos largest)) (sym (ap is_some (tried most s old_fits most_fits)) ∙ may)
    where
      at : (b : Bool) → is_some (if b then Some (moved most s) else None) ≡ true → b ≡ true
      at true e = refl
      at false e = absurd (false≢true e)

  pub moved_end : may_move most s ≡ true → moved_by end s ≡ moved end s
  moved_end may =
      let there : int_le (moved end s).room (pos largest) ≡ true = through s.room s.initial most end order (fits may) in
      ap (λ (o : Option Sending). unwrap_or o s) (tried end s old_fits (omega arith) ∙ ap (λ b. if b then Some (moved end s) else None) there)

  pub moved_both : may_move most s ≡ true → moved_through (most ∷ end ∷ []) s ≡ Some (moved_by end s)
  moved_both may =
      let there : int_le (moved end s).room (pos largest) ≡ true = through s.room s.initial most end order (fits may) in
      let same : (moved most s).room +ℤ (pos end -ℤ pos most) ≡ (moved end s).room = again s.room s.initial most end in
      ap (λ b. option_and_then (moved_through (end ∷ [])) (if b then Some (moved most s) else None)) (fits may)
      ∙ ap (λ room. option_and_then (moved_through []) (if int_le room (pos largest) then Some (let t : Sending = record { initial = end; room = room } in t) else None)) same
      ∙ ap (λ b. option_and_then (moved_through []) (if b then Some (moved end s) else None)) there
      ∙ ap Some (sym (moved_end may))

  pub moved_none : may_move most s ≡ false → moved_through (most ∷ end ∷ []) s ≡ None
  moved_none not =
      let refused : moved_to most s ≡ None = at (int_le (moved most s).room (pos largest)) (sym (ap is_some (tried most s old_fits most_fits)) ∙ not) in
      ap (option_and_then (moved_through (end ∷ []))) refused
    where
      at : (b : Bool) → is_some (if b then Some (moved most s) else None) ≡ false → (if b then Some (moved most s) else None) ≡ None
      at true e = absurd (false≢true (sym e))
      at false e = refl

-- ---- all of them
module _ (w : SendWindows) (sound : IsSound w) (most end : ℕ) (order : end ≤ most) (most_fits : most ≤ largest) where
  module _ (may : (x : ℕ) → IfSome (get w.streams x) (λ s. may_move most s ≡ true)) (streams : SendStreams) (are : (x : ℕ) → get streams x ≡ option_map (moved_by end) (get w.streams x)) where
    pub shifted_sound : IsSound (record w { initial = end; streams = streams })
    shifted_sound = record {
      most = omega arith;
      streams = λ x. subst (λ (o : Option Sending). IfSome o (GoesBy end)) (sym (are x)) (at x (get w.streams x) (sound.streams x) (may x));
    }
      where
        at : (x : ℕ) (o : Option Sending) → IfSome o (GoesBy w.initial) → IfSome o (λ s. may_move most s ≡ true) → IfSome (option_map (moved_by end) o) (GoesBy end)
        at x None by is = tt
        at x (Some s) by is = ap (λ (t : Sending). t.initial) (moved_end most end s order (omega (arith, by, sound.most)) most_fits is)

    pub goes_through : ((first : ℕ) (later : List ℕ) (s : Sending) → moved_through (first ∷ later) s ≡ moved_through (greatest first later ∷ last first later ∷ []) s)
        → (first : ℕ) (later : List ℕ) → AreGreatestAndLast most end first later → GoesThrough first later w (record w { initial = end; streams = streams })
    goes_through law first later of = record {
      streams = λ x. ap (option_map Some) (are x) ∙ at x (get w.streams x) (sound.streams x) (may x);
      initial = of.end_is;
      conn = refl;
      payload = refl;
    }
      where
        at : (x : ℕ) (o : Option Sending) → IfSome o (GoesBy w.initial) → IfSome o (λ s. may_move most s ≡ true) → option_map Some (option_map (moved_by end) o) ≡ option_map (moved_through (first ∷ later)) o
        at x None by is = refl
        at x (Some s) by is = ap Some (sym (law first later s
            ∙ ap (λ g. moved_through (g ∷ last first later ∷ []) s) (sym of.most_is) ∙ ap (λ l. moved_through (most ∷ l ∷ []) s) (sym of.end_is)
            ∙ moved_both most end s order (omega (arith, by, sound.most)) most_fits is))

  pub overflows : Refuses most w.streams → ((first : ℕ) (later : List ℕ) (s : Sending) → moved_through (first ∷ later) s ≡ moved_through (greatest first later ∷ last first later ∷ []) s)
      → (first : ℕ) (later : List ℕ) → AreGreatestAndLast most end first later → Overflows first later w
  overflows refuses law first later of = record {
    exchange = refuses.exchange;
    window = refuses.window;
    found = refuses.found;
    none = law first later refuses.window
        ∙ ap (λ g. moved_through (g ∷ last first later ∷ []) refuses.window) (sym of.most_is) ∙ ap (λ l. moved_through (most ∷ l ∷ []) refuses.window) (sym of.end_is)
        ∙ moved_none most end refuses.window order (omega (arith, goes_by w sound refuses.exchange refuses.window refuses.found, sound.most)) most_fits refuses.refused;
  }

-- ---- one more of them
greatest_more : (first : ℕ) (later : List ℕ) (v : ℕ) → greatest first (later ++ v ∷ []) ≡ max (greatest first later) v
greatest_more first [] v = refl
greatest_more first (next ∷ later) v = ap (max first) (greatest_more next later v) ∙ omega arith

last_more : (first : ℕ) (later : List ℕ) (v : ℕ) → last first (later ++ v ∷ []) ≡ v
last_more first [] v = refl
last_more first (next ∷ later) v = last_more next later v

pub one_more : (most end first : ℕ) (later : List ℕ) (v : ℕ) → AreGreatestAndLast most end first later → AreGreatestAndLast (max most v) v first (later ++ v ∷ [])
one_more most end first later v of = record {
  most_is = ap (λ m. max m v) of.most_is ∙ sym (greatest_more first later v);
  end_is = sym (last_more first later v);
}
