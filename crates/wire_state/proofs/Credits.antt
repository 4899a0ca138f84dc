-- What the credit of a connection comes to, where its windows change.
use Rattle.std.proofs.Common.{ap, arith, refl}
use Rattle.std.specs.FinMap.{get, insert, values}
use Rattle.std.specs.List.{sum_by}
use Rattle.std.specs.Option.{option_map_or}
use Rattle.std.specs.Prelude.{Err, None, Ok, OnErr, OnOk, Option, Result, Some, false, is_some, ℕ, ◌+◌, ◌-◌, ◌≡◌, ◌≤◌}
use Rattle.wire_state.specs.Progress.{credit_go, used}
use Rattle.wire_windows.proofs.Sums.{sum_at_least, sum_insert, sum_remove}
use Rattle.wire_windows.specs.RecvWindows.{IsSound, RecvStreams, RecvWindows, begins, begun, changed_at, comes_late, counted, drops, ends, grants, grants_conn, grants_first, held_at, is_begun, moves, on_window, over, owed_at, owing, received, regranted, wastes}
use Rattle.wire_windows.specs.declared.recv_stream.Came.{Came}
use Rattle.wire_windows.specs.declared.recv_stream.Came.TheVariants as came
use Rattle.wire_windows.specs.declared.recv_stream.RecvStream.{RecvStream}

-- what a stream weighs, if it is there
abbrev at_most : (RecvStream → ℕ) → Option RecvStream → ℕ
at_most f o = option_map_or f o 0

-- a stream changes, where it is there
changed_go : (change : RecvStream → RecvStream) (x : ℕ) (m : RecvStreams)
    → sum_by used (values (changed_at x change m)) + at_most used (get m x) ≡ sum_by used (values m) + at_most (λ s. used (change s)) (get m x)
changed_go change x m = at (get m x) refl
  where
    at : (o : Option RecvStream) → get m x ≡ o
        → sum_by used (values (option_map_or (λ s. insert m x (change s)) o m)) + at_most used o ≡ sum_by used (values m) + at_most (λ s. used (change s)) o
    at None e = refl
    at (Some s) e =
        let here : at_most used (get m x) ≡ used s = ap (at_most used) e in
        omega (arith, here, sum_insert used m x (change s))

-- the connection holds what a stream of it does
pub held_within : (x : ℕ) (w : RecvWindows) → IsSound w → held_at x w ≤ w.conn.held
held_within x w sound = omega (arith, sound.held, sum_at_least (λ s. s.window.held) w.streams x)

pub stray_within : (w : RecvWindows) → IsSound w → w.stray ≤ w.conn.held
stray_within w sound = omega (arith, sound.held)

owing_go : (n : ℕ) (o : Option RecvStream) → n ≤ at_most (λ s. s.window.held) o → at_most (λ s. used (on_window (owing n) s)) o ≡ at_most used o
owing_go n None h = refl
owing_go n (Some s) h = sums s.window.held s.window.owed n h
  where
    sums : (a b k : ℕ) → k ≤ a → (a - k) + (b + k) ≡ a + b
    sums a b k l = omega arith

pub credit_moves : (x n : ℕ) (w : RecvWindows) → IsSound w → n ≤ held_at x w → credit_go (moves x n w) ≡ credit_go w
unfolding credit_go
credit_moves x n w sound h =
    omega (arith, changed_go (on_window (owing n)) x w.streams, owing_go n (get w.streams x) h, held_within x w sound)

pub credit_wastes : (n : ℕ) (w : RecvWindows) → IsSound w → n ≤ w.stray → credit_go (wastes n w) ≡ credit_go w
unfolding credit_go
credit_wastes n w sound h = omega (arith, stray_within w sound)

pub credit_drops : (x n : ℕ) (w : RecvWindows) → IsSound w → n ≤ held_at x w → credit_go (drops x n w) ≤ credit_go w
unfolding credit_go
credit_drops x n w sound h = omega (arith, sum_remove used w.streams x, held_within x w sound)

begun_sum : (x : ℕ) (w : RecvWindows) (o : Option RecvStream) → get w.streams x ≡ o → is_some o ≡ false
    → sum_by used (values (insert w.streams x (begun w.stream_window))) ≡ sum_by used (values w.streams)
begun_sum x w None e none =
    let here : at_most used (get w.streams x) ≡ 0 = ap (at_most used) e in
    omega (arith, here, sum_insert used w.streams x (begun w.stream_window))
begun_sum x w (Some s) e none = absurd (cc none)

pub credit_begins : (x : ℕ) (w : RecvWindows) → is_begun x w ≡ false → credit_go (begins x w) ≡ credit_go w
unfolding credit_go
credit_begins x w none = omega (arith, begun_sum x w (get w.streams x) refl none)

pub credit_ends : (x : ℕ) (w : RecvWindows) → credit_go (ends x w) ≡ credit_go w
unfolding credit_go
credit_ends x w = omega (arith, changed_go over x w.streams, same (get w.streams x))
  where
    same : (o : Option RecvStream) → at_most (λ s. used (over s)) o ≡ at_most used o
    same None = refl
    same (Some s) = refl

pub credit_counted : (answer : Came) (x n : ℕ) (w : RecvWindows) → credit_go (counted answer x n w) ≤ credit_go w + (n + n)
unfolding credit_go
credit_counted came.Fits x n w = omega (arith, changed_go (on_window (received n)) x w.streams, more (get w.streams x))
  where
    more : (o : Option RecvStream) → at_most (λ s. used (on_window (received n) s)) o ≤ at_most used o + n
    more None = omega arith
    more (Some s) = omega arith
credit_counted came.StreamOver x n w = omega arith
credit_counted came.ConnOver x n w = omega arith

pub credit_late : (n : ℕ) (w : RecvWindows) → credit_go (comes_late n w) ≤ credit_go w + n
unfolding credit_go
credit_late n w = omega arith

pub credit_first : (w : RecvWindows) → credit_go (grants_first w) + w.first ≡ credit_go w
unfolding credit_go
credit_first w = omega arith

pub credit_conn : (w : RecvWindows) → credit_go (grants_conn w) + w.conn.owed ≡ credit_go w
unfolding credit_go
credit_conn w = omega arith

pub credit_grants : (x : ℕ) (w : RecvWindows) → credit_go (grants x w) + owed_at x w ≡ credit_go w
unfolding credit_go
credit_grants x w = omega (arith, changed_go (on_window regranted) x w.streams, less (get w.streams x))
  where
    less : (o : Option RecvStream) → at_most (λ s. used (on_window regranted s)) o + at_most (λ s. s.window.owed) o ≡ at_most used o
    less None = refl
    less (Some s) = omega arith

-- ---- with out of memory
pub late_go : {E : Type 0} (r : Result (Unit {0}) E) (n : ℕ) (old new : RecvWindows) → OnOk r (new ≡ comes_late n old) → OnErr r (new ≡ old) → credit_go new ≤ credit_go old + n
late_go (Ok u) n old new ok err = let e : credit_go new ≡ credit_go (comes_late n old) = ap credit_go ok in omega (arith, e, credit_late n old)
late_go (Err x) n old new ok err = let e : credit_go new ≡ credit_go old = ap credit_go err in omega (arith, e)

pub begun_go : {E : Type 0} (r : Result (Unit {0}) E) (x : ℕ) (old new : RecvWindows) → is_begun x old ≡ false → OnOk r (new ≡ begins x old) → OnErr r (new ≡ old) → credit_go new ≤ credit_go old
begun_go (Ok u) x old new none ok err = let e : credit_go new ≡ credit_go (begins x old) = ap credit_go ok in omega (arith, e, credit_begins x old none)
begun_go (Err f) x old new none ok err = let e : credit_go new ≡ credit_go old = ap credit_go err in omega (arith, e)
