-- What receive buffers hold together.
use Rattle.std.proofs.Common.{ap, arith, refl, sym, ◌∙◌}
use Rattle.std.proofs.lemmas.List.Sums.{sum_by-cons}
use Rattle.std.specs.FinMap.{get, remove}
use Rattle.std.specs.List.{AllByRecursion, IsDistinct}
use Rattle.std.specs.Option.{option_map_or}
use Rattle.std.specs.Prelude.{Bool, IfSome, List, None, Option, Some, [], cond, false, nat_eq, sum_by, true, ℕ, ◌+◌, ◌∷◌, ◌≡◌, ◌≤◌}
use Rattle.wire_windows.proofs.Maps.{get_remove}
use Rattle.wire_windows.proofs.Sums.{sum_remove}
use Rattle.wire_windows.specs.RecvWindows.{IsSound, RecvStreams, RecvWindows, held_at, held_by_all}
use Rattle.wire_windows.specs.declared.recv_stream.RecvStream.{RecvStream}

abbrev held : RecvStream → ℕ
held s = s.window.held

abbrev held_in : ℕ → RecvStreams → ℕ
held_in x streams = option_map_or held (get streams x) 0

-- without a stream the others hold what they held
others_hold : (streams : RecvStreams) (x : ℕ) (ys : List ℕ) → AllByRecursion (λ y. nat_eq x y ≡ false) ys → sum_by (λ y. held_in y (remove streams x)) ys ≡ sum_by (λ y. held_in y streams) ys
others_hold streams x [] apart = refl
others_hold streams x (y ∷ ys) apart =
    let same : held_in y (remove streams x) ≡ held_in y streams = ap (λ (o : Option RecvStream). option_map_or held o 0) (get_remove streams x y ∙ ap (λ b. cond b None (get streams y)) apart.0) in
    let rest : sum_by (λ y. held_in y (remove streams x)) ys ≡ sum_by (λ y. held_in y streams) ys = others_hold streams x ys apart.1 in
    sum_by-cons (λ y. held_in y (remove streams x)) y ys ∙ (λ i. same i + rest i) ∙ sym (sum_by-cons (λ y. held_in y streams) y ys)

-- some streams hold no more than all
some_hold : (streams : RecvStreams) (xs : List ℕ) → IsDistinct nat_eq xs → sum_by (λ x. held_in x streams) xs ≤ held_by_all streams
unfolding IsDistinct
some_hold streams [] distinct = omega arith
some_hold streams (x ∷ xs) distinct = omega (arith, sum_by-cons (λ x. held_in x streams) x xs, some_hold (remove streams x) xs distinct.1, others_hold streams x xs distinct.0, sum_remove held streams x)

less_each : (buffered holds : ℕ → ℕ) → ((x : ℕ) → buffered x ≤ holds x) → (xs : List ℕ) → sum_by buffered xs ≤ sum_by holds xs
less_each buffered holds less [] = omega arith
less_each buffered holds less (x ∷ xs) = omega (arith, sum_by-cons buffered x xs, sum_by-cons holds x xs, less x, less_each buffered holds less xs)

pub held_together : (w : RecvWindows) (buffered : ℕ → ℕ) (xs : List ℕ) → IsSound w → ((x : ℕ) → buffered x ≤ held_at x w) → IsDistinct nat_eq xs → sum_by buffered xs ≤ w.conn.window
held_together w buffered xs sound within distinct =
    omega (arith, less_each buffered (λ x. held_at x w) within xs, some_hold w.streams xs distinct, sound.held, sound.conn)

pub held_each : (w : RecvWindows) (x : ℕ) → IsSound w → held_at x w ≤ w.stream_window
held_each w x sound = at (get w.streams x) (sound.streams x)
  where
    at : (o : Option RecvStream) → IfSome o (λ s. ((s.window.left + s.window.held + s.window.owed) ≡ s.window.window) × (s.window.window ≡ w.stream_window)) → option_map_or held o 0 ≤ w.stream_window
    at None h = omega arith
    at (Some s) h = omega (arith, h.0, h.1)
