-- How many timers are armed, and what the latest moment is.
use Rattle.flow_rules.specs.declared.causes.FireKind.{FireKind}
use Rattle.flow_rules.specs.declared.causes.FireKind.TheVariants.{Route, StreamIdle}
use Rattle.scaled_timer.proofs.Sorting.{length-in_order}
use Rattle.scaled_timer.specs.Order.{in_order}
use Rattle.std.proofs.Common.{arith, refl}
use Rattle.std.proofs.lemmas.List.{length-append, length-map}
use Rattle.std.proofs.lemmas.List.Filters.{length-filter_both}
use Rattle.std.specs.Prelude.{Bool, List, [], cond, false, filter, length, not, true, ℕ, ◌++◌, ◌+◌, ◌==◌, ◌∷◌, ◌≤◌}
use Rattle.wire_timers.specs.Armed.{Timeouts, armed_anew, disarmed, gone, is_of, without}
use Rattle.wire_timers.specs.Due.{due_list, due_moment, due_of, due_taken, is_due}
use Rattle.wire_timers.specs.Kinds.{longest_at, number_of}

fewer : {X : Type 0} (p : X → Bool) (xs : List X) → length (filter p xs) ≤ length xs
fewer p xs = omega (arith, length-filter_both p (λ x. not (p x)) (λ x. refl) xs)

pub armed_more : (kind : FireKind) (id now : ℕ) (t : Timeouts) → length (armed_anew kind id now t).armed ≤ length t.armed + 1
armed_more kind id now t = at (longest_at t.kinds (number_of kind) == 0)
  where
    at : (b : Bool) → length (cond b t (record t { latest = now; armed = without kind id t.armed ++ record { kind = kind; id = id; at = now } ∷ [] })).armed ≤ length t.armed + 1
    at true = omega arith
    at false = omega (arith, fewer (λ a. not (is_of kind id a)) t.armed, length-append (without kind id t.armed) (record { kind = kind; id = id; at = now } ∷ []))

pub armed_until : (kind : FireKind) (id now : ℕ) (t : Timeouts) → t.latest ≤ now → (armed_anew kind id now t).latest ≤ now
armed_until kind id now t before = at (longest_at t.kinds (number_of kind) == 0)
  where
    at : (b : Bool) → (cond b t (record t { latest = now; armed = without kind id t.armed ++ record { kind = kind; id = id; at = now } ∷ [] })).latest ≤ now
    at true = before
    at false = omega arith

pub disarmed_fewer : (kind : FireKind) (id : ℕ) (t : Timeouts) → length (disarmed kind id t).armed ≤ length t.armed
disarmed_fewer kind id t = fewer (λ a. not (is_of kind id a)) t.armed

pub gone_fewer : (x : ℕ) (t : Timeouts) → length (gone x t).armed ≤ length t.armed
gone_fewer x t = omega (arith, fewer (λ a. not (is_of StreamIdle x a)) (without Route x t.armed), fewer (λ a. not (is_of Route x a)) t.armed)

-- a timer that is due isn't armed any more
pub due_fewer : (now : ℕ) (t : Timeouts) → length (due_list now t) + length (due_taken now t).armed ≤ length t.armed
due_fewer now t =
    omega (arith, length-map (in_order (due_moment t.kinds t.state) (filter (is_due t now) t.armed)) due_of, length-in_order (due_moment t.kinds t.state) (filter (is_due t now) t.armed), length-filter_both (is_due t now) (λ a. not (is_due t now a)) (λ a. refl) t.armed)
