-- What the generator of a drill stands for: the events that are still to come.
use Rattle.flow_notes.specs.declared.events.Event.{Event}
use Rattle.replay_run.specs.DrillEvents.{amount, draw, ended, fed_in, let_out, number_after, opened}
use Rattle.replay_run.specs.declared.drill.Drill.{Drill}
use Rattle.replay_run.specs.declared.drill.Upcoming.{Upcoming}
use Rattle.std.specs.List.{range_with_len}
use Rattle.std.specs.Prelude.{List, None, Option, Some, [], flat_map, map, replicate, ℕ, ◌*◌, ◌++◌, ◌+◌, ◌-◌, ◌<◌, ◌∷◌, ◌≡◌, ◌≤◌}
use Rattle.replay_run.specs.declared.drill.Upcoming.TheVariants as next

-- from the i-th stream on, and from round r on
abbrev pub opens_from : ℕ → ℕ → List Event
opens_from n i = map opened (range_with_len i (n - i))

abbrev pub round_from : ℕ → ℕ → ℕ → List Event
round_from n r i = flat_map (fed_in n r) (range_with_len i (n - i))

abbrev pub rounds_from : ℕ → ℕ → List Event
rounds_from n r = flat_map (λ q. round_from n q 0) (range_with_len r (32 - r))

abbrev pub ends_from : ℕ → ℕ → List Event
ends_from n i = map ended (range_with_len i (n - i))

-- from the k-th of the last rooms on
abbrev pub drains_from : ℕ → ℕ → List Event
drains_from n k = replicate (3 * n - k) (let_out 1000000)

abbrev pub rest_of : ℕ → Upcoming → List Event
rest_of n (next.Open i) = opens_from n i ++ (rounds_from n 0 ++ (ends_from n 0 ++ drains_from n 0))
rest_of n (next.Body r i) = round_from n r i ++ (rounds_from n (r + 1) ++ (ends_from n 0 ++ drains_from n 0))
rest_of n (next.Room r i) =
    let_out (amount (draw n (2 * (r * n + i) + 1))) ∷ (round_from n r (i + 1) ++ (rounds_from n (r + 1) ++ (ends_from n 0 ++ drains_from n 0)))
rest_of n (next.End i) = ends_from n i ++ drains_from n 0
rest_of n (next.Drain k) = drains_from n k

-- the next event is one of those that there are, and the generator's number is that of the draws so far
abbrev pub IsPlaced : ℕ → ℕ → Upcoming → Type 0
IsPlaced n x (next.Open i) = (i < n) × (x ≡ n)
IsPlaced n x (next.Body r i) = (i < n) × (r < 32) × (x ≡ number_after n (2 * (r * n + i)))
IsPlaced n x (next.Room r i) = (i < n) × (r < 32) × (x ≡ number_after n (2 * (r * n + i) + 1))
IsPlaced n x (next.End i) = i < n
IsPlaced n x (next.Drain k) = k ≤ 3 * n

-- what comes next, and how these events begin
pub record GoesTo (n x : ℕ) (es : List Event) (next : Upcoming) : Type 0 where
  pub rest : es ≡ rest_of n next
  pub placed : IsPlaced n x next

-- these events are still to come
pub record DrillIs (d : Drill) (es : List Event) : Type 0 where
  pub some : 0 < d.streams
  pub few : d.streams ≤ 1000
  pub placed : IsPlaced d.streams d.x d.next
  pub is : es ≡ rest_of d.streams d.next

-- the next event was given, or there was none
abbrev pub YieldsAt : Drill → Option Event → List Event → Type 0
YieldsAt new (Some e) es = (later : List Event) × (es ≡ e ∷ later) × DrillIs new later
YieldsAt new None es = (es ≡ []) × DrillIs new es

pub record Yields (old : Drill) (given : Option Event) (new : Drill) : Type 0 where
  pub goes : (es : List Event) → DrillIs old es → YieldsAt new given es
