-- The gate of one buffer, with the place of each watcher in the line.
use Rattle.flow_gate.specs.Board.{times}
use Rattle.flow_gate.specs.Ids.{same_flow}
use Rattle.flow_rules.specs.declared.ids.FlowId.{FlowId}
use Rattle.flow_gate.specs.declared.stands.Stand.{Stand}
use Rattle.std.specs.BTreeMap.Range.{entries_between, range_contains}
use Rattle.std.specs.List.{AllByRecursion, filter_map}
use Rattle.std.specs.List.Sorted.{IsStrictlySortedBy}
use Rattle.std.specs.Map.{lookup, values_of}
use Rattle.std.specs.Ordering.{nat_cmp}
use Rattle.std.specs.Prelude.{Bool, List, Option, [], drop, false, filter, if◌then◌else◌, is_some, length, map, nat_eq, not, option_map, take, ℕ, ◌+◌, ◌++◌, ◌<◌, ◌∷◌, ◌≡◌, ◌≤◌}
use Rattle.std.specs.declared.ops.Bound.TheVariants.{Excluded, Included}

-- the flows of a line, each at its place, in order
abbrev pub Places : Type 0
Places = List (ℕ × FlowId)

-- whether the buffer is above, who watches it, and which of them are still to be told that it drained
pub record Line : Type 0 where
  pub above : Bool
  pub watchers : Places
  pub pending : Places

-- the flow at a place
abbrev pub at_place : ℕ → Places → Option FlowId
at_place place = lookup (nat_eq place)

-- those at the places from one to before another
abbrev pub between : ℕ → ℕ → Places → Places
between from to = entries_between nat_cmp (Included from) (Excluded to)

-- a place from one to before another
abbrev pub is_between : ℕ → ℕ → ℕ → Bool
is_between from to = range_contains nat_cmp (Included from) (Excluded to)

-- ---- the stands of a line, of which some flows left
abbrev pub places_of : List Stand → List ℕ
places_of = map (λ s. s.place)

-- a flow stands there
abbrev pub is_taken : Stand → Bool
is_taken s = is_some s.flow

-- the flows that stand in a line, each at its place
abbrev pub live : List Stand → Places
live = filter_map (λ s. option_map (λ f. (s.place, f)) s.flow)

-- the first n stands lie before a place, and the others don't
pub record IsBefore (place n : ℕ) (stands : List Stand) : Type 0 where
  pub within : n ≤ length stands
  pub before : AllByRecursion (λ s. s.place < place) (take n stands)
  pub after : AllByRecursion (λ s. place ≤ s.place) (drop n stands)

-- the flows of these stands side by side, if they are as many as the stands
abbrev pub IsRow : List FlowId → List Stand → Type 0
IsRow row stands = length row ≡ length stands → row ≡ values_of (live stands)

-- the places rise and are below the next, the lows that are pending lie before it, the flows are counted, and the row has them
pub record IsInOrder (next told drained standing : ℕ) (row : List FlowId) (stands : List Stand) : Type 0 where
  pub rising : IsStrictlySortedBy nat_cmp (places_of stands)
  pub below : AllByRecursion (λ p. p < next) (places_of stands)
  pub forward : told ≤ drained
  pub within : drained ≤ next
  pub counted : standing ≡ length (live stands)
  pub few : standing ≤ next
  pub whole : IsRow row stands

-- the line of a buffer that isn't above, where one flow stands alone
abbrev pub alone : ℕ → FlowId → Line
alone place flow = record { above = false; watchers = (place, flow) ∷ []; pending = [] }

-- the line with a flow behind all others
abbrev pub longer : ℕ → FlowId → Line → Line
longer place flow line = record { above = line.above; watchers = line.watchers ++ (place, flow) ∷ []; pending = line.pending }

-- the line without a flow
abbrev pub left : FlowId → Line → Line
left flow line = record {
  above = line.above;
  watchers = filter (λ e. not (same_flow flow e.1)) line.watchers;
  pending = filter (λ e. not (same_flow flow e.1)) line.pending;
}

-- the line after the first n flows that are to be told were told
abbrev pub told : ℕ → Line → Line
told n line = record { above = line.above; watchers = line.watchers; pending = drop n line.pending }

-- how often a buffer holds a flow back: while it is above, and while the flow is to be told
abbrev pub held_in : FlowId → Line → ℕ
held_in flow line = (if line.above then 1 else 0) + times flow (values_of line.pending)
