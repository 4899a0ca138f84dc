use Rattle.std.proofs.Common.{◌≡◌, [], sym, ◌∙◌}
use Rattle.std.specs.Prelude.{None, Option, Some, MatchOption, IsSomeAnd, ⊤, true, is_some, ℕ, ◌<◌, ◌≤◌}
use Rattle.paged_map.specs.PagedMap.{value_at}
use Rattle.wire_timers.proofs.Placing.{none-at}
use Rattle.wire_timers.proofs.tokens.first.Goals as goal

pub returns-clause-none : goal.returns-clause-none
returns-clause-none c = at c.next_above.result c.next_above.ensures.least
  where
    at : (r : Option ℕ) → ((n : ℕ) → 0 < n → is_some (value_at n c.args.map.now) ≡ true → IsSomeAnd r (λ k. k ≤ n)) → MatchOption r (c.args.map.now.entries ≡ []) (λ _. ⊤)
    at (Some k) least = tt
    at None least = none-at c.args.map.now.entries (sym c.contains_key.ensures ∙ c.if-contains_key.false) least
