-- What is seen of exchanges that are kept is sound.
use Rattle.exchange_core.proofs.Finding.{some_mapped}
use Rattle.exchange_core.proofs.Aging.{exchange_later}
use Rattle.exchange_core.proofs.Maps.{seen_of, stored_at}
use Rattle.exchange_core.proofs.Metered.{exchange_metered}
use Rattle.exchange_core.specs.Exchange.{IsSoundExchange, is_metered, seen_at}
use Rattle.exchange_core.specs.Exchanges.{IsNextMetered, IsSound, exchange_at, is_metered_at}
use Rattle.number_set.specs.NumberSet.{has}
use Rattle.exchange_core.specs.View.{IsKept, exchanges_of, seen_all, stored}
use Rattle.exchange_core.specs.declared.exchange.Exchange.{Exchange}
use Rattle.exchange_core.specs.declared.exchanges.Exchanges.TheInside.{Inside}
use Rattle.std.proofs.Common.{ap, refl, subst, sym, ◌∙◌}
use Rattle.std.specs.List.{AllByRecursion}
use Rattle.std.specs.List.Sorted.{IsStrictlySortedBy}
use Rattle.std.specs.Map.{keys_of, lookup}
use Rattle.std.specs.Option.{option_map_or}
use Rattle.std.specs.Ordering.{nat_cmp}
use Rattle.std.specs.Prelude.{IfSome, IsSomeAnd, List, None, Option, Some, [], false, nat_eq, option_map, true, ℕ, ◌<◌, ◌∷◌, ◌≡◌, ◌≤◌}

keys_seen : (now : ℕ) (live : List (ℕ × Exchange)) → keys_of (seen_all now live) ≡ keys_of live
keys_seen now [] = refl
keys_seen now (e ∷ live) = cc (keys_seen now live)

module _ (c : Inside) (kept : IsKept c) where
  seen_from : (x : ℕ) → exchange_at (exchanges_of c) x ≡ option_map (seen_at c.ticked) (exchange_at (stored c) x)
  seen_from x = cc (seen_of c x, stored_at c x)

  each_seen : (x : ℕ) (o : Option Exchange) → IfSome o (IsSoundExchange x c.time) → IfSome (option_map (seen_at c.ticked) o) (IsSoundExchange x c.time)
  each_seen x None is = is
  each_seen x (Some exchange) is = exchange_later x c.ticked c.time exchange kept.told is

  dead_seen : (doomed : List ℕ) → AllByRecursion (λ x. (x ≤ c.last) × (exchange_at (stored c) x ≡ None)) doomed → AllByRecursion (λ x. (x ≤ c.last) × (exchange_at (exchanges_of c) x ≡ None)) doomed
  dead_seen [] all = tt
  dead_seen (x ∷ xs) all = ((all.0.0, seen_from x ∙ ap (option_map (seen_at c.ticked)) all.0.1), dead_seen xs all.1)

  pub seen_sound : IsSound (exchanges_of c)
  seen_sound = record {
    order = subst (IsStrictlySortedBy nat_cmp) (sym (keys_seen c.ticked c.live.entries)) kept.sound.order;
    below = λ x some. kept.sound.below x (cc (some_mapped (seen_at c.ticked) (exchange_at (stored c) x), seen_from x));
    each = λ x. rw (seen_from x) (each_seen x (exchange_at (stored c) x) (kept.sound.each x));
    dead = dead_seen c.doomed.items kept.sound.dead;
    once = kept.sound.once;
  }

-- ---- whose Meters hold octets
metered_seen : (c : Inside) (x : ℕ) → is_metered_at (exchanges_of c) x ≡ is_metered_at (stored c) x
metered_seen c x = cc (seen_of c x, by_found (lookup (nat_eq x) c.live.entries), stored_at c x)
  where
    by_found : (o : Option Exchange) → option_map_or is_metered (option_map (seen_at c.ticked) o) false ≡ option_map_or is_metered o false
    by_found None = refl
    by_found (Some exchange) = exchange_metered c.ticked exchange

pub next_metered : (c : Inside) (after : ℕ) (next : Option ℕ) → IsKept c → IfSome next (λ x. (after < x) × (has c.metered.items x ≡ true)) →
    ((y : ℕ) → after < y → has c.metered.items y ≡ true → IsSomeAnd next (λ x. x ≤ y)) → IsNextMetered after next (exchanges_of c)
next_metered c after next kept found least = record {
  found = by_next next found;
  least = λ y above is. least y above (kept.metered y ∙ sym (metered_seen c y) ∙ is);
}
  where
    by_next : (o : Option ℕ) → IfSome o (λ x. (after < x) × (has c.metered.items x ≡ true)) → IfSome o (λ x. (after < x) × (is_metered_at (exchanges_of c) x ≡ true))
    by_next None is = is
    by_next (Some x) is = (is.0, metered_seen c x ∙ sym (kept.metered x) ∙ is.1)
