-- What arming does, as the calls of the code say it: the kind as a number, and a map that has made room.
use Rattle.std.proofs.Common.{◌≡◌, ℕ, true, false, cond, List, [], ◌∷◌, ◌++◌, sym, ap, ◌∙◌, subst}
use Rattle.std.specs.Prelude.{◌==◌, Option, None, Some}
use denote.RawPtr.{Ptr}
use Rattle.flow_rules.specs.declared.causes.FireKind.{FireKind}
use Rattle.scaled_timer.specs.declared.timers.TimerKind.{TimerKind}
use Rattle.scaled_timer.specs.Timing.{Timing, has_timer, without_timer}
use Rattle.wire_timers.specs.Kinds.{number_of, longest_at}
use Rattle.wire_timers.specs.Armed.{armed_anew}
use Rattle.wire_timers.specs.Held.{Key, seen, same_key, Held}
use Rattle.wire_timers.proofs.Holding.{PutsIn}
use Rattle.wire_timers.proofs.Changing.{seen-renewed, held-renewed, renewed-none, renewed-there, renewed-some}

module _ (own : List TimerKind) (find mid : Key → Option Ptr) (same : (q : Key) → mid q ≡ find q) (t t1 : Timing) (H : Held own find t) (kind : FireKind) (n : ℕ) (num : n ≡ number_of kind) (id now : ℕ) (p : Ptr)
    (on : (longest_at own n == 0) ≡ false) (fresh : has_timer p t.armed ≡ false) (is : t1 ≡ record t { latest = now; armed = t.armed ++ record { timer = p; kind = n; id = id; at = now } ∷ [] }) where
  on-is : (longest_at own (number_of kind) == 0) ≡ false
  on-is = subst (λ m. (longest_at own m == 0) ≡ false) num on

  armed-is : t1 ≡ record t { latest = now; armed = t.armed ++ record { timer = p; kind = number_of kind; id = id; at = now } ∷ [] }
  armed-is = subst (λ m. t1 ≡ record t { latest = now; armed = t.armed ++ record { timer = p; kind = m; id = id; at = now } ∷ [] }) num is

  found-is : (o : Option Ptr) → o ≡ mid (n, id) → find (number_of kind, id) ≡ o
  found-is o e = sym (ap (λ m. find (m, id)) num) ∙ sym (same (n, id)) ∙ sym e

  put-is : (new : Key → Option Ptr) → PutsIn (n, id) p mid new → PutsIn (number_of kind, id) p find new
  put-is new put = subst (λ m. PutsIn (m, id) p find new) num (λ q. put q ∙ ap (cond (same_key (n, id) q) (Some p)) (same q))

  -- where none was armed
  module _ (e : None ≡ mid (n, id)) where
    pub sees-first : seen t1 ≡ armed_anew kind id now (seen t)
    sees-first = seen-renewed own find t H kind id now p on-is fresh t1 (renewed-none own find t H kind id now p on-is fresh t1 armed-is (found-is None e))

    pub holds-first : (new : Key → Option Ptr) → PutsIn (n, id) p mid new → Held own new t1
    holds-first new put = held-renewed own find t H kind id now p on-is fresh t1 new (renewed-none own find t H kind id now p on-is fresh t1 armed-is (found-is None e)) (put-is new put)

  -- where one was, whose token is given back
  module _ (b : Ptr) (e : Some b ≡ mid (n, id)) where
    pub still-there : has_timer b t1.armed ≡ true
    still-there = renewed-there own find t H kind id now p on-is fresh t1 armed-is b (found-is (Some b) e)

    module _ (after : Timing) (back : after ≡ record t1 { armed = without_timer b t1.armed }) where
      pub sees-again : seen after ≡ armed_anew kind id now (seen t)
      sees-again = seen-renewed own find t H kind id now p on-is fresh after (renewed-some own find t H kind id now p on-is fresh t1 armed-is b after (found-is (Some b) e) back)

      pub holds-again : (new : Key → Option Ptr) → PutsIn (n, id) p mid new → Held own new after
      holds-again new put = held-renewed own find t H kind id now p on-is fresh after new (renewed-some own find t H kind id now p on-is fresh t1 armed-is b after (found-is (Some b) e) back) (put-is new put)
