-- What each call does to what is seen, and to the tokens.
use Rattle.std.proofs.Common.{◌≡◌, ℕ, ◌<◌, Bool, true, false, cond, ◌||◌, List, [], ◌∷◌, ◌++◌, map, refl, sym, ap, ◌∙◌, subst, arith}
use Rattle.std.specs.Prelude.{◌==◌, Option, None, Some}
use Rattle.std.specs.List.{IsDistinct}
use denote.RawPtr.{Ptr}
use Rattle.link_lists.specs.Lists.{contains_id}
use Rattle.flow_rules.specs.declared.causes.FireKind.{FireKind}
use Rattle.flow_rules.specs.declared.causes.FireKind.TheVariants.{Route, StreamIdle, ConnectionIdle}
use Rattle.scaled_timer.specs.declared.fired.Fired.{Fired}
use Rattle.scaled_timer.specs.declared.timers.TimerKind.{TimerKind}
use Rattle.scaled_timer.specs.Due as scaled
use Rattle.scaled_timer.specs.Due.{Armed as Token, due_timers, waiting_timers}
use Rattle.scaled_timer.specs.Timing.{Timing, firing, names_of, has_timer, without_timer, IsHeld}
use Rattle.wire_timers.specs.Kinds.{number_of, longest_at}
use Rattle.wire_timers.specs.Armed.{armed_anew, disarmed, without}
use Rattle.wire_timers.specs.Due.{due_list, due_taken}
use Rattle.wire_timers.specs.Told.{told_of}
use Rattle.wire_timers.specs.Held.{Key, armed_of, seen, Found, Held, Spent}
use Rattle.wire_timers.proofs.Finding.{others}
use Rattle.wire_timers.proofs.Naming.{has-front, without-front}
use Rattle.wire_timers.proofs.Holding.{TakesOut, PutsIn, taken-out, not-there, held-there, without-it, armed-again, found-parted}
use Rattle.wire_timers.proofs.Seeing.{kind-number, seen-others, seen-waiting, seen-due}

or_true : (a : Bool) → (a || true) ≡ true
or_true true = refl
or_true false = refl

pub number-small : (k : FireKind) → number_of k < 3
number-small Route = omega arith
number-small StreamIdle = omega arith
number-small ConnectionIdle = omega arith

pub held_by : (p : Ptr) (t : Timing) → has_timer p t.armed ≡ true → IsHeld p t
held_by p t h = ap (λ b. b || contains_id p t.fired) h

pub spent_by : (p : Ptr) (t : Timing) → contains_id p t.fired ≡ true → IsHeld p t
spent_by p t h = ap (λ b. has_timer p t.armed || b) h ∙ or_true (has_timer p t.armed)

map-last : (xs : List Token) (a : Token) → map armed_of (xs ++ a ∷ []) ≡ map armed_of xs ++ armed_of a ∷ []
map-last [] a = refl
map-last (x ∷ xs) a = ap (λ l. armed_of x ∷ l) (map-last xs a)

-- the map is another, with the same tokens
pub held-same : (kinds : List TimerKind) (find new : Key → Option Ptr) (t after : Timing) → Held kinds find t → ((q : Key) → new q ≡ find q) → after ≡ t → Held kinds new after
held-same kinds find new t after H same is = subst (Held kinds new) (sym is) (record {
  kinds = H.kinds;
  none_fired = H.none_fired;
  found = record { same = λ q. same q ∙ H.found.same q; known = H.found.known; apart = H.found.apart; named = H.found.named };
})

-- none is armed yet
pub held-empty : (kinds : List TimerKind) (find : Key → Option Ptr) (t : Timing) → t ≡ record { kinds = kinds; state = 0; latest = 0; armed = []; fired = [] } → ((q : Key) → find q ≡ None) → Held kinds find t
unfolding IsDistinct
held-empty kinds find t is none = subst (Held kinds find) (sym is) (record {
  kinds = refl;
  none_fired = refl;
  found = record { same = none; known = tt; apart = tt; named = tt };
})

module _ (kinds : List TimerKind) (find : Key → Option Ptr) (t : Timing) (H : Held kinds find t) (kind : FireKind) (id : ℕ) where
  abbrev key : Key
  key = (number_of kind, id)

  -- ---- disarmed
  -- the timers after the token is given back
  pub seen-disarmed : (p : Ptr) (after : Timing) → find key ≡ Some p → after ≡ record t { armed = without_timer p t.armed } → seen after ≡ disarmed kind id (seen t)
  seen-disarmed p after e is =
      ap seen is ∙ ap (λ l. seen (record t { armed = l })) (without-it key p find t.armed H.found e) ∙ ap (λ l. record (seen t) { armed = l }) (seen-others kind id t.armed H.found.known)

  pub held-disarmed : (p : Ptr) (after : Timing) (new : Key → Option Ptr) → find key ≡ Some p → after ≡ record t { armed = without_timer p t.armed } → TakesOut key find new → Held kinds new after
  held-disarmed p after new e is out = subst (Held kinds new) (sym is) (record {
    kinds = H.kinds;
    none_fired = H.none_fired;
    found = subst (Found new) (sym (without-it key p find t.armed H.found e)) (taken-out key find new t.armed H.found out);
  })

  -- where none is armed
  pub seen-none : find key ≡ None → seen t ≡ disarmed kind id (seen t)
  seen-none e = ap (λ l. seen (record t { armed = l })) (sym (not-there key find t.armed H.found e)) ∙ ap (λ l. record (seen t) { armed = l }) (seen-others kind id t.armed H.found.known)

  pub held-none : (new : Key → Option Ptr) → find key ≡ None → TakesOut key find new → Held kinds new t
  held-none new e out = record {
    kinds = H.kinds;
    none_fired = H.none_fired;
    found = subst (Found new) (not-there key find t.armed H.found e) (taken-out key find new t.armed H.found out);
  }

  -- ---- a kind that isn't armed
  pub seen-off : (now : ℕ) → (longest_at kinds (number_of kind) == 0) ≡ true → seen t ≡ armed_anew kind id now (seen t)
  seen-off now off = sym (ap (λ b. cond b (seen t) (record (seen t) { latest = now; armed = without kind id (seen t).armed ++ record { kind = kind; id = id; at = now } ∷ [] })) (ap (λ ks. longest_at ks (number_of kind) == 0) H.kinds ∙ off))

  -- ---- armed anew
  module _ (now : ℕ) (p : Ptr) (on : (longest_at kinds (number_of kind) == 0) ≡ false) (fresh : has_timer p t.armed ≡ false) where
    abbrev token : Token
    token = record { timer = p; kind = number_of kind; id = id; at = now }

    -- the timers once the new one stands in the place of what the key had
    abbrev Renewed : Timing → Type 0
    Renewed after = after ≡ record t { latest = now; armed = others key t.armed ++ token ∷ [] }

    seen-token : armed_of token ≡ record { kind = kind; id = id; at = now }
    seen-token = ap (λ k. record { kind = k; id = id; at = now }) (kind-number kind)

    seen-last : map armed_of (others key t.armed ++ token ∷ []) ≡ without kind id (map armed_of t.armed) ++ record { kind = kind; id = id; at = now } ∷ []
    seen-last = map-last (others key t.armed) token ∙ (λ i. seen-others kind id t.armed H.found.known i ++ seen-token i ∷ [])

    pub seen-renewed : (after : Timing) → Renewed after → seen after ≡ armed_anew kind id now (seen t)
    seen-renewed after is =
        ap seen is ∙ ap (λ l. record (seen t) { latest = now; armed = l }) seen-last
        ∙ sym (ap (λ b. cond b (seen t) (record (seen t) { latest = now; armed = without kind id (seen t).armed ++ record { kind = kind; id = id; at = now } ∷ [] })) (ap (λ ks. longest_at ks (number_of kind) == 0) H.kinds ∙ on))

    pub held-renewed : (after : Timing) (new : Key → Option Ptr) → Renewed after → PutsIn key p find new → Held kinds new after
    held-renewed after new is put = subst (Held kinds new) (sym is) (record {
      kinds = H.kinds;
      none_fired = H.none_fired;
      found = armed-again token find new t.armed H.found fresh (number-small kind) put;
    })

    module _ (t1 : Timing) (is : t1 ≡ record t { latest = now; armed = t.armed ++ token ∷ [] }) where
      pub renewed-none : find key ≡ None → Renewed t1
      renewed-none e = is ∙ ap (λ l. record t { latest = now; armed = l ++ token ∷ [] }) (sym (not-there key find t.armed H.found e))

      pub renewed-there : (b : Ptr) → find key ≡ Some b → has_timer b t1.armed ≡ true
      renewed-there b e = ap (λ (s : Timing). has_timer b s.armed) is ∙ has-front b t.armed (token ∷ []) (held-there key b find t.armed H.found e)

      pub renewed-some : (b : Ptr) (after : Timing) → find key ≡ Some b → after ≡ record t1 { armed = without_timer b t1.armed } → Renewed after
      renewed-some b after e back =
          back ∙ ap (λ (s : Timing). record s { armed = without_timer b s.armed }) is
          ∙ ap (λ l. record t { latest = now; armed = l }) (without-front b t.armed (token ∷ []) (held-there key b find t.armed H.found e) ∙ ap (λ l. l ++ token ∷ []) (without-it key b find t.armed H.found e))

-- ---- due ones taken out
module _ (kinds : List TimerKind) (find : Key → Option Ptr) (t : Timing) (H : Held kinds find t) (now : ℕ) (fired : List Fired) (told : fired ≡ map firing (due_timers t.kinds t.state now t.armed))
    (t1 : Timing) (is : t1 ≡ record t { latest = now; armed = waiting_timers t.kinds t.state now t.armed; fired = t.fired ++ names_of (due_timers t.kinds t.state now t.armed) }) where
  pub spent : Spent find t1 fired
  spent = record {
    due = due_timers t.kinds t.state now t.armed;
    told = told;
    names = ap (λ (s : Timing). s.fired) is ∙ ap (λ l. l ++ names_of (due_timers t.kinds t.state now t.armed)) H.none_fired;
    found = subst (λ (s : Timing). Found find (due_timers t.kinds t.state now t.armed ++ s.armed)) (sym is) (found-parted (scaled.due_moment t.kinds t.state) (scaled.is_due t.kinds t.state now) find t.armed H.found);
  }

  pub due-told : map told_of fired ≡ due_list now (seen t)
  due-told = ap (map told_of) told ∙ seen-due t.kinds t.state now t.armed H.found.known

  module _ (after : Timing) (back : after ≡ record t1 { fired = [] }) where
    pub seen-taken : seen after ≡ due_taken now (seen t)
    seen-taken = ap seen back ∙ ap seen is ∙ ap (λ l. record (seen t) { latest = now; armed = l }) (seen-waiting t.kinds t.state now t.armed H.found.known)

    pub held-taken : (new : Key → Option Ptr) → Found new after.armed → Held kinds new after
    held-taken new h = record {
      kinds = ap (λ (s : Timing). s.kinds) back ∙ ap (λ (s : Timing). s.kinds) is ∙ H.kinds;
      none_fired = ap (λ (s : Timing). s.fired) back;
      found = h;
    }
