-- What is kept where nothing is changed but room is made, and where the first of the doomed goes.
use Rattle.exchange_core.proofs.Dooming.{sound_swept}
use Rattle.exchange_core.specs.Exchanges.{IsSound, exchange_at}
use Rattle.exchange_core.specs.View.{IsKept, exchanges_of, seen_all, stored}
use Rattle.exchange_core.specs.declared.exchanges.Exchanges.TheInside.{Inside}
use Rattle.std.proofs.Common.{ap, arith, subst, sym}
use Rattle.std.proofs.lemmas.Bool.{false≢true}
use Rattle.std.specs.List.Sorted.{IsStrictlySortedBy}
use Rattle.std.specs.Map.{keys_of, lookup}
use Rattle.std.specs.Option.{is_some}
use Rattle.std.specs.Ordering.{nat_cmp}
use Rattle.std.specs.Prelude.{List, None, Option, Some, [], length, nat_eq, option_to_list, true, ℕ, ◌++◌, ◌≡◌, ◌≤◌}
use Rattle.std.specs.VecDeque.{deque_capacity, deque_len}

-- ---- room was made
pub room_made : (c a : Inside) → IsKept c → a.live.entries ≡ c.live.entries → a.doomed.items ≡ c.doomed.items → a.last ≡ c.last → a.time ≡ c.time → a.ticked ≡ c.ticked
    → a.metered.items ≡ c.metered.items → deque_len a.doomed ≡ deque_len c.doomed → deque_capacity c.doomed ≤ deque_capacity a.doomed → c.metered.room ≤ a.metered.room
    → (exchanges_of a ≡ exchanges_of c) × IsKept a
room_made c a kept live doomed last time ticked marks len more ready = (
  λ i. record { live = seen_all (ticked i) (live i); doomed = doomed i; last = last i; time = time i },
  record {
    sound = subst IsSound (sym same) kept.sound;
    told = omega (arith, ticked, time, kept.told);
    room = omega (arith, ap length live, len, more, kept.room);
    metered = λ x. cc (kept.metered x, same);
    counted = cc;
    ready = omega (arith, ap length live, ready, kept.ready);
  },
)
  where
    same : stored a ≡ stored c
    same = λ i. record { live = live i; doomed = doomed i; last = last i; time = time i }

-- ---- a sweep
pub swept_sound : (c : Inside) (swept : Option ℕ) (rest : List ℕ) → c.doomed.items ≡ option_to_list swept ++ rest → IsSound (stored c) → IsSound (record (stored c) { doomed = rest })
swept_sound c None rest is sound = rw (← is) sound
swept_sound c (Some x) rest is sound = sound_swept x rest (stored c) is sound

pub swept_kept : (c a : Inside) (swept : Option ℕ) → IsKept c → c.doomed.items ≡ option_to_list swept ++ a.doomed.items → deque_len a.doomed ≤ deque_len c.doomed
    → deque_capacity a.doomed ≡ deque_capacity c.doomed → a.live.entries ≡ c.live.entries → a.last ≡ c.last → a.time ≡ c.time → a.ticked ≡ c.ticked
    → a.metered.items ≡ c.metered.items → a.metered.room ≡ c.metered.room → IsKept a
unfolding exchange_at
swept_kept c a swept kept items len more live last time ticked marks ready = record {
  sound = subst IsSound (λ i. record { live = sym live i; doomed = a.doomed.items; last = sym last i; time = sym time i }) (swept_sound c swept a.doomed.items items kept.sound);
  told = omega (arith, ticked, time, kept.told);
  room = omega (arith, ap length live, len, more, kept.room);
  metered = λ x. cc (kept.metered x);
  counted = cc;
  ready = omega (arith, ap length live, ready, kept.ready);
}

-- ---- no exchanges
pub nothing_kept : (c : Inside) → c.live.entries ≡ [] → c.doomed.items ≡ [] → c.metered.items ≡ [] → IsStrictlySortedBy nat_cmp (keys_of c.live.entries) →
    c.ticked ≤ c.time → deque_len c.doomed ≡ 0 → IsKept c
unfolding exchange_at
nothing_kept c live doomed marks order told none = record {
  sound = record {
    order = order;
    below = λ x some. absurd (false≢true (subst (λ es. is_some (lookup (nat_eq x) es) ≡ true) live some));
    each = λ x. rw live tt;
    dead = rw doomed tt;
    once = λ x. rw doomed (omega arith);
  };
  told = told;
  room = omega (arith, none, ap length live);
  metered = λ x. cc;
  counted = cc;
  ready = omega (arith, ap length live);
}
