-- A connection is told what the relay knows of it.
use Rattle.relay_laws.specs.Order.{named}
use Rattle.relay_laws.specs.Pairs.{Tape, feed, is_open}
use Rattle.relay_laws.specs.Session.{IsTape}
use Rattle.relay_laws.specs.declared.Feed.{Feed}
use Rattle.relay_work.proofs.Steps.{closes_both, told_append, told_none}
use Rattle.relay_work.specs.Belonging.{Belong}
use Rattle.relay_work.specs.Settling.{SettlesFrom, SettlesOne, SettlesOneFrom, Unsettled, list_of, others, peer_in}
use Rattle.relay_work.specs.Turns.{IsOver, with_all}
use Rattle.relay_ports.specs.Holding.{Holds}
use Rattle.std.proofs.Common.{ap, refl, subst, sym, ◌∙◌}
use Rattle.std.proofs.lemmas.Map.Views.{any-filter_same}
use Rattle.std.specs.List.{AllByRecursion, list_any}
use Rattle.std.specs.Prelude.{Bool, List, None, Option, Some, [], false, nat_eq, not, true, ℕ, ◌&&◌, ◌++◌, ◌==◌, ◌||◌, ◌∷◌, ◌≡◌, ◌≤◌}
use Rattle.tape_laws.specs.Dispatches.{events_back, has}
use Rattle.tcp_relay.proofs.Sessions.{tape_sound}
use Rattle.tcp_relay.proofs.Tests.{by_case, if_false, if_true, not_both, not_true, number_is, same_number}
use Rattle.tcp_relay.specs.Rests.{Rests, ShowsClosing, ShowsPeer, ShowsReads, goes_on}
use Rattle.tcp_relay.specs.declared.relay.Relay.{Relay}
use Rattle.worker_ports.specs.Told.{with_last}
use Rattle.worker_ports.specs.Wires.{Seen, closed, is_held, is_live, without}
use Rattle.worker_ports.specs.declared.wires.WireStep.TheVariants as step

-- ---- connections without one of them
pub any_without : (c d : ℕ) (xs : List ℕ) → list_any (nat_eq d) (without c xs) ≡ (not (nat_eq c d) && list_any (nat_eq d) xs)
any_without c d xs = any-filter_same (nat_eq d) (λ y. not (nat_eq c y)) (not (nat_eq c d)) (λ z t. ap (λ w. not (nat_eq c w)) (sym (number_is d z t))) xs

pub any_other : (c d : ℕ) (xs : List ℕ) → nat_eq c d ≡ false → list_any (nat_eq d) (without c xs) ≡ list_any (nat_eq d) xs
any_other c d xs n = any_without c d xs ∙ ap (λ (b : Bool). not b && list_any (nat_eq d) xs) n

pub any_gone : (c : ℕ) (xs : List ℕ) → list_any (nat_eq c) (without c xs) ≡ false
any_gone c xs = any_without c c xs ∙ ap (λ (b : Bool). not b && list_any (nat_eq c) xs) (same_number c)

has_not : (c d : ℕ) (cs : List ℕ) → (c == d) ≡ false → has cs d ≡ false → has (c ∷ cs) d ≡ false
has_not c d cs n h = ap (λ (b : Bool). b || has cs d) n ∙ h

module _ (limit : ℕ) (names : List (List ℕ)) (relay : Relay) (old : Seen) (c : ℕ) (cs : List ℕ) (h : Tape) (u : Unsettled limit names relay old (c ∷ cs) h) where
  -- ---- one that is closed
  module _ (shut : is_open c h ≡ false) where
    over : IsOver c h
    over = record { closed = shut; drained = ((tape_sound limit names h u.rests.tape).done c shut).out }

    open_other : (d : ℕ) → is_open d h ≡ true → (c == d) ≡ false
    open_other d o = by_case (c == d)
        (λ s. not_both (is_open d h) o (ap (λ (x : ℕ). is_open x h) (sym (number_is c d s)) ∙ shut))
        (λ n. n)

    abbrev gone : Seen
    gone = record old { live = without c old.live; held = without c old.held; steps = with_last (step.Closed c) old.steps }

    live_case : (d : ℕ) → has cs d ≡ false → is_live d gone ≡ is_open d h
    live_case d n = by_case (c == d)
        (λ s. ap (λ (x : ℕ). list_any (nat_eq x) (without c old.live)) (sym (number_is c d s)) ∙ any_gone c old.live ∙ sym shut ∙ ap (λ (x : ℕ). is_open x h) (number_is c d s))
        (λ k. any_other c d old.live k ∙ u.live d (has_not c d cs k n))

    live_other : (d : ℕ) → is_live d gone ≡ true → (c == d) ≡ false
    live_other d l = by_case (c == d)
        (λ s. not_both (is_live d gone) l (ap (λ (x : ℕ). list_any (nat_eq x) (without c old.live)) (sym (number_is c d s)) ∙ any_gone c old.live))
        (λ k. k)

    closes_live : SettlesOne limit names relay old cs h gone
    closes_live = record {
      closes = step.Closed c ∷ [];
      told = refl;
      over = (over, tt);
      left = record {
        rests = u.rests;
        clusters = u.clusters;
        newer = u.newer;
        opened = λ d o. any_other c d old.live (open_other d o) ∙ u.opened d o;
        live = live_case;
        held = λ d n l. let k : (c == d) ≡ false = live_other d l in
            any_other c d old.held k ∙ u.held d (has_not c d cs k n) (sym (any_other c d old.live k) ∙ l);
      };
    }

    closes_none : is_live c old ≡ false → SettlesOne limit names relay old cs h old
    closes_none e = record {
      closes = [];
      told = told_none old.steps;
      over = tt;
      left = record {
        rests = u.rests;
        clusters = u.clusters;
        newer = u.newer;
        opened = u.opened;
        live = λ d n. by_case (c == d)
            (λ s. ap (λ (x : ℕ). is_live x old) (sym (number_is c d s)) ∙ e ∙ sym shut ∙ ap (λ (x : ℕ). is_open x h) (number_is c d s))
            (λ k. u.live d (has_not c d cs k n));
        held = λ d n l. by_case (c == d)
            (λ s. not_both (is_live d old) l (ap (λ (x : ℕ). is_live x old) (sym (number_is c d s)) ∙ e))
            (λ k. u.held d (has_not c d cs k n) l);
      };
    }

    closes_if : SettlesOne limit names relay old cs h (closed c old)
    closes_if = by_case (is_live c old)
        (λ t. subst (λ (v : Seen). SettlesOne limit names relay old cs h v) (sym (if_true (is_live c old) gone old t)) closes_live)
        (λ n. subst (λ (v : Seen). SettlesOne limit names relay old cs h v) (sym (if_false (is_live c old) gone old n)) (closes_none n))

  -- ---- one that is open
  module _ (opened : is_open c h ≡ true) (held : Bool) (new : Seen) (k : Holds c held old new) (is : held ≡ not (goes_on limit (feed c h) h)) where
    live_same : (d : ℕ) → is_live d new ≡ is_live d old
    live_same d = ap (λ (v : List ℕ). list_any (nat_eq d) v) k.live

    held_here : is_held c new ≡ held
    held_here =
        k.held c ∙ if_true (nat_eq c c) (held && is_live c old) (is_held c old) (same_number c)
        ∙ ap (λ (b : Bool). held && b) (u.opened c opened) ∙ and_true held
      where
        and_true : (b : Bool) → (b && true) ≡ b
        and_true true = refl
        and_true false = refl

    pub holds_one : SettlesOne limit names relay old cs h new
    holds_one = record {
      closes = [];
      told = k.steps ∙ told_none old.steps;
      over = tt;
      left = record {
        rests = u.rests;
        clusters = k.clusters ∙ u.clusters;
        newer = subst (λ (n : ℕ). AllByRecursion (λ d. d ≤ n) (named (events_back h))) (sym k.greatest) u.newer;
        opened = λ d o. live_same d ∙ u.opened d o;
        live = λ d n. by_case (c == d)
            (λ s. ap (λ (x : ℕ). is_live x new) (sym (number_is c d s)) ∙ live_same c ∙ u.opened c opened ∙ sym opened ∙ ap (λ (x : ℕ). is_open x h) (number_is c d s))
            (λ e. live_same d ∙ u.live d (has_not c d cs e n));
        held = λ d n l. by_case (c == d)
            (λ s. ap (λ (x : ℕ). is_held x new) (sym (number_is c d s)) ∙ held_here ∙ is ∙ ap (λ (x : ℕ). not (goes_on limit (feed x h) h)) (number_is c d s))
            (λ e. k.held d ∙ if_false (nat_eq c d) (held && is_live c old) (is_held d old) e ∙ u.held d (has_not c d cs e n) (sym (live_same d) ∙ l));
      };
    }

-- ---- as the relay answers
reads_open : (limit : ℕ) (names : List (List ℕ)) (c : ℕ) (h : Tape) → IsTape limit names h → goes_on limit (feed c h) h ≡ true → is_open c h ≡ true
reads_open limit names c h t e = by_case (is_open c h)
    (λ o. o)
    (λ n. not_both (goes_on limit (feed c h) h) e (ap (λ (f : Option Feed). goes_on limit f h) ((tape_sound limit names h t).done c n).feed))

pub settles_reading : (relay : Relay) (old new : Seen) (c : ℕ) (answer : Bool) → ShowsReads relay c answer → answer ≡ true → Holds c false old new → SettlesOneFrom relay old c new
settles_reading relay old new c answer r t k = record {
  goes = λ limit names cs h u.
      let e : goes_on limit (feed c h) h ≡ true = sym (r.goes limit names h u.rests) ∙ t in
      holds_one limit names relay old c cs h u (reads_open limit names c h u.rests.tape e) false new k (sym (ap (λ (b : Bool). not b) e));
}

pub settles_closed : (relay : Relay) (old new : Seen) (c : ℕ) (answer : Bool) → ShowsClosing relay c answer → answer ≡ true → new ≡ closed c old → SettlesOneFrom relay old c new
settles_closed relay old new c answer s t e = record {
  goes = λ limit names cs h u. subst (λ (v : Seen). SettlesOne limit names relay old cs h v) (sym e)
      (closes_if limit names relay old c cs h u (not_true (is_open c h) (sym (s.goes limit names h u.rests) ∙ t)));
}

pub settles_held : (relay : Relay) (old new : Seen) (c : ℕ) (answer reads held : Bool) → ShowsClosing relay c answer → answer ≡ false → ShowsReads relay c reads
    → held ≡ not reads → Holds c held old new → SettlesOneFrom relay old c new
settles_held relay old new c answer reads held s f r i k = record {
  goes = λ limit names cs h u. holds_one limit names relay old c cs h u (was_not (is_open c h) (sym (s.goes limit names h u.rests) ∙ f)) held new k
      (i ∙ ap (λ (b : Bool). not b) (r.goes limit names h u.rests));
}
  where
    was_not : (b : Bool) → not b ≡ false → b ≡ true
    was_not true e = refl
    was_not false e = cc

-- ---- one, or two
settles_one : (relay : Relay) (old new : Seen) (c : ℕ) (was : Option ℕ)
    → ((limit : ℕ) (names : List (List ℕ)) (h : Tape) → Rests limit names relay h → others was (peer_in (feed c h)) ≡ [])
    → SettlesOneFrom relay old c new → SettlesFrom relay old c was new
settles_one relay old new c was o s = record {
  goes = λ limit names h u. s.goes limit names [] h (subst (λ (v : List ℕ). Unsettled limit names relay old (c ∷ v) h) (o limit names h u.rests) u);
}

settles_two : (relay : Relay) (old mid new : Seen) (c d : ℕ) (was : Option ℕ)
    → ((limit : ℕ) (names : List (List ℕ)) (h : Tape) → Rests limit names relay h → others was (peer_in (feed c h)) ≡ d ∷ [])
    → SettlesOneFrom relay old c mid → SettlesOneFrom relay mid d new → SettlesFrom relay old c was new
settles_two relay old mid new c d was o s t = record {
  goes = λ limit names h u.
      let first : SettlesOne limit names relay old (d ∷ []) h mid = s.goes limit names (d ∷ []) h
      (subst (λ (v : List ℕ). Unsettled limit names relay old (c ∷ v) h) (o limit names h u.rests) u) in
      let second : SettlesOne limit names relay mid [] h new = t.goes limit names [] h first.left in
      record {
        closes = first.closes ++ second.closes;
        told = second.told ∙ ap (λ v. with_all second.closes v) first.told ∙ sym (told_append first.closes second.closes old.steps);
        over = closes_both first.closes second.closes h first.over second.over;
        left = second.left;
      };
}

-- the pair's other one before the event, or after it
pub settles_before : (relay : Relay) (old mid new : Seen) (c d : ℕ) (was : Option ℕ) → was ≡ Some d → SettlesOneFrom relay old c mid
    → SettlesOneFrom relay mid d new → SettlesFrom relay old c was new
settles_before relay old mid new c d was w s t = settles_two relay old mid new c d was (λ limit names h r. ap (λ (o : Option ℕ). others o (peer_in (feed c h))) w) s t

now_is : (relay : Relay) (c : ℕ) (was now x : Option ℕ) → was ≡ None → ShowsPeer relay c now → now ≡ x
    → (limit : ℕ) (names : List (List ℕ)) (h : Tape) → Rests limit names relay h → others was (peer_in (feed c h)) ≡ list_of x
now_is relay c was now x w p e limit names h r = ap (λ (o : Option ℕ). others o (peer_in (feed c h))) w ∙ ap (λ (o : Option ℕ). list_of o) (sym (p.goes limit names h r) ∙ e)

pub settles_after : (relay : Relay) (old mid new : Seen) (c d : ℕ) (was now : Option ℕ) → was ≡ None → ShowsPeer relay c now → now ≡ Some d
    → SettlesOneFrom relay old c mid → SettlesOneFrom relay mid d new → SettlesFrom relay old c was new
settles_after relay old mid new c d was now w p e s t = settles_two relay old mid new c d was (now_is relay c was now (Some d) w p e) s t

pub settles_alone : (relay : Relay) (old new : Seen) (c : ℕ) (was now : Option ℕ) → was ≡ None → ShowsPeer relay c now → now ≡ None
    → SettlesOneFrom relay old c new → SettlesFrom relay old c was new
settles_alone relay old new c was now w p e s = settles_one relay old new c was (now_is relay c was now None w p e) s

-- ---- nothing is left to be told
pub belong_all : (limit : ℕ) (names : List (List ℕ)) (relay : Relay) (seen : Seen) (h : Tape) → Unsettled limit names relay seen [] h → Belong limit names relay seen h
belong_all limit names relay seen h u = record {
  rests = u.rests;
  clusters = u.clusters;
  newer = u.newer;
  live = λ c. u.live c refl;
  held = λ c l. u.held c refl l;
}
