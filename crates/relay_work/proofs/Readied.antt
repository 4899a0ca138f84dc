-- What connections tell of a live one may come: the relay may take it.
use Rattle.flow_notes.specs.Fields.{FitsEvent}
use Rattle.flow_notes.specs.declared.events.Event.{Event}
use Rattle.relay_laws.specs.Order.{is_new, named}
use Rattle.relay_laws.specs.Pairs.{Tape, feed}
use Rattle.relay_laws.specs.Watermark.{above}
use Rattle.relay_laws.specs.World.{out}
use Rattle.relay_laws.specs.declared.Feed.{Feed}
use Rattle.relay_work.proofs.Settled.{any_gone, any_other}
use Rattle.relay_work.specs.Belonging.{Belong}
use Rattle.relay_work.specs.Carrying.{Ready}
use Rattle.relay_work.specs.Turning.{event_at}
use Rattle.std.proofs.Common.{ap, arith, refl, subst, sym, ◌∙◌}
use Rattle.std.proofs.lemmas.Bool.Decides.{nat_tests}
use Rattle.std.proofs.lemmas.List.Folds.{list_any-append}
use Rattle.std.proofs.lemmas.Option.{same_Some}
use Rattle.std.specs.List.{AllByRecursion, list_all, list_any}
use Rattle.std.specs.Prelude.{Bool, List, None, Option, Some, [], false, if◌then◌else◌, length, nat_eq, nat_lt, not, true, ℕ, ◌&&◌, ◌++◌, ◌<◌, ◌==◌, ◌||◌, ◌∷◌, ◌≡◌, ◌≤◌}
use Rattle.tape_laws.specs.Dispatches.{events_back}
use Rattle.tcp_relay.proofs.Tests.{not_both, not_true, same_number}
use Rattle.tcp_relay.specs.Rests.{goes_on, held_behind}
use Rattle.tcp_relay.specs.declared.relay.Relay.{Relay}
use Rattle.worker_ports.specs.Wires.{Gives, MayCome, Seen, given, without}
use Rattle.worker_ports.specs.declared.wires.Wired.{Wired}
use Rattle.flow_notes.specs.declared.events.Event.TheVariants as event
use Rattle.worker_ports.specs.declared.wires.Wired.TheVariants as wired

-- ---- a number above all of a list
is_below : (x g c : ℕ) → x ≤ g → g < c → nat_lt x c ≡ true
is_below x g c k l = grind (arith, nat_tests)

both : (p q : Bool) → p ≡ true → q ≡ true → (p && q) ≡ true
both true q e f = f
both false q e f = e

below_all : (g c : ℕ) (xs : List ℕ) → g < c → AllByRecursion (λ d. d ≤ g) xs → list_all (λ d. nat_lt d c) xs ≡ true
below_all g c [] l a = refl
below_all g c (x ∷ xs) l a = both (nat_lt x c) (list_all (λ d. nat_lt d c) xs) (is_below x g c a.0 l) (below_all g c xs l a.1)

at_most : (x g c : ℕ) → x ≤ g → g < c → x ≤ c
at_most x g c k l = omega arith

lifted : (g c : ℕ) (xs : List ℕ) → g < c → AllByRecursion (λ d. d ≤ g) xs → AllByRecursion (λ d. d ≤ c) xs
lifted g c [] l a = tt
lifted g c (x ∷ xs) l a = (at_most x g c a.0 l, lifted g c xs l a.1)

is_above : (g c : ℕ) → g < c → nat_lt 0 c ≡ true
is_above g c l = grind (arith, nat_tests)

at_least : (n : ℕ) → 0 < n → 1 ≤ n
at_least n p = omega arith

no_less : (c : ℕ) → c ≤ c
no_less c = omega arith

-- ---- a connection behind the others
or_false : (b : Bool) → (b || false) ≡ b
or_false true = refl
or_false false = refl

any_more : (xs : List ℕ) (c d : ℕ) → list_any (nat_eq d) (xs ++ c ∷ []) ≡ (list_any (nat_eq d) xs || nat_eq d c)
any_more xs c d = list_any-append (nat_eq d) xs (c ∷ []) ∙ ap (λ b. list_any (nat_eq d) xs || b) (or_false (nat_eq d c))

or_true : (b : Bool) → (b || true) ≡ true
or_true true = refl
or_true false = refl

any_last : (xs : List ℕ) (c : ℕ) → list_any (nat_eq c) (xs ++ c ∷ []) ≡ true
any_last xs c = any_more xs c c ∙ ap (λ (b : Bool). list_any (nat_eq c) xs || b) (same_number c) ∙ or_true (list_any (nat_eq c) xs)

turned : (c d : ℕ) → (c == d) ≡ false → nat_eq d c ≡ false
turned c d n = grind (arith, nat_tests)

any_before : (xs : List ℕ) (c d : ℕ) → (c == d) ≡ false → list_any (nat_eq d) (xs ++ c ∷ []) ≡ list_any (nat_eq d) xs
any_before xs c d n = any_more xs c d ∙ ap (λ (b : Bool). list_any (nat_eq d) xs || b) (turned c d n) ∙ or_false (list_any (nat_eq d) xs)

-- ---- what isn't held goes on
goes_free : (limit : ℕ) (o : Option Feed) (h : Tape) → goes_on limit o h ≡ true → held_behind limit o h ≡ None
goes_free limit None h e = refl
goes_free limit (Some f) h e = ap (λ (b : Bool). if b then Some (length (out f.to h)) else None) (not_true (above limit f.to h) e)

was_not : (b : Bool) → not b ≡ false → b ≡ true
was_not true e = refl
was_not false e = cc

module _ (limit : ℕ) (names : List (List ℕ)) (relay : Relay) (seen : Seen) (h : Tape) (b : Belong limit names relay seen h) where
  new_one : (c : ℕ) → seen.greatest < c → is_new (events_back h) c ≡ true
  new_one c l = both (nat_lt 0 c) _ (is_above seen.greatest c l) (below_all seen.greatest c (named (events_back h)) l b.newer)

  accepts : (c : ℕ) → seen.greatest < c → FitsEvent (event.Accept c) → Ready limit names relay (given (wired.Accept c) seen) c (event.Accept c) h
  accepts c l f = record {
    takes = record { rests = b.rests; may = (tt, f, new_one c l); free = refl };
    of = (refl, any_last seen.live c);
    clusters = b.clusters;
    newer = (no_less c, lifted seen.greatest c (named (events_back h)) l b.newer);
    live = λ d n. any_before seen.live c d n ∙ b.live d;
    held = λ d n k. b.held d (sym (any_before seen.live c d n) ∙ k);
    still = λ n k. cc;
  }

  joins : (c cluster : ℕ) → seen.greatest < c → cluster < seen.clusters → FitsEvent (event.Join c cluster)
      → Ready limit names relay (given (wired.Join c cluster) seen) c (event.Join c cluster) h
  joins c cluster l k f = record {
    takes = record { rests = b.rests; may = (subst (λ n. cluster < n) b.clusters k, f, new_one c l); free = refl };
    of = (refl, any_last seen.live c);
    clusters = b.clusters;
    newer = (no_less c, lifted seen.greatest c (named (events_back h)) l b.newer);
    live = λ d n. any_before seen.live c d n ∙ b.live d;
    held = λ d n m. b.held d (sym (any_before seen.live c d n) ∙ m);
    still = λ n m. cc;
  }

  reads : (c : ℕ) (octets : List ℕ) → MayCome seen (wired.Read c octets) → FitsEvent (event.Read c octets)
      → Ready limit names relay (given (wired.Read c octets) seen) c (event.Read c octets) h
  reads c octets m f = record {
    takes = record {
      rests = b.rests;
      may = (m.1, f, refl);
      free = goes_free limit (feed c h) h (was_not (goes_on limit (feed c h) h) (sym (b.held c m.0.0) ∙ m.0.1));
    };
    of = (refl, b.live c);
    clusters = b.clusters;
    newer = b.newer;
    live = λ d n. b.live d;
    held = λ d n k. b.held d k;
    still = λ n k. b.held c k;
  }

  loses : (c : ℕ) → FitsEvent (event.Gone c) → Ready limit names relay (given (wired.Lost c) seen) c (event.Gone c) h
  loses c f = record {
    takes = record { rests = b.rests; may = (tt, f, refl); free = refl };
    of = (refl, any_gone c seen.live);
    clusters = b.clusters;
    newer = b.newer;
    live = λ d n. any_other c d seen.live n ∙ b.live d;
    held = λ d n k. any_other c d seen.held n ∙ b.held d (sym (any_other c d seen.live n) ∙ k);
    still = λ n k. not_both (list_any (nat_eq c) (without c seen.live)) k (any_gone c seen.live);
  }

  told : (w : Wired) (c : ℕ) (e : Event) → MayCome seen w → FitsEvent e → event_at w ≡ Some (c, e) → Ready limit names relay (given w seen) c e h
  told (wired.Accept d) c e m f i = subst (λ (p : ℕ × Event). FitsEvent p.1 → Ready limit names relay (given (wired.Accept d) seen) p.0 p.1 h) (same_Some _ _ i) (accepts d m) f
  told (wired.Join d k) c e m f i = subst (λ (p : ℕ × Event). FitsEvent p.1 → Ready limit names relay (given (wired.Join d k) seen) p.0 p.1 h) (same_Some _ _ i) (joins d k m.0 m.1) f
  told (wired.Read d octets) c e m f i = subst (λ (p : ℕ × Event). FitsEvent p.1 → Ready limit names relay (given (wired.Read d octets) seen) p.0 p.1 h) (same_Some _ _ i) (reads d octets m) f
  told (wired.Lost d) c e m f i = subst (λ (p : ℕ × Event). FitsEvent p.1 → Ready limit names relay (given (wired.Lost d) seen) p.0 p.1 h) (same_Some _ _ i) (loses d) f
  told wired.Idle c e m f i = cc
  told wired.Stop c e m f i = cc

  pub gives : (w : Wired) (new : Seen) (c : ℕ) (e : Event) → Gives seen w new → FitsEvent e → event_at w ≡ Some (c, e) → Ready limit names relay new c e h
  gives w new c e g f i = subst (λ (v : Seen). Ready limit names relay v c e h) (sym g.is) (told w c e g.may f i)

  -- ---- room for what was taken
  pub takes_room : (c n : ℕ) (new : Seen) → new.clusters ≡ seen.clusters → new.live ≡ seen.live → new.greatest ≡ seen.greatest → new.held ≡ seen.held
      → 0 < n → n ≤ 2147483647 → FitsEvent (event.Room c n) → Ready limit names relay new c (event.Room c n) h
  takes_room c n new k l g m p q f = record {
    takes = record { rests = b.rests; may = ((at_least n p, q), f, refl); free = refl };
    of = (refl, ap (λ (v : List ℕ). list_any (nat_eq c) v) l ∙ b.live c);
    clusters = k ∙ b.clusters;
    newer = subst (λ (x : ℕ). AllByRecursion (λ d. d ≤ x) (named (events_back h))) (sym g) b.newer;
    live = λ d e. ap (λ (v : List ℕ). list_any (nat_eq d) v) l ∙ b.live d;
    held = λ d e i. ap (λ (v : List ℕ). list_any (nat_eq d) v) m ∙ b.held d (sym (ap (λ (v : List ℕ). list_any (nat_eq d) v) l) ∙ i);
    still = λ e i. ap (λ (v : List ℕ). list_any (nat_eq c) v) m ∙ b.held c (sym (ap (λ (v : List ℕ). list_any (nat_eq c) v) l) ∙ i);
  }
