-- What each note leaves true of a tape's connections.
use Rattle.flow_rules.specs.declared.ids.FlowId.{FlowId}
use Rattle.flow_rules.specs.declared.causes.Cause.{Cause}
use Rattle.flow_notes.specs.declared.notes.CloseCause.{CloseCause}
use Rattle.relay_laws.specs.Order.{is_new, named}
use Rattle.relay_laws.specs.Pairs.{Tape, feed, free, goes_to, is_open, opposite, pairs, unless_doomed}
use Rattle.relay_laws.specs.Sound.{IsDone, IsFree, IsFresh, IsPaired, IsSound, Rises}
use Rattle.relay_laws.specs.World.{out}
use Rattle.relay_laws.specs.declared.Feed.{Feed}
use Rattle.std.proofs.Common.{ap, append-nil, arith, refl, subst, suc, sym, zero, ◌∙◌}
use Rattle.std.proofs.lemmas.Bool.Decides.{nat_tests}
use Rattle.std.proofs.lemmas.Option.{same_Some}
use Rattle.std.specs.List.{AllByRecursion, list_all}
use Rattle.std.specs.Prelude.{Bool, List, None, Option, Some, [], drop, false, if◌then◌else◌, nat_lt, not, true, ℕ, ◌&&◌, ◌+◌, ◌++◌, ◌<◌, ◌==◌, ◌||◌, ◌∷◌, ◌≡◌, ◌≤◌}
use Rattle.tape_laws.specs.Dispatches.{events_back, has, is_some_of}
use Rattle.tape_laws.specs.Flows.{request, response}
use Rattle.tape_laws.specs.History.{Noted}
use Rattle.tcp_relay.proofs.Lists.{all_filter, all_more, has_left, has_other, has_was, rises_filter, rises_more}
use Rattle.tcp_relay.proofs.Tests.{and_both, and_left, and_right, by_case, differs_back, differs_below, for_some, if_some, is_below, is_not, no_some, not_both, number_is, or_none_right, or_right, same_number}
use Rattle.flow_notes.specs.declared.events.Event.TheVariants as event
use Rattle.flow_notes.specs.declared.notes.Note.TheVariants as note

-- the numbers of new connections are as they were
abbrev pub SameNew : Tape → Tape → Type 0
SameNew h' h = (c : ℕ) → is_new (events_back h') c ≡ true → is_new (events_back h) c ≡ true

-- what is known of connections, pairs and octets is the same, but that octets of connections in pairs may have changed
pub record IsKept (h h' : Tape) : Type 0 where
  pub opened : (c : ℕ) → is_open c h' ≡ is_open c h
  pub out : (c : ℕ) → out c h ≡ [] → feed c h ≡ None → out c h' ≡ []
  pub feed : (c : ℕ) → feed c h' ≡ feed c h
  pub goes : (f : FlowId) → goes_to f h' ≡ goes_to f h
  pub free : free h' ≡ free h
  pub pairs : pairs h' ≡ pairs h
  pub new : SameNew h' h

pub sound_kept : (h h' : Tape) → IsKept h h' → IsSound h → IsSound h'
sound_kept h h' k s = record {
  paired = λ c. for_some (feed c h') (IsPaired h' c) (λ f e.
      let p : IsPaired h c f = if_some (feed c h) (IsPaired h c) f (sym (k.feed c) ∙ e) (s.paired c) in
      record {
        back = k.feed f.to ∙ p.back;
        goes = k.goes f.flow ∙ p.goes;
        comes = k.goes (opposite f.flow) ∙ p.comes;
        opened = k.opened c ∙ p.opened;
        few = subst (λ n. f.flow.exchange ≤ n) (sym k.pairs) p.few;
      });
  done = λ c e. let d : IsDone h c = s.done c (sym (k.opened c) ∙ e) in record { out = k.out c d.out d.feed; feed = k.feed c ∙ d.feed };
  rises = subst (λ l. Rises l) (sym k.free) s.rises;
  fresh = λ c e. let f : IsFresh h c = s.fresh c (k.new c e) in
      record { closed = k.opened c ∙ f.closed; after = subst (λ l. AllByRecursion (λ d. d < c) l) (sym k.free) f.after };
  unpaired = λ c e. let f : IsFree h c = s.unpaired c (sym (ap (λ l. has l c) k.free) ∙ e) in
      record { opened = k.opened c ∙ f.opened; out = k.out c f.out f.feed; feed = k.feed c ∙ f.feed };
}

-- ---- octets enter the write buffer of a connection in a pair, and leave
pub sound_arrive : (f : FlowId) (octets : List ℕ) (d : ℕ) (g : Feed) (h : Tape) → goes_to f h ≡ Some d → feed d h ≡ Some g → IsSound h → IsSound (Noted (note.Arrive f octets) ∷ h)
sound_arrive f octets d g h to is = sound_kept h (Noted (note.Arrive f octets) ∷ h) (record {
  opened = λ c. refl;
  out = λ c e n. ap (λ b. out c h ++ (if b then octets else [])) (ap (λ o. is_some_of o c) to ∙ other c n) ∙ append-nil (out c h) ∙ e;
  feed = λ c. refl;
  goes = λ v. refl;
  free = refl;
  pairs = refl;
  new = λ c e. e;
})
  where
    other : (c : ℕ) → feed c h ≡ None → (d == c) ≡ false
    other c n = by_case (d == c) (λ t. no_some (feed d h) g (ap (λ v. feed v h) (number_is d c t) ∙ n) is) (λ y. y)

drop_none : (n : ℕ) → drop {A = ℕ} n [] ≡ []
drop_none zero = refl
drop_none (suc n) = refl

pub sound_out : (c n : ℕ) (h : Tape) → IsSound h → IsSound (Noted (note.Out c n) ∷ h)
sound_out c n h = sound_kept h (Noted (note.Out c n) ∷ h) (record {
  opened = λ d. refl;
  out = λ d e o. ap (λ (v : List ℕ). drop (if c == d then n else 0) v) e ∙ drop_none (if c == d then n else 0);
  feed = λ d. refl;
  goes = λ v. refl;
  free = refl;
  pairs = refl;
  new = λ d e. e;
})

-- ---- a pair is doomed
pub left_feed : (x : ℕ) (o : Option Feed) (f : Feed) → unless_doomed x o ≡ Some f → o ≡ Some f
left_feed x None f e = cc
left_feed x (Some g) f e = by_case (g.flow.exchange == x)
    (λ t. no_some (unless_doomed x (Some g)) f (ap (λ b. if b then None else Some g) t) e)
    (λ n. sym (ap (λ b. if b then None else Some g) n) ∙ e)

pub left_other : (x : ℕ) (o : Option Feed) (f : Feed) → unless_doomed x o ≡ Some f → (f.flow.exchange == x) ≡ false
left_other x None f e = cc
left_other x (Some g) f e = by_case (g.flow.exchange == x)
    (λ t. no_some (unless_doomed x (Some g)) f (ap (λ b. if b then None else Some g) t) e)
    (λ n. subst (λ v. (v.flow.exchange == x) ≡ false) (same_Some g f (sym (ap (λ b. if b then None else Some g) n) ∙ e)) n)

pub sound_doom : (x : ℕ) (why : Cause) (h : Tape) → IsSound h → IsSound (Noted (note.Doom x why) ∷ h)
sound_doom x why h s = record {
  paired = λ c. for_some (feed c (Noted (note.Doom x why) ∷ h)) (IsPaired (Noted (note.Doom x why) ∷ h) c) (λ f e.
      let p : IsPaired h c f = if_some (feed c h) (IsPaired h c) f (left_feed x (feed c h) f e) (s.paired c) in
      record {
        back = ap (λ o. unless_doomed x o) p.back ∙ ap (λ b. if b then None else Some (record { flow = opposite f.flow; to = c })) (left_other x (feed c h) f e);
        goes = p.goes;
        comes = p.comes;
        opened = p.opened;
        few = p.few;
      });
  done = λ c e. let d : IsDone h c = s.done c e in record { out = d.out; feed = ap (λ o. unless_doomed x o) d.feed };
  rises = s.rises;
  fresh = λ c e. let f : IsFresh h c = s.fresh c e in record { closed = f.closed; after = f.after };
  unpaired = λ c e. let f : IsFree h c = s.unpaired c e in record { opened = f.opened; out = f.out; feed = ap (λ o. unless_doomed x o) f.feed };
}

-- ---- a connection that feeds nothing is closed, with nothing that waits for it
pub sound_close : (c code : ℕ) (why : CloseCause) (h : Tape) → feed c h ≡ None → out c (Noted (note.Close c code why) ∷ h) ≡ []
    → ((d : ℕ) → out d h ≡ [] → out d (Noted (note.Close c code why) ∷ h) ≡ []) → IsSound h → IsSound (Noted (note.Close c code why) ∷ h)
sound_close c code why h none empty still s = record {
  paired = λ d. for_some (feed d h) (IsPaired h' d) (λ f e.
      let p : IsPaired h d f = if_some (feed d h) (IsPaired h d) f e (s.paired d) in
      record { back = p.back; goes = p.goes; comes = p.comes; opened = and_both (not (c == d)) (is_open d h) (is_not (c == d) (other d f e)) p.opened; few = p.few });
  done = λ d e. by_case (c == d)
      (λ t. subst (λ v. IsDone h' v) (number_is c d t) (record { out = empty; feed = none }))
      (λ n. let k : IsDone h d = s.done d (sym (ap (λ b. not b && is_open d h) n) ∙ e) in record { out = still d k.out; feed = k.feed });
  rises = rises_filter (λ e. not (e == c)) (free h) s.rises;
  fresh = λ d e. let f : IsFresh h d = s.fresh d e in
      record { closed = closed_too (not (c == d)) (is_open d h) f.closed; after = all_filter (λ v. v < d) (λ v. not (v == c)) (free h) f.after };
  unpaired = λ d e.
      let f : IsFree h d = s.unpaired d (has_left (free h) c d e) in
      record { opened = and_both (not (c == d)) (is_open d h) (is_not (c == d) (differs_back d c (has_other (free h) c d e))) f.opened; out = still d f.out; feed = f.feed };
}
  where
    h' : Tape
    h' = Noted (note.Close c code why) ∷ h

    closed_too : (a b : Bool) → b ≡ false → (a && b) ≡ false
    closed_too true b e = e
    closed_too false b e = refl

    other : (d : ℕ) (f : Feed) → feed d h ≡ Some f → (c == d) ≡ false
    other d f e = by_case (c == d) (λ t. no_some (feed c h) f none (ap (λ v. feed v h) (number_is c d t) ∙ e)) (λ n. n)

-- ---- a connection comes
new_above : (es : List ℕ) (c d : ℕ) → (nat_lt 0 d && (nat_lt c d && list_all (λ e. nat_lt e d) es)) ≡ true → c < d
new_above es c d e = is_below c d (and_left (nat_lt c d) (list_all (λ e. nat_lt e d) es) (and_right (nat_lt 0 d) (nat_lt c d && list_all (λ e. nat_lt e d) es) e))

pub new_before : (es : List ℕ) (c d : ℕ) → (nat_lt 0 d && (nat_lt c d && list_all (λ e. nat_lt e d) es)) ≡ true → (nat_lt 0 d && list_all (λ e. nat_lt e d) es) ≡ true
new_before es c d e = and_both (nat_lt 0 d) (list_all (λ e. nat_lt e d) es) (and_left (nat_lt 0 d) (nat_lt c d && list_all (λ e. nat_lt e d) es) e)
    (and_right (nat_lt c d) (list_all (λ e. nat_lt e d) es) (and_right (nat_lt 0 d) (nat_lt c d && list_all (λ e. nat_lt e d) es) e))

module _ (k c : ℕ) (h : Tape) (s : IsSound h) (new : is_new (events_back h) c ≡ true) where
  fresh : IsFresh h c
  fresh = s.fresh c new

  was_done : IsDone h c
  was_done = s.done c fresh.closed

  opens_too : (d : ℕ) → is_open d h ≡ true → ((c == d) || is_open d h) ≡ true
  opens_too d o = or_right (c == d) (is_open d h) o

  abbrev accepted : Tape
  accepted = Noted (note.Turn k (event.Accept c)) ∷ h

  pub sound_accept : IsSound accepted
  sound_accept = record {
    paired = λ d. for_some (feed d h) (IsPaired accepted d) (λ f e.
        let p : IsPaired h d f = if_some (feed d h) (IsPaired h d) f e (s.paired d) in
        record { back = p.back; goes = p.goes; comes = p.comes; opened = opens_too d p.opened; few = p.few });
    done = λ d e. let q : IsDone h d = s.done d (or_none_right (c == d) (is_open d h) e) in record { out = q.out; feed = q.feed };
    rises = s.rises;
    fresh = λ d e.
        let f : IsFresh h d = s.fresh d (new_before (named (events_back h)) c d e) in
        record {
          closed = ap (λ b. b || is_open d h) (differs_below c d (new_above (named (events_back h)) c d e)) ∙ f.closed;
          after = f.after;
        };
    unpaired = λ d e. let f : IsFree h d = s.unpaired d e in record { opened = opens_too d f.opened; out = f.out; feed = f.feed };
  }

  module _ (cluster : ℕ) where
    abbrev joined : Tape
    joined = Noted (note.Turn k (event.Join c cluster)) ∷ h

    pub sound_join : IsSound joined
    sound_join = record {
      paired = λ d. for_some (feed d h) (IsPaired joined d) (λ f e.
          let p : IsPaired h d f = if_some (feed d h) (IsPaired h d) f e (s.paired d) in
          record { back = p.back; goes = p.goes; comes = p.comes; opened = opens_too d p.opened; few = p.few });
      done = λ d e. let q : IsDone h d = s.done d (or_none_right (c == d) (is_open d h) e) in record { out = q.out; feed = q.feed };
      rises = rises_more (free h) c s.rises fresh.after;
      fresh = λ d e.
          let f : IsFresh h d = s.fresh d (new_before (named (events_back h)) c d e) in
          let less : c < d = new_above (named (events_back h)) c d e in
          record {
            closed = ap (λ b. b || is_open d h) (differs_below c d less) ∙ f.closed;
            after = all_more (λ v. v < d) (free h) c f.after less;
          };
      unpaired = λ d e. by_case (c == d)
          (λ t. subst (λ v. IsFree joined v) (number_is c d t) (record { opened = ap (λ b. b || is_open c h) (same_number c); out = was_done.out; feed = was_done.feed }))
          (λ n. let f : IsFree h d = s.unpaired d (has_was (free h) c d e n) in record { opened = opens_too d f.opened; out = f.out; feed = f.feed });
    }

-- ---- a pair starts: a connection that is open, feeds nothing and isn't free, and the first free one
module _ (c d : ℕ) (ds : List ℕ) (h : Tape) (s : IsSound h) (some : free h ≡ d ∷ ds) (opened : is_open c h ≡ true) (idle : feed c h ≡ None) (apart : (c == d) ≡ false) (taken : has (free h) c ≡ false) where
  abbrev x : ℕ
  x = pairs h + 1

  abbrev begun : Tape
  begun = Noted (note.Start x c 0 d) ∷ h

  partner : IsFree h d
  partner = s.unpaired d (ap (λ l. has l d) some ∙ ap (λ b. b || has ds d) (same_number d))

  abbrev asks : Feed
  asks = record { flow = request x; to = d }

  abbrev answers : Feed
  answers = record { flow = response x; to = c }

  pub feed_c : feed c begun ≡ Some asks
  feed_c = ap (λ b. if b then Some asks else (if d == c then Some answers else feed c h)) (same_number c)

  pub feed_d : feed d begun ≡ Some answers
  feed_d = ap (λ b. if b then Some asks else (if d == d then Some answers else feed d h)) apart ∙ ap (λ b. if b then Some answers else feed d h) (same_number d)

  pub feed_other : (e : ℕ) → (c == e) ≡ false → (d == e) ≡ false → feed e begun ≡ feed e h
  feed_other e n m = ap (λ b. if b then Some asks else (if d == e then Some answers else feed e h)) n ∙ ap (λ b. if b then Some answers else feed e h) m

  -- who is in a pair was in it before, or is one of these two
  fed_apart : (e : ℕ) (f : Feed) → feed e h ≡ Some f → (c == e) ≡ false
  fed_apart e f k = by_case (c == e) (λ t. no_some (feed c h) f idle (ap (λ v. feed v h) (number_is c e t) ∙ k)) (λ n. n)

  fed_apart_too : (e : ℕ) (f : Feed) → feed e h ≡ Some f → (d == e) ≡ false
  fed_apart_too e f k = by_case (d == e) (λ t. no_some (feed d h) f partner.feed (ap (λ v. feed v h) (number_is d e t) ∙ k)) (λ n. n)

  goes_here : (b : Bool) → goes_to (record { exchange = x; back = b }) begun ≡ Some (if b then c else d)
  goes_here b = ap (λ t. if t then Some (if b then c else d) else goes_to (record { exchange = x; back = b }) h) (same_number x)

  less_than_new : (n y : ℕ) → y ≤ n → (n + 1 == y) ≡ false
  less_than_new n y l = grind (arith, nat_tests)

  goes_before : (f : FlowId) → f.exchange ≤ pairs h → goes_to f begun ≡ goes_to f h
  goes_before f l = ap (λ t. if t then Some (if f.back then c else d) else goes_to f h) (less_than_new (pairs h) f.exchange l)

  up_one : (n y : ℕ) → y ≤ n → y ≤ n + 1
  up_one n y l = omega (arith, l)

  at_most : (n : ℕ) → n ≤ n
  at_most n = omega arith

  paired_c : IsPaired begun c asks
  paired_c = record { back = feed_d; goes = goes_here false; comes = goes_here true; opened = opened; few = at_most x }

  paired_d : IsPaired begun d answers
  paired_d = record { back = feed_c; goes = goes_here true; comes = goes_here false; opened = partner.opened; few = at_most x }

  paired_other : (e : ℕ) (f : Feed) → feed e h ≡ Some f → IsPaired begun e f
  paired_other e f k =
      let p : IsPaired h e f = if_some (feed e h) (IsPaired h e) f k (s.paired e) in
      record {
        back = feed_other f.to (fed_apart f.to (record { flow = opposite f.flow; to = e }) p.back) (fed_apart_too f.to (record { flow = opposite f.flow; to = e }) p.back) ∙ p.back;
        goes = goes_before f.flow p.few ∙ p.goes;
        comes = goes_before (opposite f.flow) p.few ∙ p.comes;
        opened = p.opened;
        few = up_one (pairs h) f.flow.exchange p.few;
      }

  paired_at : (e : ℕ) (f : Feed) → feed e begun ≡ Some f → IsPaired begun e f
  paired_at e f k = by_case (c == e)
      (λ t. subst (λ v. IsPaired begun v f) (number_is c e t)
      (subst (λ v. IsPaired begun c v) (same_Some asks f (sym feed_c ∙ ap (λ v. feed v begun) (number_is c e t) ∙ k)) paired_c))
      (λ n. by_case (d == e)
      (λ t. subst (λ v. IsPaired begun v f) (number_is d e t)
      (subst (λ v. IsPaired begun d v) (same_Some answers f (sym feed_d ∙ ap (λ v. feed v begun) (number_is d e t) ∙ k)) paired_d))
      (λ m. paired_other e f (sym (feed_other e n m) ∙ k)))

  pub sound_start : IsSound begun
  sound_start = record {
    paired = λ e. for_some (feed e begun) (IsPaired begun e) (paired_at e);
    done = λ e k.
        let q : IsDone h e = s.done e k in
        record {
          out = q.out;
          feed = feed_other e (by_case (c == e) (λ t. not_both (is_open c h) opened (ap (λ v. is_open v h) (number_is c e t) ∙ k)) (λ n. n))
              (by_case (d == e) (λ t. not_both (is_open d h) partner.opened (ap (λ v. is_open v h) (number_is d e t) ∙ k)) (λ n. n)) ∙ q.feed;
        };
    rises = rises_filter (λ z. not (z == d)) (free h) s.rises;
    fresh = λ e k. let f : IsFresh h e = s.fresh e k in record { closed = f.closed; after = all_filter (λ v. v < e) (λ v. not (v == d)) (free h) f.after };
    unpaired = λ e k.
        let f : IsFree h e = s.unpaired e (has_left (free h) d e k) in
        record {
          opened = f.opened;
          out = f.out;
          feed = feed_other e (by_case (c == e) (λ t. not_both (has (free h) c) (ap (λ v. has (free h) v) (number_is c e t) ∙ has_left (free h) d e k) taken) (λ n. n))
              (differs_back e d (has_other (free h) d e k)) ∙ f.feed;
        };
  }
