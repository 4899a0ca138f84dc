-- What came for the one connection of a live pair is what was read from the other since the pair's start.
use Rattle.flow_notes.specs.declared.events.Event.{Event}
use Rattle.flow_notes.specs.declared.events.Job.{Job}
use Rattle.flow_notes.specs.declared.events.PlainEvent.{PlainEvent}
use Rattle.flow_notes.specs.declared.notes.Note.{Note}
use Rattle.relay_laws.specs.Lawful.{EachPaired}
use Rattle.relay_laws.specs.Order.{is_new, may_come, named}
use Rattle.relay_laws.specs.Pairs.{Tape, feed, free, is_open, opposite, pairs}
use Rattle.relay_laws.specs.Promise.{RelaysItsReads, read_in, was_lost}
use Rattle.relay_laws.specs.Sound.{IsPaired, IsSound}
use Rattle.relay_laws.specs.World.{entered, gone, out}
use Rattle.relay_laws.specs.declared.Feed.{Feed}
use Rattle.std.proofs.Common.{ap, append-nil, arith, refl, subst, sym, ◌∙◌}
use Rattle.std.proofs.lemmas.Bool.Decides.{nat_tests}
use Rattle.std.proofs.lemmas.Option.{same_Some}
use Rattle.std.specs.List.{AllByRecursion}
use Rattle.std.specs.Prelude.{Bool, List, None, Option, Some, [], drop, false, if◌then◌else◌, is_none, length, min, nat_lt, not, true, ℕ, ◌&&◌, ◌+◌, ◌++◌, ◌<◌, ◌==◌, ◌||◌, ◌∷◌, ◌≡◌, ◌≤◌}
use Rattle.tape_laws.specs.Dispatches.{events_back, has, is_some_of, turns}
use Rattle.tape_laws.specs.Flows.{request, response}
use Rattle.tape_laws.specs.History.{Noted, onto}
use Rattle.tcp_relay.proofs.Boards.{onto_append}
use Rattle.tcp_relay.proofs.Kept.{keeps}
use Rattle.tcp_relay.proofs.Lists.{has_left, has_was, not_in}
use Rattle.tcp_relay.proofs.Shapes.{close_if, leaves_none, leaves_some, loses_alone, loses_nothing, loses_pair, low, pairs_two, pause_if, reads_nothing, reads_some, refuses, resume_if, rose, turn_of}
use Rattle.tcp_relay.proofs.SoundTurns.{after, gone_turn, turned}
use Rattle.tcp_relay.proofs.Sounds.{feed_c, feed_d, feed_other, left_feed, new_before}
use Rattle.tcp_relay.proofs.Tests.{and_right, by_case, by_option, differs_above, for_some, if_some, no_some, not_both, number_is, same_number}
use Rattle.flow_rules.specs.declared.ids.BufferId.TheVariants as buffer
use Rattle.flow_notes.specs.declared.events.Event.TheVariants as event
use Rattle.flow_rules.specs.declared.causes.Cause.TheVariants as cause
use Rattle.flow_notes.specs.declared.notes.CloseCause.TheVariants as closed
use Rattle.flow_notes.specs.declared.notes.Note.TheVariants as note

-- what came for a connection is what was read from c, which feeds it
pub record Fed (h : Tape) (c : ℕ) (f : Feed) : Type 0 where
  pub is : entered f.to h ≡ read_in f.flow.exchange c h

-- a connection that is still to come was never lost, and nothing came for it
pub record Untouched (h : Tape) (c : ℕ) : Type 0 where
  pub kept : was_lost c h ≡ false
  pub none : entered c h ≡ []

pub record IsRelayed (h : Tape) : Type 0 where
  pub each : EachPaired (Fed h) h
  pub kept : (c : ℕ) → is_open c h ≡ true → was_lost c h ≡ false
  pub new : (c : ℕ) → is_new (events_back h) c ≡ true → Untouched h c
  pub idle : (c : ℕ) → has (free h) c ≡ true → entered c h ≡ []

-- ---- what keeps all this
pub record KeepsReads (h h' : Tape) : Type 0 where
  pub fed : (c : ℕ) (f : Feed) → feed c h' ≡ Some f → feed c h ≡ Some f
  pub opened : (c : ℕ) → is_open c h' ≡ true → is_open c h ≡ true
  pub lost : (c : ℕ) → was_lost c h ≡ false → is_open c h ≡ true → is_open c h' ≡ true → was_lost c h' ≡ false
  pub entered : (c : ℕ) → entered c h' ≡ entered c h
  pub read : (c : ℕ) (f : Feed) → feed c h' ≡ Some f → read_in f.flow.exchange c h' ≡ read_in f.flow.exchange c h
  pub new : (c : ℕ) → is_new (events_back h') c ≡ true → (is_new (events_back h) c ≡ true) × (was_lost c h' ≡ was_lost c h)
  pub free : (c : ℕ) → has (free h') c ≡ true → has (free h) c ≡ true

pub relayed_kept : (h h' : Tape) → KeepsReads h h' → IsRelayed h → IsRelayed h'
relayed_kept h h' k r = record {
  each = λ c. for_some (feed c h') (Fed h' c) (λ f e.
      record { is = k.entered f.to ∙ (if_some (feed c h) (Fed h c) f (k.fed c f e) (r.each c)).is ∙ sym (k.read c f e) });
  kept = λ c e. k.lost c (r.kept c (k.opened c e)) (k.opened c e) e;
  new = λ c e. let u : Untouched h c = r.new c (k.new c e).0 in record { kept = (k.new c e).1 ∙ u.kept; none = k.entered c ∙ u.none };
  idle = λ c e. k.entered c ∙ r.idle c (k.free c e);
}

-- ---- what it says of whole tapes
pub relays : (h : Tape) → IsSound h → IsRelayed h → RelaysItsReads h
relays h s r = λ c. for_some (feed c h) (λ f. gone f.to h ++ out f.to h ≡ read_in f.flow.exchange c h) (λ f e.
    let p : IsPaired h c f = if_some (feed c h) (IsPaired h c) f e (s.paired c) in
    let q : IsPaired h f.to (record { flow = opposite f.flow; to = c }) = if_some (feed f.to h) (IsPaired h f.to) (record { flow = opposite f.flow; to = c }) p.back (s.paired f.to) in
    keeps h f.to (r.kept f.to q.opened) ∙ (if_some (feed c h) (Fed h c) f e (r.each c)).is)

nothing_more : (xs : List ℕ) (b : Bool) (octets : List ℕ) → b ≡ false → xs ++ (if b then octets else []) ≡ xs
nothing_more xs true octets e = not_both true refl e
nothing_more xs false octets e = append-nil xs

-- ---- a connection comes
module _ (k c : ℕ) (h : Tape) (r : IsRelayed h) (new : is_new (events_back h) c ≡ true) where
  open_kept : (d : ℕ) → ((c == d) || is_open d h) ≡ true → was_lost d h ≡ false
  open_kept d e = by_case (c == d)
      (λ t. subst (λ y. was_lost y h ≡ false) (number_is c d t) (r.new c new).kept)
      (λ n. r.kept d (sym (ap (λ b. b || is_open d h) n) ∙ e))

  relayed_accept : IsRelayed (Noted (note.Turn k (event.Accept c)) ∷ h)
  relayed_accept = record {
    each = λ d. for_some (feed d h) (Fed (Noted (note.Turn k (event.Accept c)) ∷ h) d) (λ f e. record { is = (if_some (feed d h) (Fed h d) f e (r.each d)).is });
    kept = open_kept;
    new = λ d e. let u : Untouched h d = r.new d (new_before (named (events_back h)) c d e) in record { kept = u.kept; none = u.none };
    idle = λ d e. r.idle d e;
  }

  relayed_join : (j : ℕ) → IsRelayed (Noted (note.Turn k (event.Join c j)) ∷ h)
  relayed_join j = record {
    each = λ d. for_some (feed d h) (Fed (Noted (note.Turn k (event.Join c j)) ∷ h) d) (λ f e. record { is = (if_some (feed d h) (Fed h d) f e (r.each d)).is });
    kept = open_kept;
    new = λ d e. let u : Untouched h d = r.new d (new_before (named (events_back h)) c d e) in record { kept = u.kept; none = u.none };
    idle = λ d e. by_case (c == d) (λ t. subst (λ y. entered y h ≡ []) (number_is c d t) (r.new c new).none) (λ n. r.idle d (has_was (free h) c d e n));
  }

-- ---- a pair starts
module _ (c d : ℕ) (ds : List ℕ) (h : Tape) (s : IsSound h) (r : IsRelayed h) (some : free h ≡ d ∷ ds) (opened : is_open c h ≡ true) (idle : feed c h ≡ None)
    (apart : (c == d) ≡ false) (taken : has (free h) c ≡ false) (empty : entered c h ≡ []) where
  abbrev x : ℕ
  x = pairs h + 1

  abbrev begun : Tape
  begun = Noted (note.Start x c 0 d) ∷ h

  empty_too : entered d h ≡ []
  empty_too = r.idle d (ap (λ l. has l d) some ∙ ap (λ b. b || has ds d) (same_number d))

  read_none : (e : ℕ) → [] ≡ read_in x e begun
  read_none e = sym (ap (λ b. if b then [] else read_in x e h) (same_number x))

  not_before : (n y : ℕ) → y ≤ n → (n + 1 == y) ≡ false
  not_before n y l = grind (arith, nat_tests)

  fed_at : (e : ℕ) (f : Feed) → feed e begun ≡ Some f → Fed begun e f
  fed_at e f k = by_case (c == e)
      (λ t. subst (λ y. Fed begun y f) (number_is c e t)
      (subst (λ y. Fed begun c y) (same_Some (record { flow = request x; to = d }) f (sym (feed_c c d ds h s some opened idle apart taken) ∙ ap (λ y. feed y begun) (number_is c e t) ∙ k))
      (record { is = empty_too ∙ read_none c })))
      (λ n. by_case (d == e)
      (λ t. subst (λ y. Fed begun y f) (number_is d e t)
      (subst (λ y. Fed begun d y) (same_Some (record { flow = response x; to = c }) f (sym (feed_d c d ds h s some opened idle apart taken) ∙ ap (λ y. feed y begun) (number_is d e t) ∙ k))
      (record { is = empty ∙ read_none d })))
      (λ m.
      let was : feed e h ≡ Some f = sym (feed_other c d ds h s some opened idle apart taken e n m) ∙ k in
      let p : IsPaired h e f = if_some (feed e h) (IsPaired h e) f was (s.paired e) in
      record { is = (if_some (feed e h) (Fed h e) f was (r.each e)).is ∙ sym (ap (λ b. if b then [] else read_in f.flow.exchange e h) (not_before (pairs h) f.flow.exchange p.few)) }))

  relayed_start : IsRelayed begun
  relayed_start = record {
    each = λ e. for_some (feed e begun) (Fed begun e) (fed_at e);
    kept = λ e k. r.kept e k;
    new = λ e k. let u : Untouched h e = r.new e k in record { kept = u.kept; none = u.none };
    idle = λ e k. r.idle e (has_left (free h) d e k);
  }

-- ---- octets are read from d, and enter the write buffer of the connection that it feeds
module _ (k d : ℕ) (octets : List ℕ) (h : Tape) (s : IsSound h) (r : IsRelayed h) where
  abbrev read : Tape
  read = Noted (note.Turn k (event.Read d octets)) ∷ h

  relayed_nothing : feed d h ≡ None → IsRelayed read
  relayed_nothing e = relayed_kept h read (record {
    fed = λ c f q. q;
    opened = λ c q. q;
    lost = λ c q o p. q;
    entered = λ c. refl;
    read = λ c f q. nothing_more (read_in f.flow.exchange c h) (d == c) octets
        (by_case (d == c) (λ t. no_some (feed d h) f e (ap (λ y. feed y h) (number_is d c t) ∙ q)) (λ n. n));
    new = λ c q. (q, refl);
    free = λ c q. q;
  }) r

  module _ (f : Feed) (e : feed d h ≡ Some f) where
    pair : IsPaired h d f
    pair = if_some (feed d h) (IsPaired h d) f e (s.paired d)

    back : IsPaired h f.to (record { flow = opposite f.flow; to = d })
    back = if_some (feed f.to h) (IsPaired h f.to) (record { flow = opposite f.flow; to = d }) pair.back (s.paired f.to)

    abbrev brought : Bool → Tape
    brought b = onto (pause_if b f) (Noted (note.Arrive f.flow octets) ∷ read)

    enters : (b : Bool) (c : ℕ) → entered c (brought b) ≡ entered c h ++ (if f.to == c then octets else [])
    enters true c = ap (λ o. entered c h ++ (if is_some_of o c then octets else [])) pair.goes
    enters false c = ap (λ o. entered c h ++ (if is_some_of o c then octets else [])) pair.goes

    reads : (b : Bool) (x c : ℕ) → read_in x c (brought b) ≡ read_in x c h ++ (if d == c then octets else [])
    reads true x c = refl
    reads false x c = refl

    feeds : (b : Bool) (c : ℕ) → feed c (brought b) ≡ feed c h
    feeds true c = refl
    feeds false c = refl

    untold : (b : Bool) (c : ℕ) → (f.to == c) ≡ false → entered c (brought b) ≡ entered c h
    untold b c n = enters b c ∙ nothing_more (entered c h) (f.to == c) octets n

    -- another connection feeds another
    elsewhere : (c : ℕ) (g : Feed) → feed c h ≡ Some g → (d == c) ≡ false → (f.to == g.to) ≡ false
    elsewhere c g q n = by_case (f.to == g.to)
        (λ t. not_both (d == c) (subst (λ y. (d == y) ≡ true)
        (ap (λ (y : Feed). y.to) (same_Some (record { flow = opposite f.flow; to = d }) (record { flow = opposite g.flow; to = c })
        (sym pair.back ∙ ap (λ y. feed y h) (number_is f.to g.to t) ∙ (if_some (feed c h) (IsPaired h c) g q (s.paired c)).back))) (same_number d)) n)
        (λ m. m)

    fed_here : (b : Bool) (c : ℕ) (g : Feed) → feed c h ≡ Some g → Fed (brought b) c g
    fed_here b c g q = by_case (d == c)
        (λ t. let same : f ≡ g = same_Some f g (sym e ∙ ap (λ y. feed y h) (number_is d c t) ∙ q) in
        subst (λ y. Fed (brought b) y g) (number_is d c t) (subst (λ y. Fed (brought b) d y) same (record {
          is = enters b f.to ∙ ap (λ z. entered f.to h ++ (if z then octets else [])) (same_number f.to)
              ∙ ap (λ (y : List ℕ). y ++ octets) (if_some (feed d h) (Fed h d) f e (r.each d)).is
              ∙ sym (reads b f.flow.exchange d ∙ ap (λ z. read_in f.flow.exchange d h ++ (if z then octets else [])) (same_number d));
        })))
        (λ n. record {
          is = untold b g.to (elsewhere c g q n) ∙ (if_some (feed c h) (Fed h c) g q (r.each c)).is
              ∙ sym (reads b g.flow.exchange c ∙ nothing_more (read_in g.flow.exchange c h) (d == c) octets n);
        })

    open_there : (b : Bool) (c : ℕ) → is_open c (brought b) ≡ is_open c h
    open_there true c = refl
    open_there false c = refl

    lost_there : (b : Bool) (c : ℕ) → was_lost c (brought b) ≡ was_lost c h
    lost_there true c = refl
    lost_there false c = refl

    free_there : (b : Bool) → free (brought b) ≡ free h
    free_there true = refl
    free_there false = refl

    new_there : (b : Bool) (c : ℕ) → is_new (events_back (brought b)) c ≡ is_new (events_back h) c
    new_there true c = refl
    new_there false c = refl

    pub relayed_read : (b : Bool) → IsRelayed (brought b)
    relayed_read b = record {
      each = λ c. for_some (feed c (brought b)) (Fed (brought b) c) (λ g q. fed_here b c g (sym (feeds b c) ∙ q));
      kept = λ c q. lost_there b c ∙ r.kept c (sym (open_there b c) ∙ q);
      new = λ c q.
          let n : is_new (events_back h) c ≡ true = sym (new_there b c) ∙ q in
          let u : Untouched h c = r.new c n in
          record {
            kept = lost_there b c ∙ u.kept;
            none = untold b c (by_case (f.to == c) (λ t. not_both (is_open f.to h) back.opened (ap (λ y. is_open y h) (number_is f.to c t) ∙ (s.fresh c n).closed)) (λ m. m)) ∙ u.none;
          };
      idle = λ c q.
          let w : has (free h) c ≡ true = sym (ap (λ l. has l c) (free_there b)) ∙ q in
          untold b c (by_case (f.to == c) (λ t. no_some (feed c h) (record { flow = opposite f.flow; to = d }) (s.unpaired c w).feed (ap (λ y. feed y h) (sym (number_is f.to c t)) ∙ pair.back)) (λ m. m)) ∙ r.idle c w;
    }

-- ---- notes that change nothing of this
module _ (h : Tape) (r : IsRelayed h) where
  relayed_tick : (k now : ℕ) → IsRelayed (Noted (note.Turn k (event.Tick now)) ∷ h)
  relayed_tick k now = relayed_kept h (Noted (note.Turn k (event.Tick now)) ∷ h)
      (record { fed = λ c f q. q; opened = λ c q. q; lost = λ c q o p. q; entered = λ c. refl; read = λ c f q. refl; new = λ c q. (q, refl); free = λ c q. q }) r

  relayed_post : (k p n : ℕ) (job : Job) → IsRelayed (Noted (note.Turn k (event.Post p n job)) ∷ h)
  relayed_post k p n job = relayed_kept h (Noted (note.Turn k (event.Post p n job)) ∷ h)
      (record { fed = λ c f q. q; opened = λ c q. q; lost = λ c q o p. q; entered = λ c. refl; read = λ c f q. refl; new = λ c q. (q, refl); free = λ c q. q }) r

  relayed_obey : (k w : ℕ) (ps : List ℕ) → IsRelayed (Noted (note.Turn k (event.Obey w ps)) ∷ h)
  relayed_obey k w ps = relayed_kept h (Noted (note.Turn k (event.Obey w ps)) ∷ h)
      (record { fed = λ c f q. q; opened = λ c q. q; lost = λ c q o p. q; entered = λ c. refl; read = λ c f q. refl; new = λ c q. (q, refl); free = λ c q. q }) r

  relayed_plain : (k : ℕ) (p : PlainEvent) → IsRelayed (Noted (note.Turn k (event.Plain p)) ∷ h)
  relayed_plain k p = relayed_kept h (Noted (note.Turn k (event.Plain p)) ∷ h)
      (record { fed = λ c f q. q; opened = λ c q. q; lost = λ c q o p. q; entered = λ c. refl; read = λ c f q. refl; new = λ c q. (q, refl); free = λ c q. q }) r

  relayed_gone_turn : (k d : ℕ) → IsRelayed (Noted (note.Turn k (event.Gone d)) ∷ h)
  relayed_gone_turn k d = relayed_kept h (Noted (note.Turn k (event.Gone d)) ∷ h)
      (record { fed = λ c f q. q; opened = λ c q. q; lost = λ c q o p. q; entered = λ c. refl; read = λ c f q. refl; new = λ c q. (q, refl); free = λ c q. q }) r

  relayed_room_turn : (k d n : ℕ) → IsRelayed (Noted (note.Turn k (event.Room d n)) ∷ h)
  relayed_room_turn k d n = relayed_kept h (Noted (note.Turn k (event.Room d n)) ∷ h)
      (record { fed = λ c f q. q; opened = λ c q. q; lost = λ c q o p. q; entered = λ c. refl; read = λ c f q. refl; new = λ c q. (q, refl); free = λ c q. q }) r

  relayed_out : (d n : ℕ) → IsRelayed (Noted (note.Out d n) ∷ h)
  relayed_out d n = relayed_kept h (Noted (note.Out d n) ∷ h)
      (record { fed = λ c f q. q; opened = λ c q. q; lost = λ c q o p. q; entered = λ c. refl; read = λ c f q. refl; new = λ c q. (q, refl); free = λ c q. q }) r

  relayed_resume : (b : Bool) (o : Option Feed) (d : ℕ) → IsRelayed (onto (resume_if b o d) h)
  relayed_resume b None d = r
  relayed_resume true (Some f) d = relayed_kept h (Noted (note.Resume (opposite f.flow) (buffer.Write d)) ∷ h)
      (record { fed = λ c f q. q; opened = λ c q. q; lost = λ c q o p. q; entered = λ c. refl; read = λ c f q. refl; new = λ c q. (q, refl); free = λ c q. q }) r
  relayed_resume false (Some f) d = r

  relayed_close : (b : Bool) (d : ℕ) → IsRelayed (onto (close_if b d) h)
  relayed_close true d = relayed_kept h (Noted (note.Close d 0 closed.Drained) ∷ h) (record {
    fed = λ c f q. q;
    opened = λ c q. and_right (not (d == c)) (is_open c h) q;
    lost = λ c q o p. q;
    entered = λ c. refl;
    read = λ c f q. refl;
    new = λ c q. (q, refl);
    free = λ c q. has_left (free h) d c q;
  }) r
  relayed_close false d = r

  relayed_overload : (d : ℕ) → IsRelayed (Noted (note.Close d 0 closed.Overload) ∷ h)
  relayed_overload d = relayed_kept h (Noted (note.Close d 0 closed.Overload) ∷ h) (record {
    fed = λ c f q. q;
    opened = λ c q. and_right (not (d == c)) (is_open c h) q;
    lost = λ c q o p. q;
    entered = λ c. refl;
    read = λ c f q. refl;
    new = λ c q. (q, refl);
    free = λ c q. has_left (free h) d c q;
  }) r

  relayed_swept : (x d : ℕ) → IsRelayed (Noted (note.Gone x) ∷ Noted (note.Doom x (cause.ConnLost d)) ∷ h)
  relayed_swept x d = relayed_kept h (Noted (note.Gone x) ∷ Noted (note.Doom x (cause.ConnLost d)) ∷ h) (record {
    fed = λ c f q. left_feed x (feed c h) f q;
    opened = λ c q. q;
    lost = λ c q o p. q;
    entered = λ c. refl;
    read = λ c f q. refl;
    new = λ c q. (q, refl);
    free = λ c q. q;
  }) r

  -- a connection that is open is lost
  relayed_lost : (d : ℕ) → is_open d h ≡ true → IsSound h → IsRelayed (Noted (note.Close d 0 closed.Lost) ∷ h)
  relayed_lost d o s = relayed_kept h (Noted (note.Close d 0 closed.Lost) ∷ h) (record {
    fed = λ c f q. q;
    opened = λ c q. and_right (not (d == c)) (is_open c h) q;
    lost = λ c q w p. ap (λ b. b || was_lost c h) (shut (d == c) (is_open c h) p) ∙ q;
    entered = λ c. refl;
    read = λ c f q. refl;
    new = λ c q. (q, ap (λ b. b || was_lost c h) (by_case (d == c) (λ t. not_both (is_open d h) o (ap (λ y. is_open y h) (number_is d c t) ∙ (s.fresh c q).closed)) (λ n. n)));
    free = λ c q. has_left (free h) d c q;
  }) r
    where
      shut : (a b : Bool) → (not a && b) ≡ true → a ≡ false
      shut true b e = not_both true refl (sym e)
      shut false b e = refl

-- ---- a whole dispatch
module _ (limit : ℕ) (h : Tape) (s : IsSound h) (r : IsRelayed h) where
  relayed_accept_by : (c : ℕ) (new : is_new (events_back h) c ≡ true) (fs : List ℕ) → free h ≡ fs → IsRelayed (after limit (event.Accept c) h)
  relayed_accept_by c new [] e = subst (λ (ns : List Note). IsRelayed (onto ns h)) (sym (refuses limit h c e))
      (relayed_overload (Noted (turn_of limit h (event.Accept c)) ∷ h) (relayed_accept (turns h + 1) c h r new) c)
  relayed_accept_by c new (d ∷ ds) e = subst (λ (ns : List Note). IsRelayed (onto ns h)) (sym (pairs_two limit h c d ds e))
      (relayed_start c d ds (Noted (turn_of limit h (event.Accept c)) ∷ h) (turned limit h s c new) (relayed_accept (turns h + 1) c h r new) e
      (ap (λ b. b || is_open c h) (same_number c)) (s.done c (s.fresh c new).closed).feed
      (differs_above d c (subst (λ fs. AllByRecursion (λ y. y < c) fs) e (s.fresh c new).after).0) (not_in (free h) c (s.fresh c new).after) (r.new c new).none)

  relayed_after_read : (c : ℕ) (octets : List ℕ) → IsRelayed (after limit (event.Read c octets) h)
  relayed_after_read c octets = by_option (feed c h)
      (λ e. subst (λ (ns : List Note). IsRelayed (onto ns h)) (sym (reads_nothing limit h c octets e)) (relayed_nothing (turns h + 1) c octets h s r e))
      (λ f e. subst (λ (ns : List Note). IsRelayed (onto ns h)) (sym (reads_some limit h c octets f e (if_some (feed c h) (IsPaired h c) f e (s.paired c)).goes))
      (relayed_read (turns h + 1) c octets h s r f e (rose limit h c octets f)))

  module _ (c n : ℕ) where
    abbrev m : ℕ
    m = min n (length (out c h))

    abbrev left : Tape
    left = Noted (note.Out c m) ∷ Noted (turn_of limit h (event.Room c n)) ∷ h

    relayed_after_room : IsRelayed (after limit (event.Room c n) h)
    relayed_after_room = by_case (nat_lt 0 m)
        (λ e. subst (λ (ns : List Note). IsRelayed (onto ns h)) (sym (leaves_some limit h c n m refl e))
        (subst (λ y. IsRelayed y) (sym (onto_append (resume_if (low limit h c n m) (feed c h) c) (close_if (length (drop m (out c h)) == 0 && is_none (feed c h)) c) left))
        (relayed_close (onto (resume_if (low limit h c n m) (feed c h) c) left)
        (relayed_resume left (relayed_out (Noted (turn_of limit h (event.Room c n)) ∷ h) (relayed_room_turn h r (turns h + 1) c n) c m) (low limit h c n m) (feed c h) c)
        (length (drop m (out c h)) == 0 && is_none (feed c h)) c)))
        (λ e. subst (λ (ns : List Note). IsRelayed (onto ns h)) (sym (leaves_none limit h c n e)) (relayed_room_turn h r (turns h + 1) c n))

  module _ (c : ℕ) where
    lost_here : is_open c h ≡ true → IsRelayed (Noted (note.Close c 0 closed.Lost) ∷ Noted (turn_of limit h (event.Gone c)) ∷ h)
    lost_here o = relayed_lost (Noted (turn_of limit h (event.Gone c)) ∷ h) (relayed_gone_turn h r (turns h + 1) c) c o (gone_turn h s (turns h + 1) c)

    relayed_after_gone : IsRelayed (after limit (event.Gone c) h)
    relayed_after_gone = by_case (is_open c h)
        (λ o. by_option (feed c h)
        (λ e. subst (λ (ns : List Note). IsRelayed (onto ns h)) (sym (loses_alone limit h c o e)) (lost_here o))
        (λ f e. subst (λ (ns : List Note). IsRelayed (onto ns h)) (sym (loses_pair limit h c f o e))
        (relayed_close (Noted (note.Gone f.flow.exchange) ∷ Noted (note.Doom f.flow.exchange (cause.ConnLost c)) ∷ Noted (note.Close c 0 closed.Lost) ∷ Noted (turn_of limit h (event.Gone c)) ∷ h)
        (relayed_swept (Noted (note.Close c 0 closed.Lost) ∷ Noted (turn_of limit h (event.Gone c)) ∷ h) (lost_here o) f.flow.exchange c)
        (length (out f.to h) == 0) f.to)))
        (λ o. subst (λ (ns : List Note). IsRelayed (onto ns h)) (sym (loses_nothing limit h c o (s.done c o).feed)) (relayed_gone_turn h r (turns h + 1) c))

  pub relayed_after : (e : Event) → may_come (events_back h) e ≡ true → IsRelayed (after limit e h)
  relayed_after (event.Accept c) new = relayed_accept_by c new (free h) refl
  relayed_after (event.Join c j) new = relayed_join (turns h + 1) c h r new j
  relayed_after (event.Read c octets) new = relayed_after_read c octets
  relayed_after (event.Gone c) new = relayed_after_gone c
  relayed_after (event.Room c n) new = relayed_after_room c n
  relayed_after (event.Tick now) new = relayed_tick h r (turns h + 1) now
  relayed_after (event.Post p n job) new = relayed_post h r (turns h + 1) p n job
  relayed_after (event.Obey w ps) new = relayed_obey h r (turns h + 1) w ps
  relayed_after (event.Plain p) new = relayed_plain h r (turns h + 1) p

pub relayed_first : IsRelayed []
relayed_first = record {
  each = λ c. tt;
  kept = λ c e. cc;
  new = λ c e. record { kept = refl; none = refl };
  idle = λ c e. cc;
}
