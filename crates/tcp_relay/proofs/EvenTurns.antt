-- Each whole dispatch keeps pauses and resumes even.
use Rattle.flow_notes.specs.declared.events.Event.{Event}
use Rattle.flow_notes.specs.declared.events.Job.{Job}
use Rattle.flow_notes.specs.declared.events.PlainEvent.{PlainEvent}
use Rattle.flow_notes.specs.declared.notes.Note.{Note}
use Rattle.relay_laws.specs.Order.{is_new, may_come}
use Rattle.relay_laws.specs.Pairs.{Tape, feed, free, is_open, opposite, pairs, unless_doomed}
use Rattle.relay_laws.specs.Promise.{PausesItsReader}
use Rattle.relay_laws.specs.Session.{is_held, reads_paused}
use Rattle.relay_laws.specs.Sound.{IsDone, IsFree, IsPaired, IsSound}
use Rattle.relay_laws.specs.Watermark.{above}
use Rattle.relay_laws.specs.World.{out}
use Rattle.relay_laws.specs.declared.Feed.{Feed}
use Rattle.std.proofs.Common.{ap, arith, refl, subst, sym, ◌∙◌}
use Rattle.std.proofs.lemmas.Option.{same_Some}
use Rattle.std.specs.List.{AllByRecursion}
use Rattle.std.specs.Prelude.{Bool, List, None, Option, Some, [], drop, false, if◌then◌else◌, is_none, length, min, nat_lt, true, ℕ, ◌&&◌, ◌+◌, ◌-◌, ◌<◌, ◌==◌, ◌||◌, ◌∷◌, ◌≡◌}
use Rattle.tape_laws.specs.Dispatches.{events_back, has, turns}
use Rattle.tape_laws.specs.Flows.{request, response}
use Rattle.tape_laws.specs.History.{Noted, onto}
use Rattle.tape_laws.specs.Pauses.{count, pauses, resumes}
use Rattle.tcp_relay.proofs.Boards.{onto_append}
use Rattle.tcp_relay.proofs.Evens.{Even, IsEven, Unused, even_kept, even_read, even_room, one_if}
use Rattle.tcp_relay.proofs.Flags.{above_empty, above_same}
use Rattle.tcp_relay.proofs.Lists.{not_in}
use Rattle.tcp_relay.proofs.Shapes.{close_if, leaves_none, leaves_some, loses_alone, loses_nothing, loses_pair, low, pairs_two, reads_nothing, reads_some, refuses, resume_if, turn_of}
use Rattle.tcp_relay.proofs.SoundTurns.{after, read_turn, room_turn, turned}
use Rattle.tcp_relay.proofs.Sounds.{feed_c, feed_d, feed_other, left_feed}
use Rattle.tcp_relay.proofs.Tests.{by_case, by_option, differs_above, for_some, if_some, no_some, number_is, same_number}
use Rattle.flow_notes.specs.declared.events.Event.TheVariants as event
use Rattle.flow_rules.specs.declared.causes.Cause.TheVariants as cause
use Rattle.flow_notes.specs.declared.notes.CloseCause.TheVariants as closed
use Rattle.flow_notes.specs.declared.notes.Note.TheVariants as note

-- ---- turn notes, and closes of connections for which nothing waits
module _ (limit : ℕ) (h : Tape) (v : IsEven limit h) where
  pub even_turn_accept : (k c : ℕ) → IsEven limit (Noted (note.Turn k (event.Accept c)) ∷ h)
  even_turn_accept k c = even_kept limit h (Noted (note.Turn k (event.Accept c)) ∷ h) (record {
    fed = λ d f e. e;
    level = λ d f e. above_same limit d (Noted (note.Turn k (event.Accept c))) h refl;
    pauses = λ g. refl;
    resumes = λ g. refl;
    pairs = refl;
  }) v

  even_turn_join : (k c j : ℕ) → IsEven limit (Noted (note.Turn k (event.Join c j)) ∷ h)
  even_turn_join k c j = even_kept limit h (Noted (note.Turn k (event.Join c j)) ∷ h) (record {
    fed = λ d f e. e;
    level = λ d f e. above_same limit d (Noted (note.Turn k (event.Join c j))) h refl;
    pauses = λ g. refl;
    resumes = λ g. refl;
    pairs = refl;
  }) v

  even_turn_read : (k c : ℕ) (octets : List ℕ) → IsEven limit (Noted (note.Turn k (event.Read c octets)) ∷ h)
  even_turn_read k c octets = even_kept limit h (Noted (note.Turn k (event.Read c octets)) ∷ h) (record {
    fed = λ d f e. e;
    level = λ d f e. above_same limit d (Noted (note.Turn k (event.Read c octets))) h refl;
    pauses = λ g. refl;
    resumes = λ g. refl;
    pairs = refl;
  }) v

  even_turn_room : (k c n : ℕ) → IsEven limit (Noted (note.Turn k (event.Room c n)) ∷ h)
  even_turn_room k c n = even_kept limit h (Noted (note.Turn k (event.Room c n)) ∷ h) (record {
    fed = λ d f e. e;
    level = λ d f e. above_same limit d (Noted (note.Turn k (event.Room c n))) h refl;
    pauses = λ g. refl;
    resumes = λ g. refl;
    pairs = refl;
  }) v

  even_turn_gone : (k c : ℕ) → IsEven limit (Noted (note.Turn k (event.Gone c)) ∷ h)
  even_turn_gone k c = even_kept limit h (Noted (note.Turn k (event.Gone c)) ∷ h) (record {
    fed = λ d f e. e;
    level = λ d f e. above_same limit d (Noted (note.Turn k (event.Gone c))) h refl;
    pauses = λ g. refl;
    resumes = λ g. refl;
    pairs = refl;
  }) v

  even_turn_tick : (k now : ℕ) → IsEven limit (Noted (note.Turn k (event.Tick now)) ∷ h)
  even_turn_tick k now = even_kept limit h (Noted (note.Turn k (event.Tick now)) ∷ h) (record {
    fed = λ d f e. e;
    level = λ d f e. above_same limit d (Noted (note.Turn k (event.Tick now))) h refl;
    pauses = λ g. refl;
    resumes = λ g. refl;
    pairs = refl;
  }) v

  even_turn_post : (k p n : ℕ) (job : Job) → IsEven limit (Noted (note.Turn k (event.Post p n job)) ∷ h)
  even_turn_post k p n job = even_kept limit h (Noted (note.Turn k (event.Post p n job)) ∷ h) (record {
    fed = λ d f e. e;
    level = λ d f e. above_same limit d (Noted (note.Turn k (event.Post p n job))) h refl;
    pauses = λ g. refl;
    resumes = λ g. refl;
    pairs = refl;
  }) v

  even_turn_obey : (k w : ℕ) (ps : List ℕ) → IsEven limit (Noted (note.Turn k (event.Obey w ps)) ∷ h)
  even_turn_obey k w ps = even_kept limit h (Noted (note.Turn k (event.Obey w ps)) ∷ h) (record {
    fed = λ d f e. e;
    level = λ d f e. above_same limit d (Noted (note.Turn k (event.Obey w ps))) h refl;
    pauses = λ g. refl;
    resumes = λ g. refl;
    pairs = refl;
  }) v

  even_turn_plain : (k : ℕ) (p : PlainEvent) → IsEven limit (Noted (note.Turn k (event.Plain p)) ∷ h)
  even_turn_plain k p = even_kept limit h (Noted (note.Turn k (event.Plain p)) ∷ h) (record {
    fed = λ d f e. e;
    level = λ d f e. above_same limit d (Noted (note.Turn k (event.Plain p))) h refl;
    pauses = λ g. refl;
    resumes = λ g. refl;
    pairs = refl;
  }) v

  even_close : (b : Bool) (c : ℕ) → IsEven limit (onto (close_if b c) h)
  even_close true c = even_kept limit h (Noted (note.Close c 0 closed.Drained) ∷ h) (record {
    fed = λ d f e. e;
    level = λ d f e. above_same limit d (Noted (note.Close c 0 closed.Drained)) h refl;
    pauses = λ g. refl;
    resumes = λ g. refl;
    pairs = refl;
  }) v
  even_close false c = v

  even_overload : (c : ℕ) → IsEven limit (Noted (note.Close c 0 closed.Overload) ∷ h)
  even_overload c = even_kept limit h (Noted (note.Close c 0 closed.Overload) ∷ h) (record {
    fed = λ d f e. e;
    level = λ d f e. above_same limit d (Noted (note.Close c 0 closed.Overload)) h refl;
    pauses = λ g. refl;
    resumes = λ g. refl;
    pairs = refl;
  }) v

-- ---- a pair starts
module _ (limit c d : ℕ) (ds : List ℕ) (h : Tape) (s : IsSound h) (v : IsEven limit h) (some : free h ≡ d ∷ ds) (opened : is_open c h ≡ true) (idle : feed c h ≡ None)
    (apart : (c == d) ≡ false) (taken : has (free h) c ≡ false) (empty : out c h ≡ []) (empty_too : out d h ≡ []) where
  abbrev x : ℕ
  x = pairs h + 1

  abbrev begun : Tape
  begun = Noted (note.Start x c 0 d) ∷ h

  above_next : (n : ℕ) → n < n + 1
  above_next n = omega arith

  above_later : (n y : ℕ) → n + 1 < y → n < y
  above_later n y l = omega (arith, l)

  none : (b : Bool) → Unused h (record { exchange = x; back = b })
  none b = v.unused (record { exchange = x; back = b }) (above_next (pairs h))

  even_new : (b : Bool) (e : ℕ) → out e h ≡ [] → pauses (record { exchange = x; back = b }) h ≡ resumes (record { exchange = x; back = b }) h + one_if (above limit e begun)
  even_new b e k = (none b).pauses ∙ (λ i. sym (none b).resumes i + one_if (sym (above_empty limit e begun k) i))

  even_at : (e : ℕ) (f : Feed) → feed e begun ≡ Some f → Even limit begun e f
  even_at e f k = by_case (c == e)
      (λ t. subst (λ y. Even limit begun y f) (number_is c e t)
      (subst (λ y. Even limit begun c y) (same_Some (record { flow = request x; to = d }) f (sym (feed_c c d ds h s some opened idle apart taken) ∙ ap (λ y. feed y begun) (number_is c e t) ∙ k))
      (record { even = even_new true c empty })))
      (λ n. by_case (d == e)
      (λ t. subst (λ y. Even limit begun y f) (number_is d e t)
      (subst (λ y. Even limit begun d y) (same_Some (record { flow = response x; to = c }) f (sym (feed_d c d ds h s some opened idle apart taken) ∙ ap (λ y. feed y begun) (number_is d e t) ∙ k))
      (record { even = even_new false d empty_too })))
      (λ m.
      let p : Even limit h e f = if_some (feed e h) (Even limit h e) f (sym (feed_other c d ds h s some opened idle apart taken e n m) ∙ k) (v.each e) in
      record { even = p.even ∙ ap (λ t. resumes (opposite f.flow) h + one_if t) (sym (above_same limit e (Noted (note.Start x c 0 d)) h refl)) }))

  pub even_start : IsEven limit begun
  even_start = record {
    each = λ e. for_some (feed e begun) (Even limit begun e) (even_at e);
    unused = λ g l. let u : Unused h g = v.unused g (above_later (pairs h) g.exchange l) in record { pauses = u.pauses; resumes = u.resumes };
  }

module _ (limit : ℕ) (h : Tape) (s : IsSound h) (v : IsEven limit h) where
  even_accept_by : (c : ℕ) (new : is_new (events_back h) c ≡ true) (fs : List ℕ) → free h ≡ fs → IsEven limit (after limit (event.Accept c) h)
  even_accept_by c new [] e = subst (λ (ns : List Note). IsEven limit (onto ns h)) (sym (refuses limit h c e))
      (even_overload limit (Noted (turn_of limit h (event.Accept c)) ∷ h) (even_turn_accept limit h v (turns h + 1) c) c)
  even_accept_by c new (d ∷ ds) e =
      let q : IsDone h c = s.done c (s.fresh c new).closed in
      let p : IsFree h d = s.unpaired d (ap (λ l. has l d) e ∙ ap (λ b. b || has ds d) (same_number d)) in
      subst (λ (ns : List Note). IsEven limit (onto ns h)) (sym (pairs_two limit h c d ds e))
      (even_start limit c d ds (Noted (turn_of limit h (event.Accept c)) ∷ h) (turned limit h s c new) (even_turn_accept limit h v (turns h + 1) c) e
      (ap (λ b. b || is_open c h) (same_number c)) q.feed
      (differs_above d c (subst (λ fs. AllByRecursion (λ y. y < c) fs) e (s.fresh c new).after).0) (not_in (free h) c (s.fresh c new).after) q.out p.out)

  even_read_some : (c : ℕ) (octets : List ℕ) → is_held limit (feed c h) h ≡ false → (f : Feed) → feed c h ≡ Some f → IsEven limit (after limit (event.Read c octets) h)
  even_read_some c octets free f e =
      let pair : IsPaired h c f = if_some (feed c h) (IsPaired h c) f e (s.paired c) in
      let calm : above limit f.to (Noted (turn_of limit h (event.Read c octets)) ∷ h) ≡ false =
      above_same limit f.to (Noted (turn_of limit h (event.Read c octets))) h refl ∙ sym (ap (λ (o : Option Feed). is_held limit o h) e) ∙ free in
      subst (λ (ns : List Note). IsEven limit (onto ns h)) (sym (reads_some limit h c octets f e pair.goes))
      (even_read limit (Noted (turn_of limit h (event.Read c octets)) ∷ h) (read_turn h s (turns h + 1) c octets) (even_turn_read limit h v (turns h + 1) c octets) f octets c pair.goes pair.back calm)

  even_after_read : (c : ℕ) (octets : List ℕ) → is_held limit (feed c h) h ≡ false → IsEven limit (after limit (event.Read c octets) h)
  even_after_read c octets free = by_option (feed c h)
      (λ e. subst (λ (ns : List Note). IsEven limit (onto ns h)) (sym (reads_nothing limit h c octets e)) (even_turn_read limit h v (turns h + 1) c octets))
      (even_read_some c octets free)

  module _ (c n : ℕ) where
    abbrev m : ℕ
    m = min n (length (out c h))

    abbrev turned_room : Tape
    turned_room = Noted (turn_of limit h (event.Room c n)) ∷ h

    even_room_some : nat_lt 0 m ≡ true → IsEven limit (after limit (event.Room c n) h)
    even_room_some e = subst (λ (ns : List Note). IsEven limit (onto ns h)) (sym (leaves_some limit h c n m refl e))
        (subst (λ y. IsEven limit y)
        (sym (onto_append (resume_if (low limit h c n m) (feed c h) c) (close_if (length (drop m (out c h)) == 0 && is_none (feed c h)) c) (Noted (note.Out c m) ∷ turned_room)))
        (even_close limit (onto (resume_if (low limit h c n m) (feed c h) c) (Noted (note.Out c m) ∷ turned_room))
        (even_room limit turned_room (room_turn h s (turns h + 1) c n) (even_turn_room limit h v (turns h + 1) c n) c m)
        (length (drop m (out c h)) == 0 && is_none (feed c h)) c))

    even_after_room : IsEven limit (after limit (event.Room c n) h)
    even_after_room = by_case (nat_lt 0 m) even_room_some
        (λ e. subst (λ (ns : List Note). IsEven limit (onto ns h)) (sym (leaves_none limit h c n e)) (even_turn_room limit h v (turns h + 1) c n))

  module _ (c : ℕ) where
    abbrev turned_gone : Tape
    turned_gone = Noted (turn_of limit h (event.Gone c)) ∷ h

    abbrev lost : Tape
    lost = Noted (note.Close c 0 closed.Lost) ∷ turned_gone

    above_lost : (d : ℕ) → (c == d) ≡ false → above limit d lost ≡ above limit d h
    above_lost d n = above_same limit d (Noted (note.Close c 0 closed.Lost)) turned_gone (ap (λ b. if b then [] else out d h) n)
        ∙ above_same limit d (Noted (turn_of limit h (event.Gone c))) h refl

    even_alone : is_open c h ≡ true → feed c h ≡ None → IsEven limit (after limit (event.Gone c) h)
    even_alone o e = subst (λ (ns : List Note). IsEven limit (onto ns h)) (sym (loses_alone limit h c o e))
        (even_kept limit h lost (record {
          fed = λ d f k. k;
          level = λ d f k. above_lost d (by_case (c == d) (λ t. no_some (feed c h) f e (ap (λ y. feed y h) (number_is c d t) ∙ k)) (λ n. n));
          pauses = λ g. refl;
          resumes = λ g. refl;
          pairs = refl;
        }) v)

    module _ (f : Feed) (o : is_open c h ≡ true) (e : feed c h ≡ Some f) where
      abbrev y : ℕ
      y = f.flow.exchange

      abbrev swept : Tape
      swept = Noted (note.Gone y) ∷ Noted (note.Doom y (cause.ConnLost c)) ∷ lost

      nobody : feed c swept ≡ None
      nobody = ap (λ w. unless_doomed y w) e ∙ ap (λ b. if b then None else Some f) (same_number y)

      above_swept : (d : ℕ) (g : Feed) → feed d swept ≡ Some g → above limit d swept ≡ above limit d h
      above_swept d g k = above_same limit d (Noted (note.Gone y)) (Noted (note.Doom y (cause.ConnLost c)) ∷ lost) refl
          ∙ above_same limit d (Noted (note.Doom y (cause.ConnLost c))) lost refl
          ∙ above_lost d (by_case (c == d) (λ t. no_some (feed c swept) g nobody (ap (λ w. feed w swept) (number_is c d t) ∙ k)) (λ n. n))

      even_pair : IsEven limit (after limit (event.Gone c) h)
      even_pair = subst (λ (ns : List Note). IsEven limit (onto ns h)) (sym (loses_pair limit h c f o e))
          (even_close limit swept
          (even_kept limit h swept (record { fed = λ d g k. left_feed y (feed d h) g k; level = above_swept; pauses = λ g. refl; resumes = λ g. refl; pairs = refl }) v)
          (length (out f.to h) == 0) f.to)

    even_after_gone : IsEven limit (after limit (event.Gone c) h)
    even_after_gone = by_case (is_open c h)
        (λ o. by_option (feed c h) (even_alone o) (λ f e. even_pair f o e))
        (λ o. subst (λ (ns : List Note). IsEven limit (onto ns h)) (sym (loses_nothing limit h c o (s.done c o).feed)) (even_turn_gone limit h v (turns h + 1) c))

  -- ---- any event
  pub even_after : (e : Event) → may_come (events_back h) e ≡ true → reads_paused limit e h ≡ false → IsEven limit (after limit e h)
  even_after (event.Accept c) new calm = even_accept_by c new (free h) refl
  even_after (event.Join c j) new free = even_turn_join limit h v (turns h + 1) c j
  even_after (event.Read c octets) new free = even_after_read c octets free
  even_after (event.Gone c) new free = even_after_gone c
  even_after (event.Room c n) new free = even_after_room c n
  even_after (event.Tick now) new free = even_turn_tick limit h v (turns h + 1) now
  even_after (event.Post p n job) new free = even_turn_post limit h v (turns h + 1) p n job
  even_after (event.Obey w ps) new free = even_turn_obey limit h v (turns h + 1) w ps
  even_after (event.Plain p) new free = even_turn_plain limit h v (turns h + 1) p

-- ---- what that says of the count
one_less : (p r o : ℕ) → p ≡ r + o → p - r ≡ o
one_less p r o e = omega (arith, e)

pub exact : (limit : ℕ) (h : Tape) → IsEven limit h → PausesItsReader limit h
exact limit h v = λ c. for_some (feed c h) (λ f. count (opposite f.flow) h ≡ (if above limit c h then 1 else 0)) (λ f e.
    one_less (pauses (opposite f.flow) h) (resumes (opposite f.flow) h) (one_if (above limit c h)) (if_some (feed c h) (Even limit h c) f e (v.each c)).even)
