-- What each whole dispatch leaves true of a tape's connections.
use Rattle.flow_notes.specs.declared.events.Event.{Event}
use Rattle.flow_notes.specs.declared.notes.Note.{Note}
use Rattle.relay_laws.specs.Dispatch.{dispatch_notes}
use Rattle.relay_laws.specs.Order.{may_come, is_new}
use Rattle.relay_laws.specs.Pairs.{Tape, feed, free, is_open, opposite, unless_doomed}
use Rattle.relay_laws.specs.Sound.{IsFresh, IsPaired, IsSound}
use Rattle.relay_laws.specs.World.{out}
use Rattle.relay_laws.specs.declared.Feed.{Feed}
use Rattle.std.proofs.Common.{ap, arith, refl, subst, suc, sym, ◌∙◌}
use Rattle.std.proofs.lemmas.Bool.Decides.{nat_tests}
use Rattle.std.specs.List.{AllByRecursion}
use Rattle.std.specs.Prelude.{Bool, List, None, Option, Some, [], drop, false, if◌then◌else◌, is_none, length, min, nat_lt, true, ℕ, ◌&&◌, ◌+◌, ◌<◌, ◌==◌, ◌||◌, ◌∷◌, ◌≡◌}
use Rattle.tape_laws.specs.Dispatches.{events_back, turns}
use Rattle.tape_laws.specs.History.{Noted, onto}
use Rattle.tcp_relay.proofs.Boards.{onto_append}
use Rattle.tcp_relay.proofs.Lists.{not_in}
use Rattle.tcp_relay.proofs.Shapes.{close_if, leaves_none, leaves_some, loses_alone, loses_nothing, loses_pair, low, pairs_two, pause_if, reads_nothing, reads_some, refuses, resume_if, rose, turn_of}
use Rattle.tcp_relay.proofs.Sounds.{sound_accept, sound_arrive, sound_close, sound_doom, sound_join, sound_kept, sound_out, sound_start}
use Rattle.tcp_relay.proofs.Tests.{and_left, and_right, by_case, by_option, differs_above, if_some, if_true, not_both, same_number}
use Rattle.flow_rules.specs.declared.ids.BufferId.TheVariants as buffer
use Rattle.flow_notes.specs.declared.events.Event.TheVariants as event
use Rattle.flow_notes.specs.declared.events.PlainEvent.{PlainEvent}
use Rattle.flow_notes.specs.declared.events.Job.{Job}
use Rattle.flow_rules.specs.declared.causes.Cause.TheVariants as cause
use Rattle.flow_notes.specs.declared.notes.CloseCause.TheVariants as closed
use Rattle.flow_notes.specs.declared.notes.Note.TheVariants as note

-- after a dispatch of this event
abbrev pub after : ℕ → Event → Tape → Tape
after limit e h = onto (dispatch_notes limit e h) h

-- ---- notes that change nothing of this
module _ (h : Tape) (s : IsSound h) where
  pub read_turn : (k c : ℕ) (octets : List ℕ) → IsSound (Noted (note.Turn k (event.Read c octets)) ∷ h)
  read_turn k c octets = sound_kept h (Noted (note.Turn k (event.Read c octets)) ∷ h)
      (record { opened = λ d. refl; out = λ d e n. e; feed = λ d. refl; goes = λ f. refl; free = refl; pairs = refl; new = λ d e. e }) s

  pub room_turn : (k c n : ℕ) → IsSound (Noted (note.Turn k (event.Room c n)) ∷ h)
  room_turn k c n = sound_kept h (Noted (note.Turn k (event.Room c n)) ∷ h)
      (record { opened = λ d. refl; out = λ d e n. e; feed = λ d. refl; goes = λ f. refl; free = refl; pairs = refl; new = λ d e. e }) s

  pub gone_turn : (k c : ℕ) → IsSound (Noted (note.Turn k (event.Gone c)) ∷ h)
  gone_turn k c = sound_kept h (Noted (note.Turn k (event.Gone c)) ∷ h)
      (record { opened = λ d. refl; out = λ d e n. e; feed = λ d. refl; goes = λ f. refl; free = refl; pairs = refl; new = λ d e. e }) s

  pub tick_turn : (k now : ℕ) → IsSound (Noted (note.Turn k (event.Tick now)) ∷ h)
  tick_turn k now = sound_kept h (Noted (note.Turn k (event.Tick now)) ∷ h)
      (record { opened = λ d. refl; out = λ d e n. e; feed = λ d. refl; goes = λ f. refl; free = refl; pairs = refl; new = λ d e. e }) s

  pub post_turn : (k p n : ℕ) (job : Job) → IsSound (Noted (note.Turn k (event.Post p n job)) ∷ h)
  post_turn k p n job = sound_kept h (Noted (note.Turn k (event.Post p n job)) ∷ h)
      (record { opened = λ d. refl; out = λ d e n. e; feed = λ d. refl; goes = λ f. refl; free = refl; pairs = refl; new = λ d e. e }) s

  pub obey_turn : (k v : ℕ) (ps : List ℕ) → IsSound (Noted (note.Turn k (event.Obey v ps)) ∷ h)
  obey_turn k v ps = sound_kept h (Noted (note.Turn k (event.Obey v ps)) ∷ h)
      (record { opened = λ d. refl; out = λ d e n. e; feed = λ d. refl; goes = λ f. refl; free = refl; pairs = refl; new = λ d e. e }) s

  pub plain_turn : (k : ℕ) (e : PlainEvent) → IsSound (Noted (note.Turn k (event.Plain e)) ∷ h)
  plain_turn k e = sound_kept h (Noted (note.Turn k (event.Plain e)) ∷ h)
      (record { opened = λ d. refl; out = λ d e n. e; feed = λ d. refl; goes = λ f. refl; free = refl; pairs = refl; new = λ d e. e }) s

  pub paused : (b : Bool) (f : Feed) → IsSound (onto (pause_if b f) h)
  paused true f = sound_kept h (Noted (note.Pause f.flow (buffer.Write f.to)) ∷ h)
      (record { opened = λ d. refl; out = λ d e n. e; feed = λ d. refl; goes = λ g. refl; free = refl; pairs = refl; new = λ d e. e }) s
  paused false f = s

  pub resumed : (b : Bool) (o : Option Feed) (c : ℕ) → IsSound (onto (resume_if b o c) h)
  resumed b None c = s
  resumed true (Some f) c = sound_kept h (Noted (note.Resume (opposite f.flow) (buffer.Write c)) ∷ h)
      (record { opened = λ d. refl; out = λ d e n. e; feed = λ d. refl; goes = λ g. refl; free = refl; pairs = refl; new = λ d e. e }) s
  resumed false (Some f) c = s

  swept : (x : ℕ) → IsSound (Noted (note.Gone x) ∷ h)
  swept x = sound_kept h (Noted (note.Gone x) ∷ h)
      (record { opened = λ d. refl; out = λ d e n. e; feed = λ d. refl; goes = λ g. refl; free = refl; pairs = refl; new = λ d e. e }) s

  -- a connection is closed as drained, or isn't
  pub drained : (b : Bool) (c : ℕ) → (b ≡ true → feed c h ≡ None) → (b ≡ true → out c h ≡ []) → IsSound (onto (close_if b c) h)
  drained true c none empty = sound_close c 0 closed.Drained h (none refl) (empty refl) (λ d e. e) s
  drained false c none empty = s

-- ---- what a resume leaves
resumed_out : (b : Bool) (o : Option Feed) (c d : ℕ) (h : Tape) → out d (onto (resume_if b o c) h) ≡ out d h
resumed_out b None c d h = refl
resumed_out true (Some f) c d h = refl
resumed_out false (Some f) c d h = refl

resumed_feed : (b : Bool) (o : Option Feed) (c d : ℕ) (h : Tape) → feed d (onto (resume_if b o c) h) ≡ feed d h
resumed_feed b None c d h = refl
resumed_feed true (Some f) c d h = refl
resumed_feed false (Some f) c d h = refl

some_length : (n : ℕ) → (suc n == 0) ≡ false
some_length n = grind (arith, nat_tests)

none_left : (xs : List ℕ) → (length xs == 0) ≡ true → xs ≡ []
none_left [] e = refl
none_left (x ∷ xs) e = not_both (length (x ∷ xs) == 0) e (some_length (length xs))

feeds_none : (o : Option Feed) → is_none o ≡ true → o ≡ None
feeds_none None e = refl
feeds_none (Some f) e = cc

module _ (limit : ℕ) (h : Tape) (s : IsSound h) where
  -- ---- a connection comes
  pub after_join : (c cluster : ℕ) → is_new (events_back h) c ≡ true → IsSound (after limit (event.Join c cluster) h)
  after_join c cluster new = sound_join (turns h + 1) c h s new cluster

  module _ (c : ℕ) (new : is_new (events_back h) c ≡ true) where
    pub fresh : IsFresh h c
    fresh = s.fresh c new

    pub turned : IsSound (Noted (turn_of limit h (event.Accept c)) ∷ h)
    turned = sound_accept (turns h + 1) c h s new

    after_accept_by : (fs : List ℕ) → free h ≡ fs → IsSound (after limit (event.Accept c) h)
    after_accept_by [] e = subst (λ (ns : List Note). IsSound (onto ns h)) (sym (refuses limit h c e))
        (sound_close c 0 closed.Overload (Noted (turn_of limit h (event.Accept c)) ∷ h) (s.done c fresh.closed).feed (s.done c fresh.closed).out (λ d k. k) turned)
    after_accept_by (d ∷ ds) e = subst (λ (ns : List Note). IsSound (onto ns h)) (sym (pairs_two limit h c d ds e))
        (sound_start c d ds (Noted (turn_of limit h (event.Accept c)) ∷ h) turned e (ap (λ b. b || is_open c h) (same_number c)) (s.done c fresh.closed).feed
        (differs_above d c (subst (λ fs. AllByRecursion (λ v. v < c) fs) e fresh.after).0) (not_in (free h) c fresh.after))

    pub after_accept : IsSound (after limit (event.Accept c) h)
    after_accept = after_accept_by (free h) refl

  -- ---- octets come
  module _ (c : ℕ) (octets : List ℕ) where
    after_read_some : (f : Feed) → feed c h ≡ Some f → IsSound (after limit (event.Read c octets) h)
    after_read_some f e =
        let pair : IsPaired h c f = if_some (feed c h) (IsPaired h c) f e (s.paired c) in
        subst (λ (ns : List Note). IsSound (onto ns h)) (sym (reads_some limit h c octets f e pair.goes))
        (paused (Noted (note.Arrive f.flow octets) ∷ Noted (turn_of limit h (event.Read c octets)) ∷ h)
        (sound_arrive f.flow octets f.to (record { flow = opposite f.flow; to = c }) (Noted (turn_of limit h (event.Read c octets)) ∷ h) pair.goes pair.back
        (read_turn h s (turns h + 1) c octets))
        (rose limit h c octets f) f)

    pub after_read : IsSound (after limit (event.Read c octets) h)
    after_read = by_option (feed c h)
        (λ e. subst (λ (ns : List Note). IsSound (onto ns h)) (sym (reads_nothing limit h c octets e)) (read_turn h s (turns h + 1) c octets))
        after_read_some

  -- ---- octets leave
  module _ (c n : ℕ) where
    abbrev m : ℕ
    m = min n (length (out c h))

    abbrev gone : Tape
    gone = Noted (note.Out c m) ∷ Noted (turn_of limit h (event.Room c n)) ∷ h

    out_at : out c gone ≡ drop m (out c h)
    out_at = ap (λ b. drop (if b then m else 0) (out c h)) (same_number c)

    abbrev is_last : Bool
    is_last = length (drop m (out c h)) == 0 && is_none (feed c h)

    after_room_some : nat_lt 0 m ≡ true → IsSound (after limit (event.Room c n) h)
    after_room_some e = subst (λ (ns : List Note). IsSound (onto ns h)) (sym (leaves_some limit h c n m refl e))
        (subst (λ v. IsSound v) (sym (onto_append (resume_if (low limit h c n m) (feed c h) c) (close_if is_last c) gone))
        (drained (onto (resume_if (low limit h c n m) (feed c h) c) gone)
        (resumed gone (sound_out c m (Noted (turn_of limit h (event.Room c n)) ∷ h) (room_turn h s (turns h + 1) c n)) (low limit h c n m) (feed c h) c)
        is_last c
        (λ t. resumed_feed (low limit h c n m) (feed c h) c c gone ∙ feeds_none (feed c h) (and_right (length (drop m (out c h)) == 0) (is_none (feed c h)) t))
        (λ t. resumed_out (low limit h c n m) (feed c h) c c gone ∙ out_at
        ∙ none_left (drop m (out c h)) (and_left (length (drop m (out c h)) == 0) (is_none (feed c h)) t))))

    pub after_room : IsSound (after limit (event.Room c n) h)
    after_room = by_case (nat_lt 0 m) after_room_some
        (λ e. subst (λ (ns : List Note). IsSound (onto ns h)) (sym (leaves_none limit h c n e)) (room_turn h s (turns h + 1) c n))

  -- ---- a connection is lost
  module _ (c : ℕ) where
    abbrev lost : Tape
    lost = Noted (note.Close c 0 closed.Lost) ∷ Noted (turn_of limit h (event.Gone c)) ∷ h

    out_lost : out c lost ≡ []
    out_lost = if_true (c == c) [] (out c h) (same_number c)

    lost_if : (b : Bool) (x : List ℕ) → x ≡ [] → (if b then [] else x) ≡ []
    lost_if true x e = refl
    lost_if false x e = e

    after_gone_alone : is_open c h ≡ true → feed c h ≡ None → IsSound (after limit (event.Gone c) h)
    after_gone_alone o e = subst (λ (ns : List Note). IsSound (onto ns h)) (sym (loses_alone limit h c o e))
        (sound_close c 0 closed.Lost (Noted (turn_of limit h (event.Gone c)) ∷ h) e out_lost (λ d k. lost_if (c == d) (out d h) k) (gone_turn h s (turns h + 1) c))

    module _ (f : Feed) (o : is_open c h ≡ true) (e : feed c h ≡ Some f) where
      abbrev x : ℕ
      x = f.flow.exchange

      pair : IsPaired h c f
      pair = if_some (feed c h) (IsPaired h c) f e (s.paired c)

      -- the doom and the close are told in either order
      abbrev doomed_first : Tape
      doomed_first = Noted (note.Doom x (cause.ConnLost c)) ∷ Noted (turn_of limit h (event.Gone c)) ∷ h

      abbrev doomed : Tape
      doomed = Noted (note.Doom x (cause.ConnLost c)) ∷ lost

      feed_gone : feed c doomed ≡ None
      feed_gone = ap (λ v. unless_doomed x v) e ∙ ap (λ b. if b then None else Some f) (same_number x)

      feed_partner : feed f.to doomed ≡ None
      feed_partner = ap (λ v. unless_doomed x v) pair.back ∙ ap (λ b. if b then None else Some (record { flow = opposite f.flow; to = c })) (same_number x)

      sound_first : IsSound (Noted (note.Close c 0 closed.Lost) ∷ doomed_first)
      sound_first = sound_close c 0 closed.Lost doomed_first feed_gone out_lost (λ d k. lost_if (c == d) (out d h) k)
          (sound_doom x (cause.ConnLost c) (Noted (turn_of limit h (event.Gone c)) ∷ h) (gone_turn h s (turns h + 1) c))

      sound_doomed : IsSound doomed
      sound_doomed = sound_kept (Noted (note.Close c 0 closed.Lost) ∷ doomed_first) doomed
          (record { opened = λ d. refl; out = λ d k n. k; feed = λ d. refl; goes = λ g. refl; free = refl; pairs = refl; new = λ d k. k }) sound_first

      partner_out : (length (out f.to h) == 0) ≡ true → out f.to doomed ≡ []
      partner_out t = lost_if (c == f.to) (out f.to h) (none_left (out f.to h) t)

      after_gone_pair : IsSound (after limit (event.Gone c) h)
      after_gone_pair = subst (λ (ns : List Note). IsSound (onto ns h)) (sym (loses_pair limit h c f o e))
          (drained (Noted (note.Gone x) ∷ doomed) (swept doomed sound_doomed x) (length (out f.to h) == 0) f.to (λ t. feed_partner) partner_out)

    pub after_gone : IsSound (after limit (event.Gone c) h)
    after_gone = by_case (is_open c h)
        (λ o. by_option (feed c h) (after_gone_alone o) (λ f e. after_gone_pair f o e))
        (λ o. subst (λ (ns : List Note). IsSound (onto ns h)) (sym (loses_nothing limit h c o (s.done c o).feed)) (gone_turn h s (turns h + 1) c))

  -- ---- any event
  pub sound_after : (e : Event) → may_come (events_back h) e ≡ true → IsSound (after limit e h)
  sound_after (event.Accept c) new = after_accept c new
  sound_after (event.Join c cluster) new = after_join c cluster new
  sound_after (event.Read c octets) new = after_read c octets
  sound_after (event.Gone c) new = after_gone c
  sound_after (event.Room c n) new = after_room c n
  sound_after (event.Tick now) new = tick_turn h s (turns h + 1) now
  sound_after (event.Post p n job) new = post_turn h s (turns h + 1) p n job
  sound_after (event.Obey v ps) new = obey_turn h s (turns h + 1) v ps
  sound_after (event.Plain e) new = plain_turn h s (turns h + 1) e
