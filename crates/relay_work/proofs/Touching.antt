-- After an event the connections are told of two at most: of all others what the relay knows is as it was.
use Rattle.flow_notes.specs.declared.events.Event.{Event}
use Rattle.relay_laws.specs.Dispatch.{dispatch_notes}
use Rattle.relay_laws.specs.Order.{named}
use Rattle.relay_laws.specs.Pairs.{Tape, feed, free, is_open, opposite}
use Rattle.relay_laws.specs.Sound.{IsFresh, IsPaired, IsSound}
use Rattle.relay_laws.specs.Watermark.{above}
use Rattle.relay_laws.specs.declared.Feed.{Feed}
use Rattle.relay_work.proofs.Leaving.{IsAt, accepted_feeds, first_of, gone_closed, lines_kept, other_of, others_open, read_opens, room_opens}
use Rattle.relay_work.specs.Carrying.{IsOf, Ready}
use Rattle.relay_work.specs.Dispatching.{MayTake, Taken}
use Rattle.relay_work.specs.Settling.{Unsettled, list_of, others, peer_in}
use Rattle.std.proofs.Common.{ap, refl, subst, sym, ◌∙◌}
use Rattle.std.proofs.lemmas.Option.{same_Some}
use Rattle.std.specs.List.{AllByRecursion}
use Rattle.std.specs.Prelude.{Bool, List, None, Option, Some, [], false, is_some, not, true, ℕ, ◌<◌, ◌==◌, ◌||◌, ◌∷◌, ◌≡◌, ◌≤◌}
use Rattle.tape_laws.specs.Dispatches.{has, is_some_of}
use Rattle.tape_laws.specs.History.{onto}
use Rattle.tcp_relay.proofs.Boards.{feeds_seen}
use Rattle.tcp_relay.proofs.Sessions.{tape_sound}
use Rattle.tcp_relay.proofs.Tests.{by_case, differs_below, if_some, not_both, number_is, or_none_left, or_none_right, same_number}
use Rattle.tcp_relay.proofs.TieAll.{tied}
use Rattle.tcp_relay.specs.Board.{accepted, board_after}
use Rattle.tcp_relay.specs.Lines.{Line, feeds_of}
use Rattle.tcp_relay.specs.Rests.{goes_on}
use Rattle.tcp_relay.specs.Stands.{line_if, line_of, tape_board}
use Rattle.tcp_relay.specs.Ties.{Tied}
use Rattle.tcp_relay.specs.declared.relay.Relay.{Relay}
use Rattle.worker_ports.specs.Wires.{Seen, is_live}
use Rattle.flow_notes.specs.declared.events.Event.TheVariants as event

-- ---- a connection, as its line shows it
open_if : (o : Bool) (x : List ℕ) (l : ℕ) (a : Bool) (f : Option Feed) → is_some (line_if o x l a f) ≡ o
open_if true x l a f = refl
open_if false x l a f = refl

pub open_of : (limit c : ℕ) (h : Tape) → is_some (line_of limit c h) ≡ is_open c h
open_of limit c h = open_if (is_open c h) _ limit (above limit c h) (feed c h)

abbrev above_in : Option Line → Bool
above_in None = false
above_in (Some l) = l.above

above_if : (o : Bool) (x : List ℕ) (l : ℕ) (a : Bool) (f : Option Feed) → o ≡ true → above_in (line_if o x l a f) ≡ a
above_if true x l a f e = refl
above_if false x l a f e = cc

above_of : (limit c : ℕ) (h : Tape) → is_open c h ≡ true → above_in (line_of limit c h) ≡ above limit c h
above_of limit c h e = above_if (is_open c h) _ limit (above limit c h) (feed c h) e

-- ---- pairs
feeds_back : (k : Tape) (c : ℕ) (f : Feed) → IsSound k → feed c k ≡ Some f → IsPaired k c f
feeds_back k c f s e = if_some (feed c k) (IsPaired k c) f e (s.paired c)

-- one connection alone feeds another
partner : (k : Tape) (c d : ℕ) (f g : Feed) → IsSound k → feed c k ≡ Some f → feed d k ≡ Some g → f.to ≡ g.to → c ≡ d
partner k c d f g s e i t =
    let p : IsPaired k c f = feeds_back k c f s e in
    let q : IsPaired k d g = feeds_back k d g s i in
    ap (λ (x : Feed). x.to) (same_Some _ _ (sym p.back ∙ ap (λ (n : ℕ). feed n k) t ∙ q.back))

-- ---- the one or two that are told
has_others : (o now : Option ℕ) (d : ℕ) → has (others o now) d ≡ false → is_some_of o d ≡ false
has_others None now d e = refl
has_others (Some c) now d e = or_none_left (c == d) false e

one_of : (c d : ℕ) → has (c ∷ []) d ≡ true → c ≡ d
one_of c d e = number_is c d (right (c == d) e)
  where
    right : (b : Bool) → (b || false) ≡ true → b ≡ true
    right true x = refl
    right false x = x

module _ (limit : ℕ) (names : List (List ℕ)) (old new : Relay) (e : Event) (h : Tape) (m : MayTake limit names old e h) (t : Taken limit names e h new) where
  abbrev next : Tape
  next = onto (dispatch_notes limit e h) h

  sound : IsSound h
  sound = tape_sound limit names h m.rests.tape

  sound_next : IsSound next
  sound_next = tape_sound limit names next t.rests.tape

  tie : Tied limit e h
  tie = tied limit h names e sound m.may.2 m.may.0

  line_next : (d : ℕ) → line_of limit d next ≡ (board_after e (tape_board limit h)).lines d
  line_next d = λ i. (tie.board i).lines d

  abbrev told : ℕ → List ℕ
  told c = c ∷ others (peer_in (feed c h)) (peer_in (feed c next))

  not_first : (c d : ℕ) → has (told c) d ≡ false → (c == d) ≡ false
  not_first c d n = or_none_left (c == d) (has (others (peer_in (feed c h)) (peer_in (feed c next))) d) n

  not_other : (c d : ℕ) → has (told c) d ≡ false → has (others (peer_in (feed c h)) (peer_in (feed c next))) d ≡ false
  not_other c d n = or_none_right (c == d) (has (others (peer_in (feed c h)) (peer_in (feed c next))) d) n

  -- the one that was fed is told
  fed_told : (c d : ℕ) → has (told c) d ≡ false → is_some_of (peer_in (feeds_of (line_of limit c h))) d ≡ false
  fed_told c d n =
      ap (λ (f : Option Feed). is_some_of (peer_in f) d) (feeds_seen limit c h sound)
      ∙ has_others (peer_in (feed c h)) (peer_in (feed c next)) d (not_other c d n)

-- so is the first free one, which an accepted connection is paired with
module _ (limit : ℕ) (names : List (List ℕ)) (old new : Relay) (c : ℕ) (h : Tape) (m : MayTake limit names old (event.Accept c) h)
    (t : Taken limit names (event.Accept c) h new) where
  abbrev follow : Tape
  follow = onto (dispatch_notes limit (event.Accept c) h) h

  whole : IsSound h
  whole = sound limit names old new (event.Accept c) h m t

  fresh : IsFresh h c
  fresh = whole.fresh c m.may.2

  none : peer_in (feed c h) ≡ None
  none = ap (λ (g : Option Feed). peer_in g) (whole.done c fresh.closed).feed

  some : (f : ℕ) (fs : List ℕ) → free h ≡ f ∷ fs → peer_in (feed c follow) ≡ Some f
  some f fs e =
      ap (λ (g : Option Feed). peer_in g) (sym (feeds_seen limit c follow (sound_next limit names old new (event.Accept c) h m t)))
      ∙ ap (λ (l : Option Line). peer_in (feeds_of l)) (line_next limit names old new (event.Accept c) h m t c
      ∙ ap (λ (v : List ℕ). (accepted c v (tape_board limit h)).lines c) e)
      ∙ accepted_feeds c f fs (tape_board limit h) (differs_below f c (subst (λ (v : List ℕ). AllByRecursion (λ x. x < c) v) e fresh.after).0)

  first_if : (d : ℕ) (fs : List ℕ) → free h ≡ fs → has (told limit names old new (event.Accept c) h m t c) d ≡ false → is_some_of (first_of fs) d ≡ false
  first_if d [] e n = refl
  first_if d (f ∷ fs) e n =
      let o : has (others (peer_in (feed c h)) (peer_in (feed c follow))) d ≡ false = not_other limit names old new (event.Accept c) h m t c d n in
      let same : has (others (peer_in (feed c h)) (peer_in (feed c follow))) d ≡ has (f ∷ []) d = λ i. has (others (none i) (some f fs e i)) d in
      or_none_left (f == d) false (sym same ∙ o)

  first_told : (d : ℕ) → has (told limit names old new (event.Accept c) h m t c) d ≡ false → is_some_of (first_of (free h)) d ≡ false
  first_told d n = first_if d (free h) refl n

other_told : (limit : ℕ) (names : List (List ℕ)) (old new : Relay) (e : Event) (h : Tape) (m : MayTake limit names old e h) (t : Taken limit names e h new)
    (c d : ℕ) → IsAt e c → has (told limit names old new e h m t c) d ≡ false → is_some_of (other_of e (tape_board limit h)) d ≡ false
other_told limit names old new (event.Accept a) h m t c d at n =
    first_told limit names old new a h m t d (subst (λ x. has (told limit names old new (event.Accept a) h m t x) d ≡ false) (sym at) n)
other_told limit names old new (event.Join a cluster) h m t c d at n = refl
other_told limit names old new (event.Read a octets) h m t c d at n =
    fed_told limit names old new (event.Read a octets) h m t a d (subst (λ x. has (told limit names old new (event.Read a octets) h m t x) d ≡ false) (sym at) n)
other_told limit names old new (event.Room a k) h m t c d at n = refl
other_told limit names old new (event.Gone a) h m t c d at n =
    fed_told limit names old new (event.Gone a) h m t a d (subst (λ x. has (told limit names old new (event.Gone a) h m t x) d ≡ false) (sym at) n)
other_told limit names old new (event.Tick now) h m t c d at n = refl
other_told limit names old new (event.Post p k job) h m t c d at n = refl
other_told limit names old new (event.Obey v ps) h m t c d at n = refl
other_told limit names old new (event.Plain v) h m t c d at n = refl

module _ (limit : ℕ) (names : List (List ℕ)) (old new : Relay) (e : Event) (h : Tape) (m : MayTake limit names old e h) (t : Taken limit names e h new) (c : ℕ) (at : IsAt e c) where
  abbrev after : Tape
  after = onto (dispatch_notes limit e h) h

  abbrev some_told : List ℕ
  some_told = c ∷ others (peer_in (feed c h)) (peer_in (feed c after))

  before_sound : IsSound h
  before_sound = sound limit names old new e h m t

  after_sound : IsSound after
  after_sound = sound_next limit names old new e h m t

  -- ---- the line of one that isn't told
  line_kept : (d : ℕ) → has some_told d ≡ false → line_of limit d after ≡ line_of limit d h
  line_kept d n =
      line_next limit names old new e h m t d
      ∙ lines_kept e c d (tape_board limit h) at (not_first limit names old new e h m t c d n) (other_told limit names old new e h m t c d at n)

  pub open_kept : (d : ℕ) → has some_told d ≡ false → is_open d after ≡ is_open d h
  open_kept d n = sym (open_of limit d after) ∙ ap (λ (l : Option Line). is_some l) (line_kept d n) ∙ open_of limit d h

  feed_kept : (d : ℕ) → has some_told d ≡ false → feed d after ≡ feed d h
  feed_kept d n = sym (feeds_seen limit d after after_sound) ∙ ap (λ (l : Option Line). feeds_of l) (line_kept d n) ∙ feeds_seen limit d h before_sound

  -- ---- nor is the one that it feeds
  module _ (d : ℕ) (f : Feed) (n : has some_told d ≡ false) (g : feed d h ≡ Some f) where
    apart : (c == d) ≡ false
    apart = not_first limit names old new e h m t c d n

    back : feed f.to h ≡ Some (record { flow = opposite f.flow; to = d })
    back = (feeds_back h d f before_sound g).back

    other : has (others (peer_in (feed c h)) (peer_in (feed c after))) d ≡ false
    other = not_other limit names old new e h m t c d n

    same_not : {A : Type 0} → c ≡ d → A
    same_not s = not_both (c == d) (ap (λ (x : ℕ). x == d) s ∙ same_number d) apart

    -- it isn't the connection of the event, which would feed it back and have it told
    not_here : (c == f.to) ≡ false
    not_here = by_case (c == f.to)
        (λ y.
        let fed : peer_in (feed c h) ≡ Some d = ap (λ (x : Option Feed). peer_in x) (ap (λ (x : ℕ). feed x h) (number_is c f.to y) ∙ back) in
        let same : has (others (peer_in (feed c h)) (peer_in (feed c after))) d ≡ has (d ∷ []) d = ap (λ (o : Option ℕ). has (others o (peer_in (feed c after))) d) fed in
        not_both (has (d ∷ []) d) (ap (λ (b : Bool). b || false) (same_number d)) (sym same ∙ other))
        (λ z. z)

    -- nor one that the connection of the event feeds or fed
    not_fed : (o : Option Feed) → feed c h ≡ o → has (others (peer_in o) (peer_in (feed c after))) f.to ≡ true → ⊥
    not_fed (Some k) i y = same_not (partner h c d k f before_sound i g (one_of k.to f.to y))
    not_fed None i y = not_now (feed c after) refl y
      where
        not_now : (o : Option Feed) → feed c after ≡ o → has (list_of (peer_in o)) f.to ≡ true → ⊥
        not_now None i y = not_both false y refl
        not_now (Some k) i y = same_not (partner after c d k f after_sound i (feed_kept d n ∙ g) (one_of k.to f.to y))

    target : has some_told f.to ≡ false
    target = by_case (has some_told f.to)
        (λ y. absurd (not_fed (feed c h) refl (behind (c == f.to) _ not_here y)))
        (λ z. z)
      where
        behind : (a b : Bool) → a ≡ false → (a || b) ≡ true → b ≡ true
        behind true b x y = cc
        behind false b x y = y

    above_kept : above limit f.to after ≡ above limit f.to h
    above_kept =
        let opened : is_open f.to h ≡ true = (feeds_back h f.to (record { flow = opposite f.flow; to = d }) before_sound back).opened in
        sym (above_of limit f.to after (open_kept f.to target ∙ opened)) ∙ ap (λ (l : Option Line). above_in l) (line_kept f.to target) ∙ above_of limit f.to h opened

  goes_if : (d : ℕ) (o : Option Feed) → has some_told d ≡ false → feed d h ≡ o → goes_on limit o after ≡ goes_on limit o h
  goes_if d None n g = refl
  goes_if d (Some f) n g = ap (λ (b : Bool). not b) (above_kept d f n g)

  pub goes_kept : (d : ℕ) → has some_told d ≡ false → goes_on limit (feed d after) after ≡ goes_on limit (feed d h) h
  goes_kept d n = ap (λ (o : Option Feed). goes_on limit o after) (feed_kept d n) ∙ goes_if d (feed d h) n refl

  -- ---- what is open was open before
  pub open_before : (d : ℕ) → (c == d) ≡ false → is_open d after ≡ true → is_open d h ≡ true
  open_before d n o =
      sym (open_of limit d h)
      ∙ others_open e c d (tape_board limit h) at n (ap (λ (l : Option Line). is_some l) (sym (line_next limit names old new e h m t d)) ∙ open_of limit d after ∙ o)

-- the connection of the event is live, where it is open
open_here : (limit : ℕ) (names : List (List ℕ)) (old new : Relay) (seen : Seen) (e : Event) (h : Tape) (m : MayTake limit names old e h)
    (t : Taken limit names e h new) (c : ℕ) → IsOf e c seen h → is_open c (onto (dispatch_notes limit e h) h) ≡ true → is_live c seen ≡ true
open_here limit names old new seen (event.Accept a) h m t c of o = of.1
open_here limit names old new seen (event.Join a cluster) h m t c of o = of.1
open_here limit names old new seen (event.Read a octets) h m t c of o =
    of.1 ∙ sym (open_of limit c h) ∙ read_opens a c octets (tape_board limit h)
    (ap (λ (l : Option Line). is_some l) (sym (line_next limit names old new (event.Read a octets) h m t c)) ∙ open_of limit c (onto (dispatch_notes limit (event.Read a octets) h) h) ∙ o)
open_here limit names old new seen (event.Room a n) h m t c of o =
    of.1 ∙ sym (open_of limit c h) ∙ room_opens a c n (tape_board limit h)
    (ap (λ (l : Option Line). is_some l) (sym (line_next limit names old new (event.Room a n) h m t c)) ∙ open_of limit c (onto (dispatch_notes limit (event.Room a n) h) h) ∙ o)
open_here limit names old new seen (event.Gone a) h m t c of o =
    not_both (is_open a (onto (dispatch_notes limit (event.Gone a) h) h))
    (ap (λ (x : ℕ). is_open x (onto (dispatch_notes limit (event.Gone a) h) h)) of.0 ∙ o)
    (sym (open_of limit a (onto (dispatch_notes limit (event.Gone a) h) h)) ∙ ap (λ (l : Option Line). is_some l) (line_next limit names old new (event.Gone a) h m t a) ∙ gone_closed a (tape_board limit h))
open_here limit names old new seen (event.Tick now) h m t c of o = absurd of
open_here limit names old new seen (event.Post p k job) h m t c of o = absurd of
open_here limit names old new seen (event.Obey v ps) h m t c of o = absurd of
open_here limit names old new seen (event.Plain v) h m t c of o = absurd of

is_at : (e : Event) (c : ℕ) (seen : Seen) (h : Tape) → IsOf e c seen h → IsAt e c
is_at (event.Accept a) c seen h of = of.0
is_at (event.Join a cluster) c seen h of = of.0
is_at (event.Read a octets) c seen h of = of.0
is_at (event.Room a n) c seen h of = of.0
is_at (event.Gone a) c seen h of = of.0
is_at (event.Tick now) c seen h of = of
is_at (event.Post p k job) c seen h of = of
is_at (event.Obey v ps) c seen h of = of
is_at (event.Plain v) c seen h of = of

-- ---- after the dispatch two are to be told at most
module _ (limit : ℕ) (names : List (List ℕ)) (old new : Relay) (seen : Seen) (c : ℕ) (e : Event) (h : Tape) (r : Ready limit names old seen c e h)
    (t : Taken limit names e h new) where
  abbrev later : Tape
  later = onto (dispatch_notes limit e h) h

  abbrev untold : List ℕ
  untold = c ∷ others (peer_in (feed c h)) (peer_in (feed c later))

  at_it : IsAt e c
  at_it = is_at e c seen h r.of

  first : (d : ℕ) → has untold d ≡ false → (c == d) ≡ false
  first d n = not_first limit names old new e h r.takes t c d n

  live_kept : (d : ℕ) → has untold d ≡ false → is_live d seen ≡ is_open d later
  live_kept d n = r.live d (first d n) ∙ sym (open_kept limit names old new e h r.takes t c at_it d n)

  pub unsettled : Unsettled limit names new seen untold later
  unsettled = record {
    rests = t.rests;
    clusters = r.clusters;
    newer = subst (λ (v : List Event). AllByRecursion (λ d. d ≤ seen.greatest) (named v)) (sym t.shown) r.newer;
    opened = λ d o. by_case (c == d)
        (λ s. let same : c ≡ d = number_is c d s in
        ap (λ (x : ℕ). is_live x seen) (sym same) ∙ open_here limit names old new seen e h r.takes t c r.of (ap (λ (x : ℕ). is_open x later) same ∙ o))
        (λ n. r.live d n ∙ open_before limit names old new e h r.takes t c at_it d n o);
    live = live_kept;
    held = λ d n l. r.held d (first d n) l ∙ sym (ap (λ (b : Bool). not b) (goes_kept limit names old new e h r.takes t c at_it d n));
  }
