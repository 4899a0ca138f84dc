-- What leaves the interests of a relay as they were.
use Rattle.flow_notes.specs.declared.events.Event.{Event}
use Rattle.relay_laws.specs.Dispatch.{dispatch_notes}
use Rattle.relay_laws.specs.Order.{MayCome}
use Rattle.relay_laws.specs.Pairs.{Tape, feed, is_open, opposite}
use Rattle.relay_laws.specs.Sound.{IsPaired, IsSound}
use Rattle.relay_laws.specs.Watermark.{above}
use Rattle.relay_laws.specs.World.{out}
use Rattle.relay_laws.specs.declared.Feed.{Feed}
use Rattle.std.proofs.Common.{ap, arith, refl, subst, sym, ◌∙◌}
use Rattle.std.proofs.lemmas.List.{length-drop}
use Rattle.std.specs.Prelude.{Bool, IfSome, List, None, Option, Some, [], drop, false, if◌then◌else◌, is_some, length, not, option_map, true, ℕ, ◌&&◌, ◌-◌, ◌==◌, ◌||◌, ◌≡◌, ◌≤◌}
use Rattle.tape_laws.specs.Dispatches.{events_back}
use Rattle.tape_laws.specs.History.{onto}
use Rattle.tcp_relay.proofs.Boards.{feeds_seen, seen_same}
use Rattle.tcp_relay.proofs.Flags.{above_now, low_less}
use Rattle.tcp_relay.proofs.Rested.{next_tape, sound, ties}
use Rattle.tcp_relay.proofs.Sessions.{tape_sound}
use Rattle.tcp_relay.proofs.Tests.{by_case, if_false, if_some, if_true, number_is, or_none_left, or_none_right}
use Rattle.tcp_relay.specs.Board.{Board, board_after, board_of, carried, carried_as, change, effect_of, held_for, held_past, is_over, left, left_as, lost, lost_as, resumed_flow}
use Rattle.tcp_relay.specs.Interests.{AreKept, KeepsInterests, SameInterests, TellsInterests, changes, comes, interests_of}
use Rattle.tcp_relay.specs.Lines.{Line, added, dropped, feeds_of, held_in, holding, leaving, rises_by, taken, taken_of}
use Rattle.tcp_relay.specs.Rests.{Rests, goes_on}
use Rattle.tcp_relay.specs.Stands.{line_if, line_of, tape_board}
use Rattle.tcp_relay.specs.Turns.{Turns, turn_notes}
use Rattle.tcp_relay.specs.declared.conns.Taken.{Taken}
use Rattle.tcp_relay.specs.declared.interests.Interests.{Interests}
use Rattle.tcp_relay.specs.declared.relay.Relay.{Relay}
use Rattle.wm_buffer.specs.Watermark.{above_after}
use Rattle.flow_notes.specs.declared.events.Event.TheVariants as event
use Rattle.tcp_relay.specs.declared.interests.Interests.TheVariants as interests

abbrev pub above_in : Option Line → Bool
above_in None = false
above_in (Some l) = l.above

-- the flag follows from itself and the length now
abbrev Steady : Line → Type 0
Steady l = above_after l.limit l.above (length l.octets) ≡ l.above

-- ---- the same are open and feed the same, and those in a pair are above as before
record IsLike (g : Option Line → Option Line) (l : Option Line) : Type 0 where
  opened : is_some (g l) ≡ is_some l
  feeds : feeds_of (g l) ≡ feeds_of l
  above : is_some (feeds_of l) ≡ true → above_in (g l) ≡ above_in l

record AreLike (b new : Board) : Type 0 where
  opened : (d : ℕ) → is_some (new.lines d) ≡ is_some (b.lines d)
  feeds : (d : ℕ) → feeds_of (new.lines d) ≡ feeds_of (b.lines d)
  above : (d : ℕ) → is_some (feeds_of (b.lines d)) ≡ true → above_in (new.lines d) ≡ above_in (b.lines d)

all_same : (b : Board) → AreLike b b
all_same b = record { opened = λ d. refl; feeds = λ d. refl; above = λ d e. refl }

-- where one connection changes
module _ (c : ℕ) (g : Option Line → Option Line) (lines : ℕ → Option Line) (k : IsLike g (lines c)) where
  here : {A : Type 0} (view : Option Line → A) → view (g (lines c)) ≡ view (lines c) → (d : ℕ) → view (change c g lines d) ≡ view (lines d)
  here view e d = by_case (c == d)
      (λ t. ap view (if_true (c == d) (g (lines d)) (lines d) t) ∙ subst (λ x. view (g (lines x)) ≡ view (lines x)) (number_is c d t) e)
      (λ n. ap view (if_false (c == d) (g (lines d)) (lines d) n))

  open_like : (d : ℕ) → is_some (change c g lines d) ≡ is_some (lines d)
  open_like d = here (λ o. is_some o) k.opened d

  feeds_like : (d : ℕ) → feeds_of (change c g lines d) ≡ feeds_of (lines d)
  feeds_like d = here (λ o. feeds_of o) k.feeds d

  above_like : (d : ℕ) → is_some (feeds_of (lines d)) ≡ true → above_in (change c g lines d) ≡ above_in (lines d)
  above_like d f = by_case (c == d)
      (λ t. ap (λ o. above_in o) (if_true (c == d) (g (lines d)) (lines d) t)
      ∙ (subst (λ x. is_some (feeds_of (lines x)) ≡ true → above_in (g (lines x)) ≡ above_in (lines x)) (number_is c d t) k.above) f)
      (λ n. ap (λ o. above_in o) (if_false (c == d) (g (lines d)) (lines d) n))

-- ---- octets are read, and the write buffer that they go to doesn't rise
stays_low : (w v : Bool) (n : ℕ) → (if w then Some n else None) ≡ None → (not w && v) ≡ false → v ≡ w
stays_low true v n h r = cc
stays_low false v n h r = r

read_like : (octets : List ℕ) (l : Option Line) → held_in l ≡ None → rises_by octets l ≡ false → IsLike (option_map (added octets)) l
read_like octets None h r = record { opened = refl; feeds = refl; above = λ e. refl }
read_like octets (Some l) h r = record { opened = refl; feeds = refl; above = λ e. stays_low l.above (added octets l).above (length l.octets) h r }

reads_like : (octets : List ℕ) (o : Option Feed) (b : Board) → held_past o b ≡ None → changes (carried_as octets o b) ≡ false → AreLike b (carried octets o b)
reads_like octets None b h n = all_same b
reads_like octets (Some f) b h n =
    let k : IsLike (option_map (added octets)) (b.lines f.to) = read_like octets (b.lines f.to) h n in
    record {
      opened = open_like f.to (option_map (added octets)) b.lines k;
      feeds = feeds_like f.to (option_map (added octets)) b.lines k;
      above = above_like f.to (option_map (added octets)) b.lines k;
    }

-- ---- octets leave, and the write buffer doesn't drain
drop_shorter : (n : ℕ) (xs : List ℕ) → length (drop n xs) ≤ length xs
drop_shorter n xs = less (length (drop n xs)) (length xs) n (length-drop n xs)
  where
    less : (a l n : ℕ) → a ≡ l - n → a ≤ l
    less a l n e = omega (arith, e)

dropped_low : (n : ℕ) (l : Line) → Steady l → l.above ≡ false → (dropped n l).above ≡ false
dropped_low n l s w = by_case (leaving n l == 0)
    (λ t. ap (λ (v : Line). v.above) (if_true (leaving n l == 0) l (holding (drop (leaving n l) l.octets) l) t) ∙ w)
    (λ f. ap (λ (v : Line). v.above) (if_false (leaving n l == 0) l (holding (drop (leaving n l) l.octets) l) f)
    ∙ ap (λ (b : Bool). above_after l.limit b (length (drop (leaving n l) l.octets))) w
    ∙ low_less l.limit l.above (length l.octets) (length (drop (leaving n l) l.octets)) (s ∙ w) (drop_shorter (leaving n l) l.octets))

stays_high : (w v : Bool) → w ≡ true → (w && not v) ≡ false → v ≡ w
stays_high true true e d = refl
stays_high true false e d = cc
stays_high false v e d = cc

undrained : (n : ℕ) (l : Line) → Steady l → (l.above && not (dropped n l).above) ≡ false → (dropped n l).above ≡ l.above
undrained n l s d = by_case l.above
    (λ t. stays_high l.above (dropped n l).above t d)
    (λ f. dropped_low n l s f ∙ sym f)

dropped_feeds : (n : ℕ) (l : Line) → (dropped n l).feeds ≡ l.feeds
dropped_feeds n l = by_case (leaving n l == 0)
    (λ t. ap (λ (v : Line). v.feeds) (if_true (leaving n l == 0) l (holding (drop (leaving n l) l.octets) l) t))
    (λ f. ap (λ (v : Line). v.feeds) (if_false (leaving n l == 0) l (holding (drop (leaving n l) l.octets) l) f))

-- the flow to a connection in a pair isn't told
untold : (o : Option Feed) (drained : Bool) → is_some o ≡ true → is_some (resumed_flow o drained) ≡ false → drained ≡ false
untold None drained s r = cc
untold (Some f) true s r = cc
untold (Some f) false s r = refl

abbrev left_line : ℕ → Line → Taken
left_line n l = record {
  n = leaving n l;
  drained = l.above && not (dropped n l).above;
  is_empty = length (dropped n l).octets == 0;
  feeds = l.feeds;
}

room_like : (n : ℕ) (l : Line) → Steady l → is_over (left_line n l) ≡ false → is_some (resumed_flow l.feeds (left_line n l).drained) ≡ false
    → IsLike (λ o. if is_over (left_line n l) then None else option_map (dropped n) o) (Some l)
room_like n l s o r =
    let kept : (if is_over (left_line n l) then None else Some (dropped n l)) ≡ Some (dropped n l) = if_false (is_over (left_line n l)) None (Some (dropped n l)) o in
    record {
      opened = ap (λ (v : Option Line). is_some v) kept;
      feeds = ap (λ (v : Option Line). feeds_of v) kept ∙ dropped_feeds n l;
      above = λ e. ap (λ (v : Option Line). above_in v) kept ∙ undrained n l s (untold l.feeds (left_line n l).drained e r);
    }

room_some : (c n : ℕ) (l : Line) (b : Board) → b.lines c ≡ Some l → Steady l → changes (left_as c (Some (left_line n l))) ≡ false
    → AreLike b (left c n (Some (left_line n l)) b)
room_some c n l b e s k =
    let g : Option Line → Option Line = λ o. if is_over (left_line n l) then None else option_map (dropped n) o in
    let like : IsLike g (b.lines c) = subst (λ o. IsLike g o) (sym e)
    (room_like n l s (or_none_left (is_over (left_line n l)) _ k) (or_none_right (is_over (left_line n l)) (is_some (resumed_flow l.feeds (left_line n l).drained)) k)) in
    record {
      opened = open_like c g b.lines like;
      feeds = feeds_like c g b.lines like;
      above = above_like c g b.lines like;
    }

rooms_like : (c n : ℕ) (o : Option Line) (b : Board) → b.lines c ≡ o → IfSome o Steady → changes (left_as c (taken_of n o)) ≡ false → AreLike b (left c n (taken_of n o) b)
rooms_like c n None b e s k = all_same b
rooms_like c n (Some l) b e s k = by_case (leaving n l == 0)
    (λ t. subst (λ o. AreLike b (left c n o b)) (sym (if_true (leaving n l == 0) None (Some (left_line n l)) t)) (all_same b))
    (λ f.
    let is : taken n l ≡ Some (left_line n l) = if_false (leaving n l == 0) None (Some (left_line n l)) f in
    subst (λ o. AreLike b (left c n o b)) (sym is) (room_some c n l b e s (subst (λ o. changes (left_as c o) ≡ false) is k)))

-- ---- an event
losses_like : (c : ℕ) (o : Option Line) (b : Board) → changes (lost_as c o b) ≡ false → AreLike b (lost c o b)
losses_like c None b k = all_same b
losses_like c (Some l) b k = cc

event_like : (e : Event) (b : Board) → ((c : ℕ) → IfSome (b.lines c) Steady) → held_for e b ≡ None → comes e ≡ false → changes (effect_of e b) ≡ false
    → AreLike b (board_after e b)
event_like (event.Accept c) b s h n k = cc
event_like (event.Join c cluster) b s h n k = cc
event_like (event.Read c octets) b s h n k = reads_like octets (feeds_of (b.lines c)) b h k
event_like (event.Room c m) b s h n k = rooms_like c m (b.lines c) b refl (s c) k
event_like (event.Gone c) b s h n k = losses_like c (b.lines c) b k
event_like (event.Tick now) b s h n k = all_same b
event_like (event.Post p i job) b s h n k = all_same b
event_like (event.Obey v ps) b s h n k = all_same b
event_like (event.Plain v) b s h n k = all_same b

-- ---- on tapes
steady_if : (o : Bool) (x : List ℕ) (l : ℕ) (a : Bool) (f : Option Feed) → above_after l a (length x) ≡ a → IfSome (line_if o x l a f) Steady
steady_if true x l a f e = e
steady_if false x l a f e = tt

open_if : (o : Bool) (x : List ℕ) (l : ℕ) (a : Bool) (f : Option Feed) → is_some (line_if o x l a f) ≡ o
open_if true x l a f = refl
open_if false x l a f = refl

pub open_of : (limit c : ℕ) (h : Tape) → is_some (line_of limit c h) ≡ is_open c h
open_of limit c h = open_if (is_open c h) (out c h) limit (above limit c h) (feed c h)

above_if : (o : Bool) (x : List ℕ) (l : ℕ) (a : Bool) (f : Option Feed) → o ≡ true → above_in (line_if o x l a f) ≡ a
above_if true x l a f e = refl
above_if false x l a f e = cc

pub above_of : (limit c : ℕ) (h : Tape) → is_open c h ≡ true → above_in (line_of limit c h) ≡ above limit c h
above_of limit c h e = above_if (is_open c h) (out c h) limit (above limit c h) (feed c h) e

module _ (limit : ℕ) (h new : Tape) (s : IsSound h) (t : IsSound new) (like : AreLike (tape_board limit h) (tape_board limit new)) where
  open_same : (c : ℕ) → is_open c new ≡ is_open c h
  open_same c = sym (open_of limit c new) ∙ like.opened c ∙ open_of limit c h

  feed_same : (c : ℕ) → feed c new ≡ feed c h
  feed_same c = sym (feeds_seen limit c new t) ∙ like.feeds c ∙ feeds_seen limit c h s

  -- one that is fed is open, and feeds the other one back
  above_kept : (c : ℕ) (f : Feed) → feed c h ≡ Some f → above limit f.to new ≡ above limit f.to h
  above_kept c f e =
      let p : IsPaired h c f = if_some (feed c h) (IsPaired h c) f e (s.paired c) in
      let q : IsPaired h f.to (record { flow = opposite f.flow; to = c }) = if_some (feed f.to h) (IsPaired h f.to) (record { flow = opposite f.flow; to = c }) p.back (s.paired f.to) in
      let fed : is_some (feeds_of (line_of limit f.to h)) ≡ true = ap (λ (o : Option Feed). is_some o) (feeds_seen limit f.to h s ∙ p.back) in
      sym (above_of limit f.to new (open_same f.to ∙ q.opened)) ∙ like.above f.to fed ∙ above_of limit f.to h q.opened

  goes_kept : (c : ℕ) (o : Option Feed) → feed c h ≡ o → goes_on limit o new ≡ goes_on limit o h
  goes_kept c None e = refl
  goes_kept c (Some f) e = ap (λ (b : Bool). not b) (above_kept c f e)

  interests_same : SameInterests limit h new
  interests_same = record {
    opened = open_same;
    reads = λ c. ap (λ (o : Option Feed). goes_on limit o new) (feed_same c) ∙ goes_kept c (feed c h) refl;
  }

-- ---- the answer
not_changed : (b : Bool) → interests.Kept ≡ (if b then interests.Changed else interests.Kept) → b ≡ false
not_changed true e = cc
not_changed false e = refl

module _ (limit : ℕ) (names : List (List ℕ)) (old new : Relay) (e : Event) (h : Tape) (r : Rests limit names old h) (may : MayCome names (events_back h) e)
    (t : Turns old [] e new (turn_notes old e)) where
  next_sound : IsSound (onto (dispatch_notes limit e h) h)
  next_sound = tape_sound limit names (onto (dispatch_notes limit e h) h)
      (next_tape limit names old e h r may new [] (turn_notes old e) t.reads t.turn (seen_same _ _ t.board) t.well)

  likeness : comes e ≡ false → changes (effect_of e (board_of old.table)) ≡ false → AreLike (tape_board limit h) (tape_board limit (onto (dispatch_notes limit e h) h))
  likeness n k = subst (λ (b : Board). AreLike (tape_board limit h) b) (sym (ties limit names old e h r may).board)
      (event_like e (tape_board limit h)
      (λ c. steady_if (is_open c h) (out c h) limit (above limit c h) (feed c h) (above_now limit c h))
      (ap (λ (b : Board). held_for e b) (sym r.board) ∙ t.reads) n
      (ap (λ (b : Board). changes (effect_of e b)) (sym r.board) ∙ k))

  tells_kept : (comes e || changes (effect_of e (board_of old.table))) ≡ false → KeepsInterests limit e h
  tells_kept n =
      let none : comes e ≡ false = or_none_left (comes e) (changes (effect_of e (board_of old.table))) n in
      record {
        none = none;
        same = interests_same limit h (onto (dispatch_notes limit e h) h) (sound limit names old e h r may) next_sound
            (likeness none (or_none_right (comes e) (changes (effect_of e (board_of old.table))) n));
      }

  tells_as : (answer : Interests) → answer ≡ interests_of e (effect_of e (board_of old.table)) → AreKept answer limit e h
  tells_as interests.Kept is = tells_kept (not_changed (comes e || changes (effect_of e (board_of old.table))) is)
  tells_as interests.Changed is = tt

pub tells : (old new : Relay) (e : Event) (answer : Interests) → answer ≡ interests_of e (effect_of e (board_of old.table)) → Turns old [] e new (turn_notes old e)
    → TellsInterests old e answer
tells old new e answer is t = record { is = is; goes = λ limit names h r may. tells_as limit names old new e h r may t answer is }
