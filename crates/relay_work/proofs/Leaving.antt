-- What an event leaves of the connections of a relay.
use Rattle.flow_notes.specs.declared.events.Event.{Event}
use Rattle.relay_laws.specs.declared.Feed.{Feed}
use Rattle.relay_work.specs.Settling.{peer_in}
use Rattle.std.proofs.Common.{ap, refl, subst, sym, ◌∙◌}
use Rattle.std.specs.Prelude.{Bool, List, None, Option, Some, [], drop, false, if◌then◌else◌, is_none, is_some, length, not, option_map, true, ℕ, ◌&&◌, ◌+◌, ◌==◌, ◌∷◌, ◌≡◌}
use Rattle.tape_laws.specs.Dispatches.{is_some_of}
use Rattle.tcp_relay.proofs.Tests.{and_right, by_case, if_false, if_true, not_both, number_is, same_number}
use Rattle.tcp_relay.specs.Board.{Board, accepted, board_after, carried, change, is_over, left, lost, parted, parted_from, put, request_feed, response_feed, without}
use Rattle.tcp_relay.specs.Lines.{Line, added, dropped, fed, feeds_of, holding, leaving, new_line, taken_of}
use Rattle.tcp_relay.specs.declared.conns.Taken.{Taken}
use Rattle.flow_notes.specs.declared.events.Event.TheVariants as event

-- the connection of an event of this kind
abbrev pub IsAt : Event → ℕ → Type 0
IsAt (event.Accept d) c = d ≡ c
IsAt (event.Join d cluster) c = d ≡ c
IsAt (event.Read d octets) c = d ≡ c
IsAt (event.Room d n) c = d ≡ c
IsAt (event.Gone d) c = d ≡ c
IsAt e c = ⊥

abbrev pub first_of : List ℕ → Option ℕ
first_of [] = None
first_of (c ∷ cs) = Some c

-- the other connection that an event changes
abbrev pub other_of : Event → Board → Option ℕ
other_of (event.Accept c) b = first_of b.free
other_of (event.Read c octets) b = peer_in (feeds_of (b.lines c))
other_of (event.Gone c) b = peer_in (feeds_of (b.lines c))
other_of e b = None

moved : (a c d : ℕ) → a ≡ c → (c == d) ≡ false → (a == d) ≡ false
moved a c d e n = subst (λ x. (x == d) ≡ false) (sym e) n

-- ---- the others stay as they were
accepts_kept : (c d : ℕ) (fs : List ℕ) (b : Board) → (c == d) ≡ false → is_some_of (first_of fs) d ≡ false → (accepted c fs b).lines d ≡ b.lines d
accepts_kept c d [] b n o = refl
accepts_kept c d (f ∷ fs) b n o = if_false (f == d) _ _ o ∙ if_false (c == d) _ _ n

reads_kept : (octets : List ℕ) (d : ℕ) (f : Option Feed) (b : Board) → is_some_of (peer_in f) d ≡ false → (carried octets f b).lines d ≡ b.lines d
reads_kept octets d None b o = refl
reads_kept octets d (Some f) b o = if_false (f.to == d) _ _ o

rooms_kept : (c n d : ℕ) (t : Option Taken) (b : Board) → (c == d) ≡ false → (left c n t b).lines d ≡ b.lines d
rooms_kept c n d None b k = refl
rooms_kept c n d (Some t) b k = if_false (c == d) _ _ k

parts_kept : (c d : ℕ) (f : Option Feed) (b : Board) → (c == d) ≡ false → is_some_of (peer_in f) d ≡ false → (parted_from f (without c b)).lines d ≡ b.lines d
parts_kept c d None b n o = if_false (c == d) _ _ n
parts_kept c d (Some f) b n o = if_false (f.to == d) _ _ o ∙ if_false (c == d) _ _ n

losses_kept : (c d : ℕ) (l : Option Line) (b : Board) → (c == d) ≡ false → is_some_of (peer_in (feeds_of l)) d ≡ false → (lost c l b).lines d ≡ b.lines d
losses_kept c d None b n o = refl
losses_kept c d (Some l) b n o = parts_kept c d l.feeds b n o

pub lines_kept : (e : Event) (c d : ℕ) (b : Board) → IsAt e c → (c == d) ≡ false → is_some_of (other_of e b) d ≡ false
    → (board_after e b).lines d ≡ b.lines d
lines_kept (event.Accept a) c d b at n o = accepts_kept a d b.free b (moved a c d at n) o
lines_kept (event.Join a cluster) c d b at n o = if_false (a == d) _ _ (moved a c d at n)
lines_kept (event.Read a octets) c d b at n o = reads_kept octets d (feeds_of (b.lines a)) b o
lines_kept (event.Room a m) c d b at n o = rooms_kept a m d (taken_of m (b.lines a)) b (moved a c d at n)
lines_kept (event.Gone a) c d b at n o = losses_kept a d (b.lines a) b (moved a c d at n) o
lines_kept (event.Tick now) c d b at n o = absurd at
lines_kept (event.Post p k job) c d b at n o = absurd at
lines_kept (event.Obey v ps) c d b at n o = absurd at
lines_kept (event.Plain v) c d b at n o = absurd at

-- ---- what is open was open before, but for a connection that comes
some_map : (g : Line → Line) (l : Option Line) → is_some (option_map g l) ≡ is_some l
some_map g None = refl
some_map g (Some l) = refl

some_parted : (l : Option Line) → is_some (parted l) ≡ true → is_some l ≡ true
some_parted None e = e
some_parted (Some l) e = refl

-- a change at one connection opens none
some_change : (c d : ℕ) (g : Option Line → Option Line) (lines : ℕ → Option Line) → ((l : Option Line) → is_some (g l) ≡ true → is_some l ≡ true)
    → is_some (change c g lines d) ≡ true → is_some (lines d) ≡ true
some_change c d g lines k e = by_case (c == d)
    (λ t. k (lines d) (sym (ap (λ o. is_some o) (if_true (c == d) (g (lines d)) (lines d) t)) ∙ e))
    (λ n. sym (ap (λ o. is_some o) (if_false (c == d) (g (lines d)) (lines d) n)) ∙ e)

some_put : (c d : ℕ) (a : Option Line) (lines : ℕ → Option Line) → (c == d) ≡ false → is_some (put c a lines d) ≡ true → is_some (lines d) ≡ true
some_put c d a lines n e = sym (ap (λ o. is_some o) (if_false (c == d) a (lines d) n)) ∙ e

some_none : (c d : ℕ) (lines : ℕ → Option Line) → is_some (put c None lines d) ≡ true → is_some (lines d) ≡ true
some_none c d lines e = by_case (c == d)
    (λ t. not_both (is_some (put c None lines d)) e (ap (λ o. is_some o) (if_true (c == d) None (lines d) t)))
    (λ n. some_put c d None lines n e)

mapped : (g : Line → Line) (l : Option Line) → is_some (option_map g l) ≡ true → is_some l ≡ true
mapped g l e = sym (some_map g l) ∙ e

over_or : (over : Bool) (g : Line → Line) (l : Option Line) → is_some (if over then None else option_map g l) ≡ true → is_some l ≡ true
over_or true g l e = cc
over_or false g l e = mapped g l e

reads_open : (octets : List ℕ) (d : ℕ) (f : Option Feed) (b : Board) → is_some ((carried octets f b).lines d) ≡ true → is_some (b.lines d) ≡ true
reads_open octets d None b e = e
reads_open octets d (Some f) b e = some_change f.to d (option_map (added octets)) b.lines (mapped (added octets)) e

rooms_open : (c n d : ℕ) (t : Option Taken) (b : Board) → is_some ((left c n t b).lines d) ≡ true → is_some (b.lines d) ≡ true
rooms_open c n d None b e = e
rooms_open c n d (Some t) b e = some_change c d (λ l. if is_over t then None else option_map (dropped n) l) b.lines (over_or (is_over t) (dropped n)) e

accepts_open : (c d : ℕ) (fs : List ℕ) (b : Board) → (c == d) ≡ false → is_some ((accepted c fs b).lines d) ≡ true → is_some (b.lines d) ≡ true
accepts_open c d [] b n e = e
accepts_open c d (f ∷ fs) b n e =
    let first : Option Line = Some (new_line b.limit (Some (request_feed (b.pairs + 1) f))) in
    let g : Line → Line = fed (Some (response_feed (b.pairs + 1) c)) in
    some_put c d first b.lines n (some_change f d (option_map g) (put c first b.lines) (mapped g) e)

parts_open : (c d : ℕ) (f : Option Feed) (b : Board) → is_some ((parted_from f (without c b)).lines d) ≡ true → is_some (b.lines d) ≡ true
parts_open c d None b e = some_none c d b.lines e
parts_open c d (Some f) b e = some_none c d b.lines (some_change f.to d parted (put c None b.lines) some_parted e)

losses_open : (c d : ℕ) (l : Option Line) (b : Board) → is_some ((lost c l b).lines d) ≡ true → is_some (b.lines d) ≡ true
losses_open c d None b e = e
losses_open c d (Some l) b e = parts_open c d l.feeds b e

pub others_open : (e : Event) (c d : ℕ) (b : Board) → IsAt e c → (c == d) ≡ false → is_some ((board_after e b).lines d) ≡ true → is_some (b.lines d) ≡ true
others_open (event.Accept a) c d b at n k = accepts_open a d b.free b (moved a c d at n) k
others_open (event.Join a cluster) c d b at n k = some_put a d (Some (new_line b.limit None)) b.lines (moved a c d at n) k
others_open (event.Read a octets) c d b at n k = reads_open octets d (feeds_of (b.lines a)) b k
others_open (event.Room a m) c d b at n k = rooms_open a m d (taken_of m (b.lines a)) b k
others_open (event.Gone a) c d b at n k = losses_open a d (b.lines a) b k
others_open (event.Tick now) c d b at n k = absurd at
others_open (event.Post p i job) c d b at n k = absurd at
others_open (event.Obey v ps) c d b at n k = absurd at
others_open (event.Plain v) c d b at n k = absurd at

-- a read and room open none at all
pub read_opens : (c d : ℕ) (octets : List ℕ) (b : Board) → is_some ((board_after (event.Read c octets) b).lines d) ≡ true → is_some (b.lines d) ≡ true
read_opens c d octets b k = reads_open octets d (feeds_of (b.lines c)) b k

pub room_opens : (c d n : ℕ) (b : Board) → is_some ((board_after (event.Room c n) b).lines d) ≡ true → is_some (b.lines d) ≡ true
room_opens c d n b k = rooms_open c n d (taken_of n (b.lines c)) b k

-- a lost connection isn't open
none_put : (c : ℕ) (lines : ℕ → Option Line) → is_some (put c None lines c) ≡ false
none_put c lines = ap (λ o. is_some o) (if_true (c == c) None (lines c) (same_number c))

none_parted : (c : ℕ) (f : Option Feed) (b : Board) → is_some ((parted_from f (without c b)).lines c) ≡ false
none_parted c None b = none_put c b.lines
none_parted c (Some f) b = by_case (is_some ((parted_from (Some f) (without c b)).lines c))
    (λ t. not_both (is_some (put c None b.lines c)) (some_change f.to c parted (put c None b.lines) some_parted t) (none_put c b.lines))
    (λ n. n)

lost_closed : (c : ℕ) (l : Option Line) (b : Board) → b.lines c ≡ l → is_some ((lost c l b).lines c) ≡ false
lost_closed c None b e = ap (λ o. is_some o) e
lost_closed c (Some l) b e = none_parted c l.feeds b

pub gone_closed : (c : ℕ) (b : Board) → is_some ((board_after (event.Gone c) b).lines c) ≡ false
gone_closed c b = lost_closed c (b.lines c) b refl

-- ---- what an accepted connection feeds
pub accepted_feeds : (c f : ℕ) (fs : List ℕ) (b : Board) → (f == c) ≡ false → peer_in (feeds_of ((accepted c (f ∷ fs) b).lines c)) ≡ Some f
accepted_feeds c f fs b n =
    ap (λ (l : Option Line). peer_in (feeds_of l)) (if_false (f == c) _ _ n ∙ if_true (c == c) (Some (new_line b.limit (Some (request_feed (b.pairs + 1) f)))) (b.lines c) (same_number c))

-- ---- a read and room leave what a connection feeds
added_feeds : (octets : List ℕ) (l : Option Line) → feeds_of (option_map (added octets) l) ≡ feeds_of l
added_feeds octets None = refl
added_feeds octets (Some l) = refl

pub read_feeds : (octets : List ℕ) (d : ℕ) (f : Option Feed) (b : Board) → feeds_of ((carried octets f b).lines d) ≡ feeds_of (b.lines d)
read_feeds octets d None b = refl
read_feeds octets d (Some f) b = by_case (f.to == d)
    (λ t. ap (λ (l : Option Line). feeds_of l) (if_true (f.to == d) (option_map (added octets) (b.lines d)) (b.lines d) t) ∙ added_feeds octets (b.lines d))
    (λ n. ap (λ (l : Option Line). feeds_of l) (if_false (f.to == d) (option_map (added octets) (b.lines d)) (b.lines d) n))

dropped_feeds : (n : ℕ) (l : Line) → (dropped n l).feeds ≡ l.feeds
dropped_feeds n l = by_case (leaving n l == 0)
    (λ t. ap (λ (v : Line). v.feeds) (if_true (leaving n l == 0) l (holding (drop (leaving n l) l.octets) l) t))
    (λ f. ap (λ (v : Line). v.feeds) (if_false (leaving n l == 0) l (holding (drop (leaving n l) l.octets) l) f))

none_is : (o : Option Feed) → is_none o ≡ true → None ≡ o
none_is None e = refl
none_is (Some f) e = cc

-- one that is closed by it fed nothing
over_feeds : (n : ℕ) (l : Line) (empty : Bool) → feeds_of (if empty && is_none l.feeds then None else Some (dropped n l)) ≡ l.feeds
over_feeds n l empty = by_case (empty && is_none l.feeds)
    (λ t. ap (λ (o : Option Line). feeds_of o) (if_true (empty && is_none l.feeds) None (Some (dropped n l)) t) ∙ none_is l.feeds (and_right empty (is_none l.feeds) t))
    (λ f. ap (λ (o : Option Line). feeds_of o) (if_false (empty && is_none l.feeds) None (Some (dropped n l)) f) ∙ dropped_feeds n l)

abbrev left_line : ℕ → Line → Taken
left_line n l = record {
  n = leaving n l;
  drained = l.above && not (dropped n l).above;
  is_empty = length (dropped n l).octets == 0;
  feeds = l.feeds;
}

some_feeds : (c n : ℕ) (l : Line) (b : Board) → b.lines c ≡ Some l → feeds_of ((left c n (Some (left_line n l)) b).lines c) ≡ feeds_of (b.lines c)
some_feeds c n l b e =
    ap (λ (o : Option Line). feeds_of o) (if_true (c == c) (if is_over (left_line n l) then None else option_map (dropped n) (b.lines c)) (b.lines c) (same_number c)
    ∙ ap (λ (o : Option Line). if is_over (left_line n l) then None else option_map (dropped n) o) e)
    ∙ over_feeds n l (left_line n l).is_empty ∙ sym (ap (λ (o : Option Line). feeds_of o) e)

here_feeds : (c n : ℕ) (o : Option Line) (b : Board) → b.lines c ≡ o → feeds_of ((left c n (taken_of n o) b).lines c) ≡ feeds_of (b.lines c)
here_feeds c n None b e = refl
here_feeds c n (Some l) b e = by_case (leaving n l == 0)
    (λ t. ap (λ (v : Option Taken). feeds_of ((left c n v b).lines c)) (if_true (leaving n l == 0) None (Some (left_line n l)) t))
    (λ f. ap (λ (v : Option Taken). feeds_of ((left c n v b).lines c)) (if_false (leaving n l == 0) None (Some (left_line n l)) f) ∙ some_feeds c n l b e)

pub room_feeds : (a n d : ℕ) (b : Board) → feeds_of ((left a n (taken_of n (b.lines a)) b).lines d) ≡ feeds_of (b.lines d)
room_feeds a n d b = by_case (a == d)
    (λ t. subst (λ x. feeds_of ((left a n (taken_of n (b.lines a)) b).lines x) ≡ feeds_of (b.lines x)) (number_is a d t) (here_feeds a n (b.lines a) b refl))
    (λ f. ap (λ (l : Option Line). feeds_of l) (rooms_kept a n d (taken_of n (b.lines a)) b f))
