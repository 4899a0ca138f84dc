-- After an event: where the relay's interests are as before, nothing is to be told, and else the other connection of the pair is
-- the one that the relay knows then, but for one that was lost.
use Rattle.flow_notes.specs.declared.events.Event.{Event}
use Rattle.relay_laws.specs.Dispatch.{dispatch_notes}
use Rattle.relay_laws.specs.Order.{is_new, named}
use Rattle.relay_laws.specs.Pairs.{Tape, feed, is_open}
use Rattle.relay_laws.specs.Sound.{IsSound}
use Rattle.relay_laws.specs.declared.Feed.{Feed}
use Rattle.relay_work.proofs.Leaving.{gone_closed, read_feeds, room_feeds}
use Rattle.relay_work.proofs.Touching.{open_of, unsettled}
use Rattle.relay_work.specs.Belonging.{Belong}
use Rattle.relay_work.specs.Carrying.{IsOf, PartsFrom, Ready, parting_of}
use Rattle.relay_work.specs.Dispatching.{MayTake, Taken}
use Rattle.relay_work.specs.Settling.{Unsettled, others, peer_in}
use Rattle.std.proofs.Common.{ap, subst, sym, ◌∙◌}
use Rattle.std.specs.List.{AllByRecursion}
use Rattle.std.specs.Prelude.{Bool, List, None, Option, Some, false, is_some, not, true, ℕ, ◌==◌, ◌∷◌, ◌≡◌, ◌≤◌}
use Rattle.tape_laws.specs.Dispatches.{events_back}
use Rattle.tape_laws.specs.History.{onto}
use Rattle.tcp_relay.proofs.Boards.{feeds_seen}
use Rattle.tcp_relay.proofs.Rested.{sound, ties}
use Rattle.tcp_relay.proofs.Sessions.{tape_sound}
use Rattle.tcp_relay.proofs.Tests.{by_case, number_is}
use Rattle.tcp_relay.specs.Board.{board_after}
use Rattle.tcp_relay.specs.Interests.{KeepsInterests}
use Rattle.tcp_relay.specs.Lines.{Line, feeds_of}
use Rattle.tcp_relay.specs.Rests.{ShowsPeer, goes_on}
use Rattle.tcp_relay.specs.Stands.{line_of, tape_board}
use Rattle.tcp_relay.specs.declared.relay.Relay.{Relay}
use Rattle.worker_ports.specs.Wires.{Seen, is_held, is_live}
use Rattle.flow_notes.specs.declared.events.Event.TheVariants as event

others_now : (was now : Option ℕ) → was ≡ now → others was now ≡ others None now
others_now was None e = ap (λ o. others o None) e
others_now was (Some c) e = ap (λ o. others o (Some c)) e

-- a connection that comes feeds nothing yet
new_feeds : (h : Tape) (c : ℕ) → IsSound h → is_new (events_back h) c ≡ true → peer_in (feed c h) ≡ None
new_feeds h c s n = ap (λ (f : Option Feed). peer_in f) (s.done c (s.fresh c n).closed).feed

module _ (limit : ℕ) (names : List (List ℕ)) (old new : Relay) (e : Event) (h : Tape) (m : MayTake limit names old e h) (t : Taken limit names e h new) where
  abbrev after : Tape
  after = onto (dispatch_notes limit e h) h

  line_after : (d : ℕ) → line_of limit d after ≡ (board_after e (tape_board limit h)).lines d
  line_after d = λ i. ((ties limit names old e h m.rests m.may).board i).lines d

  -- what feeds the same on its line does on the tape
  feed_after : (c : ℕ) → feeds_of ((board_after e (tape_board limit h)).lines c) ≡ feeds_of (line_of limit c h) → feed c after ≡ feed c h
  feed_after c k =
      sym (feeds_seen limit c after (tape_sound limit names after t.rests.tape)) ∙ ap (λ (l : Option Line). feeds_of l) (line_after c) ∙ k
      ∙ feeds_seen limit c h (sound limit names old e h m.rests m.may)

  kept_others : (c : ℕ) → feed c after ≡ feed c h → others (peer_in (feed c h)) (peer_in (feed c after)) ≡ others None (peer_in (feed c after))
  kept_others c k = others_now (peer_in (feed c h)) (peer_in (feed c after)) (ap (λ (f : Option Feed). peer_in f) (sym k))

  new_others : (c : ℕ) → peer_in (feed c h) ≡ None → others (peer_in (feed c h)) (peer_in (feed c after)) ≡ others None (peer_in (feed c after))
  new_others c k = ap (λ (o : Option ℕ). others o (peer_in (feed c after))) k

-- ---- the other connection
pub parts_gone : (relay : Relay) (e : Event) (c : ℕ) (answer : Option ℕ) → e ≡ event.Gone c → ShowsPeer relay c answer → PartsFrom relay e answer
parts_gone relay e c answer is p = record { goes = λ limit names h r. subst (λ (v : Event). answer ≡ parting_of v h) (sym is) (p.goes limit names h r) }

others_parted : (limit : ℕ) (names : List (List ℕ)) (old new : Relay) (seen : Seen) (e : Event) (h : Tape) (m : MayTake limit names old e h)
    (t : Taken limit names e h new) (c : ℕ) → IsOf e c seen h
    → others (peer_in (feed c h)) (peer_in (feed c (onto (dispatch_notes limit e h) h))) ≡ others (parting_of e h) (peer_in (feed c (onto (dispatch_notes limit e h) h)))
others_parted limit names old new seen (event.Accept a) h m t c of =
    new_others limit names old new (event.Accept a) h m t c
    (ap (λ (x : ℕ). peer_in (feed x h)) (sym of.0) ∙ new_feeds h a (sound limit names old (event.Accept a) h m.rests m.may) m.may.2)
others_parted limit names old new seen (event.Join a cluster) h m t c of =
    new_others limit names old new (event.Join a cluster) h m t c
    (ap (λ (x : ℕ). peer_in (feed x h)) (sym of.0) ∙ new_feeds h a (sound limit names old (event.Join a cluster) h m.rests m.may) m.may.2)
others_parted limit names old new seen (event.Read a octets) h m t c of =
    kept_others limit names old new (event.Read a octets) h m t c
    (feed_after limit names old new (event.Read a octets) h m t c (read_feeds octets c (feeds_of (line_of limit a h)) (tape_board limit h)))
others_parted limit names old new seen (event.Room a n) h m t c of =
    kept_others limit names old new (event.Room a n) h m t c
    (feed_after limit names old new (event.Room a n) h m t c (room_feeds a n c (tape_board limit h)))
others_parted limit names old new seen (event.Gone a) h m t c of =
    ap (λ (x : ℕ). others (peer_in (feed x h)) (peer_in (feed c (onto (dispatch_notes limit (event.Gone a) h) h)))) (sym of.0)
others_parted limit names old new seen (event.Tick now) h m t c of = absurd of
others_parted limit names old new seen (event.Post p k job) h m t c of = absurd of
others_parted limit names old new seen (event.Obey v ps) h m t c of = absurd of
others_parted limit names old new seen (event.Plain v) h m t c of = absurd of

-- ---- nothing is to be told
-- the connection of the event is live exactly where it is open
live_here : (limit : ℕ) (names : List (List ℕ)) (old new : Relay) (seen : Seen) (e : Event) (h : Tape) (m : MayTake limit names old e h)
    (t : Taken limit names e h new) (c : ℕ) → IsOf e c seen h → KeepsInterests limit e h → is_live c seen ≡ is_open c (onto (dispatch_notes limit e h) h)
live_here limit names old new seen (event.Accept a) h m t c of k = not_come k.none
  where
    not_come : {A : Type 0} → true ≡ false → A
    not_come e = cc
live_here limit names old new seen (event.Join a cluster) h m t c of k = not_come k.none
  where
    not_come : {A : Type 0} → true ≡ false → A
    not_come e = cc
live_here limit names old new seen (event.Read a octets) h m t c of k = of.1 ∙ sym (k.same.opened c)
live_here limit names old new seen (event.Room a n) h m t c of k = of.1 ∙ sym (k.same.opened c)
live_here limit names old new seen (event.Gone a) h m t c of k =
    let after : Tape = onto (dispatch_notes limit (event.Gone a) h) h in
    let shut : is_open a after ≡ false = sym (open_of limit a after) ∙ ap (λ (l : Option Line). is_some l) (line_after limit names old new (event.Gone a) h m t a) ∙ gone_closed a (tape_board limit h) in
    of.1 ∙ sym (ap (λ (x : ℕ). is_open x after) (sym of.0) ∙ shut)
live_here limit names old new seen (event.Tick now) h m t c of k = absurd of
live_here limit names old new seen (event.Post p i job) h m t c of k = absurd of
live_here limit names old new seen (event.Obey v ps) h m t c of k = absurd of
live_here limit names old new seen (event.Plain v) h m t c of k = absurd of

module _ (limit : ℕ) (names : List (List ℕ)) (old new : Relay) (seen : Seen) (c : ℕ) (e : Event) (h : Tape) (r : Ready limit names old seen c e h)
    (t : Taken limit names e h new) where
  abbrev later : Tape
  later = onto (dispatch_notes limit e h) h

  pub parted : Unsettled limit names new seen (c ∷ others (parting_of e h) (peer_in (feed c later))) later
  parted = subst (λ (ds : List ℕ). Unsettled limit names new seen (c ∷ ds) later) (others_parted limit names old new seen e h r.takes t c r.of)
      (unsettled limit names old new seen c e h r t)

  pub belong_still : KeepsInterests limit e h → Belong limit names new seen later
  belong_still k = record {
    rests = t.rests;
    clusters = r.clusters;
    newer = subst (λ (v : List Event). AllByRecursion (λ d. d ≤ seen.greatest) (named v)) (sym t.shown) r.newer;
    live = λ d. by_case (c == d)
        (λ s. subst (λ (x : ℕ). is_live x seen ≡ is_open x later) (number_is c d s) (live_here limit names old new seen e h r.takes t c r.of k))
        (λ n. r.live d n ∙ sym (k.same.opened d));
    held = λ d l. by_case (c == d)
        (λ s. (subst (λ (x : ℕ). is_live x seen ≡ true → is_held x seen ≡ not (goes_on limit (feed x h) h)) (number_is c d s) (r.still k.none)) l)
        (λ n. r.held d n l)
        ∙ sym (ap (λ (b : Bool). not b) (k.same.reads d));
  }
