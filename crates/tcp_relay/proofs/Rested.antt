-- A relay at rest goes on with the tape of its session.
use Rattle.flow_notes.specs.declared.events.Event.{Event}
use Rattle.flow_notes.specs.declared.notes.Note.{Note}
use Rattle.relay_laws.specs.Dispatch.{dispatch_notes}
use Rattle.relay_laws.specs.Order.{MayCome}
use Rattle.relay_laws.specs.Pairs.{Tape, feed, is_open, opposite}
use Rattle.relay_laws.specs.Session.{IsTape, MayRelayAll, is_held, reads_paused, relay_tape}
use Rattle.relay_laws.specs.Sound.{IsPaired, IsSound}
use Rattle.relay_laws.specs.Watermark.{above}
use Rattle.relay_laws.specs.World.{out}
use Rattle.relay_laws.specs.declared.Feed.{Feed}
use Rattle.std.specs.BTreeSet.{contains}
use Rattle.std.specs.Ordering.{nat_cmp}
use Rattle.std.proofs.Common.{ap, refl, subst, sym, ◌∙◌}
use Rattle.std.specs.Prelude.{Bool, Err, List, None, Ok, OnOk, Option, Result, Some, [], false, if◌then◌else◌, is_none, is_some, length, nat_lt, not, option_map, true, ℕ, ◌+◌, ◌++◌, ◌||◌, ◌∷◌, ◌≡◌}
use Rattle.tape_laws.specs.Dispatches.{events_back}
use Rattle.tape_laws.specs.History.{onto}
use Rattle.tcp_relay.proofs.Boards.{feeds_seen, onto_append, seen_same}
use Rattle.tcp_relay.proofs.Sessions.{tape_sound}
use Rattle.tcp_relay.proofs.Spelled.{spelled, spelled_both, spelled_some}
use Rattle.tcp_relay.proofs.Tests.{by_case, by_option, if_some, no_some}
use Rattle.tcp_relay.proofs.TieAll.{counts, shows, tied}
use Rattle.tcp_relay.specs.Board.{IsSeenAs, board_after, board_of, effect_of, held_at, held_for, held_past, is_reading}
use Rattle.tcp_relay.specs.Effects.{notes_of}
use Rattle.tcp_relay.specs.Lines.{feeds_of, held_in, line_in, octets_of}
use Rattle.tcp_relay.specs.Noting.{AppendsSome}
use Rattle.tcp_relay.specs.Rests.{GoesOnFrom, RefusesFrom, Rests, ShowsClosing, ShowsConn, ShowsFront, ShowsOut, ShowsPeer, ShowsReads, StopsFrom, goes_on as reads_on, has_octets, held_behind, held_by}
use Rattle.tcp_relay.specs.Seen.{IsFront, IsLeast}
use Rattle.tcp_relay.specs.Stands.{line_if, line_of, tape_board}
use Rattle.tcp_relay.specs.Ties.{Tied}
use Rattle.tcp_relay.specs.Turns.{AreSpelled, CutsTurn, HasFailed, Refuses, RefusesPaused, Turns, turn_notes}
use Rattle.tcp_relay.specs.declared.fault.RelayFault.{RelayFault}
use Rattle.tcp_relay.specs.declared.relay.Relay.{Relay}
use Rattle.flow_notes.specs.declared.events.Event.TheVariants as event
use Rattle.flow_notes.specs.declared.notes.Note.TheVariants as note

-- ---- what is held behind a connection, as the tape has it
module _ (limit : ℕ) (h : Tape) (s : IsSound h) where
  held_open : (o : Bool) (x : List ℕ) (a : Bool) (f : Option Feed) → o ≡ true → held_in (line_if o x limit a f) ≡ (if a then Some (length x) else None)
  held_open true x a f e = refl
  held_open false x a f e = cc

  pub held_same : (c : ℕ) → held_at c (tape_board limit h) ≡ held_behind limit (feed c h) h
  held_same c = ap (λ (o : Option Feed). held_past o (tape_board limit h)) (feeds_seen limit c h s) ∙ by_option (feed c h)
      (λ e. ap (λ (o : Option Feed). held_past o (tape_board limit h)) e ∙ sym (ap (λ (o : Option Feed). held_behind limit o h) e))
      (λ f e.
      let p : IsPaired h c f = if_some (feed c h) (IsPaired h c) f e (s.paired c) in
      let q : IsPaired h f.to (record { flow = opposite f.flow; to = c }) = if_some (feed f.to h) (IsPaired h f.to) (record { flow = opposite f.flow; to = c }) p.back (s.paired f.to) in
      ap (λ (o : Option Feed). held_past o (tape_board limit h)) e
      ∙ held_open (is_open f.to h) (out f.to h) (above limit f.to h) (feed f.to h) q.opened
      ∙ sym (ap (λ (o : Option Feed). held_behind limit o h) e))

  pub held_event : (e : Event) → held_for e (tape_board limit h) ≡ held_by limit e h
  held_event (event.Read c octets) = held_same c
  held_event (event.Accept c) = refl
  held_event (event.Join c cluster) = refl
  held_event (event.Gone c) = refl
  held_event (event.Room c n) = refl
  held_event (event.Tick now) = refl
  held_event (event.Post p n job) = refl
  held_event (event.Obey v ps) = refl
  held_event (event.Plain e) = refl

  goes_if : (o : Option Feed) → held_behind limit o h ≡ None → is_held limit o h ≡ false
  goes_if None e = refl
  goes_if (Some f) e = by_case (above limit f.to h)
      (λ t. no_some (if above limit f.to h then Some (length (out f.to h)) else None) (length (out f.to h)) e (ap (λ b. if b then Some (length (out f.to h)) else None) t))
      (λ n. n)

  pub backs_off : (e : Event) → held_by limit e h ≡ None → reads_paused limit e h ≡ false
  backs_off (event.Read c octets) e = goes_if (feed c h) e
  backs_off (event.Accept c) e = refl
  backs_off (event.Join c cluster) e = refl
  backs_off (event.Gone c) e = refl
  backs_off (event.Room c n) e = refl
  backs_off (event.Tick now) e = refl
  backs_off (event.Post p n job) e = refl
  backs_off (event.Obey v ps) e = refl
  backs_off (event.Plain v) e = refl

-- ---- a dispatch
module _ (limit : ℕ) (names : List (List ℕ)) (old : Relay) (e : Event) (h : Tape) (r : Rests limit names old h) (may : MayCome names (events_back h) e) where
  pub sound : IsSound h
  sound = tape_sound limit names h r.tape

  pub ties : Tied limit e h
  ties = tied limit h names e sound may.2 may.0

  pub same_notes : turn_notes old e ≡ dispatch_notes limit e h
  same_notes = (λ i. note.Turn (r.turn i + 1) e ∷ notes_of e (effect_of e (r.board i))) ∙ sym ties.notes

  module _ (new : Relay) (before after : List Note) (free : held_for e (board_of old.table) ≡ None) (turn : new.turn ≡ old.turn + 1)
      (board : board_of new.table ≡ board_after e (board_of old.table)) (well : new.failed ≡ old.failed) where
    abbrev pub next : Tape
    next = onto (dispatch_notes limit e h) h

    unheld : held_by limit e h ≡ None
    unheld = sym (held_event limit h sound e) ∙ ap (λ b. held_for e b) (sym r.board) ∙ free

    pub next_tape : IsTape limit names next
    next_tape =
        let events : events_back next ≡ e ∷ events_back h = shows limit e h ties in
        record {
          is = (λ i. onto (dispatch_notes limit e (r.tape.is i)) (r.tape.is i)) ∙ sym (ap (λ es. relay_tape limit es) events);
          follows = subst (λ es. MayRelayAll limit names es) (sym events)
              (record { comes = may; backs_off = subst (λ v. reads_paused limit e v ≡ false) r.tape.is (backs_off limit h sound e unheld) }, r.tape.follows);
        }

    pub next_rests : Rests limit names new next
    next_rests = record {
      tape = next_tape;
      board = board ∙ ap (λ b. board_after e b) r.board ∙ sym ties.board;
      turn = turn ∙ ap (λ n. n + 1) r.turn ∙ sym (counts limit e h ties);
      well = well ∙ r.well;
    }

-- the notes of earlier dispatches may still stand before
pub goes_on : (old : Relay) (before : List Note) (e : Event) (new : Relay) (after : List Note) → Turns old before e new after → GoesOnFrom old before e new after
goes_on old before e new after t = record {
  goes = λ limit names h r may.
      let base : Tape = onto before h in
      let is : after ≡ before ++ dispatch_notes limit e base = t.notes ∙ ap (λ ns. before ++ ns) (same_notes limit names old e base r may) in
      let past : onto after h ≡ onto (dispatch_notes limit e base) base = ap (λ ns. onto ns h) is ∙ onto_append before (dispatch_notes limit e base) h in
      record {
        notes = is;
        rests = subst (λ v. Rests limit names new v) (sym past) (next_rests limit names old e base r may new before after t.reads t.turn (seen_same _ _ t.board) t.well);
        shows = ap (λ v. events_back v) past ∙ shows limit e base (ties limit names old e base r may);
        spelled = λ b. subst (λ v. AreSpelled names v) (sym t.notes) (spelled_both names before (turn_notes old e) b (spelled names old.turn e (board_of old.table) may.0));
      };
}

pub stops : (old : Relay) (before : List Note) (e : Event) (after : List Note) → CutsTurn old before e after → StopsFrom old before e after
stops old before e after t = record {
  goes = λ limit names h r may. record {
    notes = subst (λ ns. AppendsSome before ns after) (same_notes limit names old e (onto before h) r may) t.front;
    spelled = spelled_some names before (turn_notes old e) after (spelled names old.turn e (board_of old.table) may.0) t.front;
  };
}

-- ---- answers of the call that speaks of the connections alone
abbrev pub Answered : Type 0
Answered = Result (Unit {0}) RelayFault

pub goes_on_ok : (result : Answered) (old : Relay) (before : List Note) (e : Event) (new : Relay) (after : List Note)
    → OnOk result (Turns old before e new after) → OnOk result (GoesOnFrom old before e new after)
goes_on_ok (Ok u) old before e new after t = goes_on old before e new after t
goes_on_ok (Err x) old before e new after t = t

pub refuses : {A : Type 0} (result : Result A RelayFault) (old : Relay) (before : List Note) (e : Event) (new : Relay) (after : List Note)
    → (HasFailed old false → RefusesPaused old before e result new after) → RefusesFrom old before e result new after
refuses result old before e new after k = record {
  goes = λ limit names h r. subst (λ o. Refuses o old before result new after)
      (ap (λ b. held_for e b) r.board ∙ held_event limit (onto before h) (tape_sound limit names (onto before h) r.tape) e) (k r.well);
}

-- ---- a new relay, and what is seen of one at rest
pub rests_first : (limit : ℕ) (relay : Relay) → IsSeenAs (board_of relay.table) (tape_board limit []) → relay.turn ≡ 0 → relay.failed ≡ false
    → (names : List (List ℕ)) → Rests limit names relay []
rests_first limit relay board turn well names = record {
  tape = record { is = refl; follows = tt };
  board = seen_same _ _ board;
  turn = turn;
  well = well;
}

module _ (limit : ℕ) (names : List (List ℕ)) (relay : Relay) (h : Tape) (r : Rests limit names relay h) where
  whole : IsSound h
  whole = tape_sound limit names h r.tape

  line_at : (c : ℕ) → line_in relay.table.conns c ≡ line_of limit c h
  line_at c = λ i. (r.board i).lines c

  octets_if : (o : Bool) (x : List ℕ) (a : Bool) (f : Option Feed) → (o ≡ false → x ≡ []) → octets_of (line_if o x limit a f) ≡ x
  octets_if true x a f e = refl
  octets_if false x a f e = sym (e refl)

  octets_at : (c : ℕ) → octets_of (line_in relay.table.conns c) ≡ out c h
  octets_at c = ap (λ l. octets_of l) (line_at c) ∙ octets_if (is_open c h) (out c h) (above limit c h) (feed c h) (λ e. (whole.done c e).out)

  open_if : (o : Bool) (x : List ℕ) (a : Bool) (f : Option Feed) → is_some (line_if o x limit a f) ≡ o
  open_if true x a f = refl
  open_if false x a f = refl

  open_at : (c : ℕ) → is_some (line_in relay.table.conns c) ≡ is_open c h
  open_at c = ap (λ l. is_some l) (line_at c) ∙ open_if (is_open c h) (out c h) (above limit c h) (feed c h)

  waits_at : (c : ℕ) → contains nat_cmp relay.table.waiting c ≡ has_octets c h
  waits_at c = λ i. (r.board i).waits c

  fed_at : (c : ℕ) → feeds_of (line_in relay.table.conns c) ≡ feed c h
  fed_at c = ap (λ l. feeds_of l) (line_at c) ∙ feeds_seen limit c h whole

  -- octets wait for open connections alone
  open_or_waits : (c : ℕ) → is_open c h ≡ (is_open c h || has_octets c h)
  open_or_waits c = by_case (is_open c h)
      (λ e. e ∙ sym (ap (λ b. b || has_octets c h) e))
      (λ e. e ∙ sym (ap (λ b. b || has_octets c h) e ∙ ap (λ (v : List ℕ). nat_lt 0 (length v)) (whole.done c e).out))

  reads_if : (c : ℕ) (o : Option Feed) → feed c h ≡ o → is_reading o (tape_board limit h) ≡ reads_on limit o h
  reads_if c None e = refl
  reads_if c (Some f) e =
      let p : IsPaired h c f = if_some (feed c h) (IsPaired h c) f e (whole.paired c) in
      let q : IsPaired h f.to (record { flow = opposite f.flow; to = c }) = if_some (feed f.to h) (IsPaired h f.to) (record { flow = opposite f.flow; to = c }) p.back (whole.paired f.to) in
      ap (λ o. is_none o) (held_open limit h whole (is_open f.to h) (out f.to h) (above limit f.to h) (feed f.to h) q.opened) ∙ none_if (above limit f.to h) (length (out f.to h))
    where
      none_if : (a : Bool) (n : ℕ) → is_none (if a then Some n else None) ≡ not a
      none_if true n = refl
      none_if false n = refl

  pub reads_at : (c : ℕ) → is_reading (feeds_of (line_in relay.table.conns c)) (board_of relay.table) ≡ reads_on limit (feed c h) h
  reads_at c = (λ i. is_reading ((ap (λ l. feeds_of l) (line_at c) ∙ feeds_seen limit c h whole) i) (r.board i)) ∙ reads_if c (feed c h) refl

-- ---- the least at which a test holds
least_same : (P Q : ℕ → Bool) (after : ℕ) (o : Option ℕ) → ((c : ℕ) → P c ≡ Q c) → IsLeast P after o → IsLeast Q after o
least_same P Q after o same l = subst (λ R. IsLeast R after o) (λ i c. same c i) l

pub shows_front : (relay : Relay) (c : ℕ) (front : List ℕ) → IsFront (octets_of (line_in relay.table.conns c)) front → ShowsFront relay c front
shows_front relay c front k = record { goes = λ limit names h r. subst (λ v. IsFront v front) (octets_at limit names relay h r c) k }

pub shows_reads : (relay : Relay) (c : ℕ) (answer : Bool) → answer ≡ is_reading (feeds_of (line_in relay.table.conns c)) (board_of relay.table) → ShowsReads relay c answer
shows_reads relay c answer k = record { goes = λ limit names h r. k ∙ reads_at limit names relay h r c }

pub shows_peer : (relay : Relay) (c : ℕ) (answer : Option ℕ) → answer ≡ option_map (λ f. f.to) (feeds_of (line_in relay.table.conns c)) → ShowsPeer relay c answer
shows_peer relay c answer k = record {
  goes = λ limit names h r. k ∙ ap (λ (o : Option Feed). option_map (λ f. f.to) o) (fed_at limit names relay h r c);
}

pub shows_closing : (relay : Relay) (c : ℕ) (there answer : Bool) → there ≡ is_some (line_in relay.table.conns c) → answer ≡ not there → ShowsClosing relay c answer
shows_closing relay c there answer k e = record { goes = λ limit names h r. e ∙ ap (λ b. not b) (k ∙ open_at limit names relay h r c) }

pub shows_conn : (relay : Relay) (after : ℕ) (answer : Option ℕ) → IsLeast (λ c. is_some (line_in relay.table.conns c)) after answer → ShowsConn relay after answer
shows_conn relay after answer k = record {
  goes = λ limit names h r. least_same (λ c. is_some (line_in relay.table.conns c)) (λ c. is_open c h || has_octets c h) after answer
      (λ c. open_at limit names relay h r c ∙ open_or_waits limit names relay h r c) k;
}

pub shows_out : (relay : Relay) (after : ℕ) (answer : Option ℕ) → IsLeast (λ c. contains nat_cmp relay.table.waiting c) after answer → ShowsOut relay after answer
shows_out relay after answer k = record {
  goes = λ limit names h r. least_same (λ c. contains nat_cmp relay.table.waiting c) (λ c. has_octets c h) after answer (λ c. waits_at limit names relay h r c) k;
}
