-- Dispatch by dispatch, so that the tape of a session is a lawful relay tape.
use Rattle.flow_notes.specs.declared.events.Event.{Event}
use Rattle.flow_notes.specs.declared.notes.Note.{Note}
use Rattle.relay_laws.specs.Lawful.{IsRelayWhole}
use Rattle.relay_laws.specs.Order.{is_new, may_come}
use Rattle.relay_laws.specs.Pairs.{Tape, feed, free, is_open}
use Rattle.relay_laws.specs.Session.{IsTape, MayRelayAll, is_held, reads_paused, relay_tape}
use Rattle.relay_laws.specs.Sound.{IsPaired, IsSound}
use Rattle.relay_laws.specs.World.{out}
use Rattle.relay_laws.specs.declared.Feed.{Feed}
use Rattle.std.proofs.Common.{ap, refl, subst, sym, ◌∙◌}
use Rattle.std.specs.Prelude.{List, Option, [], drop, false, if◌then◌else◌, is_none, length, min, nat_lt, true, ℕ, ◌&&◌, ◌+◌, ◌-◌, ◌==◌, ◌∷◌, ◌≡◌}
use Rattle.tape_laws.specs.Dispatches.{events_back, turns}
use Rattle.tape_laws.specs.History.{Noted, onto}
use Rattle.tcp_relay.proofs.Boards.{onto_append}
use Rattle.tcp_relay.proofs.EvenTurns.{even_turn_accept}
use Rattle.tcp_relay.proofs.Evens.{IsEven}
use Rattle.tcp_relay.proofs.Flags.{above_same}
use Rattle.tcp_relay.proofs.Given.{as_given}
use Rattle.tcp_relay.proofs.Promises.{keeps_promise}
use Rattle.tcp_relay.proofs.Sessions.{even, known}
use Rattle.tcp_relay.proofs.Shapes.{close_if, leaves_none, leaves_some, loses_alone, loses_nothing, loses_pair, low, pairs_two, reads_nothing, reads_some, refuses, resume_if, turn_of}
use Rattle.tcp_relay.proofs.SoundTurns.{after, read_turn, room_turn}
use Rattle.tcp_relay.proofs.Sounds.{sound_accept}
use Rattle.tcp_relay.proofs.Tests.{by_case, by_option, if_some}
use Rattle.tcp_relay.proofs.Tolds.{IsTold, told_close, told_doomed, told_gone, told_lost, told_overload, told_read, told_room, told_start, told_turn}
use Rattle.tcp_relay.specs.AsGiven.{IsAsGiven}
use Rattle.flow_notes.specs.declared.events.Event.TheVariants as event
use Rattle.flow_rules.specs.declared.causes.Cause.TheVariants as cause
use Rattle.flow_notes.specs.declared.notes.CloseCause.TheVariants as closed
use Rattle.flow_notes.specs.declared.notes.Note.TheVariants as note

-- ---- a whole dispatch
module _ (limit : ℕ) (h : Tape) (s : IsSound h) (v : IsEven limit h) (w : IsTold limit h) where
  turned_told : (e : Event) → IsTold limit (Noted (turn_of limit h e) ∷ h)
  turned_told e = told_turn limit (turns h + 1) e h w

  accept_told : (c : ℕ) → is_new (events_back h) c ≡ true → (fs : List ℕ) → free h ≡ fs → IsTold limit (after limit (event.Accept c) h)
  accept_told c new [] e = subst (λ (ns : List Note). IsTold limit (onto ns h)) (sym (refuses limit h c e))
      (told_overload limit c (Noted (turn_of limit h (event.Accept c)) ∷ h) (turned_told (event.Accept c)))
  accept_told c new (d ∷ ds) e = subst (λ (ns : List Note). IsTold limit (onto ns h)) (sym (pairs_two limit h c d ds e))
      (told_start limit c d (Noted (turn_of limit h (event.Accept c)) ∷ h) (sound_accept (turns h + 1) c h s new) (even_turn_accept limit h v (turns h + 1) c) (turned_told (event.Accept c)))

  read_told : (c : ℕ) (octets : List ℕ) → is_held limit (feed c h) h ≡ false → IsTold limit (after limit (event.Read c octets) h)
  read_told c octets open_way = by_option (feed c h)
      (λ e. subst (λ (ns : List Note). IsTold limit (onto ns h)) (sym (reads_nothing limit h c octets e)) (turned_told (event.Read c octets)))
      (λ f e.
      let pair : IsPaired h c f = if_some (feed c h) (IsPaired h c) f e (s.paired c) in
      subst (λ (ns : List Note). IsTold limit (onto ns h)) (sym (reads_some limit h c octets f e pair.goes))
      (told_read limit (Noted (turn_of limit h (event.Read c octets)) ∷ h) (read_turn h s (turns h + 1) c octets) (turned_told (event.Read c octets)) f octets c pair.goes pair.back
      (above_same limit f.to (Noted (turn_of limit h (event.Read c octets))) h refl ∙ sym (ap (λ (o : Option Feed). is_held limit o h) e) ∙ open_way)))

  module _ (c n : ℕ) where
    abbrev m : ℕ
    m = min n (length (out c h))

    room_told : IsTold limit (after limit (event.Room c n) h)
    room_told = by_case (nat_lt 0 m)
        (λ e. subst (λ (ns : List Note). IsTold limit (onto ns h)) (sym (leaves_some limit h c n m refl e))
        (subst (λ y. IsTold limit y)
        (sym (onto_append (resume_if (low limit h c n m) (feed c h) c) (close_if (length (drop m (out c h)) == 0 && is_none (feed c h)) c) (Noted (note.Out c m) ∷ Noted (turn_of limit h (event.Room c n)) ∷ h)))
        (told_close limit (length (drop m (out c h)) == 0 && is_none (feed c h)) c (onto (resume_if (low limit h c n m) (feed c h) c) (Noted (note.Out c m) ∷ Noted (turn_of limit h (event.Room c n)) ∷ h))
        (told_room limit c m (Noted (turn_of limit h (event.Room c n)) ∷ h) (room_turn h s (turns h + 1) c n) (turned_told (event.Room c n))))))
        (λ e. subst (λ (ns : List Note). IsTold limit (onto ns h)) (sym (leaves_none limit h c n e)) (turned_told (event.Room c n)))

  gone_told : (c : ℕ) → IsTold limit (after limit (event.Gone c) h)
  gone_told c = by_case (is_open c h)
      (λ o. by_option (feed c h)
      (λ e. subst (λ (ns : List Note). IsTold limit (onto ns h)) (sym (loses_alone limit h c o e)) (told_lost limit c (Noted (turn_of limit h (event.Gone c)) ∷ h) e (turned_told (event.Gone c))))
      (λ f e. subst (λ (ns : List Note). IsTold limit (onto ns h)) (sym (loses_pair limit h c f o e))
      (told_close limit (length (out f.to h) == 0) f.to
      (Noted (note.Gone f.flow.exchange) ∷ Noted (note.Doom f.flow.exchange (cause.ConnLost c)) ∷ Noted (note.Close c 0 closed.Lost) ∷ Noted (turn_of limit h (event.Gone c)) ∷ h)
      (told_gone limit f.flow.exchange (Noted (note.Doom f.flow.exchange (cause.ConnLost c)) ∷ Noted (note.Close c 0 closed.Lost) ∷ Noted (turn_of limit h (event.Gone c)) ∷ h)
      (told_doomed limit c (Noted (turn_of limit h (event.Gone c)) ∷ h) (turned_told (event.Gone c)) f e)))))
      (λ o. subst (λ (ns : List Note). IsTold limit (onto ns h)) (sym (loses_nothing limit h c o (s.done c o).feed)) (turned_told (event.Gone c)))

  told_after : (e : Event) → may_come (events_back h) e ≡ true → reads_paused limit e h ≡ false → IsTold limit (after limit e h)
  told_after (event.Accept c) new z = accept_told c new (free h) refl
  told_after (event.Read c octets) new z = read_told c octets z
  told_after (event.Room c n) new z = room_told c n
  told_after (event.Gone c) new z = gone_told c
  told_after (event.Join c j) new z = turned_told (event.Join c j)
  told_after (event.Tick now) new z = turned_told (event.Tick now)
  told_after (event.Post p n job) new z = turned_told (event.Post p n job)
  told_after (event.Obey u ps) new z = turned_told (event.Obey u ps)
  told_after (event.Plain e) new z = turned_told (event.Plain e)

-- ---- the tape of a session
module _ (limit : ℕ) (names : List (List ℕ)) where
  told : (es : List Event) → MayRelayAll limit names es → IsTold limit (relay_tape limit es)
  told [] m = record { at = λ c. tt; told = λ c. tt; follows = tt; ends = tt }
  told (e ∷ es) m = told_after limit (relay_tape limit es) (known limit names es m.1).sound (even limit names es m.1) (told es m.1) e
      (ap (λ v. may_come v e) (known limit names es m.1).shows ∙ m.0.comes.2) m.0.backs_off

  pub whole : (h : Tape) → IsTape limit names h → IsRelayWhole limit h
  whole h t =
      let k : IsTold limit h = subst (λ y. IsTold limit y) (sym t.is) (told (events_back h) t.follows) in
      let g : IsAsGiven h = as_given limit names h t in
      record {
        lawful = record {
          given = g.given;
          taken = g.taken;
          backs_off = (keeps_promise limit names h t).backs_off;
          paused = k.follows;
          resumed = k.ends;
          doomed = g.doomed;
        };
        done = g.done;
        paused = k.at;
        resumed = k.told;
      }
