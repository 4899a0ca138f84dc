-- The promise of a session's tape, at each moment and at each end of a dispatch.
use Rattle.flow_rules.specs.declared.ids.FlowId.{FlowId}
use Rattle.flow_notes.specs.declared.events.Event.{Event}
use Rattle.flow_notes.specs.declared.notes.Note.{Note}
use Rattle.relay_laws.specs.Lawful.{BacksOff}
use Rattle.relay_laws.specs.Order.{may_come}
use Rattle.relay_laws.specs.Pairs.{Tape, feed, opposite}
use Rattle.relay_laws.specs.Promise.{PausesItsReader, RelaysItsReads, Relays}
use Rattle.relay_laws.specs.Session.{IsTape, MayRelayAll, is_held, relay_tape}
use Rattle.relay_laws.specs.Sound.{IsPaired, IsSound}
use Rattle.relay_laws.specs.Watermark.{above}
use Rattle.std.proofs.Common.{ap, subst, sym, ◌∙◌}
use Rattle.std.specs.List.{AllByRecursion}
use Rattle.std.specs.Prelude.{Bool, IfSome, List, None, Option, Some, [], false, if◌then◌else◌, true, ℕ, ◌+◌, ◌++◌, ◌∷◌, ◌≡◌}
use Rattle.tape_laws.specs.Dispatches.{events_back, turns}
use Rattle.tape_laws.specs.History.{BeforeTurn, EachFollows, NoMark, Noted, Step, onto}
use Rattle.tape_laws.specs.Pauses.{count}
use Rattle.tcp_relay.proofs.EvenTurns.{exact}
use Rattle.tcp_relay.proofs.Evens.{opposite_twice}
use Rattle.tcp_relay.proofs.Kept.{keeps_always}
use Rattle.tcp_relay.proofs.Relayed.{relays}
use Rattle.tcp_relay.proofs.Sessions.{Known, even, known, relayed, tape_bounded}
use Rattle.tcp_relay.proofs.Tests.{for_some, if_some}
use Rattle.tcp_relay.proofs.TieAll.{tied}
use Rattle.tcp_relay.specs.Board.{effect_of}
use Rattle.tcp_relay.specs.Effects.{arrival_of, drained_of, ended_of, notes_of, pause_of, resume_of}
use Rattle.tcp_relay.specs.Stands.{tape_board}
use Rattle.tcp_relay.specs.Ties.{Tied}
use Rattle.tcp_relay.specs.declared.effect.Effect.{Effect}
use Rattle.tcp_relay.specs.declared.effect.Ended.{Ended}
use Rattle.flow_notes.specs.declared.events.Event.TheVariants as event
use Rattle.flow_notes.specs.declared.notes.Note.TheVariants as note
use Rattle.tcp_relay.specs.declared.effect.Effect.TheVariants as effect

-- ---- the notes of an event begin no dispatch
abbrev NotTurn : Note → Type 0
NotTurn (note.Turn k e) = ⊥
NotTurn n = Unit {0}

abbrev NoTurns : List Note → Type 0
NoTurns ns = AllByRecursion NotTurn ns

none_paused : (b : Bool) (f : FlowId) (c : ℕ) → NoTurns (pause_of b f c)
none_paused true f c = (tt, tt)
none_paused false f c = tt

none_arrived : (e : Event) (f : FlowId) (b : Bool) (c : ℕ) → NoTurns (arrival_of e f ++ pause_of b f c)
none_arrived (event.Read d octets) f b c = (tt, none_paused b f c)
none_arrived (event.Accept d) f b c = none_paused b f c
none_arrived (event.Join d j) f b c = none_paused b f c
none_arrived (event.Gone d) f b c = none_paused b f c
none_arrived (event.Room d n) f b c = none_paused b f c
none_arrived (event.Tick now) f b c = none_paused b f c
none_arrived (event.Post p n job) f b c = none_paused b f c
none_arrived (event.Obey v ps) f b c = none_paused b f c
none_arrived (event.Plain e) f b c = none_paused b f c

none_drained : (b : Bool) (c : ℕ) → NoTurns (drained_of b c)
none_drained true c = (tt, tt)
none_drained false c = tt

none_resumed : (o : Option FlowId) (b : Bool) (c d : ℕ) → NoTurns (resume_of o c ++ drained_of b d)
none_resumed None b c d = none_drained b d
none_resumed (Some f) b c d = (tt, none_drained b d)

none_ended : (c : ℕ) (o : Option Ended) → NoTurns (ended_of c o)
none_ended c None = tt
none_ended c (Some e) = (tt, (tt, none_drained e.closed e.other))

none_of : (e : Event) (f : Effect) → NoTurns (notes_of e f)
none_of e effect.Nothing = tt
none_of e (effect.Paired x c d) = (tt, tt)
none_of e (effect.Refused c) = (tt, tt)
none_of e (effect.Carried f c rose) = none_arrived e f rose c
none_of e (effect.Left l) = (tt, none_resumed l.resumed l.closed l.conn l.conn)
none_of e (effect.Lost c ended) = (tt, none_ended c ended)

-- ---- what is asked of turn notes alone
module _ (May : Step NoMark → Tape → Type 0) (quiet : (n : Note) → NotTurn n → (h : Tape) → May (Noted n) h) where
  follows_onto : (ns : List Note) (h : Tape) → NoTurns ns → EachFollows May h → EachFollows May (onto ns h)
  follows_onto [] h a f = f
  follows_onto (n ∷ ns) h a f = follows_onto ns (Noted n ∷ h) a.1 (quiet n a.0 h, f)

  module _ (limit : ℕ) (names : List (List ℕ)) (at : (e : Event) (es : List Event) → MayRelayAll limit names (e ∷ es) → May (Noted (note.Turn (turns (relay_tape limit es) + 1) e)) (relay_tape limit es)) where
    each_turn : (es : List Event) → MayRelayAll limit names es → EachFollows May (relay_tape limit es)
    each_turn [] m = tt
    each_turn (e ∷ es) m =
        let h : Tape = relay_tape limit es in
        let k : Known h es = known limit names es m.1 in
        let t : Tied limit e h = tied limit h names e k.sound (ap (λ v. may_come v e) k.shows ∙ m.0.comes.2) m.0.comes.0 in
        subst (λ (ns : List Note). EachFollows May (onto ns h)) (sym t.notes)
        (follows_onto (notes_of e (effect_of e (tape_board limit h))) (Noted (note.Turn (turns h + 1) e) ∷ h) (none_of e (effect_of e (tape_board limit h)))
        (at e es m, each_turn es m.1))

quiet_before : (P : Tape → Type 0) (n : Note) → NotTurn n → (h : Tape) → BeforeTurn P (Noted n) h
quiet_before P (note.Turn k e) t h = absurd t
quiet_before P (note.Arrive f octets) t h = tt
quiet_before P (note.Move f p n) t h = tt
quiet_before P (note.Frame c f n last) t h = tt
quiet_before P (note.Out c n) t h = tt
quiet_before P (note.Pause f b) t h = tt
quiet_before P (note.Resume f b) t h = tt
quiet_before P (note.Credit c s n) t h = tt
quiet_before P (note.Head c s octets) t h = tt
quiet_before P (note.Answer c octets) t h = tt
quiet_before P (note.Waste c s n) t h = tt
quiet_before P (note.Start x c s d) t h = tt
quiet_before P (note.Doom x why) t h = tt
quiet_before P (note.Gone x) t h = tt
quiet_before P (note.Close c code why) t h = tt
quiet_before P (note.Fire kind id) t h = tt

quiet_read : (n : Note) → NotTurn n → (h : Tape) → BacksOff (Noted n) h
quiet_read (note.Turn k e) t h = absurd t
quiet_read (note.Arrive f octets) t h = tt
quiet_read (note.Move f p n) t h = tt
quiet_read (note.Frame c f n last) t h = tt
quiet_read (note.Out c n) t h = tt
quiet_read (note.Pause f b) t h = tt
quiet_read (note.Resume f b) t h = tt
quiet_read (note.Credit c s n) t h = tt
quiet_read (note.Head c s octets) t h = tt
quiet_read (note.Answer c octets) t h = tt
quiet_read (note.Waste c s n) t h = tt
quiet_read (note.Start x c s d) t h = tt
quiet_read (note.Doom x why) t h = tt
quiet_read (note.Gone x) t h = tt
quiet_read (note.Close c code why) t h = tt
quiet_read (note.Fire kind id) t h = tt

module _ (limit : ℕ) (names : List (List ℕ)) where
  exact_at : (es : List Event) → MayRelayAll limit names es → PausesItsReader limit (relay_tape limit es)
  exact_at es m = exact limit (relay_tape limit es) (even limit names es m)

  relays_at : (es : List Event) → MayRelayAll limit names es → RelaysItsReads (relay_tape limit es)
  relays_at es m = relays (relay_tape limit es) (known limit names es m).sound (relayed limit names es m)

  -- a connection is read only where its flow isn't paused
  free_at : (h : Tape) (s : IsSound h) → PausesItsReader limit h → (c : ℕ) → is_held limit (feed c h) h ≡ false → IfSome (feed c h) (λ f. count f.flow h ≡ 0)
  free_at h s p c e = for_some (feed c h) (λ f. count f.flow h ≡ 0) (λ f k.
      let q : IsPaired h c f = if_some (feed c h) (IsPaired h c) f k (s.paired c) in
      ap (λ g. count g h) (sym (opposite_twice f.flow))
      ∙ if_some (feed f.to h) (λ g. count (opposite g.flow) h ≡ (if above limit f.to h then 1 else 0)) (record { flow = opposite f.flow; to = c }) q.back (p f.to)
      ∙ ap (λ b. if b then 1 else 0) (sym (ap (λ o. is_held limit o h) k) ∙ e))

  backs_off_at : (e : Event) (es : List Event) → MayRelayAll limit names (e ∷ es) → BacksOff (Noted (note.Turn (turns (relay_tape limit es) + 1) e)) (relay_tape limit es)
  backs_off_at (event.Read c octets) es m = free_at (relay_tape limit es) (known limit names es m.1).sound (exact_at es m.1) c m.0.backs_off
  backs_off_at (event.Accept c) es m = tt
  backs_off_at (event.Join c j) es m = tt
  backs_off_at (event.Gone c) es m = tt
  backs_off_at (event.Room c n) es m = tt
  backs_off_at (event.Tick now) es m = tt
  backs_off_at (event.Post p n job) es m = tt
  backs_off_at (event.Obey v ps) es m = tt
  backs_off_at (event.Plain e) es m = tt

  promised : (es : List Event) → MayRelayAll limit names es → (h : Tape) → h ≡ relay_tape limit es → IsTape limit names h → Relays limit h
  promised es m h is t = record {
    relayed = subst (λ v. EachFollows (BeforeTurn RelaysItsReads) v) (sym is) (each_turn (BeforeTurn RelaysItsReads) (quiet_before RelaysItsReads) limit names (λ e fs k. relays_at fs k.1) es m);
    last = subst (λ v. RelaysItsReads v) (sym is) (relays_at es m);
    kept = keeps_always h;
    bounded = tape_bounded limit names h t;
    exact = subst (λ v. EachFollows (BeforeTurn (PausesItsReader limit)) v) (sym is) (each_turn (BeforeTurn (PausesItsReader limit)) (quiet_before (PausesItsReader limit)) limit names (λ e fs k. exact_at fs k.1) es m);
    exact_last = subst (λ v. PausesItsReader limit v) (sym is) (exact_at es m);
    backs_off = subst (λ v. EachFollows BacksOff v) (sym is) (each_turn BacksOff quiet_read limit names backs_off_at es m);
  }

  pub keeps_promise : (h : Tape) → IsTape limit names h → Relays limit h
  keeps_promise h t = promised (events_back h) t.follows h t.is t
