-- The tape of a session, dispatch by dispatch.
use Rattle.flow_notes.specs.declared.events.Event.{Event}
use Rattle.relay_laws.specs.Order.{may_come}
use Rattle.relay_laws.specs.Pairs.{Tape}
use Rattle.relay_laws.specs.Promise.{IsBounded}
use Rattle.relay_laws.specs.Session.{IsTape, MayRelayAll, relay_tape}
use Rattle.relay_laws.specs.Sound.{IsSound}
use Rattle.std.proofs.Common.{ap, arith, refl, subst, sym, ◌∙◌}
use Rattle.std.specs.Bool.{OnTrue}
use Rattle.std.specs.Prelude.{Bool, List, [], false, length, nat_lt, true, ℕ, ◌+◌, ◌∷◌, ◌≡◌, ◌≤◌}
use Rattle.tape_laws.specs.Dispatches.{events_back}
use Rattle.tape_laws.specs.History.{AtEachMoment}
use Rattle.tcp_relay.proofs.Bounded.{bounded_after}
use Rattle.tcp_relay.proofs.EvenTurns.{even_after}
use Rattle.tcp_relay.proofs.Evens.{IsEven}
use Rattle.tcp_relay.proofs.Relayed.{IsRelayed, relayed_after, relayed_first}
use Rattle.tcp_relay.proofs.SoundTurns.{sound_after}
use Rattle.tcp_relay.proofs.TieAll.{shows, tied}
use Rattle.tcp_relay.specs.Ties.{Tied}

sound_first : IsSound []
sound_first = record {
  paired = λ c. tt;
  done = λ c e. record { out = refl; feed = refl };
  rises = tt;
  fresh = λ c e. record { closed = refl; after = tt };
  unpaired = λ c e. cc;
}

pub record Known (h : Tape) (es : List Event) : Type 0 where
  pub sound : IsSound h
  pub shows : events_back h ≡ es

module _ (limit : ℕ) (names : List (List ℕ)) where
  pub known : (es : List Event) → MayRelayAll limit names es → Known (relay_tape limit es) es
  known [] m = record { sound = sound_first; shows = refl }
  known (e ∷ es) m =
      let k : Known (relay_tape limit es) es = known es m.1 in
      let new : may_come (events_back (relay_tape limit es)) e ≡ true = ap (λ v. may_come v e) k.shows ∙ m.0.comes.2 in
      let t : Tied limit e (relay_tape limit es) = tied limit (relay_tape limit es) names e k.sound new m.0.comes.0 in
      record {
        sound = sound_after limit (relay_tape limit es) k.sound e new;
        shows = shows limit e (relay_tape limit es) t ∙ ap (λ v. e ∷ v) k.shows;
      }

  pub tape_sound : (h : Tape) → IsTape limit names h → IsSound h
  tape_sound h t = subst (λ v. IsSound v) (sym t.is) (known (events_back h) t.follows).sound

  bounded_first : IsBounded limit []
  bounded_first = λ c. none (nat_lt 0 limit)
    where
      none : (t : Bool) → OnTrue t (length {A = ℕ} [] ≤ limit + 16384)
      none true = omega arith
      none false = tt

  pub bounded : (es : List Event) → MayRelayAll limit names es → AtEachMoment (IsBounded limit) (relay_tape limit es)
  bounded [] m = bounded_first
  bounded (e ∷ es) m =
      let k : Known (relay_tape limit es) es = known es m.1 in
      let new : may_come (events_back (relay_tape limit es)) e ≡ true = ap (λ v. may_come v e) k.shows ∙ m.0.comes.2 in
      bounded_after limit (relay_tape limit es) k.sound (bounded es m.1) names e m.0.comes.0 m.0.backs_off (tied limit (relay_tape limit es) names e k.sound new m.0.comes.0)

  pub tape_bounded : (h : Tape) → IsTape limit names h → AtEachMoment (IsBounded limit) h
  tape_bounded h t = subst (λ v. AtEachMoment (IsBounded limit) v) (sym t.is) (bounded (events_back h) t.follows)

  even_first : IsEven limit []
  even_first = record { each = λ c. tt; unused = λ g l. record { pauses = refl; resumes = refl } }

  pub even : (es : List Event) → MayRelayAll limit names es → IsEven limit (relay_tape limit es)
  even [] m = even_first
  even (e ∷ es) m =
      let k : Known (relay_tape limit es) es = known es m.1 in
      even_after limit (relay_tape limit es) k.sound (even es m.1) e (ap (λ v. may_come v e) k.shows ∙ m.0.comes.2) m.0.backs_off

  pub relayed : (es : List Event) → MayRelayAll limit names es → IsRelayed (relay_tape limit es)
  relayed [] m = relayed_first
  relayed (e ∷ es) m =
      let k : Known (relay_tape limit es) es = known es m.1 in
      relayed_after limit (relay_tape limit es) k.sound (relayed es m.1) e (ap (λ v. may_come v e) k.shows ∙ m.0.comes.2)
