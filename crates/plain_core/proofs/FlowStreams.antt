-- What a change of one stream makes of the exchanges.
use Rattle.exchange_core.specs.Changes.{ChangesFlow}
use Rattle.exchange_core.specs.Exchange.{flow_changed}
use Rattle.exchange_core.specs.Exchanges.{Exchanges, IsSound as AreSoundExchanges, exchange_at}
use Rattle.exchange_core.specs.Flow.{Flow}
use Rattle.exchange_core.specs.Plain.{Plain, plain_exchange, plain_flow}
use Rattle.exchange_core.specs.declared.exchange.Exchange.{Exchange}
use Rattle.plain_laws.proofs.Streams.{own_or_other, same_number}
use Rattle.plain_laws.specs.Keeping.{KeepsStream}
use Rattle.std.proofs.Common.{inl, inr, refl, subst, sym, ◌∙◌}
use Rattle.std.specs.Prelude.{List, None, Option, Some, false, option_map, true, ℕ, ◌==◌, ◌≡◌, ◌≤◌, ◌⊎◌}
use Rattle.plain_laws.specs.Words.{Past, Alive}
use Rattle.tape_laws.specs.Dispatches.{has, live, started}
use Rattle.tape_laws.specs.Doomed.{condemned}
use Rattle.tape_laws.specs.Flows.{request}
use Rattle.tape_laws.specs.declared.PlainLimits.{PlainLimits}
use Rattle.plain_core.specs.Flows.{ExchangesAre, StreamIs}

-- the lists of streams stay as they were
pub record KeepsStreams (old new : Past) : Type 0 where
  pub lives : live new ≡ live old
  pub begun : started new ≡ started old
  pub doomed : condemned new ≡ condemned old

pub last_kept : (a b : ℕ) (xs ys : List ℕ) → b ≡ a → ys ≡ xs → (a ≡ 0) ⊎ (has xs a ≡ true) → (b ≡ 0) ⊎ (has ys b ≡ true)
last_kept a b xs ys e f (inl z) = inl (e ∙ z)
last_kept a b xs ys e f (inr t) = inr (cc)

pub stream_kept : (limits : PlainLimits) (x : ℕ) (h h' : Past) (found : Option Exchange) → KeepsStream limits x h h' → StreamIs limits x h found → StreamIs limits x h' found
stream_kept limits x h h' found k s = record {
  plain = s.plain;
  is = s.is;
  window = s.window;
  limit = s.limit;
  quantum = s.quantum;
  started = s.started;
  recv = s.recv ∙ sym k.recv;
  send = s.send ∙ sym k.send;
  above = s.above ∙ sym k.high;
  ended = s.ended ∙ sym k.ended;
  end_framed = s.end_framed ∙ sym k.framed;
}

pub changed_plain : (x : ℕ) (change : Flow → Flow) (found : Option Exchange) (p q : Plain) → found ≡ Some (plain_exchange x p) → change (plain_flow x p) ≡ plain_flow x q
    → option_map (flow_changed change false) found ≡ Some (plain_exchange x q)
changed_plain x change found p q is e = cc

-- one stream changed, the others stand as they did
pub changed_exchanges : (limits : PlainLimits) (x : ℕ) (change : Flow → Flow) (old new : Exchanges) (h h' : Past) → ExchangesAre limits old h
    → ChangesFlow (request x) change old new → AreSoundExchanges new → KeepsStreams h h' → ((y : ℕ) → (x == y) ≡ false → KeepsStream limits y h h')
    → StreamIs limits x h' (option_map (flow_changed change false) (exchange_at old x)) → ExchangesAre limits new h'
changed_exchanges limits x change old new h h' e c sound lists others own = record {
  sound = sound;
  time = c.flow.time ∙ e.time;
  small = rw c.flow.last e.small;
  most = record { most = λ y is. rw c.flow.last (e.most.most y (sym (begun y) ∙ is)) };
  last = last_kept old.last new.last (started h) (started h') c.flow.last lists.begun e.last;
  doomed = c.doomed ∙ (e.doomed ∙ sym lists.doomed);
  there = λ y. own_or_other (λ v. Alive h' v → StreamIs limits v h' (exchange_at new v)) x y
      (λ is. rw own_is own)
      (λ d is. rw (other_is y d) (stream_kept limits y h h' (exchange_at old y) (others y d) (e.there y (sym (lives y) ∙ is))));
  gone = λ y. own_or_other (λ v. has (live h') v ≡ false → exchange_at new v ≡ None) x y
      (λ is. cc (own_is, e.gone x (sym (lives x) ∙ is)))
      (λ d is. other_is y d ∙ e.gone y (sym (lives y) ∙ is));
}
  where
    lives : (y : ℕ) → has (live h') y ≡ has (live h) y
    lives y = cc

    begun : (y : ℕ) → has (started h') y ≡ has (started h) y
    begun y = cc

    own_is : exchange_at new x ≡ option_map (flow_changed change false) (exchange_at old x)
    own_is = cc (c.flow.live x, same_number x)

    other_is : (y : ℕ) → (x == y) ≡ false → exchange_at new y ≡ exchange_at old y
    other_is y d = cc (c.flow.live y)

-- no stream changed
pub same_exchanges : (limits : PlainLimits) (exchanges : Exchanges) (h h' : Past) → ExchangesAre limits exchanges h → KeepsStreams h h'
    → ((y : ℕ) → KeepsStream limits y h h') → ExchangesAre limits exchanges h'
same_exchanges limits exchanges h h' e lists all = record {
  sound = e.sound;
  time = e.time;
  small = e.small;
  most = record { most = λ y is. e.most.most y (cc) };
  last = last_kept exchanges.last exchanges.last (started h) (started h') refl lists.begun e.last;
  doomed = e.doomed ∙ sym lists.doomed;
  there = λ y is. stream_kept limits y h h' (exchange_at exchanges y) (all y) (e.there y (cc));
  gone = λ y is. e.gone y (cc);
}

-- no stream changed, and of the doomed some are gone
pub swept_exchanges : (limits : PlainLimits) (old new : Exchanges) (h h' : Past) → ExchangesAre limits old h → AreSoundExchanges new
    → ((x : ℕ) → exchange_at new x ≡ exchange_at old x) → new.last ≡ old.last → new.time ≡ old.time → new.doomed ≡ condemned h' → live h' ≡ live h → started h' ≡ started h
    → ((y : ℕ) → KeepsStream limits y h h') → ExchangesAre limits new h'
swept_exchanges limits old new h h' e sound same last time doomed lives begun all = record {
  sound = sound;
  time = time ∙ e.time;
  small = rw last e.small;
  most = record { most = λ y is. subst (λ (n : ℕ). y ≤ n) (sym last) (e.most.most y (cc begun)) };
  last = last_kept old.last new.last (started h) (started h') last begun e.last;
  doomed = doomed;
  there = λ y is. subst (StreamIs limits y h') (sym (same y)) (stream_kept limits y h h' (exchange_at old y) (all y) (e.there y (cc lives)));
  gone = λ y is. same y ∙ e.gone y (cc lives);
}
