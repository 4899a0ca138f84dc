-- What becomes of octets that come for a stream.
use Rattle.exchange_core.specs.Changes.{ChangesFlow}
use Rattle.exchange_core.specs.Effects.{arrived, received as received_octets, received_by}
use Rattle.exchange_core.specs.Exchange.{flow_changed, flow_in}
use Rattle.exchange_core.specs.Exchanges.{Exchanges, IsLiveFlow, IsSound as AreSoundExchanges, exchange_at, flow_at}
use Rattle.exchange_core.specs.declared.exchange.Exchange.{Exchange}
use Rattle.exchange_core.specs.declared.step.Received.{Received}
use Rattle.plain_laws.proofs.Streams.{by_case}
use Rattle.std.proofs.Common.{ap, arith, refl, sym, ◌∙◌}
use Rattle.std.proofs.lemmas.Bool.Decides.{nat_tests}
use Rattle.std.specs.BTreeSet.{BTreeSet, contains}
use Rattle.std.specs.Option.{option_and_then}
use Rattle.std.specs.Ordering.{nat_cmp}
use Rattle.std.specs.Prelude.{Bool, IsSome, List, None, Option, Some, false, if◌then◌else◌, length, nat_le, nat_lt, option_map, true, ℕ, ◌&&◌, ◌+◌, ◌<◌, ◌==◌, ◌||◌, ◌≡◌, ◌≤◌}
use Rattle.plain_laws.specs.Words.{Past, recv_at}
use Rattle.tape_laws.specs.Dispatches.{has, live}
use Rattle.tape_laws.specs.Flows.{request}
use Rattle.tape_laws.specs.declared.PlainLimits.{PlainLimits}
use Rattle.plain_core.proofs.FlowEvents.{arrives}
use Rattle.plain_core.specs.Carries.{Arrives, Fits, GoesOn, Lives, Receives, ReceivesAs}
use Rattle.plain_core.specs.Flows.{StreamIs}
use Rattle.plain_core.specs.declared.flows.Flows.{Flows}
use Rattle.exchange_core.specs.declared.step.Received.TheVariants as received

-- they are in its receive buffer, or they don't fit
abbrev taken : Bool → Received
taken fits = if fits then received.Arrived else received.TooMany

taken_same : (a b : Bool) → taken a ≡ taken b → a ≡ b
taken_same true true e = refl
taken_same false false e = refl
taken_same true false e = absurd cc
taken_same false true e = absurd cc

taken_live : (b : Bool) → received.NotLive ≡ taken b → ⊥
taken_live true e = cc
taken_live false e = cc

abbrev came : ℕ → Option Exchange → Received
came n found = received_by n (option_and_then (flow_in false) found)

-- ---- whether the stream is live
not_live : (flows : Flows) (x n : ℕ) → received.NotLive ≡ came n (exchange_at flows.exchanges x) → Lives flows x false
not_live flows x n e = record {
  goes = λ limits h s. by_case (has (live h) x)
      (λ t. let i = s.stands.exchanges.there x t in absurd (taken_live (nat_le (length i.plain.recv + n) i.plain.window) (cc)))
      sym;
}

is_live : (flows : Flows) (x n : ℕ) (fits : Bool) → taken fits ≡ came n (exchange_at flows.exchanges x) → Lives flows x true
is_live flows x n fits e = record {
  goes = λ limits h s. by_case (has (live h) x)
      sym
      (λ f. absurd (taken_live fits (cc (s.stands.exchanges.gone x f))));
}

-- ---- whether they fit
fits_is : (limits : PlainLimits) (flows : Flows) (x n : ℕ) (fits : Bool) (h : Past) → taken fits ≡ came n (exchange_at flows.exchanges x)
    → StreamIs limits x h (exchange_at flows.exchanges x) → fits ≡ nat_le (length (recv_at limits x h) + n) limits.recv
fits_is limits flows x n fits h e s =
    cc (taken_same fits (nat_le (length s.plain.recv + n) s.plain.window) (e ∙ ap (came n) s.is))

they_fit : (flows : Flows) (x n : ℕ) (fits : Bool) → taken fits ≡ came n (exchange_at flows.exchanges x) → Fits flows x n fits
they_fit flows x n fits e = record {
  yes = λ limits h s lives t. within _ limits.recv (sym (fits_is limits flows x n fits h e (s.stands.exchanges.there x lives)) ∙ t);
  no = λ limits h s lives f. beyond _ limits.recv (sym (fits_is limits flows x n fits h e (s.stands.exchanges.there x lives)) ∙ f);
}
  where
    within : (a b : ℕ) → nat_le a b ≡ true → a ≤ b
    within a b e = grind (arith, nat_tests)

    beyond : (a b : ℕ) → nat_le a b ≡ false → b < a
    beyond a b e = grind (arith, nat_tests)

-- ---- what becomes of them
by_answer : (old new : Flows) (x : ℕ) (octets : List ℕ) (answer : Received) → answer ≡ received_by (length octets) (flow_at old.exchanges (request x))
    → (answer ≡ received.Arrived → Arrives x octets old new) → ((answer ≡ received.Arrived → ⊥) → new ≡ old) → ReceivesAs x octets answer old new
by_answer old new x octets received.NotLive e arrives same = (not_live old x (length octets) e, same (λ t. cc))
by_answer old new x octets received.TooMany e arrives same =
    (is_live old x (length octets) false e, they_fit old x (length octets) false e, same (λ t. cc))
by_answer old new x octets received.Arrived e arrives same =
    (is_live old x (length octets) true e, they_fit old x (length octets) true e, arrives refl)

-- octets that fit are there
arrived_change : (octets : List ℕ) (x : ℕ) (old new : Exchanges) → received.Arrived ≡ received_by (length octets) (flow_at old (request x))
    → ChangesFlow (request x) (received_octets octets) old new → ChangesFlow (request x) (arrived octets) old new
arrived_change octets x old new e c =
    record { flow = rw (← same (exchange_at old x) e) c.flow; doomed = c.doomed }
  where
    same : (found : Option Exchange) → received.Arrived ≡ came (length octets) found
        → option_map (flow_changed (received_octets octets) false) found ≡ option_map (flow_changed (arrived octets) false) found
    same None e = refl
    same (Some exchange) e =
        cc (taken_same true (nat_le (length exchange.request.recv + length octets) exchange.request.window) e)

is_live_flow : (octets : List ℕ) (x : ℕ) (old : Exchanges) → received.Arrived ≡ received_by (length octets) (flow_at old (request x)) → IsLiveFlow old (request x)
is_live_flow octets x old e = seen (exchange_at old x) e
  where
    seen : (found : Option Exchange) → received.Arrived ≡ came (length octets) found → IsSome (option_and_then (flow_in false) found)
    seen (Some exchange) e = refl
    seen None e = absurd cc

pub receives : (x : ℕ) (octets : List ℕ) (old : Flows) (ex : Exchanges) (holding : BTreeSet ℕ) (answer : Received) → answer ≡ received_by (length octets) (flow_at old.exchanges (request x))
    → GoesOn old x → (IsLiveFlow old.exchanges (request x) → ChangesFlow (request x) (received_octets octets) old.exchanges ex) → ((answer ≡ received.Arrived → ⊥) → ex ≡ old.exchanges)
    → AreSoundExchanges ex
    → (answer ≡ received.Arrived → (y : ℕ) → contains nat_cmp holding y ≡ (((x == y) && nat_lt 0 (length octets)) || contains nat_cmp old.holding y))
    → ((answer ≡ received.Arrived → ⊥) → holding ≡ old.holding) → Receives x octets answer old (record old { exchanges = ex; holding = holding })
receives x octets old ex holding answer e goes change same sound made kept =
    let F : Exchanges → BTreeSet ℕ → Flows = λ u v. record old { exchanges = u; holding = v } in
    record {
      is = by_answer old (F ex holding) x octets answer e
          (λ a. let fits = sym a ∙ e in record {
            goes = λ limits k h settled lives. arrives limits k x octets old ex holding h settled lives goes
                (arrived_change octets x old.exchanges ex fits (change (is_live_flow octets x old.exchanges fits))) sound (made a);
          })
          (λ a. ap (λ (u : Exchanges). F u holding) (same a) ∙ ap (F old.exchanges) (kept a));
    }
