-- What the connections are told of the relay after an event.
use Rattle.relay_laws.specs.Order.{named}
use Rattle.relay_laws.specs.Pairs.{Tape, feed, is_open}
use Rattle.relay_laws.specs.declared.Feed.{Feed}
use Rattle.relay_work.specs.Turns.{IsOver, with_all}
use Rattle.std.specs.List.{AllByRecursion}
use Rattle.std.specs.Prelude.{List, None, Option, Some, [], false, length, not, option_map, true, ℕ, ◌∷◌, ◌≡◌, ◌≤◌}
use Rattle.tape_laws.specs.Dispatches.{events_back, has}
use Rattle.tcp_relay.specs.Rests.{Rests, goes_on}
use Rattle.tcp_relay.specs.declared.relay.Relay.{Relay}
use Rattle.worker_ports.specs.Wires.{Seen, is_held, is_live}
use Rattle.worker_ports.specs.declared.wires.WireStep.{WireStep}
use Rattle.worker_ports.specs.declared.wires.WireStep.TheVariants as step

-- They belong together but for some connections, which haven't been told.
pub record Unsettled (limit : ℕ) (names : List (List ℕ)) (relay : Relay) (seen : Seen) (cs : List ℕ) (h : Tape) : Type 0 where
  pub rests : Rests limit names relay h
  pub clusters : seen.clusters ≡ length names
  pub newer : AllByRecursion (λ c. c ≤ seen.greatest) (named (events_back h))
  pub opened : (c : ℕ) → is_open c h ≡ true → is_live c seen ≡ true
  pub live : (c : ℕ) → has cs c ≡ false → is_live c seen ≡ is_open c h
  pub held : (c : ℕ) → has cs c ≡ false → is_live c seen ≡ true → is_held c seen ≡ not (goes_on limit (feed c h) h)

-- connections that are over are closed
abbrev pub AreCloses : List WireStep → Tape → Type 0
AreCloses [] h = Unit {0}
AreCloses (step.Closed c ∷ steps) h = IsOver c h × AreCloses steps h
AreCloses (s ∷ steps) h = ⊥

-- one of them was told
pub record SettlesOne (limit : ℕ) (names : List (List ℕ)) (relay : Relay) (old : Seen) (cs : List ℕ) (h : Tape) (new : Seen) : Type 0 where
  pub closes : List WireStep
  pub told : new.steps ≡ with_all closes old.steps
  pub over : AreCloses closes h
  pub left : Unsettled limit names relay new cs h

pub record SettlesOneFrom (relay : Relay) (old : Seen) (c : ℕ) (new : Seen) : Type 0 where
  pub goes : (limit : ℕ) (names : List (List ℕ)) (cs : List ℕ) (h : Tape) → Unsettled limit names relay old (c ∷ cs) h → SettlesOne limit names relay old cs h new

-- the other one of a pair: the one that was fed before, or that is fed now
abbrev pub list_of : Option ℕ → List ℕ
list_of None = []
list_of (Some c) = c ∷ []

abbrev pub peer_in : Option Feed → Option ℕ
peer_in f = option_map (λ g. g.to) f

abbrev pub others : Option ℕ → Option ℕ → List ℕ
others (Some c) now = c ∷ []
others None now = list_of now

pub record SettlesFrom (relay : Relay) (old : Seen) (c : ℕ) (was : Option ℕ) (new : Seen) : Type 0 where
  pub goes : (limit : ℕ) (names : List (List ℕ)) (h : Tape) → Unsettled limit names relay old (c ∷ others was (peer_in (feed c h))) h
      → SettlesOne limit names relay old [] h new
