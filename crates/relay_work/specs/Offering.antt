-- What waits for a connection is offered to it.
use Rattle.relay_laws.specs.Pairs.{Tape}
use Rattle.relay_laws.specs.World.{out}
use Rattle.relay_work.specs.Belonging.{Belong}
use Rattle.relay_work.specs.Events.{event_taken, tape_after, tape_with}
use Rattle.relay_work.specs.Live.{Live}
use Rattle.relay_work.specs.Settling.{AreCloses}
use Rattle.relay_work.specs.Turns.{Offers, reached}
use Rattle.relay_work.specs.Works.{Cut, Does, DoesCut}
use Rattle.relay_work.specs.declared.turns.RelayEnded.{RelayEnded}
use Rattle.std.specs.Prelude.{Err, List, None, Ok, Result, [], length, true, ℕ, ◌++◌, ◌<◌, ◌∷◌, ◌≡◌, ◌≤◌}
use Rattle.tcp_relay.specs.Rests.{has_octets}
use Rattle.tcp_relay.specs.Seen.{IsFront, IsLeast}
use Rattle.tcp_relay.specs.declared.relay.Relay.{Relay}
use Rattle.worker_ports.specs.Wires.{Seen}
use Rattle.worker_ports.specs.declared.wires.WireStep.{WireStep}
use Rattle.worker_ports.specs.declared.wires.WireStep.TheVariants as step

-- a relay and connections that belong together, and a connection for which octets wait
pub record Waits (names : List (List ℕ)) (relay : Relay) (seen : Seen) (c : ℕ) : Type 0 where
  pub limit : ℕ
  pub tape : Tape
  pub belong : Belong limit names relay seen tape
  pub some : has_octets c tape ≡ true

-- one offer to this connection, with closes behind it, or nothing
pub record IsPiece (c d : ℕ) (piece : List ℕ) (n : ℕ) (h : Tape) : Type 0 where
  pub is : d ≡ c
  pub some : 0 < length piece
  pub front : IsFront (out c h) piece
  pub took : n ≤ length piece

abbrev pub IsOfferTo : ℕ → ℕ → List WireStep → Tape → Type 0
IsOfferTo limit c [] h = Unit {0}
IsOfferTo limit c (step.Offered d piece n ∷ steps) h = IsPiece c d piece n h × AreCloses steps (tape_with limit (event_taken d n) h)
IsOfferTo limit c (s ∷ steps) h = ⊥

pub record OffersOne (limit : ℕ) (names : List (List ℕ)) (c : ℕ) (h : Tape) (old new : Live) : Type 0 where
  pub steps : List WireStep
  pub some : 0 < length steps
  pub is : IsOfferTo limit c steps h
  pub does : Does limit names h old steps new

pub record OffersOneCut (limit : ℕ) (names : List (List ℕ)) (c : ℕ) (h : Tape) (old : Live) (end : RelayEnded) (new : Live) : Type 0 where
  pub cut : Cut
  pub is : IsOfferTo limit c (cut.done ++ cut.last) h
  pub does : DoesCut limit names h old end cut new

abbrev pub OffersOneAs : (limit : ℕ) (names : List (List ℕ)) (c : ℕ) (h : Tape) → Live → Result (Unit {0}) RelayEnded → Live → Type 0
OffersOneAs limit names c h old (Ok u) new = OffersOne limit names c h old new
OffersOneAs limit names c h old (Err end) new = OffersOneCut limit names c h old end new

pub record OffersOneFrom (names : List (List ℕ)) (c : ℕ) (old : Live) (result : Result (Unit {0}) RelayEnded) (new : Live) : Type 0 where
  pub goes : (limit : ℕ) (h : Tape) → Belong limit names old.relay old.seen h → has_octets c h ≡ true → OffersOneAs limit names c h old result new

-- offers behind one another, the last of them to the connection with this number
pub record OffersSome (limit : ℕ) (names : List (List ℕ)) (h : Tape) (old : Live) (last : ℕ) (new : Live) : Type 0 where
  pub steps : List WireStep
  pub are : Offers limit 0 steps h
  pub at : reached 0 steps ≡ last
  pub does : Does limit names h old steps new

pub record OffersSomeFrom (names : List (List ℕ)) (old : Live) (last : ℕ) (new : Live) : Type 0 where
  pub goes : (limit : ℕ) (h : Tape) → Belong limit names old.relay old.seen h → OffersSome limit names h old last new

-- to all for which octets wait
pub record OffersAll (limit : ℕ) (names : List (List ℕ)) (h : Tape) (old new : Live) : Type 0 where
  pub steps : List WireStep
  pub are : Offers limit 0 steps h
  pub all : IsLeast (λ d. has_octets d (tape_after limit steps h)) (reached 0 steps) None
  pub does : Does limit names h old steps new

pub record OffersAllCut (limit : ℕ) (names : List (List ℕ)) (h : Tape) (old : Live) (end : RelayEnded) (new : Live) : Type 0 where
  pub cut : Cut
  pub are : Offers limit 0 (cut.done ++ cut.last) h
  pub does : DoesCut limit names h old end cut new

abbrev pub OffersAllAs : (limit : ℕ) (names : List (List ℕ)) (h : Tape) → Live → Result (Unit {0}) RelayEnded → Live → Type 0
OffersAllAs limit names h old (Ok u) new = OffersAll limit names h old new
OffersAllAs limit names h old (Err end) new = OffersAllCut limit names h old end new

pub record OffersAllFrom (names : List (List ℕ)) (old : Live) (result : Result (Unit {0}) RelayEnded) (new : Live) : Type 0 where
  pub goes : (limit : ℕ) (h : Tape) → Belong limit names old.relay old.seen h → OffersAllAs limit names h old result new
