-- The turns of a live relay, as its connections tell them.
use Rattle.relay_laws.specs.Pairs.{Tape, is_open}
use Rattle.relay_laws.specs.World.{out}
use Rattle.std.specs.Prelude.{Bool, List, None, Option, Some, [], false, length, option_map, true, ℕ, ◌++◌, ◌<◌, ◌∷◌, ◌≡◌, ◌≤◌}
use Rattle.tcp_relay.specs.Rests.{has_octets}
use Rattle.tcp_relay.specs.Seen.{IsFront, IsLeast}
use Rattle.relay_work.specs.Events.{event_taken, event_told, tape_after, tape_with}
use Rattle.worker_ports.specs.declared.wires.WireStep.{WireStep}
use Rattle.worker_ports.specs.declared.wires.Wired.{Wired}
use Rattle.worker_ports.specs.declared.wires.WireStep.TheVariants as step
use Rattle.worker_ports.specs.declared.wires.Wired.TheVariants as wired

-- a connection that the relay has closed, and for which nothing waits
pub record IsOver (c : ℕ) (h : Tape) : Type 0 where
  pub closed : is_open c h ≡ false
  pub drained : out c h ≡ []

-- a nonempty front of its write buffer is offered to the next connection for which octets wait
pub record IsOffer (past c : ℕ) (piece : List ℕ) (n : ℕ) (h : Tape) : Type 0 where
  pub next : IsLeast (λ d. has_octets d h) past (Some c)
  pub some : 0 < length piece
  pub front : IsFront (out c h) piece
  pub took : n ≤ length piece

-- Offers by rising number behind `past`, one to each connection for which octets wait when its number comes. Closes may stand
-- at any place among them, of connections that are over.
abbrev pub Offers : ℕ → ℕ → List WireStep → Tape → Type 0
Offers limit past [] h = Unit {0}
Offers limit past (step.Gave w ∷ steps) h = ⊥
Offers limit past (step.Offered c piece n ∷ steps) h = IsOffer past c piece n h × Offers limit c steps (tape_with limit (event_taken c n) h)
Offers limit past (step.Closed c ∷ steps) h = IsOver c h × Offers limit past steps h

-- the number of the last offer
abbrev pub reached : ℕ → List WireStep → ℕ
reached past [] = past
reached past (step.Offered c piece n ∷ steps) = reached c steps
reached past (s ∷ steps) = reached past steps

-- a turn begins so: one answer, and then offers
abbrev pub Begins : ℕ → List WireStep → Tape → Type 0
Begins limit [] h = Unit {0}
Begins limit (step.Gave w ∷ steps) h = Offers limit 0 steps (tape_with limit (event_told w) h)
Begins limit (s ∷ steps) h = ⊥

-- a whole turn: it has its answer, and no connection is left behind the last offer
pub record IsTurn (limit : ℕ) (steps : List WireStep) (h : Tape) : Type 0 where
  pub begins : Begins limit steps h
  pub some : 0 < length steps
  pub all : IsLeast (λ d. has_octets d (tape_after limit steps h)) (reached 0 steps) None

-- turns one behind the other
abbrev pub joined : List (List WireStep) → List WireStep
joined [] = []
joined (t ∷ ts) = t ++ joined ts

abbrev pub AreTurns : ℕ → List (List WireStep) → Tape → Type 0
AreTurns limit [] h = Unit {0}
AreTurns limit (t ∷ ts) h = IsTurn limit t h × AreTurns limit ts (tape_after limit t h)

-- the answer is Stop
abbrev pub tells_stop : Wired → Bool
tells_stop wired.Stop = true
tells_stop w = false

abbrev pub is_stop : List WireStep → Bool
is_stop (step.Gave w ∷ steps) = tells_stop w
is_stop steps = false

abbrev pub NoneStops : List (List WireStep) → Type 0
NoneStops [] = Unit {0}
NoneStops (t ∷ ts) = (is_stop t ≡ false) × NoneStops ts

abbrev pub LastStops : List (List WireStep) → Type 0
LastStops [] = ⊥
LastStops (t ∷ []) = is_stop t ≡ true
LastStops (t ∷ u ∷ ts) = (is_stop t ≡ false) × LastStops (u ∷ ts)

-- what is told of the steps, with some more
abbrev pub with_all : List WireStep → Option (List WireStep) → Option (List WireStep)
with_all steps told = option_map (λ before. before ++ steps) told
