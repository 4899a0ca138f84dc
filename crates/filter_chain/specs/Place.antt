-- A place on the way of a flow: a stage, or the send buffer behind the stages.
use Rattle.std.specs.Prelude.{◌≡◌, ◌+◌, ◌-◌, ◌*◌, ◌/◌, ◌<◌, ◌≤◌, ◌++◌, ℕ, List, [], length, drop, min, Bool, true, false}
use Rattle.filter_chain.specs.declared.stage.StageKind.{StageKind}
use Rattle.filter_chain.specs.declared.stage.StageKind.TheVariants.{Hold, Meter, Send}
use Rattle.flow_rules.specs.Kinds.{Hold as HoldKind, Kind, Meter as MeterKind, Send as SendKind, is_hold as holds, is_source as pauses}
use Rattle.wm_buffer.specs.Watermark.{above_after}

-- the octets that it holds, its limit in octets, 0 for none, whether it is above that, and how many octets a Meter
-- may let go now
pub record Place : Type 0 where
  pub kind : StageKind
  pub limit : ℕ
  pub octets : List ℕ
  pub above : Bool
  pub tokens : ℕ

-- what the rules of a flow say of it
abbrev pub kind_of : StageKind → Kind
kind_of Hold = HoldKind
kind_of (Meter rate) = MeterKind
kind_of Send = SendKind

abbrev pub is_hold : StageKind → Bool
is_hold kind = holds (kind_of kind)

-- it pauses the flow while it is above: a Meter and the send buffer do
abbrev pub is_source : StageKind → Bool
is_source kind = pauses (kind_of kind)

-- what a Meter lets go in 50 ms, and what it has of tokens at most
abbrev pub rate_of : StageKind → ℕ
rate_of Hold = 0
rate_of (Meter rate) = rate
rate_of Send = 0

-- what may come beyond the limit at once, where one move brings a quantum
abbrev pub beyond : StageKind → ℕ → ℕ
beyond Hold quantum = 0
beyond (Meter rate) quantum = quantum
beyond Send quantum = quantum

-- a Meter begins with as many tokens as its rate
abbrev pub empty_place : StageKind → ℕ → Place
empty_place kind limit = record { kind = kind; limit = limit; octets = []; above = false; tokens = rate_of kind }

-- the place with these octets in place of its own
abbrev pub holding : List ℕ → Place → Place
holding octets place = record place { octets = octets; above = above_after place.limit place.above (length octets) }

-- octets came behind its own, or its first n left
abbrev pub gaining : List ℕ → Place → Place
gaining octets place = holding (place.octets ++ octets) place

abbrev pub losing : ℕ → Place → Place
losing n place = holding (drop n place.octets) place

-- n octets were let go to the next place, for a token each
abbrev pub letting_go : ℕ → Place → Place
letting_go n place = record (losing n place) { tokens = place.tokens - n }

-- so many whole 50 ms went by
abbrev pub refilled : ℕ → Place → Place
refilled steps place =
    let rate = rate_of place.kind in
    record place { tokens = min rate (place.tokens + rate * steps) }

-- What is true of a stage or send buffer at all times. A stage has a limit, and a Hold never passes it.
abbrev pub IsWithinKind : StageKind → Place → Type 0
IsWithinKind Hold place = (place.above ≡ false) × (length place.octets ≤ place.limit) × (0 < place.limit)
IsWithinKind (Meter rate) place = 0 < place.limit
IsWithinKind Send place = Unit {0}

pub record IsPlace (place : Place) : Type 0 where
  pub high : place.above ≡ true → place.limit / 2 < length place.octets
  pub low : place.above ≡ false → 0 < place.limit → length place.octets ≤ place.limit
  pub tokens : place.tokens ≤ rate_of place.kind
  pub kind : IsWithinKind place.kind place
