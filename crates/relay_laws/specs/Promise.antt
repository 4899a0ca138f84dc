-- What a tape of a relay promises to an operator.
use Rattle.relay_laws.specs.Lawful.{BacksOff, EachPaired}
use Rattle.relay_laws.specs.Pairs.{Tape, opposite}
use Rattle.relay_laws.specs.Watermark.{above}
use Rattle.relay_laws.specs.World.{entered, gone, out}
use Rattle.std.specs.Bool.{OnTrue}
use Rattle.std.specs.Prelude.{Bool, List, [], false, if◌then◌else◌, length, nat_lt, ℕ, ◌++◌, ◌+◌, ◌==◌, ◌||◌, ◌∷◌, ◌≡◌, ◌≤◌}
use Rattle.tape_laws.specs.History.{AtEachMoment, BeforeTurn, EachFollows, Noted}
use Rattle.tape_laws.specs.Pauses.{count}
use Rattle.flow_notes.specs.declared.notes.CloseCause.TheVariants as closed
use Rattle.flow_notes.specs.declared.events.Event.TheVariants as event
use Rattle.flow_notes.specs.declared.notes.Note.TheVariants as note

-- the octets that were read from a connection since the pair x started
abbrev pub read_in : ℕ → ℕ → Tape → List ℕ
read_in x c [] = []
read_in x c (Noted (note.Start y a s b) ∷ past) = if y == x then [] else read_in x c past
read_in x c (Noted (note.Turn k (event.Read d octets)) ∷ past) = read_in x c past ++ (if d == c then octets else [])
read_in x c (step ∷ past) = read_in x c past

-- the connection was lost
abbrev pub was_lost : ℕ → Tape → Bool
was_lost c [] = false
was_lost c (Noted (note.Close d code closed.Lost) ∷ past) = (d == c) || was_lost c past
was_lost c (step ∷ past) = was_lost c past

-- what left and what waits for the one connection of a live pair is what was read from the other, in order
abbrev pub RelaysItsReads : Tape → Type 0
RelaysItsReads past = EachPaired (λ c f. gone f.to past ++ out f.to past ≡ read_in f.flow.exchange c past) past

-- What came for a connection that wasn't lost has left or waits, in order; so it is also after the other one was lost.
abbrev pub KeepsWhatWaits : Tape → Type 0
KeepsWhatWaits past = (c : ℕ) → was_lost c past ≡ false → gone c past ++ out c past ≡ entered c past

-- a write buffer with a limit holds at most the limit and what one read brings
abbrev pub IsBounded : ℕ → Tape → Type 0
IsBounded limit past = (c : ℕ) → OnTrue (nat_lt 0 limit) (length (out c past) ≤ limit + 16384)

-- the flow to a connection in a live pair is paused, once, exactly where that one's write buffer is above
abbrev pub PausesItsReader : ℕ → Tape → Type 0
PausesItsReader limit past = EachPaired (λ c f. count (opposite f.flow) past ≡ (if above limit c past then 1 else 0)) past

pub record Relays (limit : ℕ) (history : Tape) : Type 0 where
  -- after each dispatch, the last one too
  pub relayed : EachFollows (BeforeTurn RelaysItsReads) history
  pub last : RelaysItsReads history
  pub kept : AtEachMoment KeepsWhatWaits history
  pub bounded : AtEachMoment (IsBounded limit) history
  pub exact : EachFollows (BeforeTurn (PausesItsReader limit)) history
  pub exact_last : PausesItsReader limit history
  pub backs_off : EachFollows BacksOff history
