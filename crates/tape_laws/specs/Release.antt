-- What may move, and how much.
use Rattle.flow_rules.specs.declared.ids.FlowId.{FlowId}
use Rattle.flow_rules.specs.Moves.{is_free as is_free_at, last_free as free, may_release as releases}
use Rattle.flow_rules.specs.Units.{carried}
use Rattle.std.specs.Prelude.{Bool, IsTrue, Option, Some, false, length, nat_lt, ℕ, ◌+◌, ◌<◌, ◌||◌, ◌≡◌}
use Rattle.tape_laws.specs.Connections.{is_open}
use Rattle.tape_laws.specs.Dispatches.{turns}
use Rattle.tape_laws.specs.History.{History, Noted, Step}
use Rattle.tape_laws.specs.Setup.{Setup}
use Rattle.tape_laws.specs.Sources.{is_live}
use Rattle.tape_laws.specs.State.{state_of}
use Rattle.tape_laws.specs.Watermark.{above}
use Rattle.flow_rules.specs.declared.ids.BufferId.TheVariants as buffer
use Rattle.flow_notes.specs.declared.notes.Note.TheVariants as note

-- what a place may release, whether it is free, and the last one that is
abbrev pub may_release : {Mark : Type 0} → Setup Mark → FlowId → ℕ → History Mark → ℕ
may_release setup f p past = releases (state_of setup f past) p

abbrev pub is_free : {Mark : Type 0} → Setup Mark → FlowId → ℕ → History Mark → Bool
is_free setup f p past = is_free_at (state_of setup f past) p

abbrev pub last_free : {Mark : Type 0} → Setup Mark → FlowId → History Mark → Option ℕ
last_free setup f past = free (state_of setup f past)

-- a move leaves the last place that is free, and takes all that this place may release
pub record MayMove {Mark : Type 0} (setup : Setup Mark) (f : FlowId) (p n : ℕ) (past : History Mark) : Type 0 where
  pub live : IsTrue (is_live setup f past)
  pub last : last_free setup f past ≡ Some p
  pub all : n ≡ may_release setup f p past

-- a unit is framed only on an open connection whose write buffer isn't above
pub record MayWrite {Mark : Type 0} (setup : Setup Mark) (c : ℕ) (past : History Mark) : Type 0 where
  pub opened : IsTrue (is_open setup c past)
  pub low : above setup (buffer.Write c) past ≡ false

-- a DATA frame takes what the quantum, the peer and the send windows let it carry, and may be empty only for an end
pub record MayFrame {Mark : Type 0} (setup : Setup Mark) (c : ℕ) (f : FlowId) (n : ℕ) (last : Bool) (past : History Mark) : Type 0 where
  pub live : IsTrue (is_live setup f past)
  pub to : setup.goes_to f past ≡ Some c
  pub write : MayWrite setup c past
  pub all : n ≡ carried (state_of setup f past)
  pub some : IsTrue (nat_lt 0 n || last)

-- which octets a step may move; what a write buffer takes besides is framed only where it may write
abbrev pub MayStand : {Mark : Type 0} → Setup Mark → Step Mark → History Mark → Type 0
MayStand setup (Noted (note.Turn k e)) past = k ≡ turns past + 1
MayStand setup (Noted (note.Arrive f octets)) past = IsTrue (is_live setup f past) × (0 < length octets)
MayStand setup (Noted (note.Move f p n)) past = MayMove setup f p n past
MayStand setup (Noted (note.Frame c f n last)) past = MayFrame setup c f n last past
MayStand setup (Noted (note.Credit c s n)) past = MayWrite setup c past
MayStand setup (Noted (note.Head c s octets)) past = MayWrite setup c past
MayStand setup (Noted (note.Answer c octets)) past = MayWrite setup c past
MayStand setup step past = Unit {0}
