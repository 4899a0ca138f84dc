-- What of a flow may be framed (RFC 9113 section 8.1).
use Rattle.flow_rules.specs.declared.ids.FlowId.{FlowId}
use Rattle.flow_rules.specs.Units.{carries_end as ends_with, head_may_go, next_unit as first_unit}
use Rattle.flow_rules.specs.declared.unit.Unit.{Unit as FlowUnit}
use Rattle.std.specs.Prelude.{Bool, IfSome, IsTrue, false, ℕ, ◌&&◌, ◌≡◌}
use Rattle.tape_laws.specs.Ends.{end_framed}
use Rattle.tape_laws.specs.History.{History, Marked, Noted, Step}
use Rattle.tape_laws.specs.Setup.{Setup}
use Rattle.tape_laws.specs.State.{state_of}
use Rattle.tape_laws.specs.Units.{FramedUnit, HeadOf, TrailersOf}
use Rattle.flow_notes.specs.declared.notes.Note.TheVariants as note
use Rattle.flow_rules.specs.declared.unit.Unit.TheVariants as unit

-- whether a frame of n octets carries END_STREAM, and the flow's next unit
abbrev pub carries_end : {Mark : Type 0} → Setup Mark → FlowId → ℕ → History Mark → Bool
carries_end setup f n past = ends_with (state_of setup f past) n

abbrev pub next_unit : {Mark : Type 0} → Setup Mark → FlowId → History Mark → FlowUnit
next_unit setup f past = first_unit (state_of setup f past)

-- a frame carries END_STREAM exactly where it may, and nothing of a flow is framed after its end
pub record EndsRight {Mark : Type 0} (setup : Setup Mark) (f : FlowId) (n : ℕ) (last : Bool) (past : History Mark) : Type 0 where
  pub exactly : last ≡ carries_end setup f n past
  pub once : end_framed setup f past ≡ false
  pub after_head : setup.head_waits f past ≡ false

-- a head or trailers are picked only where they may go
abbrev pub MayPick : {Mark : Type 0} → Setup Mark → FramedUnit → History Mark → Type 0
MayPick setup (HeadOf f) past = IsTrue (setup.head_waits f past && head_may_go (state_of setup f past))
MayPick setup (TrailersOf f) past = next_unit setup f past ≡ unit.Trailers
MayPick setup u past = Unit {0}

abbrev pub KeepsEnds : {Mark : Type 0} → Setup Mark → Step Mark → History Mark → Type 0
KeepsEnds setup (Noted (note.Frame c f n last)) past = EndsRight setup f n last past
KeepsEnds setup (Marked m) past = IfSome (setup.picks m) (λ p. MayPick setup p.unit past)
KeepsEnds setup step past = Unit {0}
