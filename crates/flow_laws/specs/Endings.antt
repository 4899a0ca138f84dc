-- END_STREAM goes once, with the last octet (RFC 9113 section 8.1).
use Rattle.flow_rules.specs.declared.ids.FlowId.{FlowId}
use Rattle.std.specs.Option.{option_map_or}
use Rattle.std.specs.Prelude.{IfSome, [], false, if◌then◌else◌, true, ℕ, ◌&&◌, ◌+◌, ◌∷◌, ◌≡◌}
use Rattle.tape_laws.specs.Ends.{end_framed, pick_ends}
use Rattle.tape_laws.specs.Flows.{same_flow}
use Rattle.tape_laws.specs.History.{History, Marked, Noted, Step}
use Rattle.tape_laws.specs.Quiet.{EachPlace}
use Rattle.tape_laws.specs.Setup.{Setup}
use Rattle.tape_laws.specs.Units.{FramedUnit, HeadOf}
use Rattle.tape_laws.specs.World.{last_place, place, received}
use Rattle.flow_notes.specs.declared.notes.Note.TheVariants as note

-- nothing of the flow is left in any place
abbrev pub IsEmptied : {Mark : Type 0} → Setup Mark → FlowId → History Mark → Type 0
IsEmptied setup f past = EachPlace (λ p. place setup f p past ≡ []) (last_place setup f past)

-- how many units carried the flow's end
abbrev pub times_ended : {Mark : Type 0} → Setup Mark → FlowId → History Mark → ℕ
times_ended setup f [] = 0
times_ended setup f (Noted (note.Frame c g n last) ∷ past) = (if same_flow g f && last then 1 else 0) + times_ended setup f past
times_ended setup f (Marked m ∷ past) =
    (if option_map_or (λ p. pick_ends setup f p.unit past) (setup.picks m) false then 1 else 0) + times_ended setup f past
times_ended setup f (step ∷ past) = times_ended setup f past

-- a head that is picked is the flow's first unit, and one that ends it has no body
pub record EndsHead {Mark : Type 0} (setup : Setup Mark) (f : FlowId) (past : History Mark) : Type 0 where
  pub first : end_framed setup f past ≡ false
  pub alone : setup.head_ends f past ≡ true → received f past ≡ []

abbrev pub HeadInTime : {Mark : Type 0} → Setup Mark → FramedUnit → History Mark → Type 0
HeadInTime setup (HeadOf f) past = EndsHead setup f past
HeadInTime setup u past = Unit {0}

-- nothing arrives once the end was framed, and no head is picked then
abbrev pub EndsInTime : {Mark : Type 0} → Setup Mark → Step Mark → History Mark → Type 0
EndsInTime setup (Noted (note.Arrive f octets)) past = end_framed setup f past ≡ false
EndsInTime setup (Marked m) past = IfSome (setup.picks m) (λ p. HeadInTime setup p.unit past)
EndsInTime setup step past = Unit {0}
