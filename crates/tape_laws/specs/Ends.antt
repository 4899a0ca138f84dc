-- Whether the end of a flow was framed.
use Rattle.flow_rules.specs.declared.ids.FlowId.{FlowId}
use Rattle.std.specs.Option.{option_map_or}
use Rattle.std.specs.Prelude.{Bool, [], false, ◌&&◌, ◌||◌, ◌∷◌}
use Rattle.tape_laws.specs.Flows.{same_flow}
use Rattle.tape_laws.specs.History.{History, Marked, Noted}
use Rattle.tape_laws.specs.Setup.{Setup}
use Rattle.tape_laws.specs.Units.{FramedUnit, HeadOf, TrailersOf}
use Rattle.flow_notes.specs.declared.notes.Note.TheVariants as note

-- a unit that was picked ends the flow: a head that came with its end, or trailers
abbrev pub pick_ends : {Mark : Type 0} → Setup Mark → FlowId → FramedUnit → History Mark → Bool
pick_ends setup f (HeadOf g) past = same_flow g f && setup.head_ends f past
pick_ends setup f (TrailersOf g) past = same_flow g f
pick_ends setup f u past = false

-- the flow's end was framed, by a DATA frame, a head or trailers
abbrev pub end_framed : {Mark : Type 0} → Setup Mark → FlowId → History Mark → Bool
end_framed setup f [] = false
end_framed setup f (Noted (note.Frame c g n last) ∷ past) = (same_flow g f && last) || end_framed setup f past
end_framed setup f (Marked m ∷ past) =
    option_map_or (λ p. pick_ends setup f p.unit past) (setup.picks m) false || end_framed setup f past
end_framed setup f (step ∷ past) = end_framed setup f past
