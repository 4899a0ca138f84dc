-- Why a stream of a plain session may be doomed: each doom has its cause in its own dispatch.
use Rattle.flow_rules.specs.declared.ids.FlowId.{FlowId}
use Rattle.flow_rules.specs.declared.causes.Cause.{Cause}
use Rattle.std.specs.List.{list_any}
use Rattle.std.specs.Prelude.{Bool, IsTrue, not, ℕ, ◌&&◌}
use Rattle.tape_laws.specs.Dispatches.{before_dispatch}
use Rattle.tape_laws.specs.Ends.{end_framed}
use Rattle.tape_laws.specs.Flows.{request}
use Rattle.tape_laws.specs.History.{History, Noted, Step}
use Rattle.tape_laws.specs.Plain.{paired_with}
use Rattle.tape_laws.specs.Setup.{Setup}
use Rattle.flow_rules.specs.declared.causes.Cause.TheVariants as cause
use Rattle.flow_notes.specs.declared.notes.Note.TheVariants as note

-- the end of the flow was framed in this dispatch
abbrev pub end_framed_here : {Mark : Type 0} → Setup Mark → FlowId → History Mark → Bool
end_framed_here setup f past = end_framed setup f past && not (end_framed setup f (before_dispatch past))

-- a stream that was reset or that passed its window is doomed where its event asks for that, and only there
abbrev pub MayDoom : {Mark : Type 0} → Setup Mark → ℕ → Cause → History Mark → Type 0
MayDoom setup x cause.Done past = IsTrue (end_framed_here setup (request x) past)
MayDoom setup x cause.EarlyEnd past =
    IsTrue (list_any (λ s. end_framed_here setup (request s) past) (paired_with x past))
MayDoom setup x (cause.PeerReset code) past = Unit {0}
MayDoom setup x (cause.StreamError code) past = Unit {0}
MayDoom setup x why past = ⊥

-- in a plain session no connection is closed, and there are no heads, control frames, window updates and timers
abbrev pub HasCause : {Mark : Type 0} → Setup Mark → Step Mark → History Mark → Type 0
HasCause setup (Noted (note.Doom x why)) past = MayDoom setup x why past
HasCause setup (Noted (note.Close c code why)) past = ⊥
HasCause setup (Noted (note.Head c s octets)) past = ⊥
HasCause setup (Noted (note.Answer c octets)) past = ⊥
HasCause setup (Noted (note.Credit c s n)) past = ⊥
HasCause setup (Noted (note.Waste c s n)) past = ⊥
HasCause setup (Noted (note.Fire kind id)) past = ⊥
HasCause setup step past = Unit {0}
