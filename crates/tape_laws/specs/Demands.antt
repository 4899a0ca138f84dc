-- What a step asks for at once stands at once, in order: the obligations. Pauses may stand between.
use Rattle.flow_rules.specs.declared.causes.Cause.{Cause}
use Rattle.flow_notes.specs.declared.notes.Note.{Note}
use Rattle.std.specs.Bool.{OnTrue}
use Rattle.std.specs.Prelude.{Bool, IsTrue, List, None, Option, Some, [], drop, false, true, ℕ, ◌++◌, ◌==◌, ◌∷◌, ◌≡◌}
use Rattle.tape_laws.specs.History.{History, Marked, Noted, Step}
use Rattle.tape_laws.specs.Pauses.{Heads}
use Rattle.tape_laws.specs.Setup.{Session, Setup}
use Rattle.tape_laws.specs.Units.{Demand, Farewell, FramedUnit, Pick, WantsArrive, WantsClose, WantsDoom, WantsOut, WantsPicked, WantsStart}
use Rattle.flow_rules.specs.declared.causes.Cause.TheVariants as cause
use Rattle.flow_notes.specs.declared.notes.Note.TheVariants as note

-- a farewell is followed by its close
abbrev pub close_behind : ℕ → FramedUnit → List Demand
close_behind c (Farewell code why) = WantsClose c code why ∷ []
close_behind c u = []

-- a unit that was picked is framed at once
abbrev pub asked_by_pick : Option Pick → List Demand
asked_by_pick None = []
asked_by_pick (Some p) = WantsPicked p.conn ∷ close_behind p.conn p.unit

-- What is owed, the first of it first: each step but a pause meets the first, and asks for more before the rest.
abbrev pub obligations : {Mark : Type 0} → Session Mark → History Mark → List Demand
obligations session [] = []
obligations session (Noted (note.Pause f b) ∷ past) = obligations session past
obligations session (Noted n ∷ past) = session.asked (Noted n) past ++ drop 1 (obligations session past)
obligations session (Marked m ∷ past) =
    asked_by_pick (session.setup.picks m) ++ session.asked (Marked m) past ++ drop 1 (obligations session past)

-- the note frames a unit that was picked for the connection: a header block, or a control frame
abbrev pub frames_picked : ℕ → Note → Bool
frames_picked c (note.Head d s octets) = d == c
frames_picked c (note.Answer d octets) = d == c
frames_picked c n = false

-- the step is what was asked for; before a close its GOAWAY may be picked
abbrev pub Meets : {Mark : Type 0} → Setup Mark → Demand → Step Mark → Type 0
Meets setup (WantsOut c n) step = step ≡ Noted (note.Out c n)
Meets setup (WantsStart x c s d) step = step ≡ Noted (note.Start x c s d)
Meets setup (WantsArrive f octets) step = step ≡ Noted (note.Arrive f octets)
Meets setup (WantsDoom x why) step = step ≡ Noted (note.Doom x why)
Meets setup (WantsClose c code why) (Noted n) = n ≡ note.Close c code why
Meets setup (WantsClose c code why) (Marked m) = setup.picks m ≡ Some (record { conn = c; unit = Farewell code why })
Meets setup (WantsPicked c) (Noted n) = IsTrue (frames_picked c n)
Meets setup (WantsPicked c) (Marked m) = ⊥

-- it is the first of what is owed
abbrev pub MeetsFirst : {Mark : Type 0} → Setup Mark → List Demand → Step Mark → Type 0
MeetsFirst setup ds (Noted (note.Pause f b)) = Unit {0}
MeetsFirst setup [] step = Unit {0}
MeetsFirst setup (d ∷ ds) step = Meets setup d step

abbrev pub Answers : {Mark : Type 0} → Session Mark → Step Mark → History Mark → Type 0
Answers session step past = MeetsFirst session.setup (obligations session past) step

-- a stream that its peer reset, or that broke the protocol, is doomed at once
abbrev pub is_at_once : Cause → Bool
is_at_once (cause.StreamError code) = true
is_at_once (cause.PeerReset code) = true
is_at_once why = false

-- a start, an out note and such a doom stand only where they are asked for
abbrev pub OnlyAsked : {Mark : Type 0} → Session Mark → Step Mark → History Mark → Type 0
OnlyAsked session (Noted (note.Start x c s d)) past = Heads (WantsStart x c s d) (obligations session past)
OnlyAsked session (Noted (note.Out c n)) past = Heads (WantsOut c n) (obligations session past)
OnlyAsked session (Noted (note.Doom x why)) past = OnTrue (is_at_once why) (Heads (WantsDoom x why) (obligations session past))
OnlyAsked session step past = Unit {0}
