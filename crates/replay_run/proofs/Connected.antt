-- A plain session has one connection.
use Rattle.flow_notes.specs.declared.events.Event.{Event}
use Rattle.tape_laws.specs.Following.{MayFollowAll}
use Rattle.replay_run.specs.SeenTape.{IsSeen, IsTape}
use Rattle.session_lines.specs.Seen.{Headed, Playing, Seen, Unread, seen_events}
use Rattle.std.proofs.Common.{refl, subst, sym}
use Rattle.std.specs.List.{AllByRecursion}
use Rattle.std.specs.Prelude.{List, [], ◌∷◌, ◌≡◌}
use Rattle.tape_laws.specs.Connections.{connections}
use Rattle.tape_laws.specs.Dispatches.{events_back}
use Rattle.tape_laws.specs.History.{History, Marked, NoMark, Noted}
use Rattle.tape_laws.specs.Plain.{plain_setup}
use Rattle.tape_laws.specs.declared.PlainLimits.{PlainLimits}
use Rattle.flow_notes.specs.declared.events.Event.TheVariants as event
use Rattle.flow_notes.specs.declared.notes.Note.TheVariants as note

abbrev IsOfPlain : Event → Type 0
IsOfPlain (event.Plain e) = Unit {0}
IsOfPlain e = ⊥

pub one_connection : (limits : PlainLimits) (h : History NoMark) → AllByRecursion IsOfPlain (events_back h) → connections (plain_setup limits) h ≡ 0 ∷ []
one_connection limits [] a = refl
one_connection limits (Noted (note.Turn k (event.Plain e)) ∷ past) a = one_connection limits past a.1
one_connection limits (Noted (note.Turn k (event.Accept c)) ∷ past) a = absurd a.0
one_connection limits (Noted (note.Turn k (event.Join c cluster)) ∷ past) a = absurd a.0
one_connection limits (Noted (note.Turn k (event.Read c octets)) ∷ past) a = absurd a.0
one_connection limits (Noted (note.Turn k (event.Gone c)) ∷ past) a = absurd a.0
one_connection limits (Noted (note.Turn k (event.Room c n)) ∷ past) a = absurd a.0
one_connection limits (Noted (note.Turn k (event.Tick now)) ∷ past) a = absurd a.0
one_connection limits (Noted (note.Turn k (event.Post poster number job)) ∷ past) a = absurd a.0
one_connection limits (Noted (note.Turn k (event.Obey version pressures)) ∷ past) a = absurd a.0
one_connection limits (Noted (note.Arrive f o) ∷ past) a = one_connection limits past a
one_connection limits (Noted (note.Move f p n) ∷ past) a = one_connection limits past a
one_connection limits (Noted (note.Frame c f n last) ∷ past) a = one_connection limits past a
one_connection limits (Noted (note.Out c n) ∷ past) a = one_connection limits past a
one_connection limits (Noted (note.Pause f b) ∷ past) a = one_connection limits past a
one_connection limits (Noted (note.Resume f b) ∷ past) a = one_connection limits past a
one_connection limits (Noted (note.Credit c s n) ∷ past) a = one_connection limits past a
one_connection limits (Noted (note.Head c s o) ∷ past) a = one_connection limits past a
one_connection limits (Noted (note.Answer c o) ∷ past) a = one_connection limits past a
one_connection limits (Noted (note.Waste c s n) ∷ past) a = one_connection limits past a
one_connection limits (Noted (note.Start x c s d) ∷ past) a = one_connection limits past a
one_connection limits (Noted (note.Doom x why) ∷ past) a = one_connection limits past a
one_connection limits (Noted (note.Gone x) ∷ past) a = one_connection limits past a
one_connection limits (Noted (note.Close c code why) ∷ past) a = one_connection limits past a
one_connection limits (Noted (note.Fire kind id) ∷ past) a = one_connection limits past a
one_connection limits (Marked m ∷ past) a = one_connection limits past a

-- the events of lines that may come are those of a plain session
all_plain : (es : List Event) → MayFollowAll es → AllByRecursion IsOfPlain es
all_plain [] m = tt
all_plain (event.Plain e ∷ es) m = (tt, all_plain es m.1)
all_plain (event.Accept c ∷ es) m = absurd m.0
all_plain (event.Join c cluster ∷ es) m = absurd m.0
all_plain (event.Read c octets ∷ es) m = absurd m.0
all_plain (event.Gone c ∷ es) m = absurd m.0
all_plain (event.Room c n ∷ es) m = absurd m.0
all_plain (event.Tick now ∷ es) m = absurd m.0
all_plain (event.Post poster number job ∷ es) m = absurd m.0
all_plain (event.Obey version pressures ∷ es) m = absurd m.0

seen_plain : (seen : Seen) → IsSeen seen → AllByRecursion IsOfPlain (seen_events seen)
seen_plain Unread m = tt
seen_plain (Headed f) m = tt
seen_plain (Playing f l es) m = all_plain es m.1

pub tape_connection : (seen : Seen) (limits of : PlainLimits) (h : History NoMark) → IsTape seen limits h → connections (plain_setup of) h ≡ 0 ∷ []
tape_connection seen limits of h t =
    let P : List Event → Type 0 = λ v. AllByRecursion IsOfPlain v in one_connection of h (subst P (sym t.events) (seen_plain seen t.may))
