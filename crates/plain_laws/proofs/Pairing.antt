-- Which streams must end once the end of one was framed.
use Rattle.plain_laws.specs.Pairs.{seconds}
use Rattle.std.proofs.Common.{refl}
use Rattle.std.specs.Prelude.{Bool, List, [], false, if◌then◌else◌, true, ℕ, ◌&&◌, ◌++◌, ◌==◌, ◌||◌, ◌∷◌, ◌≡◌}
use Rattle.plain_laws.specs.Words.{Past}
use Rattle.tape_laws.specs.Dispatches.{has}
use Rattle.tape_laws.specs.Flows.{request}
use Rattle.tape_laws.specs.History.{Noted}
use Rattle.tape_laws.specs.Plain.{paired_with}
use Rattle.tape_laws.specs.PlainSession.{plain_must_end}
use Rattle.flow_notes.specs.declared.events.Event.TheVariants as event
use Rattle.flow_notes.specs.declared.events.PlainEvent.TheVariants as plain
use Rattle.flow_notes.specs.declared.notes.Note.TheVariants as note

-- either way to look at a pair says the same
pub pairs_agree : (x y : ℕ) (h : Past) → has (seconds x h) y ≡ has (paired_with y h) x
pairs_agree x y [] = refl
pairs_agree x y (Noted (note.Turn k (event.Plain (plain.Pair first second))) ∷ past) =
    joined (first == x) (second == y) (seconds x past) (paired_with y past) (pairs_agree x y past) refl refl
  where
    joined : (a b : Bool) (us vs : List ℕ) → has us y ≡ has vs x → a ≡ (first == x) → b ≡ (second == y)
        → has ((if a then second ∷ [] else []) ++ us) y ≡ has ((if b then first ∷ [] else []) ++ vs) x
    joined true true us vs e fa fb = rw (← fa, ← fb) (cc)
    joined true false us vs e fa fb = rw (← fb) e
    joined false true us vs e fa fb = rw (← fa) e
    joined false false us vs e fa fb = e
pairs_agree x y (step ∷ past) = pairs_agree x y past

-- who must end after a frame
pub must_frame_is : (c x y n : ℕ) (last : Bool) (h : Past)
    → plain_must_end y (Noted (note.Frame c (request x) n last) ∷ h) ≡ ((last && ((y == x) || has (paired_with y h) x)) || plain_must_end y h)
must_frame_is c x y n last h = refl
