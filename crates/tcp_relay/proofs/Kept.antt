-- What came for a connection that wasn't lost has left, or waits, in order.
use Rattle.relay_laws.specs.Pairs.{Tape, goes_to}
use Rattle.relay_laws.specs.Promise.{KeepsWhatWaits, was_lost}
use Rattle.relay_laws.specs.World.{entered, gone, out}
use Rattle.std.proofs.Common.{ap, append-nil, append_assoc, refl, sym, take-append-drop, ◌∙◌}
use Rattle.std.specs.Prelude.{Bool, List, [], drop, false, if◌then◌else◌, take, true, ℕ, ◌++◌, ◌==◌, ◌||◌, ◌∷◌, ◌≡◌}
use Rattle.tape_laws.specs.Dispatches.{is_some_of}
use Rattle.tape_laws.specs.History.{AtEachMoment, Marked, NoMark, Noted, Step}
use Rattle.tcp_relay.proofs.Tests.{not_both}
use Rattle.flow_notes.specs.declared.notes.CloseCause.TheVariants as why
use Rattle.flow_notes.specs.declared.notes.Note.TheVariants as note

-- octets that leave are those in front
leaves : (b : Bool) (n : ℕ) (xs ys zs : List ℕ) → xs ++ ys ≡ zs → (xs ++ (if b then take n ys else [])) ++ drop (if b then n else 0) ys ≡ zs
leaves true n xs ys zs e = append_assoc xs (take n ys) (drop n ys) ∙ ap (λ v. xs ++ v) (take-append-drop n ys) ∙ e
leaves false n xs ys zs e = ap (λ v. v ++ ys) (append-nil xs) ∙ e

lost_too : (b : Bool) (l : Bool) (xs ys zs : List ℕ) → (b || l) ≡ false → (l ≡ false → xs ++ ys ≡ zs) → xs ++ (if b then [] else ys) ≡ zs
lost_too true l xs ys zs e k = not_both true refl e
lost_too false l xs ys zs e k = k e

pub kept_step : (c : ℕ) (step : Step NoMark) (h : Tape) → (was_lost c h ≡ false → gone c h ++ out c h ≡ entered c h)
    → was_lost c (step ∷ h) ≡ false → gone c (step ∷ h) ++ out c (step ∷ h) ≡ entered c (step ∷ h)
kept_step c (Noted (note.Arrive f octets)) h k e =
    sym (append_assoc (gone c h) (out c h) (if is_some_of (goes_to f h) c then octets else []))
    ∙ ap (λ v. v ++ (if is_some_of (goes_to f h) c then octets else [])) (k e)
kept_step c (Noted (note.Out d n)) h k e = leaves (d == c) n (gone c h) (out c h) (entered c h) (k e)
kept_step c (Noted (note.Close d code why.Lost)) h k e = lost_too (d == c) (was_lost c h) (gone c h) (out c h) (entered c h) e k
kept_step c (Noted (note.Close d code why.Protocol)) h k e = k e
kept_step c (Noted (note.Close d code why.Drained)) h k e = k e
kept_step c (Noted (note.Close d code why.Idle)) h k e = k e
kept_step c (Noted (note.Close d code why.Overload)) h k e = k e
kept_step c (Noted (note.Close d code why.Flood)) h k e = k e
kept_step c (Noted (note.Turn n v)) h k e = k e
kept_step c (Noted (note.Move f p n)) h k e = k e
kept_step c (Noted (note.Frame d f n last)) h k e = k e
kept_step c (Noted (note.Pause f b)) h k e = k e
kept_step c (Noted (note.Resume f b)) h k e = k e
kept_step c (Noted (note.Credit d s n)) h k e = k e
kept_step c (Noted (note.Head d s octets)) h k e = k e
kept_step c (Noted (note.Answer d octets)) h k e = k e
kept_step c (Noted (note.Waste d s n)) h k e = k e
kept_step c (Noted (note.Start x d s b)) h k e = k e
kept_step c (Noted (note.Doom x v)) h k e = k e
kept_step c (Noted (note.Gone x)) h k e = k e
kept_step c (Noted (note.Fire v id)) h k e = k e
kept_step c (Marked m) h k e = k e

pub keeps : (h : Tape) → KeepsWhatWaits h
keeps [] = λ c e. refl
keeps (step ∷ h) = λ c e. kept_step c step h (keeps h c) e

pub keeps_always : (h : Tape) → AtEachMoment KeepsWhatWaits h
keeps_always [] = keeps []
keeps_always (step ∷ h) = (keeps (step ∷ h), keeps_always h)
