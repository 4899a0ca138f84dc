-- Events of sessions that have a spelling.
use Rattle.flow_notes.specs.Event.{IsEvent}
use Rattle.flow_notes.specs.declared.events.Event.{Event}
use Rattle.std.proofs.Common.{ap, arith, subst, sym, ◌∙◌}
use Rattle.std.specs.List.{AllByRecursion}
use Rattle.std.specs.Prelude.{List, [], length, ℕ, ◌++◌, ◌<◌, ◌∷◌, ◌≡◌, ◌≤◌}
use Rattle.flow_notes.specs.declared.events.Event.TheVariants as event
use Rattle.flow_notes.specs.declared.events.PlainEvent.TheVariants as plain

pub one_stream_is_spelled : (octets : List ℕ) (none one two : List Event) → none ≡ [] → one ≡ none ++ event.Plain (plain.Begin 1) ∷ [] → two ≡ one ++ event.Plain (plain.Body 1 octets) ∷ [] → 0 < length octets
    → length octets ≤ 16384 → (names : List (List ℕ)) → AllByRecursion (IsEvent names) two
one_stream_is_spelled octets none one two n o t some few names =
    let begun : one ≡ event.Plain (plain.Begin 1) ∷ [] = o ∙ ap (λ (v : List Event). v ++ event.Plain (plain.Begin 1) ∷ []) n in
    let fed : two ≡ event.Plain (plain.Begin 1) ∷ event.Plain (plain.Body 1 octets) ∷ [] = t ∙ ap (λ (v : List Event). v ++ event.Plain (plain.Body 1 octets) ∷ []) begun in
    let P : List Event → Type 0 = λ v. AllByRecursion (IsEvent names) v in
    subst P (sym fed) ((omega arith, omega arith), (((omega arith, omega arith), (some, few)), tt))
