-- The events of a drill have a spelling.
use Rattle.flow_notes.specs.Event.{IsEvent}
use Rattle.flow_notes.specs.declared.events.Event.{Event}
use Rattle.replay_run.proofs.DrillFollows.{drill_follows}
use Rattle.replay_run.specs.DrillEvents.{drill}
use Rattle.replay_run.specs.GoingOn.{MayGoOn}
use Rattle.std.proofs.Common.{subst, sym}
use Rattle.std.specs.List.{AllByRecursion}
use Rattle.std.specs.Prelude.{List, [], ℕ, ◌∷◌, ◌≡◌, ◌≤◌}
use Rattle.flow_notes.specs.declared.events.Event.TheVariants as event

going_is_spelled : (names : List (List ℕ)) (es later : List Event) → MayGoOn es later → AllByRecursion (IsEvent names) later
going_is_spelled names es [] m = tt
going_is_spelled names es (event.Plain e ∷ later) m = (m.0.0, going_is_spelled names (event.Plain e ∷ es) later m.1)
going_is_spelled names es (event.Accept c ∷ later) m = absurd m.0
going_is_spelled names es (event.Join c cluster ∷ later) m = absurd m.0
going_is_spelled names es (event.Read c octets ∷ later) m = absurd m.0
going_is_spelled names es (event.Gone c ∷ later) m = absurd m.0
going_is_spelled names es (event.Room c n ∷ later) m = absurd m.0
going_is_spelled names es (event.Tick now ∷ later) m = absurd m.0
going_is_spelled names es (event.Post poster number job ∷ later) m = absurd m.0
going_is_spelled names es (event.Obey version pressures ∷ later) m = absurd m.0

pub drill_is_spelled : (names : List (List ℕ)) (n : ℕ) (events : List Event) → n ≤ 1000 → events ≡ drill n → AllByRecursion (IsEvent names) events
drill_is_spelled names n events few is =
    let P : List Event → Type 0 = λ v. AllByRecursion (IsEvent names) v in subst P (sym is) (going_is_spelled names [] (drill n) (drill_follows n few))
