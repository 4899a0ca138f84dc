-- Which exchange an obeyed state resets next: that of the greatest memory class, of these the one that came into its class first.
use Rattle.flow_rules.specs.declared.ids.FlowId.{FlowId}
use Rattle.flow_notes.specs.declared.events.Event.{Event}
use Rattle.overload_core.specs.Accounts.{cleared}
use Rattle.overload_core.specs.Course.{Holding, class_at, stay}
use Rattle.proxy_config.specs.declared.config.Config.{Config}
use Rattle.std.specs.Prelude.{Bool, List, None, Option, Some, [], false, filter, if◌then◌else◌, length, nat_lt, option_map, option_to_list, suc, sum_by, true, zero, ℕ, ◌&&◌, ◌+◌, ◌==◌, ◌||◌, ◌∷◌}
use Rattle.tape_laws.specs.Dispatches.{live, this_event}
use Rattle.tape_laws.specs.Flows.{request, response}
use Rattle.tape_laws.specs.History.{Noted}
use Rattle.tape_laws.specs.Units.{Demand, WantsDoom}
use Rattle.tape_laws.specs.World.{last_place, place}
use Rattle.wire_laws.specs.Base.{wire_base}
use Rattle.wire_laws.specs.Marks.{WireHistory}
use Rattle.wire_laws.specs.Overload.{actions}
use Rattle.flow_notes.specs.declared.events.Event.TheVariants as event
use Rattle.flow_rules.specs.declared.causes.Cause.TheVariants as cause
use Rattle.flow_notes.specs.declared.notes.Note.TheVariants as note

-- what both flows of an exchange hold in all their places
abbrev pub held_in_places : Config → FlowId → ℕ → WireHistory → ℕ
held_in_places config f zero past = length (place (wire_base config) f 0 past)
held_in_places config f (suc p) past = length (place (wire_base config) f (suc p) past) + held_in_places config f p past

abbrev pub held_of : Config → WireHistory → Holding
held_of config past x = sum_by
    (λ f. held_in_places config f (last_place (wire_base config) f past) past) (request x ∷ response x ∷ [])

-- what each exchange held at the ends of the dispatches before this one, newest first
abbrev pub ends_of : Config → WireHistory → List Holding
ends_of config [] = []
ends_of config (Noted (note.Turn k e) ∷ past) = held_of config past ∷ ends_of config past
ends_of config (step ∷ past) = ends_of config past

-- for how many ends on end an exchange has been in its class
abbrev pub stay_of : ℕ → List Holding → ℕ → ℕ
stay_of start ends x = stay start ends (class_at start ends x) x

-- x goes before y: it is of a greater class, or longer in the same, or as long and of the lesser number
abbrev pub stays_longer : ℕ → ℕ → ℕ → ℕ → Bool
stays_longer m x n y = nat_lt n m || ((m == n) && nat_lt x y)

abbrev pub goes_first : ℕ → List Holding → ℕ → ℕ → Bool
goes_first start ends x y =
    let a = class_at start ends x in
    let b = class_at start ends y in
    nat_lt b a || ((a == b) && stays_longer (stay_of start ends x) x (stay_of start ends y) y)

abbrev pub first_of_two : ℕ → List Holding → ℕ → Option ℕ → ℕ
first_of_two start ends x None = x
first_of_two start ends x (Some y) = if goes_first start ends y x then y else x

abbrev pub first_among : ℕ → List Holding → List ℕ → Option ℕ
first_among start ends [] = None
first_among start ends (x ∷ xs) = Some (first_of_two start ends x (first_among start ends xs))

-- the live exchanges whose class the state of the action clears
abbrev pub is_cleared : Config → List Holding → ℕ → WireHistory → Bool
is_cleared config ends x past =
    nat_lt 8 (class_at config.overload.class_start ends x + cleared (actions config past).reset_streams)

abbrev pub next_reset : Config → WireHistory → Option ℕ
next_reset config past =
    let ends = ends_of config past in
    first_among config.overload.class_start ends (filter (λ x. is_cleared config ends x past) (live past))

-- how many this dispatch reset
abbrev pub resets_here : WireHistory → ℕ
resets_here [] = 0
resets_here (Noted (note.Turn k e) ∷ past) = 0
resets_here (Noted (note.Doom x cause.Overload) ∷ past) = 1 + resets_here past
resets_here (step ∷ past) = resets_here past

abbrev pub is_obey : Option Event → Bool
is_obey (Some (event.Obey version pressures)) = true
is_obey e = false

-- an obeyed state resets at most fifty exchanges, each after the dooms before it
abbrev pub reset_due : Config → WireHistory → List Demand
reset_due config past =
    if is_obey (this_event past) && nat_lt (resets_here past) 50
    then option_to_list (option_map (λ x. WantsDoom x cause.Overload) (next_reset config past)) else []
