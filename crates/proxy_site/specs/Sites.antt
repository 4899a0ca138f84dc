-- What a site was asked for, what it gave to relays, and what came back of it.
use Rattle.std.specs.Option.{option_map}
use Rattle.std.specs.Prelude.{List, None, Option, [], ℕ, ◌++◌, ◌∷◌, ◌≡◌, ◌⊎◌}
use Rattle.worker_ports.specs.Wires.{Seen}

-- where it listens, each time with the address that was asked for and the one that is in use; connections with their journals;
-- each in order
pub record Told (T J : Type 0) : Type 0 where
  pub listens : List (List ℕ × List ℕ)
  pub given : List (T × J)
  pub back : List (T × J)

abbrev pub with_listening : {T J : Type 0} → List ℕ × List ℕ → Option (Told T J) → Option (Told T J)
with_listening {T} {J} at told = option_map (λ (t : Told T J). record t { listens = t.listens ++ at ∷ [] }) told

abbrev pub with_given : {T J : Type 0} → T × J → Option (Told T J) → Option (Told T J)
with_given {T} {J} p told = option_map (λ (t : Told T J). record t { given = t.given ++ p ∷ [] }) told

abbrev pub with_back : {T J : Type 0} → T × J → Option (Told T J) → Option (Told T J)
with_back {T} {J} p told = option_map (λ (t : Told T J). record t { back = t.back ++ p ∷ [] }) told

-- it tells no more, or one thing more
abbrev pub TellsListening : {T J : Type 0} → Option (Told T J) → List ℕ × List ℕ → Option (Told T J) → Type 0
TellsListening old at new = (new ≡ None) ⊎ (new ≡ with_listening at old)

abbrev pub TellsGiven : {T J : Type 0} → Option (Told T J) → T × J → Option (Told T J) → Type 0
TellsGiven old p new = (new ≡ None) ⊎ (new ≡ with_given p old)

abbrev pub TellsBack : {T J : Type 0} → Option (Told T J) → T × J → Option (Told T J) → Type 0
TellsBack old p new = (new ≡ None) ⊎ (new ≡ with_back p old)

-- and all three
abbrev pub TellsAll : {T J : Type 0} → Option (Told T J) → List ℕ × List ℕ → (p q : T × J) → Option (Told T J) → Type 0
TellsAll old at p q new = (new ≡ None) ⊎ (new ≡ with_back q (with_given p (with_listening at old)))

-- where it listens may be told, and nothing else is
abbrev pub TellsNoMore : {T J : Type 0} → Option (Told T J) → (asked : List ℕ) → Option (Told T J) → Type 0
TellsNoMore old asked new = (new ≡ old) ⊎ ((used : List ℕ) × TellsListening old (asked, used) new)

-- connections that nobody has used
pub record IsUnused (n : ℕ) (seen : Seen) : Type 0 where
  pub clusters : seen.clusters ≡ n
  pub live : seen.live ≡ []
  pub greatest : seen.greatest ≡ 0
  pub held : seen.held ≡ []
