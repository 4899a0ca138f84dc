-- What is still owed between a note and those that have to follow it.
use Rattle.flow_rules.specs.declared.ids.BufferId.{BufferId}
use Rattle.flow_rules.specs.declared.causes.Cause.{Cause}
use Rattle.flow_notes.specs.declared.notes.Note.{Note}
use Rattle.std.specs.Prelude.{Bool, List, [], count_by, false, if◌then◌else◌, map, true, ℕ, ◌==◌, ◌∷◌, ◌≡◌, ◌⊎◌}
use Rattle.tape_laws.specs.Demands.{is_at_once}
use Rattle.tape_laws.specs.Dispatches.{has, live}
use Rattle.tape_laws.specs.Flows.{request, same_flow}
use Rattle.tape_laws.specs.History.{History, NoMark}
use Rattle.tape_laws.specs.Pauses.{Owed}
use Rattle.tape_laws.specs.Units.{Demand, WantsArrive, WantsDoom, WantsStart}
use Rattle.tape_laws.specs.Watermark.{above}
use Rattle.flow_rules.specs.declared.causes.Cause.TheVariants as cause
use Rattle.flow_notes.specs.declared.notes.Note.TheVariants as note

-- the pauses that have to follow, what is asked for at once, and what came of each stream's body and wasn't received yet
pub record Owing : Type 0 where
  pub due : List Owed
  pub asks : List Demand
  pub extra : ℕ → List ℕ

abbrev pub nothing : Owing
nothing = record { due = []; asks = []; extra = λ x. [] }

-- only what the event asks for
abbrev pub asking : List Demand → Owing
asking ds = record { due = []; asks = ds; extra = λ x. [] }

-- only these pauses
abbrev pub owed : List Owed → Owing
owed due = record { due = due; asks = []; extra = λ x. [] }

-- the octets came for the stream x alone
abbrev pub only : ℕ → List ℕ → ℕ → List ℕ
only x octets y = if x == y then octets else []

-- octets are to arrive in the receive buffer of x
abbrev pub arriving : ℕ → List ℕ → Owing
arriving x octets = record { due = []; asks = WantsArrive (request x) octets ∷ []; extra = only x octets }

-- more came for x than its receive buffer may hold
abbrev pub overrun : ℕ → List ℕ → Owing
overrun x octets = record { due = []; asks = WantsDoom x (cause.StreamError 3) ∷ []; extra = only x octets }

-- one pause for each of these streams
abbrev pub pauses_for : BufferId → List ℕ → List Owed
pauses_for b xs = map (λ x. record { flow = request x; buffer = b }) xs

-- one pause for each of these streams, where the buffer is above
abbrev pub due_if : Bool → BufferId → List ℕ → List Owed
due_if above b xs = if above then pauses_for b xs else []

-- the notes of these pauses
abbrev pub pause_notes : List Owed → List Note
pause_notes due = map (λ o. note.Pause o.flow o.buffer) due

-- the stream is asked to start
abbrev pub starts : List Demand → ℕ → Bool
starts (WantsStart x c s d ∷ ds) y = x == y
starts ds y = false

-- how many of the pauses are of the stream's flow
abbrev pub owed_times : ℕ → List Owed → ℕ
owed_times x due = count_by (λ o. same_flow o.flow (request x)) due

-- what is owed is the doom of x, with what came of its body, or nothing, where its cause needn't be met at once
pub record OwesDoom (x : ℕ) (why : Cause) (h : History NoMark) (owing : Owing) : Type 0 where
  pub due : owing.due ≡ []
  pub asks : ((owing.asks ≡ []) × (is_at_once why ≡ false)) ⊎ (owing.asks ≡ WantsDoom x why ∷ [])
  pub extra : (y : ℕ) → has (live h) y ≡ true → (x == y) ≡ false → owing.extra y ≡ []
