-- Notes that stand as items: a note alone, or a row of pauses or resumes, whose flows stand in a list of their own.
use Rattle.std.specs.List.{AllByRecursion, flat_map, sum_by}
use Rattle.std.specs.Prelude.{List, [], drop, if◌then◌else◌, length, map, take, ℕ, ◌++◌, ◌+◌, ◌<◌, ◌==◌, ◌∷◌, ◌≡◌}
use Rattle.flow_rules.specs.declared.ids.FlowId.{FlowId}
use Rattle.flow_notes.specs.declared.notes.Note.{Note}
use Rattle.flow_notes.specs.declared.passages.Item.{Item}
use Rattle.flow_notes.specs.declared.notes.Note.TheVariants as note
use Rattle.flow_notes.specs.declared.passages.Item.TheVariants.{One, Pauses, Resumes}

-- how many notes of an item stand alone, and how many flows it has
abbrev pub alone_in : Item → ℕ
alone_in (One n) = 1
alone_in (Pauses count buffer) = 0
alone_in (Resumes count buffer) = 0

abbrev pub flows_in : Item → ℕ
flows_in (One n) = 0
flows_in (Pauses count buffer) = count
flows_in (Resumes count buffer) = count

-- the notes of an item with these flows
abbrev pub notes_of : Item → List FlowId → List Note
notes_of (One n) flows = n ∷ []
notes_of (Pauses count buffer) flows = map (λ f. note.Pause f buffer) flows
notes_of (Resumes count buffer) flows = map (λ f. note.Resume f buffer) flows

-- the notes of each item, where the flows of the rows stand one row after the other
abbrev pub rows_of : List Item → List FlowId → List (List Note)
rows_of [] flows = []
rows_of (item ∷ items) flows = notes_of item (take (flows_in item) flows) ∷ rows_of items (drop (flows_in item) flows)

abbrev pub all_notes : List Item → List FlowId → List Note
all_notes items flows = flat_map (λ notes. notes) (rows_of items flows)

-- the flows are those of the rows, no row is empty, and so many notes stand alone
pub record AreRows (items : List Item) (flows : List FlowId) (alone : ℕ) : Type 0 where
  pub flows_are : sum_by flows_in items ≡ length flows
  pub alone_are : sum_by alone_in items ≡ alone
  pub full : AllByRecursion (λ item. 0 < alone_in item + flows_in item) items

-- a row goes at the end, unless it is empty
abbrev pub with_row : List Item → Item → List Item
with_row items row = if flows_in row == 0 then items else items ++ row ∷ []
