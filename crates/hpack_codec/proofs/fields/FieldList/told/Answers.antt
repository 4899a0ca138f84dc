use Rattle.std.proofs.Common.{◌≡◌, List, ap, subst, sym, ◌∙◌}
use Rattle.std.specs.List.{slice_get}
use Rattle.hpack_codec.proofs.ToldFields.{nothing_told, told_at}
use Rattle.hpack_codec.proofs.fields.FieldList.told.Goals as goal

pub returns-then-place-lt-TOLD : goal.returns-then-place-lt-TOLD
returns-then-place-lt-TOLD c = λ field found.
    told_at c.self.inside.told c.self.inside.fields.items c.args.place field c.self.invariant.2 (ap (λ xs. slice_get xs c.args.place) c.self.view_is ∙ found)

pub returns-else-place-lt-TOLD : goal.returns-else-place-lt-TOLD
returns-else-place-lt-TOLD c = λ field found. nothing_told field
