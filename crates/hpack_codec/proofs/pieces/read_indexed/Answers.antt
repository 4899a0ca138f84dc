use Rattle.std.proofs.Common.{◌++◌, ◌∷◌, [], false, refl}
use Rattle.hpack_codec.specs.Entries.{entry_line}
use Rattle.hpack_codec.specs.Sections.{field_of}
use Rattle.hpack_codec.proofs.pieces.read_indexed.Goals as goal

pub returns-in-Ok-push_entry-clause-ok : goal.returns-in-Ok-push_entry-clause-ok
returns-in-Ok-push_entry-clause-ok c = λ greatest most fields h.
    let l = entry_line c.in-Some.entry in (
      fields ++ field_of l false ∷ [],
      (l, record { index = c.in-Ok.found.0; spelled = c.in-Ok.ensures.ok; entry = c.in-Some.ensures }, refl),
      c.in-Ok-push_entry.ensures.ok most fields h,
    )
