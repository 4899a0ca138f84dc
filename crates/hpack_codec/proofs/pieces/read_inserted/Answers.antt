use Rattle.std.proofs.Common.{◌++◌, ◌∷◌, ◌∙◌, [], false, ap, subst}
use Rattle.hpack_codec.specs.Collecting.{Holds}
use Rattle.hpack_codec.specs.Sections.{field_of, reading}
use Rattle.hpack_codec.specs.Table.{added}
use Rattle.hpack_codec.specs.declared.line.Line.{Line}
use Rattle.hpack_codec.proofs.pieces.read_inserted.Goals as goal

pub returns-in-Ok-insert-clause-ok : goal.returns-in-Ok-insert-clause-ok
returns-in-Ok-insert-clause-ok c = λ greatest most fields h.
    let l = c.in-Ok.found.0 in
    let all = fields ++ field_of l false ∷ [] in
    let P : Line → Type 0 = λ x. Holds most c.push_entry.new.self (fields ++ field_of x false ∷ []) in (
      all,
      (l, c.in-Ok.ensures.ok, ap (λ t. reading t all) (c.in-Ok-insert.ensures ∙ ap (λ x. added x c.args.table.now) c.in-Ok-shared.ensures)),
      subst P c.in-Ok-shared.ensures (c.in-Ok-push_entry.ensures.ok most fields h),
    )
