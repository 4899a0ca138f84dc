use Rattle.std.proofs.Common.{◌++◌, ◌∷◌, [], inl, inr, sym}
use Rattle.hpack_codec.specs.Sections.{field_of}
use Rattle.hpack_codec.proofs.Blocks.{unindexed_reads, unindexed_breaks}
use Rattle.hpack_codec.proofs.pieces.read_unindexed.Goals as goal

pub returns-in-Err-clause-err : goal.returns-in-Err-clause-err
returns-in-Err-clause-err c = elim c.in-Err.ensures.err [
  | inl memory ↦ inl memory
  | inr breaks ↦ inr (λ greatest most fields h. unindexed_breaks c.args.never greatest c.args.table.now fields c.args.octets.now c.in-Err.fault breaks)
]

pub returns-in-Ok-push-clause-ok : goal.returns-in-Ok-push-clause-ok
returns-in-Ok-push-clause-ok c = λ greatest most fields h.
    let l = c.in-Ok.found.0 in (
      fields ++ field_of l c.args.never ∷ [],
      unindexed_reads c.args.never greatest c.args.table.now fields c.args.octets.now c.in-Ok.found.1.now l c.in-Ok.ensures.ok,
      c.in-Ok-push.ensures.ok most fields h,
    )

pub push-requires : goal.push-requires
push-requires c = c.told_name-told.ensures c.args.table.now (field_of c.in-Ok.found.0 c.args.never) (sym c.as_slice.ensures) c.in-Ok.ensures.index
