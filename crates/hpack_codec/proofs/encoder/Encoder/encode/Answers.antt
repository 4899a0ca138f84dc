use Rattle.std.proofs.Common.{◌≤◌, ◌+◌, ◌∙◌, ◌++◌, List, ℕ, cond, length, ap, sym, subst}
use Rattle.hpack_codec.specs.Encoding.{encode_block, HasSpelling}
use Rattle.hpack_codec.specs.Sections.{SpellsBlock, list_size}
use Rattle.hpack_codec.specs.Table.{resized}
use Rattle.hpack_codec.proofs.BlockSizes.{block_size}
use Rattle.hpack_codec.proofs.Readback.{block_reads, each}
use Rattle.hpack_codec.proofs.encoder.Encoder.encode.Goals as goal

pub returns-clause-spelling : goal.returns-clause-spelling
returns-clause-spelling c =
    c.from_vec.ensures ∙ c.in_ok-encode_onto.ensures.spelling ∙ ap (λ x. x ++ encode_block c.args.self.now c.args.fields.now) c.in_ok-out.ensures.items

pub returns-clause-read : goal.returns-clause-read
returns-clause-read c = λ greatest before.
    let fields = c.args.fields.now in
    let P : List ℕ → Type 0 = λ x. SpellsBlock greatest x before fields (cond c.args.self.now (resized 0 before) before) in
    subst P (sym (returns-clause-spelling c)) (block_reads c.args.self.now greatest before fields (each HasSpelling fields c.has_spelling.ensures.always))

pub returns-clause-bound : goal.returns-clause-bound
returns-clause-bound c =
    let P : List ℕ → Type 0 = λ x. length x ≤ list_size c.args.fields.now + 1 in
    subst P (sym (returns-clause-spelling c)) (block_size c.args.self.now c.args.fields.now)
