use Rattle.std.proofs.Common.{◌≡◌, ◌<◌, ℕ, List, arith, length, rules, subst}
use Rattle.std.proofs.lemmas.List.{nil_from_length}
use Rattle.hpack_codec.specs.Collecting.{HasRead}
use Rattle.hpack_codec.specs.Decoding.{decoder_with}
use Rattle.hpack_codec.proofs.Blocks.{has_read_none, has_read_more, breaks_here, finishes, is_within, is_few}
use Rattle.hpack_codec.proofs.decoder.read_block.Goals as goal

pub pieces-init : goal.pieces-init
pieces-init c = has_read_none c.args.greatest c.args.most c.args.table.now c.args.block.now c.new-list.result c.new-list.ensures

pub pieces-preserved : goal.pieces-preserved
pieces-preserved c =
    has_read_more c.args.greatest c.args.most c.args.table.now c.args.block.now c.pieces.table c.read_piece.new.table c.pieces.rest.now c.in-Ok.behind.now c.pieces.list c.read_piece.new.list c.pieces.invariant c.in-Ok.ensures.ok

pub returns-in-Err-clause-answers : goal.returns-in-Err-clause-answers
returns-in-Err-clause-answers c =
    let some : 0 < length c.pieces.rest.now = search rules in
    breaks_here (decoder_with c.args.greatest c.args.most c.args.table.now) c.args.block.now c.pieces.table c.pieces.list c.pieces.rest.now c.in-Err.fault _ c.pieces.invariant some c.in-Err.ensures.err

pub returns-clause-answers : goal.returns-clause-answers
returns-clause-answers c =
    let none : length c.pieces.rest.now ≡ 0 = search rules in
    let P : List ℕ → Type 0 = λ x. HasRead c.args.greatest c.args.most c.args.table.now c.args.block.now c.pieces.table c.pieces.list x in
    finishes (decoder_with c.args.greatest c.args.most c.args.table.now) c.args.block.now c.pieces.table c.pieces.list c.finish.result (subst P (nil_from_length c.pieces.rest.now none) c.pieces.invariant) c.finish.ensures.list

pub returns-clause-within : goal.returns-clause-within
returns-clause-within c =
    is_within (decoder_with c.args.greatest c.args.most c.args.table.now) c.args.block.now c.finish.result c.pieces.table (returns-clause-answers c)

pub returns-clause-few : goal.returns-clause-few
returns-clause-few c = is_few c.args.most c.finish.result (omega arith) (returns-clause-within c)
