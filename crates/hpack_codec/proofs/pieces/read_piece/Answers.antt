use Rattle.std.proofs.lemmas.Result.{IfOk-weaker, IfErr-weaker}
use Rattle.hpack_codec.proofs.Blocks.{advances_as, stops_as, update_stops_as}
use Rattle.hpack_codec.proofs.pieces.read_piece.Goals as goal

pub returns-in-Indexed-clause-ok : goal.returns-in-Indexed-clause-ok
returns-in-Indexed-clause-ok c =
    IfOk-weaker c.read_indexed.result _ _ (λ rest all. advances_as _ _ c.args.greatest c.args.table.now c.args.list.now c.args.octets.now c.args.table.now c.read_indexed.new.list rest.now c.in-Indexed.ensures (all c.args.greatest)) c.read_indexed.ensures.ok

pub returns-in-Indexed-clause-err : goal.returns-in-Indexed-clause-err
returns-in-Indexed-clause-err c =
    IfErr-weaker c.read_indexed.result _ _ (λ e stops. stops_as _ _ c.args.greatest c.args.table.now c.args.list.now c.args.octets.now e c.in-Indexed.ensures stops) c.read_indexed.ensures.err

pub returns-in-WithIndexing-clause-ok : goal.returns-in-WithIndexing-clause-ok
returns-in-WithIndexing-clause-ok c =
    IfOk-weaker c.read_inserted.result _ _ (λ rest all. advances_as _ _ c.args.greatest c.args.table.now c.args.list.now c.args.octets.now c.read_inserted.new.table c.read_inserted.new.list rest.now c.in-WithIndexing.ensures (all c.args.greatest)) c.read_inserted.ensures.ok

pub returns-in-WithIndexing-clause-err : goal.returns-in-WithIndexing-clause-err
returns-in-WithIndexing-clause-err c =
    IfErr-weaker c.read_inserted.result _ _ (λ e stops. stops_as _ _ c.args.greatest c.args.table.now c.args.list.now c.args.octets.now e c.in-WithIndexing.ensures stops) c.read_inserted.ensures.err

pub returns-in-NeverIndexed-clause-ok : goal.returns-in-NeverIndexed-clause-ok
returns-in-NeverIndexed-clause-ok c =
    IfOk-weaker c.read_unindexed.result _ _ (λ rest all. advances_as _ _ c.args.greatest c.args.table.now c.args.list.now c.args.octets.now c.args.table.now c.read_unindexed.new.list rest.now c.in-NeverIndexed.ensures (all c.args.greatest)) c.read_unindexed.ensures.ok

pub returns-in-NeverIndexed-clause-err : goal.returns-in-NeverIndexed-clause-err
returns-in-NeverIndexed-clause-err c =
    IfErr-weaker c.read_unindexed.result _ _ (λ e stops. stops_as _ _ c.args.greatest c.args.table.now c.args.list.now c.args.octets.now e c.in-NeverIndexed.ensures stops) c.read_unindexed.ensures.err

pub returns-in-WithoutIndexing-clause-ok : goal.returns-in-WithoutIndexing-clause-ok
returns-in-WithoutIndexing-clause-ok c =
    IfOk-weaker c.read_unindexed-in-WithoutIndexing.result _ _ (λ rest all. advances_as _ _ c.args.greatest c.args.table.now c.args.list.now c.args.octets.now c.args.table.now c.read_unindexed-in-WithoutIndexing.new.list rest.now c.in-WithoutIndexing.ensures (all c.args.greatest)) c.read_unindexed-in-WithoutIndexing.ensures.ok

pub returns-in-WithoutIndexing-clause-err : goal.returns-in-WithoutIndexing-clause-err
returns-in-WithoutIndexing-clause-err c =
    IfErr-weaker c.read_unindexed-in-WithoutIndexing.result _ _ (λ e stops. stops_as _ _ c.args.greatest c.args.table.now c.args.list.now c.args.octets.now e c.in-WithoutIndexing.ensures stops) c.read_unindexed-in-WithoutIndexing.ensures.err

pub returns-in-SizeUpdate-clause-ok : goal.returns-in-SizeUpdate-clause-ok
returns-in-SizeUpdate-clause-ok c =
    IfOk-weaker c.read_update.result _ _ (λ rest all. advances_as _ _ c.args.greatest c.args.table.now c.args.list.now c.args.octets.now c.read_update.new.table c.args.list.now rest.now c.in-SizeUpdate.ensures all) c.read_update.ensures.ok

pub returns-in-SizeUpdate-clause-err : goal.returns-in-SizeUpdate-clause-err
returns-in-SizeUpdate-clause-err c =
    IfErr-weaker c.read_update.result _ _ (λ e stops. update_stops_as _ _ c.args.greatest c.args.table.now c.args.list.now c.args.octets.now e c.in-SizeUpdate.ensures stops) c.read_update.ensures.err
