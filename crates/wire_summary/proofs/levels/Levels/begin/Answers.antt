-- The exchange has these places, in which there never was an octet.
use Rattle.std.proofs.Common.{refl}
use Rattle.wire_summary.proofs.Beginning.{passed_new}
use Rattle.wire_summary.proofs.levels.Levels.begin.Goals as goal

pub returns : goal.returns
returns c = passed_new c.args.self.now _ c.args.exchange _ _ c.requires c.in_ok-insert.ensures.updates refl refl refl refl
    c.in_ok-new.ensures.limits c.in_ok-new.ensures.levels c.in_ok-new-2.ensures.limits c.in_ok-new-2.ensures.levels
