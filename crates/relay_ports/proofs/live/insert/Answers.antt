use Rattle.relay_ports.proofs.Lists.{insert_last, length_more, most_more, rises_more}
use Rattle.relay_ports.proofs.live.insert.Goals as goal
use Rattle.std.proofs.Common.{◌∙◌}
use Rattle.std.specs.Prelude.{false}

pub returns-clause-ok : goal.returns-clause-ok
returns-clause-ok c = c.in_ok-insert.ensures.entries ∙ insert_last c.args.conn false c.args.taps.now.entries c.requires.above

pub returns-clause-len : goal.returns-clause-len
returns-clause-len c =
    rw (c.in_ok-insert.ensures.entries ∙ insert_last c.args.conn false c.args.taps.now.entries c.requires.above) (length_more c.args.conn false c.args.taps.now.entries)

pub returns-clause-rises : goal.returns-clause-rises
returns-clause-rises c =
    rw (c.in_ok-insert.ensures.entries ∙ insert_last c.args.conn false c.args.taps.now.entries c.requires.above)
    (rises_more c.args.conn false c.args.taps.now.entries c.requires.rises c.requires.above)

pub returns-clause-below : goal.returns-clause-below
returns-clause-below c =
    rw (c.in_ok-insert.ensures.entries ∙ insert_last c.args.conn false c.args.taps.now.entries c.requires.above)
    (most_more c.args.conn false c.args.taps.now.entries c.requires.above)
