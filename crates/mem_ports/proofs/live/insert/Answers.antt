use Rattle.mem_ports.proofs.Living.{below_behind, insert_behind, length_behind}
use Rattle.mem_ports.proofs.live.insert.Goals as goal
use Rattle.std.proofs.Common.{◌∙◌}

pub returns-clause-ok : goal.returns-clause-ok
returns-clause-ok c = c.in_ok-insert.ensures.keys ∙ insert_behind c.args.live.now.keys c.args.conn c.requires

pub returns-clause-below : goal.returns-clause-below
returns-clause-below c =
    rw (c.in_ok-insert.ensures.keys ∙ insert_behind c.args.live.now.keys c.args.conn c.requires) (below_behind c.args.live.now.keys c.args.conn c.requires)

pub returns-clause-len : goal.returns-clause-len
returns-clause-len c =
    rw (c.in_ok-insert.ensures.keys ∙ insert_behind c.args.live.now.keys c.args.conn c.requires) (length_behind c.args.live.now.keys c.args.conn)
