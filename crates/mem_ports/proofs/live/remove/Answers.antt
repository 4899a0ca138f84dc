use Rattle.mem_ports.proofs.Living.{any_at, below_without, removed_keys, unchanged_keys}
use Rattle.mem_ports.proofs.live.remove.Goals as goal
use Rattle.std.proofs.Common.{sym, ◌∙◌}

pub returns-clause-was : goal.returns-clause-was
returns-clause-was c = c.remove.ensures.test ∙ any_at c.args.conn c.args.live.now.keys

pub returns-clause-keys : goal.returns-clause-keys
returns-clause-keys c = removed_keys c.args.conn c.args.live.now.keys _ c.remove.ensures.keys c.remove.ensures.updates.1

pub returns-clause-same : goal.returns-clause-same
returns-clause-same c = λ none.
    removed_keys c.args.conn c.args.live.now.keys _ c.remove.ensures.keys c.remove.ensures.updates.1
    ∙ unchanged_keys c.args.conn c.args.live.now.keys (sym none ∙ (c.remove.ensures.test ∙ any_at c.args.conn c.args.live.now.keys))

pub returns-clause-below : goal.returns-clause-below
returns-clause-below c = λ n below.
    rw (removed_keys c.args.conn c.args.live.now.keys _ c.remove.ensures.keys c.remove.ensures.updates.1) (below_without c.args.live.now.keys n c.args.conn below)
