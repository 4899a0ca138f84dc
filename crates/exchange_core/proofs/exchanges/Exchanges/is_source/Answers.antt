use Rattle.exchange_core.proofs.Untouched.{read_or, source_seen}
use Rattle.exchange_core.proofs.exchanges.Exchanges.is_source.Goals as goal
use Rattle.filter_chain.specs.Release.{is_source_at}
use Rattle.std.proofs.Common.{sym, ◌∙◌}
use Rattle.std.specs.Prelude.{None, Some, false}

pub returns-in-Some : goal.returns-in-Some
returns-in-Some c = c.is_source.ensures ∙ sym (read_or (λ f. is_source_at f.chain c.args.place) (source_seen c.args.place) false (Some c.in-Some.flow.now) _ c.in-Some.ensures)

pub returns-in-None : goal.returns-in-None
returns-in-None c = sym (read_or (λ f. is_source_at f.chain c.args.place) (source_seen c.args.place) false None _ c.in-None.ensures)
