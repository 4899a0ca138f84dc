-- The text is refused.
use Rattle.config_tables.specs.Reading.{config_of}
use Rattle.proxy_wire.proofs.Whole.{unfit}
use Rattle.std.proofs.Common.{ap, sym, ◌∙◌}
use Rattle.proxy_wire.proofs.serve.serve_workers.Goals as goal

pub returns-clause-wire : goal.returns-clause-wire
returns-clause-wire g c =
    unfit _ _ _ _ _ _ _ _ c.load_text.result c.in-Ok.text c.in-Err-read_config.fault c.refused.result c.in-Ok.is c.load_text.ensures.reads c.refused.ensures.memory c.refused.ensures.refused (λ o. ap config_of (sym c.as_slice.ensures) ∙ c.in-Err-read_config.ensures.refused o)
    c.end_without-in-Err-read_config.ensures.tells
