use Rattle.std.proofs.Common.{ap, ◌∙◌}
use Rattle.h2_heads.specs.Heads.{status_of}
use Rattle.h2_heads.proofs.SoundFields.{status_read}
use Rattle.h2_heads.proofs.heads.check_response.Goals as goal

pub returns-clause-status : goal.returns-clause-status
returns-clause-status c =
    let read = status_read c.as_slice-fields.result.now c.named_status.result c.unwrap_or.result c.in_ok-said.ensures.sound c.named_status.ensures c.unwrap_or.ensures in
    read.0 ∙ ap status_of c.as_slice-fields.ensures

pub returns-clause-range : goal.returns-clause-range
returns-clause-range c =
    let read = status_read c.as_slice-fields.result.now c.named_status.result c.unwrap_or.result c.in_ok-said.ensures.sound c.named_status.ensures c.unwrap_or.ensures in
    (read.1, read.2)
