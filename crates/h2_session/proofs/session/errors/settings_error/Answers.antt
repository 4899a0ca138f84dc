use Rattle.h2_frames.specs.View.{view}
use Rattle.h2_session.proofs.Codes.{settings_code}
use Rattle.h2_session.proofs.session.errors.settings_error.Goals as goal
use Rattle.h2_session.specs.Values.{code_of}
use Rattle.std.proofs.Common.{ap, ◌∙◌}

pub returns : goal.returns
returns c = c.code_of.ensures ∙ (ap code_of c.requires ∙ settings_code c.args.client_side (view c.args.frame.now))
