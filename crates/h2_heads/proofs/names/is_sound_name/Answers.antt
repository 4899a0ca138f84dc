use Rattle.std.proofs.Common.{◌∙◌, ◌&&◌}
use Rattle.h2_heads.proofs.Passes.{sound_name_at}
use Rattle.h2_heads.proofs.names.is_sound_name.Goals as goal

pub returns-in-len1-up : goal.returns-in-len1-up
returns-in-len1-up c =
    (λ k. c.may_begin.ensures k && c.all_plain.ensures k) ∙ sound_name_at c.args.name.now c.in-len1-up.len_at_least
