use Rattle.std.proofs.Common.{sym, ◌∙◌}
use Rattle.h2_heads.proofs.Passes.{sound_regular}
use Rattle.h2_heads.proofs.names.is_sound_regular.Goals as goal

pub returns : goal.returns
returns c =
    c.all_plain.ensures ∙ sound_regular c.args.name.now c.requires (sym c.is_empty.ensures ∙ c.if-is_empty.false)
