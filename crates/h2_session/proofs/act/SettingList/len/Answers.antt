use Rattle.std.proofs.Common.{ap, sym, length, ◌/◌, ◌∙◌}
use Rattle.h2_session.proofs.Entries.{count_settings}
use Rattle.h2_session.proofs.act.SettingList.len.Goals as goal

pub returns : goal.returns
returns c = ap (λ n. n / 6) c.len.ensures ∙ (sym (count_settings c.self.inside.octets) ∙ ap length c.self.view_is)
