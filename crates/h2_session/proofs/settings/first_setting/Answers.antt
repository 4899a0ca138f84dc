use Rattle.h2_session.proofs.Entries.{first_of_settings}
use Rattle.h2_session.proofs.settings.first_setting.Goals as goal

pub returns-clause-settings : goal.returns-clause-settings
returns-clause-settings c =
    first_of_settings c.args.entries.now c.split_at.result.0.now c.split_at.result.1.now c.from_be_bytes.result c.from_be_bytes-2.result c.requires c.split_at.ensures.front c.split_at.ensures.back c.from_be_bytes.ensures c.from_be_bytes-2.ensures
