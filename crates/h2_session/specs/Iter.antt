-- What is left of the entries of a SETTINGS frame that are gone through.
use Rattle.h2_session.specs.Errors.{settings_of}
use Rattle.h2_session.specs.declared.act.Setting.{Setting}
use Rattle.h2_session.specs.declared.settings.SettingIter.{SettingIter}
use Rattle.std.specs.Prelude.{List}

abbrev pub settings_left : SettingIter → List Setting
settings_left iter = settings_of iter.octets.now
