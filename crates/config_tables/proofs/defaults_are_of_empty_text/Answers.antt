use Rattle.std.proofs.Common.{◌≡◌, [], true, Some, refl}
use Rattle.std.proofs.lemmas.Str.{is_utf8-from_IsUtf8}
use Rattle.std.specs.Str.{is_utf8}
use Rattle.toml.specs.Data.{no_members}
use Rattle.toml.specs.Parse.{parse_document}
use Rattle.toml.proofs.OnLiterals.{toml_on_literals}
use Rattle.config_tables.specs.Keys.{key_faults, unknown_faults}
use Rattle.config_tables.specs.Reading.{config_of, config_faults, config_made}
use Rattle.proxy_config.specs.Defaults.{config_of_empty}
use Rattle.config_tables.proofs.defaults_are_of_empty_text.Goals as goal

empty_document : parse_document [] ≡ Some no_members
unfolding toml_on_literals
empty_document = refl

no_faults : config_faults no_members ≡ []
unfolding key_faults unknown_faults
no_faults = refl

made : config_made no_members ≡ config_of_empty
made = refl

utf8 : is_utf8 [] ≡ true
utf8 = is_utf8-from_IsUtf8 [] ([], (refl, refl))

pub returns : goal.returns
unfolding config_of
returns c = rw (utf8, empty_document, no_faults, made) refl
