use Rattle.std.proofs.lemmas.Str.{IsUtf8-from_is_utf8}
use Rattle.config_text.proofs.place.fault_place.Goals as goal

pub returns-in-Err : goal.returns-in-Err
returns-in-Err c valid = absurd (c.in-Err.ensures.cases.0 (IsUtf8-from_is_utf8 _ valid))
