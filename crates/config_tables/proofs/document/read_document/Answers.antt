use Rattle.std.proofs.Common.{inl, inr}
use Rattle.std.proofs.lemmas.Bool.{cases_Bool}
use Rattle.std.proofs.lemmas.Str.{IsUtf8-from_is_utf8, is_utf8-from_IsUtf8}
use Rattle.std.specs.Str.{is_utf8}
use Rattle.config_tables.specs.Reading.{config_of}
use Rattle.config_tables.proofs.Faults.{on_ok_always}
use Rattle.config_tables.proofs.document.read_document.Goals as goal

pub returns-in-Err-clause-refused : goal.returns-in-Err-clause-refused
unfolding config_of
returns-in-Err-clause-refused c known =
    elim (cases_Bool (is_utf8 c.args.text.now)) [
      | inl valid ↦ absurd (c.in-Err.ensures.cases.0 (IsUtf8-from_is_utf8 _ valid))
      | inr invalid ↦ rw invalid
    ]

pub returns-in-Ok-clause-utf8 : goal.returns-in-Ok-clause-utf8
returns-in-Ok-clause-utf8 c = on_ok_always c.parse_table.result (is_utf8-from_IsUtf8 c.args.text.now c.in-Ok.ensures.cases.1)
