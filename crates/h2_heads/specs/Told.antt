-- What the static table of field compression says of fields.
use Rattle.h2_heads.specs.Passes.{is_special}
use Rattle.h2_heads.specs.Pseudos.{pseudo_of}
use Rattle.h2_heads.specs.Rules.{has_inner_colon, is_bad_name, is_pseudo}
use Rattle.h2_heads.specs.declared.told.Named.{Named}
use Rattle.h2_heads.specs.declared.told.Named.TheVariants.{Plain, Pseudo, Unknown}
use Rattle.hpack_codec.specs.declared.fields.Field.{Field}
use Rattle.std.specs.Prelude.{Some, false, ◌||◌, ◌≡◌}

-- a regular field whose name is sound and has no rule of its own
pub record IsPlain (field : Field) : Type 0 where
  pub regular : is_pseudo field ≡ false
  pub sound : (is_bad_name field.name || has_inner_colon field.name) ≡ false
  pub usual : is_special field.name ≡ false

-- what is known of a field by its name
abbrev pub IsNamed : Named → Field → Type 0
IsNamed (Pseudo pseudo) field = pseudo_of field.name ≡ Some pseudo
IsNamed Plain field = IsPlain field
IsNamed Unknown field = Unit {0}
