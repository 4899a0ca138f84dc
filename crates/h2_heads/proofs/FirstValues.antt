-- The first value of a name, as fields are added.
use Rattle.std.proofs.Common.{Bool, List, [], ◌∷◌, ℕ, ◌+◌, ◌<◌, ◌≡◌, ◌++◌, ◌∙◌, None, Some, ap, cond, false, get_or, length, refl, sym, take, true}
use Rattle.std.proofs.lemmas.List.{take_more}
use Rattle.std.specs.List.{find}
use Rattle.std.specs.Option.{option_map, option_or}
use Rattle.std.specs.Prelude.{if◌then◌else◌}
use Rattle.hpack_codec.specs.declared.fields.Field.{Field}
use Rattle.h2_heads.specs.Named.{is_named, value_of}

pub value_of-push : (name : List ℕ) (fields : List Field) (field : Field) → value_of name (fields ++ field ∷ []) ≡ option_or (value_of name fields) (if is_named name field then Some field.value else None)
value_of-push name [] field =
    elim (is_named name field) as (λ (b : Bool). option_map (λ (f : Field). f.value) (cond b (Some field) None) ≡ cond b (Some field.value) None)
    [ true ↦ refl | false ↦ refl ]
value_of-push name (f ∷ fs) field =
    elim (is_named name f) as (λ (b : Bool).
    option_map (λ (g : Field). g.value) (cond b (Some f) (find (is_named name) (fs ++ field ∷ [])))
    ≡ option_or (option_map (λ (g : Field). g.value) (cond b (Some f) (find (is_named name) fs))) (cond (is_named name field) (Some field.value) None))
    [ true ↦ refl | false ↦ value_of-push name fs field ]

-- the first fields of a list and the next one
pub more_fields : (fields : List Field) (i : ℕ) (field : Field) → i < length fields → field ≡ get_or fields i field → take (i + 1) fields ≡ take i fields ++ field ∷ []
more_fields fields i field within same =
    take_more fields i field within ∙ sym (ap (λ (f : Field). take i fields ++ f ∷ []) same)

pub value_of_more : (name : List ℕ) (fields : List Field) (i : ℕ) (field : Field) → i < length fields → field ≡ get_or fields i field → value_of name (take (i + 1) fields) ≡ option_or (value_of name (take i fields)) (if is_named name field then Some field.value else None)
value_of_more name fields i field within same =
    ap (value_of name) (more_fields fields i field within same) ∙ value_of-push name (take i fields) field
