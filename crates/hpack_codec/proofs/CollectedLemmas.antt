-- A list of fields that grows.
use Rattle.std.proofs.Common.{◌≡◌, ℕ, ◌+◌, ◌-◌, ◌^◌, ◌∙◌, List, [], ◌∷◌, length, min, refl, ap, arith}
use Rattle.std.proofs.lemmas.List.Sums.{sum_by-cons}
use Rattle.hpack_codec.specs.Collecting.{Holds}
use Rattle.hpack_codec.specs.Sections.{list_size}
use Rattle.hpack_codec.specs.declared.collected.Collected.{Collected}
use Rattle.hpack_codec.specs.declared.fields.Field.{Field}

abbrev pub field_size : Field → ℕ
field_size f = length f.name + length f.value + 32

pub none_where_zero : (most : ℕ) (c : Collected) (fields : List Field) → Holds most c fields → c.size ≡ 0 → fields ≡ []
none_where_zero most c [] h zero = refl
none_where_zero most c (f ∷ fields) h zero = let more = sum_by-cons field_size f fields in let old = h.counted in absurd (omega arith)

pub zero_where_none : (most : ℕ) (c : Collected) (fields : List Field) → Holds most c fields → fields ≡ [] → c.size ≡ 0
zero_where_none most c fields h none = h.counted ∙ ap (λ x. min (list_size x) (2 ^ 64 - 1)) none
