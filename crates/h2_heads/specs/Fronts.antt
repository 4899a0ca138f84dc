-- What the fields in front of another say of it.
use Rattle.h2_heads.specs.Malformed.{lowest}
use Rattle.h2_heads.specs.Named.{place_of, value_of}
use Rattle.h2_heads.specs.Passes.{lowest_of_pseudo}
use Rattle.h2_heads.specs.Pseudos.{index_of, name_of}
use Rattle.h2_heads.specs.Rules.{has_regular}
use Rattle.h2_heads.specs.declared.front.Front.{Front}
use Rattle.h2_heads.specs.declared.malformed.Kind.{Kind}
use Rattle.h2_heads.specs.declared.malformed.Message.{Message}
use Rattle.h2_heads.specs.declared.pseudo.Pseudo.{Pseudo}
use Rattle.hpack_codec.specs.declared.fields.Field.{Field}
use Rattle.std.specs.Prelude.{Bool, IfNone, List, None, Option, [], codes, is_some, length, slice_index_or, ℕ, ◌++◌, ◌∷◌, ◌≡◌}

-- at which place the pseudo-field stands
abbrev pub placed : Front → Pseudo → Option ℕ
placed front pseudo = slice_index_or front.places (index_of pseudo) None

-- the front is of these fields
pub record IsFront (front : Front) (fields : List Field) : Type 0 where
  pub room : length front.places ≡ 5
  pub places : (pseudo : Pseudo) → placed front pseudo ≡ place_of (name_of pseudo) fields
  pub regular : front.regular ≡ has_regular fields

-- whether the pseudo-field is among the fields
abbrev pub has : Front → Pseudo → Bool
has front pseudo = is_some (placed front pseudo)

-- whatever fields the front is of, with the next one, at this place, the other front is of them
pub record Takes (front : Front) (place : ℕ) (field : Field) (after : Front) : Type 0 where
  pub each : (before : List Field) → IsFront front before → length before ≡ place → IsFront after (before ++ field ∷ [])

-- whatever fields the front is of, this is the lowest rule that the next one breaks, where first is
-- the value of the first content-length among them
pub record Tells (message : Message) (front : Front) (first : Option (List ℕ)) (field : Field) (found : Option Kind) : Type 0 where
  pub each : (before : List Field) → IsFront front before → first ≡ value_of (codes "content-length") before → lowest message before field ≡ found

-- the lowest rule that the field at this place breaks, or the front with it
abbrev pub Judges : Message → Front → ℕ → Option (List ℕ) → Field → Front → Option Kind → Type 0
Judges message front place first field after found = Tells message front first field found × IfNone found (Takes front place field after)

-- whatever fields the front is of, this is the lowest rule for pseudo-fields that the next one breaks
pub record TellsPseudo (message : Message) (front : Front) (field : Field) (found : Option Kind) : Type 0 where
  pub each : (before : List Field) → IsFront front before → lowest_of_pseudo message before field ≡ found
