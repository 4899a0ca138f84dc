use Rattle.std.proofs.Common.{Bool, List, Option, ap, codes, false, if◌then◌else◌, subst, ℕ, ◌∙◌}
use Rattle.std.specs.Option.{option_map_or}
use Rattle.std.specs.Str.{bytes_eq}
use Rattle.hpack_codec.specs.declared.fields.Field.{Field}
use Rattle.h2_heads.specs.Named.{StandsAt}
use Rattle.h2_heads.specs.Malformed.{IsSound, fault_at, message_of_request}
use Rattle.h2_heads.specs.declared.malformed.Message.{Message}
use Rattle.h2_heads.specs.declared.malformed.Message.TheVariants.{Connect, Request}
use Rattle.h2_heads.proofs.Found.{stands_there, within_short}
use Rattle.h2_heads.proofs.SoundFields.{has_path_place}
use Rattle.h2_heads.proofs.heads.check_request.Goals as goal

pub returns-clause-sound : goal.returns-clause-sound
returns-clause-sound c =
    let connect = c.is_some-connect.ensures ∙ ap (λ (o : Option (List ℕ)). option_map_or (λ (value : List ℕ). bytes_eq value (codes "CONNECT")) o false) c.first_method-method.ensures in
    let message = c.message_of_request.ensures ∙ ap (λ (b : Bool). if b then Connect else Request) connect in
    let sound = subst (λ (m : Message). IsSound (fault_at m c.as_slice-fields.result.now)) message c.in_ok-said.ensures.sound in
    subst (λ (fields : List Field). IsSound (fault_at (message_of_request fields) fields)) c.as_slice-fields.ensures sound

pub short-requires : goal.short-requires
short-requires c =
    within_short (codes ":authority") c.as_slice-fields.result.now _ c.in_ok-said.ensures.authority (rw c.as_slice-fields.ensures c.requires)

pub short-requires-2 : goal.short-requires-2
short-requires-2 c =
    within_short (codes ":path") c.as_slice-fields.result.now _ c.in_ok-said.ensures.path (rw c.as_slice-fields.ensures c.requires)

pub returns-clause-path_needed : goal.returns-clause-path_needed
returns-clause-path_needed c =
    has_path_place c.as_slice-fields.result.now c.is_some-connect.result c.message_of_request.result c.short-2.result c.message_of_request.ensures c.in_ok-said.ensures.sound (stands_there (codes ":path") c.as_slice-fields.result.now c.short-2.result (c.short-2.ensures ∙ c.in_ok-said.ensures.path))

pub returns-clause-authority : goal.returns-clause-authority
returns-clause-authority c =
    subst (λ (fields : List Field). StandsAt (codes ":authority") fields c.short.result) c.as_slice-fields.ensures
    (stands_there (codes ":authority") c.as_slice-fields.result.now c.short.result (c.short.ensures ∙ c.in_ok-said.ensures.authority))

pub returns-clause-path : goal.returns-clause-path
returns-clause-path c =
    subst (λ (fields : List Field). StandsAt (codes ":path") fields c.short-2.result) c.as_slice-fields.ensures
    (stands_there (codes ":path") c.as_slice-fields.result.now c.short-2.result (c.short-2.ensures ∙ c.in_ok-said.ensures.path))
