-- The lowest rule that a field breaks, where its name, its value and its first octet are known.
use Rattle.std.proofs.Common.{Bool, List, ℕ, ◌≡◌, ◌∙◌, ◌&&◌, ◌||◌, None, Option, Some, ap, cond, false, not, refl, sym, true}
use Rattle.std.specs.Prelude.{codes, if◌then◌else◌, length, ◌==◌}
use Rattle.std.specs.Str.{bytes_eq}
use Rattle.hpack_codec.specs.declared.fields.Field.{Field}
use Rattle.h2_heads.specs.Malformed.{lowest}
use Rattle.h2_heads.specs.Named.{has_field, is_named, value_of}
use Rattle.h2_heads.specs.Numbers.{is_length, is_status}
use Rattle.h2_heads.specs.Passes.{is_special, lowest_of_pseudo, lowest_of_special}
use Rattle.h2_heads.specs.Rules.{connection_fields, differs, has_inner_colon, has_regular, is_bad_length, is_bad_name, is_bad_pseudo, is_bad_value, is_forbidden, is_one_of, is_pseudo, known}
use Rattle.h2_heads.specs.declared.malformed.Kind.{Kind}
use Rattle.h2_heads.specs.declared.malformed.Kind.TheVariants.{BadLength, BadName, BadPseudo, BadValue, Forbidden, InnerColon, LatePseudo, Repeated, UnknownPseudo}
use Rattle.h2_heads.specs.declared.malformed.Message.{Message}
use Rattle.h2_heads.proofs.Passes.{pseudo_unnamed, regular_unnamed}

-- the rules behind those for the name and the value
abbrev behind : Bool → Bool → Bool → Bool → Bool → Bool → Bool → Option Kind
behind pseudo regular unknown repeated forbidden bad length =
    cond (pseudo && regular) (Some LatePseudo) (cond (pseudo && unknown) (Some UnknownPseudo) (cond (pseudo && repeated) (Some Repeated) (cond forbidden (Some Forbidden) (cond bad (Some BadPseudo) (cond length (Some BadLength) None)))))

abbrev behind_of : Message → List Field → Field → Option Kind
behind_of message before field =
    behind (is_pseudo field) (has_regular before) (not (is_one_of (known message) field)) (has_field field.name before) (is_forbidden field) (is_bad_pseudo field) (is_bad_length (value_of (codes "content-length") before) field)

name_first : (bad colon : Bool) (rest : Option Kind) → not (bad || colon) ≡ false → Some (cond bad BadName InnerColon) ≡ cond bad (Some BadName) (cond colon (Some InnerColon) rest)
name_first true colon rest unsound = refl
name_first false true rest unsound = refl
name_first false false rest unsound = cc

-- a name that isn't sound
pub name_faulty : (message : Message) (before : List Field) (field : Field) → not (is_bad_name field.name || has_inner_colon field.name) ≡ false → Some (if is_bad_name field.name then BadName else InnerColon) ≡ lowest message before field
name_faulty message before field unsound =
    name_first (is_bad_name field.name) (has_inner_colon field.name) (cond (is_bad_value field.value) (Some BadValue) (behind_of message before field)) unsound

value_next : (bad colon value : Bool) (rest : Option Kind) → not (bad || colon) ≡ true → cond value (Some BadValue) rest ≡ cond bad (Some BadName) (cond colon (Some InnerColon) (cond value (Some BadValue) rest))
value_next true colon value rest sound = cc
value_next false true value rest sound = cc
value_next false false value rest sound = refl

-- a sound name, and a value that isn't
pub value_faulty : (message : Message) (before : List Field) (field : Field) → not (is_bad_name field.name || has_inner_colon field.name) ≡ true → is_bad_value field.value ≡ true → Some BadValue ≡ lowest message before field
value_faulty message before field sound bad =
    ap (λ value. cond value (Some BadValue) (behind_of message before field)) (sym bad)
    ∙ value_next (is_bad_name field.name) (has_inner_colon field.name) (is_bad_value field.value) (behind_of message before field) sound

-- a sound name and a sound value
text_sound : (message : Message) (before : List Field) (field : Field) → not (is_bad_name field.name || has_inner_colon field.name) ≡ true → is_bad_value field.value ≡ false → behind_of message before field ≡ lowest message before field
text_sound message before field sound good =
    ap (λ value. cond value (Some BadValue) (behind_of message before field)) (sym good)
    ∙ value_next (is_bad_name field.name) (has_inner_colon field.name) (is_bad_value field.value) (behind_of message before field) sound

pseudo_next : (pseudo regular unknown repeated forbidden bad length : Bool) → pseudo ≡ true → forbidden ≡ false → length ≡ false → cond regular (Some LatePseudo) (cond unknown (Some UnknownPseudo) (cond repeated (Some Repeated) (cond bad (Some BadPseudo) None))) ≡ behind pseudo regular unknown repeated forbidden bad length
pseudo_next true regular unknown repeated false bad false p f l = refl
pseudo_next true regular unknown repeated false bad true p f l = cc
pseudo_next true regular unknown repeated true bad length p f l = cc
pseudo_next false regular unknown repeated forbidden bad length p f l = cc

none_of_six : (a b c d e t x : Bool) → a ≡ false → b ≡ false → c ≡ false → d ≡ false → e ≡ false → t ≡ false → ((a || (b || (c || (d || (e || false))))) || (t && x)) ≡ false
none_of_six false false false false false false x a b c d e t = refl
none_of_six false false false false false true x a b c d e t = cc
none_of_six false false false false true t x a b c d e f = cc
none_of_six false false false true e t x a b c d f g = cc
none_of_six false false true d e t x a b c f g h = cc
none_of_six false true c d e t x a b f g h i = cc
none_of_six true b c d e t x a f g h i j = cc

pseudo_not_forbidden : (field : Field) → is_pseudo field ≡ true → is_forbidden field ≡ false
pseudo_not_forbidden field pseudo =
    none_of_six (is_named (codes "connection") field) (is_named (codes "keep-alive") field) (is_named (codes "proxy-connection") field) (is_named (codes "transfer-encoding") field) (is_named (codes "upgrade") field) (is_named (codes "te") field) (not (bytes_eq field.value (codes "trailers")))
    (pseudo_unnamed field.name _ 99 pseudo refl) (pseudo_unnamed field.name _ 107 pseudo refl) (pseudo_unnamed field.name _ 112 pseudo refl) (pseudo_unnamed field.name _ 116 pseudo refl) (pseudo_unnamed field.name _ 117 pseudo refl) (pseudo_unnamed field.name _ 116 pseudo refl)

pseudo_no_length : (first : Option (List ℕ)) (field : Field) → is_pseudo field ≡ true → is_bad_length first field ≡ false
pseudo_no_length first field pseudo =
    ap (λ named. named && (not (is_length field.value) || differs first field.value)) (pseudo_unnamed field.name _ 99 pseudo refl)

-- a pseudo-field with a sound name and a sound value
pub pseudo_field : (message : Message) (before : List Field) (field : Field) → not (is_bad_name field.name || has_inner_colon field.name) ≡ true → is_bad_value field.value ≡ false → is_pseudo field ≡ true → lowest_of_pseudo message before field ≡ lowest message before field
pseudo_field message before field sound good pseudo =
    pseudo_next (is_pseudo field) (has_regular before) (not (is_one_of (known message) field)) (has_field field.name before) (is_forbidden field) (is_bad_pseudo field) (is_bad_length (value_of (codes "content-length") before) field)
    pseudo (pseudo_not_forbidden field pseudo) (pseudo_no_length (value_of (codes "content-length") before) field pseudo)
    ∙ text_sound message before field sound good

regular_next : (pseudo regular unknown repeated forbidden bad length : Bool) → pseudo ≡ false → bad ≡ false → cond forbidden (Some Forbidden) (cond length (Some BadLength) None) ≡ behind pseudo regular unknown repeated forbidden bad length
regular_next false regular unknown repeated forbidden false length p b = refl
regular_next false regular unknown repeated forbidden true length p b = cc
regular_next true regular unknown repeated forbidden bad length p b = cc

neither : (path status empty wrong : Bool) → path ≡ false → status ≡ false → ((path && empty) || (status && wrong)) ≡ false
neither false false empty wrong p s = refl
neither false true empty wrong p s = cc
neither true status empty wrong p s = cc

regular_not_bad : (field : Field) → is_pseudo field ≡ false → is_bad_pseudo field ≡ false
regular_not_bad field regular =
    neither (is_named (codes ":path") field) (is_named (codes ":status") field) (length field.value == 0) (not (is_status field.value))
    (regular_unnamed field.name _ regular) (regular_unnamed field.name _ regular)

-- a regular field with a sound name and a sound value
pub regular_field : (message : Message) (before : List Field) (field : Field) → not (is_bad_name field.name || has_inner_colon field.name) ≡ true → is_bad_value field.value ≡ false → is_pseudo field ≡ false → lowest_of_special (value_of (codes "content-length") before) field ≡ lowest message before field
regular_field message before field sound good regular =
    regular_next (is_pseudo field) (has_regular before) (not (is_one_of (known message) field)) (has_field field.name before) (is_forbidden field) (is_bad_pseudo field) (is_bad_length (value_of (codes "content-length") before) field)
    regular (regular_not_bad field regular)
    ∙ text_sound message before field sound good

forbidden_none : (te length of_connection x : Bool) → (te || (length || of_connection)) ≡ false → (of_connection || (te && x)) ≡ false
forbidden_none true length of_connection x e = cc
forbidden_none false true of_connection x e = cc
forbidden_none false false true x e = cc
forbidden_none false false false x e = refl

length_none : (te length of_connection x : Bool) → (te || (length || of_connection)) ≡ false → (length && x) ≡ false
length_none true length of_connection x e = cc
length_none false true of_connection x e = cc
length_none false false of_connection x e = refl

-- a field whose name has no rule of its own
pub not_special : (first : Option (List ℕ)) (field : Field) → is_special field.name ≡ false → None ≡ lowest_of_special first field
not_special first field none =
    let forbidden = forbidden_none (is_named (codes "te") field) (is_named (codes "content-length") field) (is_one_of connection_fields field) (not (bytes_eq field.value (codes "trailers"))) none in
    let length = length_none (is_named (codes "te") field) (is_named (codes "content-length") field) (is_one_of connection_fields field) (not (is_length field.value) || differs first field.value) none in
    ap (λ no. cond no (Some BadLength) None) (sym length)
    ∙ ap (λ no. cond no (Some Forbidden) (cond (is_bad_length first field) (Some BadLength) None)) (sym forbidden)
