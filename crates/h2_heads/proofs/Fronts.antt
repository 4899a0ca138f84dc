-- The front of a list, as fields are added.
use Rattle.std.proofs.Common.{Bool, List, [], ◌∷◌, ℕ, ◌<◌, ◌≡◌, ◌≤◌, ◌++◌, ◌∙◌, ◌||◌, None, Option, Some, ⊎_elim, ap, arith, cond, false, get_or, length, not, refl, subst, sym, take, true}
use Rattle.std.proofs.Math.ListN.{set}
use Rattle.std.proofs.Math.Bool.{or-false, or-true}
use Rattle.std.proofs.lemmas.Bool.{cases_eq}
use Rattle.std.proofs.lemmas.Bool.Decides.{nat_tests}
use Rattle.std.proofs.lemmas.Grind.{get_or-set_at}
use Rattle.std.proofs.lemmas.List.{get_or-set_other, length-set, take_all}
use Rattle.std.proofs.lemmas.List.Folds.{list_any-append}
use Rattle.std.specs.List.{list_any, starts_with}
use Rattle.std.specs.Option.{is_some, option_or}
use Rattle.std.specs.Prelude.{codes, nat_eq, ◌==◌}
use Rattle.std.specs.Str.{bytes_eq}
use Rattle.hpack_codec.specs.declared.fields.Field.{Field}
use Rattle.h2_heads.specs.Fronts.{has, placed, IsFront, Takes, Tells, TellsPseudo}
use Rattle.h2_heads.specs.Malformed.{lacks}
use Rattle.h2_heads.specs.Named.{has_field, is_named, place_of}
use Rattle.h2_heads.specs.Passes.{lowest_of_pseudo}
use Rattle.h2_heads.specs.Pseudos.{field_of, index_of, name_of, needed_by}
use Rattle.h2_heads.specs.Rules.{has_inner_colon, has_regular, is_bad_name, is_bad_pseudo, is_bad_value, is_one_of, is_pseudo, known}
use Rattle.h2_heads.specs.declared.front.Front.{Front}
use Rattle.h2_heads.specs.declared.malformed.Kind.{Kind}
use Rattle.h2_heads.specs.declared.malformed.Kind.TheVariants.{BadPseudo, LatePseudo, Repeated, UnknownPseudo}
use Rattle.h2_heads.specs.declared.malformed.Message.{Message}
use Rattle.h2_heads.specs.declared.malformed.Message.TheVariants.{Connect, Request, Response, Trailers}
use Rattle.h2_heads.specs.declared.pseudo.Pseudo.{Pseudo}
use Rattle.h2_heads.specs.declared.pseudo.Pseudo.TheVariants.{Authority, Method, Path, Scheme, Status}
use Rattle.h2_heads.proofs.Found.{is_some_place, place_of-push}
use Rattle.h2_heads.proofs.Lowest.{pseudo_field}
use Rattle.h2_heads.proofs.Passes.{regular_unnamed}
use Rattle.h2_heads.proofs.Pseudos.{colon_first, colon_text, sound_pseudo}

has_regular-push : (fields : List Field) (field : Field) → has_regular (fields ++ field ∷ []) ≡ (has_regular fields || not (is_pseudo field))
has_regular-push fields field =
    list_any-append (λ (f : Field). not (is_pseudo f)) fields (field ∷ [])
    ∙ ap (λ b. has_regular fields || b) (or-false (not (is_pseudo field)))

or_none : (o : Option ℕ) → option_or o None ≡ o
or_none (Some k) = refl
or_none None = refl

not_named : (pseudo : Pseudo) (field : Field) → is_pseudo field ≡ false → is_named (name_of pseudo) field ≡ false
not_named Method field regular = regular_unnamed field.name _ regular
not_named Scheme field regular = regular_unnamed field.name _ regular
not_named Authority field regular = regular_unnamed field.name _ regular
not_named Path field regular = regular_unnamed field.name _ regular
not_named Status field regular = regular_unnamed field.name _ regular

-- no pseudo-field stands where a regular field is one more
same_place : (pseudo : Pseudo) (before : List Field) (field : Field) → is_pseudo field ≡ false → place_of (name_of pseudo) (before ++ field ∷ []) ≡ place_of (name_of pseudo) before
same_place pseudo before field regular =
    place_of-push (name_of pseudo) before field
    ∙ ap (λ named. option_or (place_of (name_of pseudo) before) (cond named (Some (length before)) None)) (not_named pseudo field regular)
    ∙ or_none (place_of (name_of pseudo) before)

-- a regular field more
pub takes_regular : (front after : Front) (place : ℕ) (field : Field) → is_pseudo field ≡ false → after.places ≡ front.places → after.regular ≡ true → Takes front place field after
takes_regular front after place field regular same marked = record {
  each = λ before is at. record {
    room = ap length same ∙ is.room;
    places = λ pseudo. ap (λ (ps : List (Option ℕ)). get_or ps (index_of pseudo) None) same ∙ is.places pseudo ∙ sym (same_place pseudo before field regular);
    regular = marked ∙ sym (has_regular-push before field ∙ ap (λ b. has_regular before || not b) regular ∙ or-true (has_regular before));
  };
}

-- two pseudo-fields have one name where they have one place in the row
apart : (a b : Pseudo) → bytes_eq (name_of a) (name_of b) ≡ (index_of a == index_of b)
apart Method Method = refl
apart Method Scheme = refl
apart Method Authority = refl
apart Method Path = refl
apart Method Status = refl
apart Scheme Method = refl
apart Scheme Scheme = refl
apart Scheme Authority = refl
apart Scheme Path = refl
apart Scheme Status = refl
apart Authority Method = refl
apart Authority Scheme = refl
apart Authority Authority = refl
apart Authority Path = refl
apart Authority Status = refl
apart Path Method = refl
apart Path Scheme = refl
apart Path Authority = refl
apart Path Path = refl
apart Path Status = refl
apart Status Method = refl
apart Status Scheme = refl
apart Status Authority = refl
apart Status Path = refl
apart Status Status = refl

small_index : (pseudo : Pseudo) → index_of pseudo < 5
small_index Method = omega arith
small_index Scheme = omega arith
small_index Authority = omega arith
small_index Path = omega arith
small_index Status = omega arith

none_held : (o : Option ℕ) → is_some o ≡ false → o ≡ None
none_held (Some k) e = cc
none_held None e = refl

-- a row of places with one more, which had none
placed_one : (places : List (Option ℕ)) (i j place : ℕ) (old : Option ℕ) → i < length places → get_or places i None ≡ None → get_or places j None ≡ old → get_or (set places i (Some place)) j None ≡ option_or old (cond (i == j) (Some place) None)
placed_one places i j place old within none at =
    ⊎_elim (λ same.
    let named : (i == j) ≡ true = grind (arith, nat_tests) in
    let empty : old ≡ None = sym at ∙ ap (λ k. get_or places k None) (sym same) ∙ none in
    get_or-set_at places i j (Some place) None (sym same) within
    ∙ sym (ap (λ (o : Option ℕ). option_or o (cond (i == j) (Some place) None)) empty ∙ ap (λ b. cond b (Some place) None) named)
    ) (λ other.
    let named : (i == j) ≡ false = grind (arith, nat_tests) in
    get_or-set_other places i j (Some place) None (λ same. other (sym same))
    ∙ at
    ∙ sym (ap (λ b. option_or old (cond b (Some place) None)) named ∙ or_none old)
    ) (cases_eq i j)

-- a pseudo-field more, the first of its name
pub takes_pseudo : (front after : Front) (place : ℕ) (field : Field) (pseudo : Pseudo) → field.name ≡ name_of pseudo → has front pseudo ≡ false → after.places ≡ set front.places (index_of pseudo) (Some place) → after.regular ≡ front.regular → Takes front place field after
takes_pseudo front after place field pseudo name fresh set_at kept = record {
  each = λ before is at.
      let within : index_of pseudo < length front.places = omega (arith, small_index pseudo, is.room) in
      let none = none_held (placed front pseudo) fresh in
      let colon = ap (λ text. starts_with nat_eq text (codes ":")) name ∙ colon_text pseudo in record {
        room = ap length set_at ∙ length-set front.places (index_of pseudo) (Some place) ∙ is.room;
        places = λ other.
            let named : is_named (name_of other) field ≡ (index_of pseudo == index_of other) = ap (λ text. bytes_eq text (name_of other)) name ∙ apart pseudo other in
            ap (λ (ps : List (Option ℕ)). get_or ps (index_of other) None) set_at
            ∙ placed_one front.places (index_of pseudo) (index_of other) place (place_of (name_of other) before) within none (is.places other)
            ∙ ap (λ b. option_or (place_of (name_of other) before) (cond b (Some place) None)) (sym named)
            ∙ ap (λ n. option_or (place_of (name_of other) before) (cond (is_named (name_of other) field) (Some n) None)) (sym at)
            ∙ sym (place_of-push (name_of other) before field);
        regular =
            kept ∙ is.regular
            ∙ sym (has_regular-push before field ∙ ap (λ b. has_regular before || not b) colon ∙ or-false (has_regular before));
      };
}

-- where a front has a place for a pseudo-field, that is among the fields
pub has_is : (front : Front) (fields : List Field) (pseudo : Pseudo) → IsFront front fields → has front pseudo ≡ has_field (name_of pseudo) fields
has_is front fields pseudo is = ap is_some (is.places pseudo) ∙ is_some_place (name_of pseudo) fields

pub lacks_is : (message : Message) (front : Front) (fields : List Field) → IsFront front fields → list_any (λ (pseudo : Pseudo). not (has front pseudo)) (needed_by message) ≡ lacks message fields
lacks_is Request front fields is =
    λ k. not (has_is front fields Method is k) || (not (has_is front fields Scheme is k) || (not (has_is front fields Path is k) || false))
lacks_is Connect front fields is =
    λ k. not (has_is front fields Method is k) || (not (has_is front fields Authority is k) || false)
lacks_is Response front fields is = λ k. not (has_is front fields Status is k) || false
lacks_is Trailers front fields is = refl

-- the front of the first fields of a list that has no more
pub whole_front : (front : Front) (fields : List Field) (i : ℕ) → IsFront front (take i fields) → length fields ≤ i → IsFront front fields
whole_front front fields i is past = subst (λ (list : List Field). IsFront front list) (take_all i fields past) is

pub same_front : (front : Front) (fields more : List Field) → more ≡ fields → IsFront front fields → IsFront front more
same_front front fields more same is = subst (λ (list : List Field). IsFront front list) (sym same) is

-- fields of one name and one value break the same rules for pseudo-fields
alike : (message : Message) (before : List Field) (f g : Field) → f.name ≡ g.name → f.value ≡ g.value → lowest_of_pseudo message before f ≡ lowest_of_pseudo message before g
alike message before f g name value = λ k. lowest_of_pseudo message before (record { name = name k; value = value k; never = false })

-- the lowest rule that a pseudo-field breaks whose name and value are sound
pub tells_behind : (message : Message) (front : Front) (first : Option (List ℕ)) (field : Field) (found : Option Kind) → not (is_bad_name field.name || has_inner_colon field.name) ≡ true → is_bad_value field.value ≡ false → is_pseudo field ≡ true → TellsPseudo message front field found → Tells message front first field found
tells_behind message front first field found sound good pseudo told = record {
  each = λ before is at. sym (pseudo_field message before field sound good pseudo) ∙ told.each before is;
}

-- the same of one that some message knows
pub tells_known : (message : Message) (front : Front) (first : Option (List ℕ)) (pseudo : Pseudo) (field : Field) (value : List ℕ) (found : Option Kind) → field.name ≡ name_of pseudo → field.value ≡ value → is_bad_value field.value ≡ false → TellsPseudo message front (field_of pseudo value) found → Tells message front first field found
tells_known message front first pseudo field value found name same good told =
    tells_behind message front first field found (sound_pseudo field.name pseudo name) good (colon_first field.name pseudo name) (record {
      each = λ before is. alike message before field (field_of pseudo value) name same ∙ told.each before is;
    })

-- the rules for pseudo-fields, by what a front tells of the fields before
first_late : (regular unknown repeated bad : Bool) → regular ≡ true → cond regular (Some LatePseudo) (cond unknown (Some UnknownPseudo) (cond repeated (Some Repeated) (cond bad (Some BadPseudo) None))) ≡ Some LatePseudo
first_late true unknown repeated bad r = refl
first_late false unknown repeated bad r = cc

first_unknown : (regular unknown repeated bad : Bool) → regular ≡ false → unknown ≡ true → cond regular (Some LatePseudo) (cond unknown (Some UnknownPseudo) (cond repeated (Some Repeated) (cond bad (Some BadPseudo) None))) ≡ Some UnknownPseudo
first_unknown false true repeated bad r u = refl
first_unknown false false repeated bad r u = cc
first_unknown true unknown repeated bad r u = cc

first_repeated : (regular unknown repeated bad : Bool) → regular ≡ false → unknown ≡ false → repeated ≡ true → cond regular (Some LatePseudo) (cond unknown (Some UnknownPseudo) (cond repeated (Some Repeated) (cond bad (Some BadPseudo) None))) ≡ Some Repeated
first_repeated false false true bad r u p = refl
first_repeated false false false bad r u p = cc
first_repeated false true repeated bad r u p = cc
first_repeated true unknown repeated bad r u p = cc

first_bad : (regular unknown repeated bad : Bool) → regular ≡ false → unknown ≡ false → repeated ≡ false → cond regular (Some LatePseudo) (cond unknown (Some UnknownPseudo) (cond repeated (Some Repeated) (cond bad (Some BadPseudo) None))) ≡ cond bad (Some BadPseudo) None
first_bad false false false bad r u p = refl
first_bad false false true bad r u p = cc
first_bad false true repeated bad r u p = cc
first_bad true unknown repeated bad r u p = cc

pub late_told : (message : Message) (front : Front) (field : Field) → front.regular ≡ true → TellsPseudo message front field (Some LatePseudo)
late_told message front field late = record {
  each = λ before is. first_late (has_regular before) (not (is_one_of (known message) field)) (has_field field.name before) (is_bad_pseudo field) (sym is.regular ∙ late);
}

pub unknown_told : (message : Message) (front : Front) (field : Field) → front.regular ≡ false → is_one_of (known message) field ≡ false → TellsPseudo message front field (Some UnknownPseudo)
unknown_told message front field early unknown = record {
  each = λ before is. first_unknown (has_regular before) (not (is_one_of (known message) field)) (has_field field.name before) (is_bad_pseudo field) (sym is.regular ∙ early) (ap not unknown);
}

pub repeated_told : (message : Message) (front : Front) (pseudo : Pseudo) (value : List ℕ) → front.regular ≡ false → is_one_of (known message) (field_of pseudo value) ≡ true → has front pseudo ≡ true → TellsPseudo message front (field_of pseudo value) (Some Repeated)
repeated_told message front pseudo value early knows held = record {
  each = λ before is. first_repeated (has_regular before) (not (is_one_of (known message) (field_of pseudo value))) (has_field (name_of pseudo) before) (is_bad_pseudo (field_of pseudo value)) (sym is.regular ∙ early) (ap not knows) (sym (has_is front before pseudo is) ∙ held);
}

pub value_told : (message : Message) (front : Front) (pseudo : Pseudo) (value : List ℕ) (bad : Bool) → front.regular ≡ false → is_one_of (known message) (field_of pseudo value) ≡ true → has front pseudo ≡ false → is_bad_pseudo (field_of pseudo value) ≡ bad → TellsPseudo message front (field_of pseudo value) (cond bad (Some BadPseudo) None)
value_told message front pseudo value bad early knows fresh at = record {
  each = λ before is.
      first_bad (has_regular before) (not (is_one_of (known message) (field_of pseudo value))) (has_field (name_of pseudo) before) (is_bad_pseudo (field_of pseudo value)) (sym is.regular ∙ early) (ap not knows) (sym (has_is front before pseudo is) ∙ fresh)
      ∙ ap (λ b. cond b (Some BadPseudo) None) at;
}
