-- What a sound list says of the fields that a message must have.
use Rattle.std.proofs.Common.{Bool, List, [], ◌∷◌, ℕ, ◌≡◌, ◌≤◌, ◌∙◌, ◌&&◌, ◌||◌, IsTrue, None, Option, Some, ap, arith, cond, false, length, not, refl, subst, sym, rules, take, true}
use Rattle.std.proofs.lemmas.Bool.Decides.{nat_tests}
use Rattle.std.proofs.lemmas.List.Folds.{find_at}
use Rattle.std.specs.Bool.{OnFalse}
use Rattle.std.specs.List.{find, position_or_len, slice_get}
use Rattle.std.specs.Option.{IfSome, IsSome, SomeIff, is_some, option_map, option_map_or, unwrap_or}
use Rattle.std.specs.Prelude.{codes, if◌then◌else◌, ◌==◌}
use Rattle.hpack_codec.specs.declared.fields.Field.{Field}
use Rattle.h2_heads.specs.Heads.{status_of}
use Rattle.h2_heads.specs.Malformed.{IsSound, fault, fault_at, kinds, lacks, lowest}
use Rattle.h2_heads.specs.Named.{StandsAt, has_field, is_named, value_of}
use Rattle.h2_heads.specs.Numbers.{decimal, is_status}
use Rattle.h2_heads.specs.Rules.{breaks, is_bad_pseudo}
use Rattle.h2_heads.specs.declared.malformed.Kind.{Kind}
use Rattle.h2_heads.specs.declared.malformed.Kind.TheVariants.{BadName, Missing}
use Rattle.h2_heads.specs.declared.malformed.Message.{Message}
use Rattle.h2_heads.specs.declared.malformed.Message.TheVariants.{Connect, Request, Response}
use Rattle.h2_heads.proofs.Faults.{fault_at_end}
use Rattle.h2_heads.proofs.Found.{find_none, find_passes}

lacks_none : (b : Bool) → cond b (Some Missing) None ≡ None → b ≡ false
lacks_none true e = cc
lacks_none false e = refl

-- a sound list lacks nothing
not_lacking : (message : Message) (fields : List Field) → IsSound (fault_at message fields) → lacks message fields ≡ false
not_lacking message fields sound =
    lacks_none (lacks message fields) (sym (fault_at_end message fields (length fields) (omega arith)) ∙ sound (length fields))

third_held : (a b c : Bool) → (not a || (not b || (not c || false))) ≡ false → c ≡ true
third_held true true true e = refl
third_held true true false e = cc
third_held true false c e = cc
third_held false b c e = cc

pub has_path : (fields : List Field) → IsSound (fault_at Request fields) → has_field (codes ":path") fields ≡ true
has_path fields sound =
    third_held (has_field (codes ":method") fields) (has_field (codes ":scheme") fields) (has_field (codes ":path") fields) (not_lacking Request fields sound)

-- a field that is there has a place
pub has_place : (name : List ℕ) (fields : List Field) (place : Option ℕ) → has_field name fields ≡ true → StandsAt name fields place → IsSome place
has_place name fields (Some k) has stands = refl
has_place name fields None has stands = cc

-- a sound request that isn't CONNECT has a path
pub has_path_place : (fields : List Field) (connect : Bool) (message : Message) (place : Option ℕ) → message ≡ (if connect then Connect else Request) → IsSound (fault_at message fields) → StandsAt (codes ":path") fields place → OnFalse connect (IsSome place)
has_path_place fields true message place known sound stands = search rules
has_path_place fields false message place known sound stands =
    let of_request = subst (λ (m : Message). IsSound (fault_at m fields)) known sound in
    has_place (codes ":path") fields place (has_path fields of_request) stands

only_held : (a : Bool) → (not a || false) ≡ false → a ≡ true
only_held true e = refl
only_held false e = cc

-- no field of a sound list breaks a rule for pseudo-fields
good_pseudo : (message : Message) (fields : List Field) (k : ℕ) (field : Field) → IsSound (fault_at message fields) → slice_get fields k ≡ Some field → is_bad_pseudo field ≡ false
good_pseudo message fields k field sound at =
    let none : lowest message (take k fields) field ≡ None = ap (fault message (take k fields)) (sym at) ∙ sound k in
    find_none (λ (kind : Kind). breaks message kind (take k fields) field) kinds 7 BadName none (omega arith)

good_status : (path named status : Bool) → (path || (named && not status)) ≡ false → named ≡ true → status ≡ true
good_status path named true e h = refl
good_status true named false e h = cc
good_status false true false e h = cc
good_status false false false e h = cc

-- the status of a sound response has its form
status_named : (fields : List Field) (o : Option Field) → find (is_named (codes ":status")) fields ≡ o → is_some o ≡ true → IsSound (fault_at Response fields) → (v : List ℕ) × (value_of (codes ":status") fields ≡ Some v) × (is_status v ≡ true)
status_named fields None found some sound = cc
status_named fields (Some f) found some sound =
    let named = find_passes (is_named (codes ":status")) fields f found in
    let k = position_or_len (is_named (codes ":status")) fields in
    let good = good_pseudo Response fields k f sound (sym (find_at (is_named (codes ":status")) fields) ∙ found) in
    (f.value, ap (option_map (λ (g : Field). g.value)) found, good_status (is_named (codes ":path") f && (length f.value == 0)) (is_named (codes ":status") f) (is_status f.value) good named)

some_found : (o : Option Field) → is_some (option_map (λ (f : Field). f.value) o) ≡ true → is_some o ≡ true
some_found (Some f) e = refl
some_found None e = e

pub status_sound : (fields : List Field) → IsSound (fault_at Response fields) → (v : List ℕ) × (value_of (codes ":status") fields ≡ Some v) × (is_status v ≡ true)
status_sound fields sound =
    let has = only_held (has_field (codes ":status") fields) (not_lacking Response fields sound) in
    status_named fields (find (is_named (codes ":status")) fields) refl (some_found (find (is_named (codes ":status")) fields) has) sound

status_small : (value : List ℕ) → is_status value ≡ true → (100 ≤ decimal value) × (decimal value ≤ 999)
status_small (a ∷ b ∷ c ∷ []) e = (grind (arith, nat_tests), grind (arith, nat_tests))
status_small [] e = cc
status_small (a ∷ []) e = cc
status_small (a ∷ b ∷ []) e = cc
status_small (a ∷ b ∷ c ∷ d ∷ rest) e = absurd (grind (arith, nat_tests))

read_status : (value : List ℕ) (read : Option ℕ) (n : ℕ) → is_status value ≡ true → SomeIff read (IsTrue (is_status value)) (decimal value) → n ≡ unwrap_or read 0 → n ≡ decimal value
read_status value (Some m) n good reads at = at ∙ reads.1
read_status value None n good reads at = absurd (reads good)

-- the status that a sound response names
pub status_read : (fields : List Field) (read : Option ℕ) (n : ℕ) → IsSound (fault_at Response fields) → IfSome (value_of (codes ":status") fields) (λ value. SomeIff read (IsTrue (is_status value)) (decimal value)) → n ≡ unwrap_or read 0 → (n ≡ status_of fields) × (100 ≤ n) × (n ≤ 999)
status_read fields read n sound reads at =
    let status = status_sound fields sound in
    let named = subst (λ (o : Option (List ℕ)). IfSome o (λ value. SomeIff read (IsTrue (is_status value)) (decimal value))) status.1 reads in
    let same = read_status status.0 read n status.2 named at in
    let small = status_small status.0 status.2 in
    (same ∙ sym (ap (λ (o : Option (List ℕ)). option_map_or decimal o 0) status.1), omega (arith, small), omega (arith, small))
