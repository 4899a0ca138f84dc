-- The first content-length of a list, as fields are added.
use Rattle.std.proofs.Common.{Bool, List, ℕ, ◌<◌, ◌≡◌, ◌≤◌, ◌∙◌, ◌&&◌, ◌||◌, None, Option, Some, ⊎_elim, ap, arith, cond, false, get_or, length, not, refl, rules, sym, take, true}
use Rattle.std.proofs.lemmas.Bool.{cases_lt}
use Rattle.std.proofs.lemmas.Option.{slice_get_past, slice_get_read}
use Rattle.std.specs.Option.{IfSome, option_or}
use Rattle.std.specs.Prelude.{codes, if◌then◌else◌}
use Rattle.hpack_codec.specs.declared.fields.Field.{Field}
use Rattle.h2_heads.specs.Malformed.{IsSound, kinds, length_fault, length_fault_at, lowest}
use Rattle.h2_heads.specs.Named.{is_named, value_of}
use Rattle.h2_heads.specs.Numbers.{is_length}
use Rattle.h2_heads.specs.Rules.{breaks, is_bad_length}
use Rattle.h2_heads.specs.declared.malformed.Kind.{Kind}
use Rattle.h2_heads.specs.declared.malformed.Kind.TheVariants.{BadLength}
use Rattle.h2_heads.specs.declared.malformed.Message.{Message}
use Rattle.h2_heads.proofs.Found.{find_none}

-- a field that breaks no rule breaks that for content-length neither
pub good_length : (message : Message) (before : List Field) (field : Field) (first : Option (List ℕ)) → lowest message before field ≡ None → first ≡ value_of (codes "content-length") before → is_bad_length first field ≡ false
good_length message before field first none at =
    ap (λ (o : Option (List ℕ)). is_bad_length o field) at
    ∙ find_none (λ (kind : Kind). breaks message kind before field) kinds 8 BadLength none (omega arith)

pub length_fault_at_field : (fields : List Field) (i : ℕ) (field : Field) → i < length fields → field ≡ get_or fields i field → length_fault_at fields i ≡ length_fault (take i fields) (Some field)
length_fault_at_field fields i field within same =
    ap (length_fault (take i fields)) (slice_get_read fields (length fields) i field refl within same)

-- a field that breaks nothing
pub no_length_fault : (fields : List Field) (i : ℕ) (field : Field) (first : Option (List ℕ)) → i < length fields → field ≡ get_or fields i field → first ≡ value_of (codes "content-length") (take i fields) → is_bad_length first field ≡ false → length_fault_at fields i ≡ None
no_length_fault fields i field first within same at good =
    length_fault_at_field fields i field within same
    ∙ ap (λ (b : Bool). cond b (Some BadLength) None) (ap (λ (o : Option (List ℕ)). is_bad_length o field) (sym at) ∙ good)

pub all_lengths_sound : (fields : List Field) (i : ℕ) → ((k : ℕ) → k < i → length_fault_at fields k ≡ None) → length fields ≤ i → IsSound (length_fault_at fields)
all_lengths_sound fields i before past k =
    ⊎_elim (λ h. before k (omega arith)) (λ h. ap (length_fault (take k fields)) (slice_get_past fields k h)) (cases_lt k (length fields))

first_kept : (value : List ℕ) (named good : Bool) → is_length value ≡ good → (named && (not good || false)) ≡ false → IfSome (cond named (Some value) None) (λ v. is_length v ≡ true)
first_kept value true true is e = is
first_kept value true false is e = cc
first_kept value false good is e = search rules

-- the first content-length of a sound front is a length
pub first_good : (first : Option (List ℕ)) (field : Field) → is_bad_length first field ≡ false → IfSome first (λ v. is_length v ≡ true) → IfSome (option_or first (if is_named (codes "content-length") field then Some field.value else None)) (λ v. is_length v ≡ true)
first_good (Some v) field e good = good
first_good None field e good = first_kept field.value (is_named (codes "content-length") field) (is_length field.value) refl e
