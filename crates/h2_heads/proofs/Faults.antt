-- Faults by their places.
use Rattle.std.proofs.Common.{Bool, List, ℕ, ◌||◌, ◌<◌, ◌≡◌, ◌≤◌, ◌∙◌, None, Option, Some, ⊎_elim, ap, arith, cond, false, get_or, length, refl, suc, sym, take, true, zero}
use Rattle.std.proofs.lemmas.Bool.{cases_lt}
use Rattle.std.proofs.lemmas.List.{take_all}
use Rattle.std.proofs.lemmas.Option.{slice_get_past, slice_get_read}
use Rattle.std.specs.Option.{is_some}
use Rattle.std.specs.Prelude.{if◌then◌else◌}
use Rattle.hpack_codec.specs.declared.fields.Field.{Field}
use Rattle.h2_heads.specs.Kinds.{number_of}
use Rattle.h2_heads.specs.Malformed.{IsFirst, IsSound, fault, fault_at, is_any_below, is_malformed, lacks, lowest}
use Rattle.h2_heads.specs.declared.malformed.Kind.{Kind}
use Rattle.h2_heads.specs.declared.malformed.Malformed.{Malformed}
use Rattle.h2_heads.specs.declared.malformed.Kind.TheVariants.{Missing}
use Rattle.h2_heads.specs.declared.malformed.Message.{Message}

pub fault_at_field : (message : Message) (fields : List Field) (i : ℕ) (field : Field) → i < length fields → field ≡ get_or fields i field → fault_at message fields i ≡ lowest message (take i fields) field
fault_at_field message fields i field within same =
    ap (fault message (take i fields)) (slice_get_read fields (length fields) i field refl within same)

pub fault_at_end : (message : Message) (fields : List Field) (i : ℕ) → length fields ≤ i → fault_at message fields i ≡ (if lacks message fields then Some Missing else None)
fault_at_end message fields i past =
    ap (fault message (take i fields)) (slice_get_past fields i past) ∙ ap (λ (before : List Field). fault message before None) (take_all i fields past)

pub first_fault : (found : ℕ → Option Kind) (place : ℕ) (bad : Malformed) (kind : Kind) → ((k : ℕ) → k < place → found k ≡ None) → found place ≡ Some kind → bad.place ≡ place → bad.kind ≡ number_of kind → IsFirst found bad
first_fault found place bad kind before there at number = record {
  before = λ k h. before k (omega (arith, at));
  there = rw (at, there) number;
}

-- a list whose fields are sound, and that lacks a pseudo-field
pub first_missing : (message : Message) (fields : List Field) (i : ℕ) (bad : Malformed) → ((k : ℕ) → k < i → fault_at message fields k ≡ None) → length fields ≤ i → lacks message fields ≡ true → bad.place ≡ length fields → bad.kind ≡ 8 → IsFirst (fault_at message fields) bad
first_missing message fields i bad before past lacking at number =
    let there = fault_at_end message fields (length fields) (omega arith) in
    let missing = ap (λ (b : Bool). cond b (Some Missing) None) lacking in
    first_fault (fault_at message fields) (length fields) bad Missing (λ k h. before k (omega arith)) (there ∙ missing) at number

-- one that lacks none
pub all_sound : (message : Message) (fields : List Field) (i : ℕ) → ((k : ℕ) → k < i → fault_at message fields k ≡ None) → length fields ≤ i → lacks message fields ≡ false → IsSound (fault_at message fields)
all_sound message fields i before past lacking k =
    ⊎_elim (λ h. before k (omega arith)) (λ h. fault_at_end message fields k h ∙ ap (λ (b : Bool). cond b (Some Missing) None) lacking) (cases_lt k (length fields))

or_true_right : (a b : Bool) → b ≡ true → (a || b) ≡ true
or_true_right true b e = refl
or_true_right false b e = e

is_any_below_at : (test : ℕ → Bool) (n k : ℕ) → k < n → test k ≡ true → is_any_below test n ≡ true
is_any_below_at test zero k h e = absurd (omega arith)
is_any_below_at test (suc n) k h e =
    ⊎_elim (λ below. or_true_right (test n) (is_any_below test n) (is_any_below_at test n k below e)) (λ last. let at : k ≡ n = omega arith in ap (λ (b : Bool). b || is_any_below test n) (ap test (sym at) ∙ e)) (cases_lt k n)

is_any_below_none : (test : ℕ → Bool) (n : ℕ) → ((k : ℕ) → test k ≡ false) → is_any_below test n ≡ false
is_any_below_none test zero h = refl
is_any_below_none test (suc n) h = rw (h n) (is_any_below_none test n h)

pub malformed_at : (message : Message) (fields : List Field) (i : ℕ) (kind : Kind) → i ≤ length fields → fault_at message fields i ≡ Some kind → is_malformed message fields ≡ true
malformed_at message fields i kind within there =
    is_any_below_at (λ place. is_some (fault_at message fields place)) (suc (length fields)) i (omega arith) (ap is_some there)

pub malformed_at_end : (message : Message) (fields : List Field) → lacks message fields ≡ true → is_malformed message fields ≡ true
malformed_at_end message fields lacking =
    malformed_at message fields (length fields) Missing (omega arith) (fault_at_end message fields (length fields) (omega arith) ∙ ap (λ (b : Bool). cond b (Some Missing) None) lacking)

pub not_malformed : (message : Message) (fields : List Field) → IsSound (fault_at message fields) → is_malformed message fields ≡ false
not_malformed message fields sound =
    is_any_below_none (λ place. is_some (fault_at message fields place)) (suc (length fields)) (λ k. ap is_some (sound k))
