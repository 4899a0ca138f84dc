-- What is answered as the next unit may be framed as it stands.
use Rattle.std.proofs.Common.{◌≡◌, ◌≤◌, ◌∙◌, ◌&&◌, ◌==◌, ℕ, suc, zero, List, length, Bool, true, false, refl, ap, arith}
use Rattle.std.proofs.lemmas.Bool.{false≢true}
use Rattle.std.proofs.lemmas.Bool.Decides.{nat_tests}
use Rattle.exchange_core.proofs.FlowSound.{held_at}
use Rattle.exchange_core.specs.Flow.{Flow, IsHeadAlone, IsSound, held_by, last_place, octets_in, send}
use Rattle.exchange_core.specs.Message.{head_waits}
use Rattle.exchange_core.specs.Units.{IsFrameable, empty_before, list_may_end}
use Rattle.exchange_core.specs.State.{ungated}
use Rattle.flow_rules.specs.Units.{is_last}
use Rattle.flow_rules.specs.declared.unit.Unit.TheVariants.{Nothing, Head}
use Rattle.hpack_codec.specs.declared.fields.Field.{Field}
use Rattle.std.specs.Prelude.{pos, None, Option, Some, if◌then◌else◌, is_some, not}

-- ---- nothing is left where nothing lies in any place
none_before : (flow : Flow) (p : ℕ) → held_by flow ≡ 0 → empty_before flow p ≡ true
none_before flow zero empty = refl
none_before flow (suc p) empty =
    let most : length (octets_in flow p) ≤ held_by flow = held_at flow p in
    let none : (length (octets_in flow p) == 0) ≡ true = grind (arith, nat_tests) in
    ap (λ b. b && empty_before flow p) none ∙ none_before flow p empty

none_left : (flow : Flow) → held_by flow ≡ 0 → is_last (ungated (pos 0) 0 flow) 0 ≡ true
none_left flow empty =
    let most : length (send flow) ≤ held_by flow = held_at flow (last_place flow) in
    let none : (length (send flow) == 0) ≡ true = grind (arith, nat_tests) in
    ap (λ b. b && (length (send flow) == 0)) (none_before flow (last_place flow) empty) ∙ none

-- ---- a head
no_trailers : (b : Bool) (o : Option (List Field)) → o ≡ None → not (b && is_some o) ≡ true
no_trailers true o e = cc
no_trailers false o e = refl

head_alone : (flow : Flow) → IsHeadAlone flow → list_may_end flow ≡ true
head_alone flow alone =
    cc (none_left flow alone.empty, no_trailers (head_waits flow.message) flow.message.trailers alone.bare)

first_list : (head trailers : Option (List Field)) → is_some head ≡ true → is_some (if is_some head then head else trailers) ≡ true
first_list None trailers e = absurd (false≢true e)
first_list (Some x) trailers e = refl

pub head_frameable : (flow : Flow) → IsSound flow → head_waits flow.message ≡ true → (go : Bool) → IsFrameable (if go then Head flow.message.head_ends else Nothing) flow
head_frameable flow sound waits true = (first_list flow.message.head flow.message.trailers waits, λ last. head_alone flow (sound.alone waits last))
head_frameable flow sound waits false = tt

-- ---- what follows the head
