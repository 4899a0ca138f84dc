-- What is still to come of a flow, and that a flow that has a unit is there.
use Rattle.exchange_core.specs.Flow.{Flow}
use Rattle.exchange_core.specs.Message.{awaited, head_came}
use Rattle.exchange_core.specs.declared.message.Awaited.{Awaited}
use Rattle.exchange_core.specs.declared.message.Awaited.TheVariants.{Body, Head, Nothing}
use Rattle.std.proofs.Common.{ap, refl, sym, ◌∙◌}
use Rattle.std.specs.Option.{option_and_then, option_map_or}
use Rattle.std.specs.Prelude.{Bool, None, Option, Some, false, if◌then◌else◌, is_some, not, option_map, true, ◌≡◌}
use Rattle.wire_flows.proofs.Cases.{some_mapped}

abbrev by_both : Bool → Bool → Awaited
by_both ended came = if ended then Nothing else (if came then Body else Head)

of_head : (ended came : Bool) → by_both ended came ≡ Head → (not ended ≡ true) × (came ≡ false)
of_head true came e = cc
of_head false true e = cc
of_head false false e = (refl, refl)

of_body : (ended came : Bool) → by_both ended came ≡ Body → (not ended ≡ true) × (came ≡ true)
of_body true came e = cc
of_body false true e = (refl, refl)
of_body false false e = cc

pub head_awaited : (o : Option Flow) → option_map_or (λ f. awaited f.message) o Nothing ≡ Head
    → (option_map_or (λ f. not f.message.ended) o false ≡ true) × (option_map_or (λ f. head_came f.message) o false ≡ false)
head_awaited None e = cc
head_awaited (Some f) e = of_head f.message.ended (head_came f.message) e

pub body_awaited : (o : Option Flow) → option_map_or (λ f. awaited f.message) o Nothing ≡ Body
    → (option_map_or (λ f. not f.message.ended) o false ≡ true) × (option_map_or (λ f. head_came f.message) o false ≡ true)
body_awaited None e = cc
body_awaited (Some f) e = of_body f.message.ended (head_came f.message) e

-- what is answered of a value is answered only where there is one
pub there_of : {X Y : Type 0} (read : X → Y) (o : Option X) (answer : Option Y) → answer ≡ option_map read o → is_some answer ≡ true → is_some o ≡ true
there_of read o answer e some = sym (some_mapped read o) ∙ (ap is_some (sym e) ∙ some)

pub found_in : {X Y : Type 0} (part : X → Option Y) (o : Option X) → is_some (option_and_then part o) ≡ true → is_some o ≡ true
found_in part None some = some
found_in part (Some x) some = refl
