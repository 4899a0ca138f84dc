-- What each change of a flow makes of its way.
use Rattle.exchange_core.specs.Effects.{arrived, finished, headed, list_framed, received}
use Rattle.exchange_core.specs.Flow.{Flow}
use Rattle.exchange_core.specs.Message.{fields_of, head_waits, trailers_wait}
use Rattle.exchange_core.specs.declared.message.Message.{Message}
use Rattle.filter_chain.specs.Place.{Place}
use Rattle.hpack_codec.specs.declared.fields.Field.{Field}
use Rattle.std.proofs.Common.{arith, subst, sym}
use Rattle.std.proofs.lemmas.List.{length-append}
use Rattle.std.proofs.lemmas.Nat.{mul-le}
use Rattle.std.specs.Prelude.{Bool, IsSome, List, None, Option, Some, false, if◌then◌else◌, is_some, length, nat_le, not, true, ℕ, ◌*◌, ◌+◌, ◌++◌, ◌||◌, ◌≡◌, ◌≤◌}
use Rattle.wire_flows.specs.Measure.{flow_way, forty_if, message_way, octets_way, places_way}

-- ---- octets come
more_octets : (k a b d : ℕ) → k ≤ 9 → (40 + 20 * k) * (a + b) + d ≤ ((40 + 20 * k) * a + d) + 220 * b
more_octets k a b d few = sum (mul-le (40 + 20 * k) b 220 b (weight few) (omega arith))
  where
    weight : k ≤ 9 → 40 + 20 * k ≤ 220
    weight l = omega (arith, l)

    sum : (40 + 20 * k) * b ≤ 220 * b → (40 + 20 * k) * (a + b) + d ≤ ((40 + 20 * k) * a + d) + 220 * b
    sum l = omega (arith, l)

pub arrived_way : (octets : List ℕ) (flow : Flow) → length flow.chain.places ≤ 9 → flow_way (arrived octets flow) ≤ flow_way flow + 220 * length octets
arrived_way octets flow few =
    let grown = more_octets (length flow.chain.places) (length flow.recv) (length octets) (places_way flow.chain.places) few in
    whole (length flow.chain.places) (length (flow.recv ++ octets)) (length flow.recv) (length octets) (places_way flow.chain.places) (message_way flow.message) (length-append flow.recv octets) grown
  where
    whole : (k c a b d m : ℕ) → c ≡ a + b → (40 + 20 * k) * (a + b) + d ≤ ((40 + 20 * k) * a + d) + 220 * b → ((40 + 20 * k) * c + d) + m ≤ (((40 + 20 * k) * a + d) + m) + 220 * b
    whole k c a b d m e l = subst (λ x. ((40 + 20 * k) * x + d) + m ≤ (((40 + 20 * k) * a + d) + m) + 220 * b) (sym e) (omega (arith, l))

pub received_way : (octets : List ℕ) (flow : Flow) → length flow.chain.places ≤ 9 → flow_way (received octets flow) ≤ flow_way flow + 220 * length octets
received_way octets flow few = elim (nat_le (length flow.recv + length octets) flow.window) as (λ b. flow_way (if b then arrived octets flow else flow) ≤ flow_way flow + 220 * length octets) [
  | true ↦ arrived_way octets flow few
  | false ↦ omega arith
]

-- ---- lists and ends
at_most_forty : (b : Bool) → forty_if b ≤ 40
at_most_forty true = omega arith
at_most_forty false = omega arith

not_more : (a b : Bool) → forty_if (not (a || b)) ≤ forty_if (not a)
not_more true b = omega arith
not_more false true = omega arith
not_more false false = omega arith

pub headed_way : (fields : List Field) (last : Bool) (flow : Flow) → flow_way (headed fields last flow) ≤ flow_way flow + 40
headed_way fields true flow = omega (arith, at_most_forty (trailers_wait flow.message))
headed_way fields false flow = omega (arith, at_most_forty (trailers_wait flow.message))

pub finished_way : (trailers : Option (List Field)) (flow : Flow) → flow_way (finished trailers flow) ≤ flow_way flow + 40
finished_way trailers flow = omega (arith, at_most_forty (is_some trailers))

listed_message : (last : Bool) (head trailers : Option (List Field)) (e : Bool) → is_some (if is_some head then head else trailers) ≡ true → (g : Bool) (d f : Bool)
    → message_way (if is_some head
    then record { head = None; head_ends = d; head_framed = true; ended = g; trailers = trailers; end_framed = e || last }
    else record { head = head; head_ends = d; head_framed = f; ended = g; trailers = None; end_framed = e || last }) + 40
    ≤ message_way (record { head = head; head_ends = d; head_framed = f; ended = g; trailers = trailers; end_framed = e })
listed_message last (Some h) trailers e some g d f = omega (arith, not_more e last)
listed_message last None (Some t) e some g d f = omega (arith, not_more e last)
listed_message last None None e some g d f = cc

pub listed_way : (last : Bool) (flow : Flow) → IsSome (fields_of flow.message) → flow_way (list_framed last flow) + 40 ≤ flow_way flow
listed_way last flow some =
    let m = flow.message in
    let less = listed_message last m.head m.trailers m.end_framed some m.ended m.head_ends m.head_framed in
    omega (arith, less)
