-- A flow stays sound as time goes on.
use Rattle.exchange_core.proofs.Moments.{chain_at, chain_kept, told_by}
use Rattle.exchange_core.proofs.Refilled.{refilled_kinds, refilled_length, refilled_place, refilled_sum}
use Rattle.exchange_core.specs.Exchange.{IsFlowOf, IsSoundExchange, at_moment, seen_at}
use Rattle.exchange_core.specs.Flow.{Flow, IsSound, held_by}
use Rattle.exchange_core.specs.declared.exchange.Exchange.{Exchange}
use Rattle.filter_chain.specs.Chain.{Chain, EndsInSend, IsSound as IsSoundChain}
use Rattle.filter_chain.specs.Effects.{ticked as chain_ticked}
use Rattle.filter_chain.specs.Place.{IsPlace, refilled}
use Rattle.proxy_config.specs.Ranges.{IsBetween}
use Rattle.std.proofs.Common.{ap, arith, inl, inr, refl, subst, sym, ◌∙◌}
use Rattle.std.proofs.lemmas.Bool.{cases_Bool, ltb-true}
use Rattle.std.proofs.lemmas.List.Elements.{All-map, All-weaker}
use Rattle.std.specs.Prelude.{Bool, IfSome, None, Option, Some, false, length, nat_lt, option_map, true, ℕ, ◌+◌, ◌≤◌}

-- ---- a chain
ticked_sound : (now : ℕ) (chain : Chain) → chain.time ≤ now → IsSoundChain chain → IsSoundChain (chain_ticked chain now)
ticked_sound now chain later sound =
    record {
      order = subst EndsInSend (sym (refilled_kinds _ chain.places)) sound.order;
      few = subst (IsBetween 1 9) (sym (refilled_length _ chain.places)) sound.few;
      each = All-map IsPlace (refilled _) chain.places (All-weaker IsPlace (λ x. IsPlace (refilled _ x)) (refilled_place _) chain.places sound.each);
      quantum = sound.quantum;
      clock = omega (arith, sound.clock);
    }

chain_sound : (now : ℕ) (chain : Chain) → IsSoundChain chain → IsSoundChain (chain_at now chain)
chain_sound now chain sound = elim (cases_Bool (nat_lt chain.time now)) [
  | inl is ↦
      let later = ltb-true chain.time now is in
      rw is (ticked_sound now chain (omega arith) sound)
  | inr is ↦ rw is sound
]

-- ---- a flow
pub flow_sound : (now : ℕ) (flow : Flow) → IsSound flow → IsSound (at_moment now flow)
flow_sound now flow sound = record {
  chain = chain_sound now flow.chain sound.chain;
  ended = chain_kept (λ chain. chain.ended) now flow.chain refl ∙ sound.ended;
  whole = λ ended. chain_kept (λ chain. chain.recv_empty) now flow.chain refl ∙ sound.whole ended;
  trailers = sound.trailers;
  alone = λ waits ends. (let is = sound.alone waits ends in record {
    ended = is.ended;
    bare = is.bare;
    empty = chain_kept (λ chain. held_by (record flow { chain = chain })) now flow.chain (ap (λ m. length flow.recv + m) (refilled_sum _ flow.chain.places)) ∙ is.empty;
  });
}

pub flow_of_later : (x : ℕ) (side : Bool) (now time : ℕ) (flow : Flow) → now ≤ time → IsFlowOf x side time flow → IsFlowOf x side time (at_moment now flow)
flow_of_later x side now time flow by is = record {
  sound = flow_sound now flow is.sound;
  own = chain_kept (λ chain. chain.flow) now flow.chain refl ∙ is.own;
  told = told_by now time flow by is.told;
}

flow_of_after : (x : ℕ) (side : Bool) (time after : ℕ) (flow : Flow) → time ≤ after → IsFlowOf x side time flow → IsFlowOf x side after flow
flow_of_after x side time after flow later is = record { sound = is.sound; own = is.own; told = omega (arith, is.told) }

pub response_later : (x now time : ℕ) (response : Option Flow) → now ≤ time → IfSome response (IsFlowOf x true time) → IfSome (option_map (at_moment now) response) (IsFlowOf x true time)
response_later x now time None by is = is
response_later x now time (Some flow) by is = flow_of_later x true now time flow by is

response_after : (x time after : ℕ) (response : Option Flow) → time ≤ after → IfSome response (IsFlowOf x true time) → IfSome response (IsFlowOf x true after)
response_after x time after None later is = is
response_after x time after (Some flow) later is = flow_of_after x true time after flow later is

-- ---- an exchange
pub exchange_later : (x now time : ℕ) (exchange : Exchange) → now ≤ time → IsSoundExchange x time exchange → IsSoundExchange x time (seen_at now exchange)
exchange_later x now time exchange by sound = record {
  request_is = flow_of_later x false now time exchange.request by sound.request_is;
  response_is = response_later x now time exchange.response by sound.response_is;
}

pub exchange_after : (x time after : ℕ) (exchange : Exchange) → time ≤ after → IsSoundExchange x time exchange → IsSoundExchange x after exchange
exchange_after x time after exchange later sound = record {
  request_is = flow_of_after x false time after exchange.request later sound.request_is;
  response_is = response_after x time after exchange.response later sound.response_is;
}
