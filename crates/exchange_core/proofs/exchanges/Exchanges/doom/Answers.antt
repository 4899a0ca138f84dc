use Rattle.exchange_core.proofs.Dooming.{doom_kept, dooms, is_unmarked}
use Rattle.exchange_core.proofs.Finding.{exchange_found, not_live, some_mapped}
use Rattle.exchange_core.proofs.Outcomes.{at_found, from_found}
use Rattle.exchange_core.proofs.Seeing.{seen_sound}
use Rattle.exchange_core.proofs.Untouched.{reckoning_seen}
use Rattle.exchange_core.proofs.exchanges.Exchanges.doom.Goals as goal
use Rattle.exchange_core.specs.declared.exchanges.Exchanges.TheInside.{Inside}
use Rattle.exchange_core.specs.Changes.{ForgetsFlows, KnowsFlows}
use Rattle.exchange_core.specs.Exchange.{at_moment, seen_at}
use Rattle.exchange_core.specs.Replies.{reckoning}
use Rattle.exchange_core.specs.declared.exchange.Exchange.{Exchange}
use Rattle.std.proofs.Common.{ap, arith, refl, sym, ◌∙◌}
use Rattle.std.specs.Prelude.{Some, option_map}

pub unreachable-requires : goal.unreachable-requires
unreachable-requires c = not_live c.self.inside c.args.exchange (sym c.in_default.is ∙ c.remove.ensures.value) (rw (← c.self.view_is) at c.requires.live)

pub push_back_reserved-requires : goal.push_back_reserved-requires
push_back_reserved-requires c = omega (arith, c.self.invariant.room, c.in-Some.ensures.len)

known : (c : goal.After-is_some) → KnowsFlows c.args.exchange (seen_at c.self.inside.ticked c.in-Some.ended) c.args.gates.now
known c = at_found (λ (e : Exchange). KnowsFlows c.args.exchange e c.args.gates.now) _ (seen_at c.self.inside.ticked c.in-Some.ended) (exchange_found c.self.inside c.args.exchange (Some c.in-Some.ended) c.in-Some.ensures.value) (rw (← c.self.view_is) at c.requires.known)

pub forget_flows-requires-clause-request : goal.forget_flows-requires-clause-request
forget_flows-requires-clause-request c = (known c).0

pub forget_flows-requires-clause-response : goal.forget_flows-requires-clause-response
forget_flows-requires-clause-response c = λ some. (known c).1 (some_mapped (at_moment c.self.inside.ticked) c.in-Some.ended.response ∙ sym c.is_some.ensures ∙ some)

abbrev after : goal.After-keep → Inside
after c = record c.self.inside { live = c.remove.new.self; doomed = c.push_back_reserved.new.self; metered = c.remove-2.new.self; spares = c.keep.new.self }

pub invariant_of-self : goal.invariant_of-self
invariant_of-self c = doom_kept c.self.inside (after c) c.args.exchange c.in-Some.ended c.self.invariant c.in-Some.ensures.value c.remove.ensures.updates.0 c.remove.ensures.ordered c.remove.ensures.entries c.in-Some.ensures.len
    refl refl refl c.push_back_reserved.ensures.items c.push_back_reserved.ensures.len c.push_back_reserved.ensures.capacity
    (is_unmarked c.self.inside c.args.exchange c.in-Some.ended c.self.invariant c.in-Some.ensures.value c.remove-2.new.self c.remove-2.ensures.members (omega (arith, c.remove-2.ensures.len)) c.remove-2.ensures.room)

pub returns-clause-answer : goal.returns-clause-answer
returns-clause-answer c = rw (← c.self.view_is) (ap Some (c.reckoning-doomed.ensures ∙ sym (reckoning_seen c.self.inside.ticked c.args.cause c.args.back c.in-Some.ended))
    ∙ sym (ap (option_map (reckoning c.args.cause c.args.back)) (exchange_found c.self.inside c.args.exchange (Some c.in-Some.ended) c.in-Some.ensures.value)))

pub returns-clause-dooms : goal.returns-clause-dooms
returns-clause-dooms c = rw (← c.self.view_is) (dooms c.self.inside (after c) c.args.exchange c.in-Some.ended c.self.invariant c.in-Some.ensures.value c.remove.ensures.updates.0
    refl refl refl c.push_back_reserved.ensures.items)

pub returns-clause-gates : goal.returns-clause-gates
returns-clause-gates c = rw (← c.self.view_is) (from_found (λ (e : Exchange). ForgetsFlows c.args.exchange e c.args.gates.now c.forget_flows.new.gates) _ (seen_at c.self.inside.ticked c.in-Some.ended)
    (exchange_found c.self.inside c.args.exchange (Some c.in-Some.ended) c.in-Some.ensures.value)
    (rw (← c.is_some.ensures ∙ sym (some_mapped (at_moment c.self.inside.ticked) c.in-Some.ended.response)) c.forget_flows.ensures.gone))

pub returns-clause-sound : goal.returns-clause-sound
returns-clause-sound c = seen_sound _ (invariant_of-self c)
