use Rattle.exchange_core.specs.Changes.{Starts}
use Rattle.flow_gate.specs.Board.{is_open}
use Rattle.flow_gate.specs.Changes.{Forgets}
use Rattle.std.proofs.Common.{ap, arith, refl, subst, sym, ◌∙◌}
use Rattle.std.specs.Prelude.{false, if◌then◌else◌, true, ◌+◌, ◌<◌, ◌≡◌}
use Rattle.wire_flows.proofs.Beginning.{go_started, live_new, lows_new, sound_started, writes_new}
use Rattle.wire_flows.proofs.Boards.{write_known}
use Rattle.wire_flows.proofs.Unborn.{back_between, back_both, known_if, refused_same, request_there, response_open, same_refused, unborn_fresh, unborn_shut}
use Rattle.wire_flows.proofs.flows.WireFlows.start.Goals as goal
use Rattle.wire_flows.specs.Flows.{flows_of}

pub begin_both-requires-clause-new : goal.begin_both-requires-clause-new
begin_both-requires-clause-new c = let greater : c.self.inside.exchanges.last < c.in-Some.exchange = let a = (c.in-Some.ensures {u = tt}).1 in omega (arith, a, c.last.ensures) in
    λ back. unborn_shut c.in-Some.exchange (flows_of c.self.inside) c.self.invariant greater back

pub begin_both-requires-clause-fresh : goal.begin_both-requires-clause-fresh
begin_both-requires-clause-fresh c = let greater : c.self.inside.exchanges.last < c.in-Some.exchange = let a = (c.in-Some.ensures {u = tt}).1 in omega (arith, a, c.last.ensures) in
    λ back. unborn_fresh c.in-Some.exchange (flows_of c.self.inside) c.self.invariant greater back

pub begin_both-requires-clause-from : goal.begin_both-requires-clause-from
begin_both-requires-clause-from c = sym (write_known c.args.spec.now.from_conn (flows_of c.self.inside)) ∙ (rw (← c.self.view_is) at c.requires.from)

pub begin_both-requires-clause-to : goal.begin_both-requires-clause-to
begin_both-requires-clause-to c = known_if c.args.spec.now.to_conn (flows_of c.self.inside) (rw (← c.self.view_is) at c.requires.to)

pub invariant_of-self : goal.invariant_of-self
invariant_of-self c = (refused_same (flows_of c.self.inside) c.self.inside.exchanges c.begin_both.new.gates c.self.invariant refl (c.in_err-request_held.ensures {u = tt}).err c.begin_both.ensures.sound).sound

pub returns-in_err-request_held-clause-writes : goal.returns-in_err-request_held-clause-writes
returns-in_err-request_held-clause-writes c = rw (← c.self.view_is) (refused_same (flows_of c.self.inside) c.self.inside.exchanges c.begin_both.new.gates c.self.invariant refl (c.in_err-request_held.ensures {u = tt}).err c.begin_both.ensures.sound).writes

pub returns-in_err-request_held-clause-lows : goal.returns-in_err-request_held-clause-lows
returns-in_err-request_held-clause-lows c = rw (← c.self.view_is) (refused_same (flows_of c.self.inside) c.self.inside.exchanges c.begin_both.new.gates c.self.invariant refl (c.in_err-request_held.ensures {u = tt}).err c.begin_both.ensures.sound).lows

pub returns-in_err-request_held-clause-sound : goal.returns-in_err-request_held-clause-sound
returns-in_err-request_held-clause-sound c = (refused_same (flows_of c.self.inside) c.self.inside.exchanges c.begin_both.new.gates c.self.invariant refl (c.in_err-request_held.ensures {u = tt}).err c.begin_both.ensures.sound).sound

pub returns-in_err-request_held-clause-gates : goal.returns-in_err-request_held-clause-gates
returns-in_err-request_held-clause-gates c = rw (← c.self.view_is) (same_refused c.from_residual.result c.self.inside.gates c.begin_both.new.gates (c.in_err-request_held.ensures {u = tt}).err)

pub forget-requires : goal.forget-requires
forget-requires c = ap (is_open c.begin_both.new.gates) c.response.ensures ∙ response_open _ _ _ _ _ _ _ (c.in_ok-request_held.ensures {u = tt}).ok

pub forget-requires-in-Err : goal.forget-requires-in-Err
forget-requires-in-Err c = let greater : c.self.inside.exchanges.last < c.in-Some.exchange = let a = (c.in-Some.ensures {u = tt}).1 in omega (arith, a, c.last.ensures) in
    ap (is_open c.forget.new.self) c.request.ensures ∙ request_there _ _ _ _ _ _ _ (c.in_ok-request_held.ensures {u = tt}).ok c.forget.new.self (back_between _ _ _ _ _ _ _ (c.in_ok-request_held.ensures {u = tt}).ok c.forget.new.self (subst (λ f. Forgets f c.begin_both.new.gates c.forget.new.self) c.response.ensures c.forget.ensures.forgets) (unborn_shut c.in-Some.exchange (flows_of c.self.inside) c.self.invariant greater true) (unborn_fresh c.in-Some.exchange (flows_of c.self.inside) c.self.invariant greater true))

pub invariant_of-self-in-Err : goal.invariant_of-self-in-Err
invariant_of-self-in-Err c = let greater : c.self.inside.exchanges.last < c.in-Some.exchange = let a = (c.in-Some.ensures {u = tt}).1 in omega (arith, a, c.last.ensures) in
    (refused_same (flows_of c.self.inside) c.start.new.self c.forget-in-Err.new.self c.self.invariant (c.in-Err.ensures {u = tt}).err (back_both _ _ _ _ _ _ _ (c.in_ok-request_held.ensures {u = tt}).ok c.forget.new.self c.forget-in-Err.new.self (back_between _ _ _ _ _ _ _ (c.in_ok-request_held.ensures {u = tt}).ok c.forget.new.self (subst (λ f. Forgets f c.begin_both.new.gates c.forget.new.self) c.response.ensures c.forget.ensures.forgets) (unborn_shut c.in-Some.exchange (flows_of c.self.inside) c.self.invariant greater true) (unborn_fresh c.in-Some.exchange (flows_of c.self.inside) c.self.invariant greater true))
    (subst (λ f. Forgets f c.forget.new.self c.forget-in-Err.new.self) c.request.ensures c.forget-in-Err.ensures.forgets) (unborn_shut c.in-Some.exchange (flows_of c.self.inside) c.self.invariant greater false) (unborn_fresh c.in-Some.exchange (flows_of c.self.inside) c.self.invariant greater false) c.self.invariant.gates) c.forget-in-Err.ensures.sound).sound

pub returns-in-Err-clause-left : goal.returns-in-Err-clause-left
returns-in-Err-clause-left c = let greater : c.self.inside.exchanges.last < c.in-Some.exchange = let a = (c.in-Some.ensures {u = tt}).1 in omega (arith, a, c.last.ensures) in
    rw (← c.self.view_is) (refused_same (flows_of c.self.inside) c.start.new.self c.forget-in-Err.new.self c.self.invariant (c.in-Err.ensures {u = tt}).err (back_both _ _ _ _ _ _ _ (c.in_ok-request_held.ensures {u = tt}).ok c.forget.new.self c.forget-in-Err.new.self (back_between _ _ _ _ _ _ _ (c.in_ok-request_held.ensures {u = tt}).ok c.forget.new.self (subst (λ f. Forgets f c.begin_both.new.gates c.forget.new.self) c.response.ensures c.forget.ensures.forgets) (unborn_shut c.in-Some.exchange (flows_of c.self.inside) c.self.invariant greater true) (unborn_fresh c.in-Some.exchange (flows_of c.self.inside) c.self.invariant greater true))
    (subst (λ f. Forgets f c.forget.new.self c.forget-in-Err.new.self) c.request.ensures c.forget-in-Err.ensures.forgets) (unborn_shut c.in-Some.exchange (flows_of c.self.inside) c.self.invariant greater false) (unborn_fresh c.in-Some.exchange (flows_of c.self.inside) c.self.invariant greater false) c.self.invariant.gates) c.forget-in-Err.ensures.sound).left

pub returns-in-Err-clause-writes : goal.returns-in-Err-clause-writes
returns-in-Err-clause-writes c = let greater : c.self.inside.exchanges.last < c.in-Some.exchange = let a = (c.in-Some.ensures {u = tt}).1 in omega (arith, a, c.last.ensures) in
    rw (← c.self.view_is) (refused_same (flows_of c.self.inside) c.start.new.self c.forget-in-Err.new.self c.self.invariant (c.in-Err.ensures {u = tt}).err (back_both _ _ _ _ _ _ _ (c.in_ok-request_held.ensures {u = tt}).ok c.forget.new.self c.forget-in-Err.new.self (back_between _ _ _ _ _ _ _ (c.in_ok-request_held.ensures {u = tt}).ok c.forget.new.self (subst (λ f. Forgets f c.begin_both.new.gates c.forget.new.self) c.response.ensures c.forget.ensures.forgets) (unborn_shut c.in-Some.exchange (flows_of c.self.inside) c.self.invariant greater true) (unborn_fresh c.in-Some.exchange (flows_of c.self.inside) c.self.invariant greater true))
    (subst (λ f. Forgets f c.forget.new.self c.forget-in-Err.new.self) c.request.ensures c.forget-in-Err.ensures.forgets) (unborn_shut c.in-Some.exchange (flows_of c.self.inside) c.self.invariant greater false) (unborn_fresh c.in-Some.exchange (flows_of c.self.inside) c.self.invariant greater false) c.self.invariant.gates) c.forget-in-Err.ensures.sound).writes

pub returns-in-Err-clause-lows : goal.returns-in-Err-clause-lows
returns-in-Err-clause-lows c = let greater : c.self.inside.exchanges.last < c.in-Some.exchange = let a = (c.in-Some.ensures {u = tt}).1 in omega (arith, a, c.last.ensures) in
    rw (← c.self.view_is) (refused_same (flows_of c.self.inside) c.start.new.self c.forget-in-Err.new.self c.self.invariant (c.in-Err.ensures {u = tt}).err (back_both _ _ _ _ _ _ _ (c.in_ok-request_held.ensures {u = tt}).ok c.forget.new.self c.forget-in-Err.new.self (back_between _ _ _ _ _ _ _ (c.in_ok-request_held.ensures {u = tt}).ok c.forget.new.self (subst (λ f. Forgets f c.begin_both.new.gates c.forget.new.self) c.response.ensures c.forget.ensures.forgets) (unborn_shut c.in-Some.exchange (flows_of c.self.inside) c.self.invariant greater true) (unborn_fresh c.in-Some.exchange (flows_of c.self.inside) c.self.invariant greater true))
    (subst (λ f. Forgets f c.forget.new.self c.forget-in-Err.new.self) c.request.ensures c.forget-in-Err.ensures.forgets) (unborn_shut c.in-Some.exchange (flows_of c.self.inside) c.self.invariant greater false) (unborn_fresh c.in-Some.exchange (flows_of c.self.inside) c.self.invariant greater false) c.self.invariant.gates) c.forget-in-Err.ensures.sound).lows

pub returns-in-Err-clause-gates : goal.returns-in-Err-clause-gates
returns-in-Err-clause-gates c = let greater : c.self.inside.exchanges.last < c.in-Some.exchange = let a = (c.in-Some.ensures {u = tt}).1 in omega (arith, a, c.last.ensures) in
    rw (← c.self.view_is) (back_both _ _ _ _ _ _ _ (c.in_ok-request_held.ensures {u = tt}).ok c.forget.new.self c.forget-in-Err.new.self (back_between _ _ _ _ _ _ _ (c.in_ok-request_held.ensures {u = tt}).ok c.forget.new.self (subst (λ f. Forgets f c.begin_both.new.gates c.forget.new.self) c.response.ensures c.forget.ensures.forgets) (unborn_shut c.in-Some.exchange (flows_of c.self.inside) c.self.invariant greater true) (unborn_fresh c.in-Some.exchange (flows_of c.self.inside) c.self.invariant greater true))
    (subst (λ f. Forgets f c.forget.new.self c.forget-in-Err.new.self) c.request.ensures c.forget-in-Err.ensures.forgets) (unborn_shut c.in-Some.exchange (flows_of c.self.inside) c.self.invariant greater false) (unborn_fresh c.in-Some.exchange (flows_of c.self.inside) c.self.invariant greater false) c.self.invariant.gates)

pub returns-in-Err-clause-sound : goal.returns-in-Err-clause-sound
returns-in-Err-clause-sound c = let greater : c.self.inside.exchanges.last < c.in-Some.exchange = let a = (c.in-Some.ensures {u = tt}).1 in omega (arith, a, c.last.ensures) in
    (refused_same (flows_of c.self.inside) c.start.new.self c.forget-in-Err.new.self c.self.invariant (c.in-Err.ensures {u = tt}).err (back_both _ _ _ _ _ _ _ (c.in_ok-request_held.ensures {u = tt}).ok c.forget.new.self c.forget-in-Err.new.self (back_between _ _ _ _ _ _ _ (c.in_ok-request_held.ensures {u = tt}).ok c.forget.new.self (subst (λ f. Forgets f c.begin_both.new.gates c.forget.new.self) c.response.ensures c.forget.ensures.forgets) (unborn_shut c.in-Some.exchange (flows_of c.self.inside) c.self.invariant greater true) (unborn_fresh c.in-Some.exchange (flows_of c.self.inside) c.self.invariant greater true))
    (subst (λ f. Forgets f c.forget.new.self c.forget-in-Err.new.self) c.request.ensures c.forget-in-Err.ensures.forgets) (unborn_shut c.in-Some.exchange (flows_of c.self.inside) c.self.invariant greater false) (unborn_fresh c.in-Some.exchange (flows_of c.self.inside) c.self.invariant greater false) c.self.invariant.gates) c.forget-in-Err.ensures.sound).sound

pub invariant_of-self-in_default-start : goal.invariant_of-self-in_default-start
invariant_of-self-in_default-start c = let greater : c.self.inside.exchanges.last < c.in-Some.exchange = let a = (c.in-Some.ensures {u = tt}).1 in omega (arith, a, c.last.ensures) in
    let number : c.in_default-start.field-0 ≡ c.in-Some.exchange = (c.in_default-start.ensures {u = tt}).number ∙ (ap (λ b. if b then c.args.spec.now.from_stream else c.self.inside.exchanges.last + 1) c.requires.wire
    ∙ sym ((c.in-Some.ensures {u = tt}).1 ∙ ap (λ n. n + 1) c.last.ensures)) in
    let starts : Starts c.in-Some.exchange c.args.spec.now c.args.config.now c.self.inside.exchanges c.start.new.self = subst (λ x. Starts x c.args.spec.now c.args.config.now c.self.inside.exchanges c.start.new.self) number (c.in_default-start.ensures {u = tt}).starts in
    sound_started c.in-Some.exchange c.args.spec.now c.args.config.now c.requires.wire (flows_of c.self.inside) c.start.new.self c.begin_both.new.gates c.self.invariant starts greater (c.in_ok-request_held.ensures {u = tt}).ok c.start.ensures.sound c.begin_both.ensures.sound

pub returns-clause-starts : goal.returns-clause-starts
returns-clause-starts c = let greater : c.self.inside.exchanges.last < c.in-Some.exchange = let a = (c.in-Some.ensures {u = tt}).1 in omega (arith, a, c.last.ensures) in
    let number : c.in_default-start.field-0 ≡ c.in-Some.exchange = (c.in_default-start.ensures {u = tt}).number ∙ (ap (λ b. if b then c.args.spec.now.from_stream else c.self.inside.exchanges.last + 1) c.requires.wire
    ∙ sym ((c.in-Some.ensures {u = tt}).1 ∙ ap (λ n. n + 1) c.last.ensures)) in
    let starts : Starts c.in-Some.exchange c.args.spec.now c.args.config.now c.self.inside.exchanges c.start.new.self = subst (λ x. Starts x c.args.spec.now c.args.config.now c.self.inside.exchanges c.start.new.self) number (c.in_default-start.ensures {u = tt}).starts in
    rw (← c.self.view_is) starts

pub returns-clause-live : goal.returns-clause-live
returns-clause-live c = let greater : c.self.inside.exchanges.last < c.in-Some.exchange = let a = (c.in-Some.ensures {u = tt}).1 in omega (arith, a, c.last.ensures) in
    let number : c.in_default-start.field-0 ≡ c.in-Some.exchange = (c.in_default-start.ensures {u = tt}).number ∙ (ap (λ b. if b then c.args.spec.now.from_stream else c.self.inside.exchanges.last + 1) c.requires.wire
    ∙ sym ((c.in-Some.ensures {u = tt}).1 ∙ ap (λ n. n + 1) c.last.ensures)) in
    let starts : Starts c.in-Some.exchange c.args.spec.now c.args.config.now c.self.inside.exchanges c.start.new.self = subst (λ x. Starts x c.args.spec.now c.args.config.now c.self.inside.exchanges c.start.new.self) number (c.in_default-start.ensures {u = tt}).starts in
    rw (← c.self.view_is) (live_new c.in-Some.exchange c.args.spec.now c.args.config.now c.requires.wire (flows_of c.self.inside) c.start.new.self c.begin_both.new.gates c.self.invariant starts greater (c.in_ok-request_held.ensures {u = tt}).ok)

pub returns-clause-writes : goal.returns-clause-writes
returns-clause-writes c = let greater : c.self.inside.exchanges.last < c.in-Some.exchange = let a = (c.in-Some.ensures {u = tt}).1 in omega (arith, a, c.last.ensures) in
    let number : c.in_default-start.field-0 ≡ c.in-Some.exchange = (c.in_default-start.ensures {u = tt}).number ∙ (ap (λ b. if b then c.args.spec.now.from_stream else c.self.inside.exchanges.last + 1) c.requires.wire
    ∙ sym ((c.in-Some.ensures {u = tt}).1 ∙ ap (λ n. n + 1) c.last.ensures)) in
    let starts : Starts c.in-Some.exchange c.args.spec.now c.args.config.now c.self.inside.exchanges c.start.new.self = subst (λ x. Starts x c.args.spec.now c.args.config.now c.self.inside.exchanges c.start.new.self) number (c.in_default-start.ensures {u = tt}).starts in
    rw (← c.self.view_is) (writes_new c.in-Some.exchange c.args.spec.now c.args.config.now c.requires.wire (flows_of c.self.inside) c.start.new.self c.begin_both.new.gates c.self.invariant starts greater (c.in_ok-request_held.ensures {u = tt}).ok)

pub returns-clause-lows : goal.returns-clause-lows
returns-clause-lows c = let greater : c.self.inside.exchanges.last < c.in-Some.exchange = let a = (c.in-Some.ensures {u = tt}).1 in omega (arith, a, c.last.ensures) in
    let number : c.in_default-start.field-0 ≡ c.in-Some.exchange = (c.in_default-start.ensures {u = tt}).number ∙ (ap (λ b. if b then c.args.spec.now.from_stream else c.self.inside.exchanges.last + 1) c.requires.wire
    ∙ sym ((c.in-Some.ensures {u = tt}).1 ∙ ap (λ n. n + 1) c.last.ensures)) in
    let starts : Starts c.in-Some.exchange c.args.spec.now c.args.config.now c.self.inside.exchanges c.start.new.self = subst (λ x. Starts x c.args.spec.now c.args.config.now c.self.inside.exchanges c.start.new.self) number (c.in_default-start.ensures {u = tt}).starts in
    rw (← c.self.view_is) (lows_new c.in-Some.exchange c.args.spec.now c.args.config.now c.requires.wire (flows_of c.self.inside) c.start.new.self c.begin_both.new.gates c.self.invariant starts greater (c.in_ok-request_held.ensures {u = tt}).ok)

pub returns-clause-go : goal.returns-clause-go
returns-clause-go c = let greater : c.self.inside.exchanges.last < c.in-Some.exchange = let a = (c.in-Some.ensures {u = tt}).1 in omega (arith, a, c.last.ensures) in
    let number : c.in_default-start.field-0 ≡ c.in-Some.exchange = (c.in_default-start.ensures {u = tt}).number ∙ (ap (λ b. if b then c.args.spec.now.from_stream else c.self.inside.exchanges.last + 1) c.requires.wire
    ∙ sym ((c.in-Some.ensures {u = tt}).1 ∙ ap (λ n. n + 1) c.last.ensures)) in
    let starts : Starts c.in-Some.exchange c.args.spec.now c.args.config.now c.self.inside.exchanges c.start.new.self = subst (λ x. Starts x c.args.spec.now c.args.config.now c.self.inside.exchanges c.start.new.self) number (c.in_default-start.ensures {u = tt}).starts in
    rw (← c.self.view_is) (go_started c.in-Some.exchange c.args.spec.now c.args.config.now c.requires.wire (flows_of c.self.inside) c.start.new.self c.begin_both.new.gates c.self.invariant starts greater (c.in_ok-request_held.ensures {u = tt}).ok c.start.ensures.sound)

pub returns-clause-sound : goal.returns-clause-sound
returns-clause-sound c = let greater : c.self.inside.exchanges.last < c.in-Some.exchange = let a = (c.in-Some.ensures {u = tt}).1 in omega (arith, a, c.last.ensures) in
    let number : c.in_default-start.field-0 ≡ c.in-Some.exchange = (c.in_default-start.ensures {u = tt}).number ∙ (ap (λ b. if b then c.args.spec.now.from_stream else c.self.inside.exchanges.last + 1) c.requires.wire
    ∙ sym ((c.in-Some.ensures {u = tt}).1 ∙ ap (λ n. n + 1) c.last.ensures)) in
    let starts : Starts c.in-Some.exchange c.args.spec.now c.args.config.now c.self.inside.exchanges c.start.new.self = subst (λ x. Starts x c.args.spec.now c.args.config.now c.self.inside.exchanges c.start.new.self) number (c.in_default-start.ensures {u = tt}).starts in
    sound_started c.in-Some.exchange c.args.spec.now c.args.config.now c.requires.wire (flows_of c.self.inside) c.start.new.self c.begin_both.new.gates c.self.invariant starts greater (c.in_ok-request_held.ensures {u = tt}).ok c.start.ensures.sound c.begin_both.ensures.sound
