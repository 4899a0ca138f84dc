use Rattle.flow_gate.proofs.stands.close_up.Goals as goal
use Rattle.flow_gate.specs.Line.{is_taken}
use Rattle.std.proofs.Common.{ap, rules, subst, sym, ◌∙◌}
use Rattle.std.proofs.lemmas.Bool.{lt-ltb}
use Rattle.std.proofs.lemmas.Fn.{filter_same}
use Rattle.std.specs.Prelude.{cond, filter, length, ◌/◌, ◌<◌, ◌≡◌}

pub returns-then-standing-len : goal.returns-then-standing-len
returns-then-standing-len c =
    let long : c.len.result ≡ length c.args.stands.now.items = search rules in
    let more : c.args.standing < length c.args.stands.now.items / 2 = subst (λ n. c.args.standing < n / 2) long c.if-standing-len.true in
    filter_same _ is_taken _ (λ x b f' k. search rules) _ _ c.retain.ensures.filtered
    ∙ sym (ap (λ b. cond b (filter is_taken c.args.stands.now.items) c.args.stands.now.items) (lt-ltb c.args.standing (length c.args.stands.now.items / 2) more))
