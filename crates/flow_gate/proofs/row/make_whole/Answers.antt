use Rattle.flow_gate.proofs.SideBySide.{gaps_gone}
use Rattle.flow_gate.proofs.row.make_whole.Goals as goal
use Rattle.flow_gate.specs.Line.{is_taken}
use Rattle.std.proofs.Common.{rules, sym, ◌∙◌}
use Rattle.std.proofs.lemmas.Fn.{filter_same}
use Rattle.std.specs.Prelude.{length, ◌≡◌}

pub returns-then-is_err-clause-line : goal.returns-then-is_err-clause-line
returns-then-is_err-clause-line c =
    let row : c.len.result ≡ length c.args.row.now.items = search rules in
    let line : c.len-2.result ≡ length c.args.line.now.items = search rules in
    filter_same _ is_taken _ (λ x b f' k. search rules) _ _ c.retain.ensures.filtered
    ∙ gaps_gone (length c.args.row.now.items) (length c.args.line.now.items) c.args.line.now.items (λ same. c.if-len.true (row ∙ same ∙ sym line))

pub returns-else-is_err-clause-line : goal.returns-else-is_err-clause-line
returns-else-is_err-clause-line c =
    let row : c.len.result ≡ length c.args.row.now.items = search rules in
    let line : c.len-2.result ≡ length c.args.line.now.items = search rules in
    filter_same _ is_taken _ (λ x b f' k. search rules) _ _ c.retain.ensures.filtered
    ∙ gaps_gone (length c.args.row.now.items) (length c.args.line.now.items) c.args.line.now.items (λ same. c.if-len.true (row ∙ same ∙ sym line))
