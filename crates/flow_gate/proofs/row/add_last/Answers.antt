use Rattle.flow_gate.proofs.SideBySide.{row_push}
use Rattle.flow_gate.proofs.row.add_last.Goals as goal
use Rattle.flow_gate.specs.Line.{live}
use Rattle.std.proofs.Common.{ap, arith, rules, sym, ◌∙◌}
use Rattle.std.specs.Map.{values_of}
use Rattle.std.specs.Prelude.{[], length, ◌++◌, ◌∷◌, ◌≡◌}

pub returns-else-is_err : goal.returns-else-is_err
returns-else-is_err c =
    let items : c.push.new.self.items ≡ c.args.row.now.items ++ c.args.flow ∷ [] = search rules in
    let long : c.len.result ≡ length c.args.row.now.items = search rules in
    λ place others is line same.
    let longer = ap length line in
    items ∙ row_push c.args.row.now.items others place c.args.flow is (omega (arith, long, c.if-len-line.false, longer)) ∙ ap (λ ss. values_of (live ss)) (sym line)
