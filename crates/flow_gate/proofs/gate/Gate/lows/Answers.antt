use Rattle.flow_gate.proofs.Parts.{lent_part}
use Rattle.flow_gate.proofs.SideBySide.{lent_row}
use Rattle.flow_gate.proofs.gate.Gate.lows.Goals as goal
use Rattle.std.proofs.Common.{ap, rules, sym, ◌∙◌}
use Rattle.std.proofs.lemmas.List.{take_rest}
use Rattle.std.specs.Map.{values_of}
use Rattle.std.specs.Prelude.{drop, length, take, ◌≡◌}

-- a part of the row
pub returns-then-len : goal.returns-then-len
returns-then-len c =
    let row : c.len.result ≡ length c.self.inside.row.items = search rules in
    let line : c.len-2.result ≡ length c.self.inside.line.items = search rules in
    let n = c.span-begin.result.1 in
    let i = c.span-begin.result.0 in
    rw (← c.self.view_is)
    (c.side_by_side.ensures ∙ ap (take n) (take_rest c.as_slice-then-len.result.now i) ∙ ap (λ fs. take n (drop i fs)) c.as_slice-then-len.ensures.value
    ∙ lent_row c.self.inside.row.items c.self.inside.line.items c.as_slice.result.now i n c.self.inside.told c.self.inside.drained
    c.self.invariant.whole (sym row ∙ c.if-len.true ∙ line) c.as_slice.ensures.value c.span-begin.ensures.part)

pub returns : goal.returns
returns c = rw (← c.self.view_is)
    (c.of.ensures ∙ ap values_of (lent_part c.self.inside.told c.self.inside.drained c.self.inside.line.items c.as_slice-2.result.now c.between.result.now c.as_slice-2.ensures.value c.between.ensures))
