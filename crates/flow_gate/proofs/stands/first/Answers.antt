use Rattle.flow_gate.proofs.Live.{first_here, live-more}
use Rattle.flow_gate.proofs.stands.first.Goals as goal
use Rattle.flow_gate.specs.Line.{Places, live}
use Rattle.std.proofs.Common.{ap, sym, ◌∙◌}
use Rattle.std.proofs.lemmas.List.{take_all}
use Rattle.std.specs.List.{cons_option}
use Rattle.std.specs.Option.{option_map}
use Rattle.std.specs.Prelude.{[], slice_get, slice_index_or, ◌++◌}

pub loop-stand-preserved : goal.loop-stand-preserved
loop-stand-preserved c =
    let s = slice_index_or c.args.stands.now c.loop-stand.stand-index _ in
    live-more c.loop-stand.stand-index c.args.stands.now _ c.loop-stand-test.true
    ∙ (λ i. c.loop-stand.invariant i ++ cons_option (option_map (λ f. (s.place, f)) (c.in_default.is i)) [])

pub returns-in-Some : goal.returns-in-Some
returns-in-Some c = sym (first_here c.loop-stand.stand-index c.args.stands.now _ c.in-Some.flow c.loop-stand-test.true c.loop-stand.invariant c.in-Some.is)

pub returns : goal.returns
returns c = sym (ap (λ (es : Places). slice_get es 0) (sym (ap live (take_all c.loop-stand.stand-index c.args.stands.now c.loop-stand-test.false)) ∙ c.loop-stand.invariant))
