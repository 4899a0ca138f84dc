-- One after the other is looked at.
use Rattle.std.proofs.lemmas.Bool.{false≢true}
use Rattle.std.proofs.Common.{sym, ◌∙◌}
use Rattle.tape_plot.proofs.Placing.{eq_same, no_more, not_first}
use Rattle.tape_plot.proofs.highest.Highest.has.Goals as goal

pub loop-ranked-preserved : goal.loop-ranked-preserved
loop-ranked-preserved c = λ there. not_first c.args.buffer c.in-Some.ranked.now c.loop-ranked.rest.now c.in-Some.after.now c.in-Some.ensures.cases.0 (λ e. false≢true (sym c.if-eq.false ∙ c.eq.ensures ∙ eq_same c.in-Some.ranked.now.buffer c.args.buffer e)) (c.loop-ranked.invariant there)

pub returns : goal.returns
returns c = λ there. absurd (no_more c.args.buffer c.loop-ranked.rest.now c.in_default.ensures.cases (c.loop-ranked.invariant there))
