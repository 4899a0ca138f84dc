-- The place that is tried first, or that of the map.
use Rattle.tape_summary.proofs.Placing.{tried}
use Rattle.tape_summary.proofs.tracks.Tracks.known.Goals as goal
use Rattle.std.proofs.Common.{arith, sym, ◌∙◌}
use Rattle.std.proofs.lemmas.Option.{slice_get_read}

pub returns : goal.returns
returns c = λ a. c.copied.ensures ∙ c.get.ensures.value

pub returns-then-eq : goal.returns-then-eq
returns-then-eq c = λ a. tried c.args.self.now c.args.spot c.index.result.now c.args.self.now.next
    (slice_get_read c.args.self.now.spots.items c.args.self.now.spots.len c.args.self.now.next c.index.result.now c.args.self.now.spots.ok.0 (omega (arith, c.len.ensures, c.if-self-len.true)) c.index.ensures)
    (sym c.eq.ensures ∙ c.if-eq.true) a
