use Rattle.flow_gate.proofs.Calls.{books_found}
use Rattle.flow_gate.proofs.CallsEnds.{are_watches}
use Rattle.flow_gate.proofs.Placed.{watches_in}
use Rattle.flow_gate.proofs.Reading.{count_found}
use Rattle.flow_gate.proofs.gates.Gates.count.Goals as goal
use Rattle.flow_gate.specs.Parts.{AreWatches, held, watched_in}
use Rattle.std.proofs.Common.{ap, length, subst, sym, ◌∙◌}
use Rattle.std.specs.Prelude.{None, Some, ◌^◌, ◌≤◌}

pub held_back-requires : goal.held_back-requires
held_back-requires c = rw c.watches.ensures (subst (λ o. length (watches_in o) ≤ 2 ^ 62)
    (books_found c.args.flow c.in-Some.watcher.now c.self.inside.flows c.in-Some.ensures.value) (c.self.invariant.few c.args.flow))

pub returns-in-Some : goal.returns-in-Some
returns-in-Some c = rw (← c.self.view_is) (
    c.held_back.ensures c.args.flow (subst (λ ws. AreWatches c.args.flow ws c.self.inside.buffers) (sym c.watches.ensures)
    (are_watches c.args.flow c.in-Some.watcher.now c.self.inside.flows c.self.inside.buffers c.in-Some.ensures.value c.self.invariant))
    ∙ ap (λ ws. held c.self.inside.buffers c.args.flow (watched_in ws)) c.watches.ensures
    ∙ count_found c.self.inside.flows c.self.inside.buffers c.args.flow (Some c.in-Some.watcher.now) c.in-Some.ensures.value)

pub returns-in-None : goal.returns-in-None
returns-in-None c = rw (← c.self.view_is) (count_found c.self.inside.flows c.self.inside.buffers c.args.flow None c.in-None.ensures.value)
