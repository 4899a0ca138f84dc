use Rattle.flow_notes.specs.declared.notes.Note.{Note}
use Rattle.std.proofs.Common.{ap, arith, false, subst, true, ◌≡◌}
use Rattle.std.specs.Prelude.{List, Option, ℕ}
use Rattle.wire_in.proofs.requests.note_hold.Goals as goal
use Rattle.wire_state.proofs.Begun.{held_is, unheld}
use Rattle.wire_state.proofs.Idle.{owed_none}
use Rattle.wire_state.specs.Noting.{hold_of}
use Rattle.wire_state.specs.Worlds.{Pays}

pub returns-in_default-clause-paid : goal.returns-in_default-clause-paid
returns-in_default-clause-paid c = owed_none (hold_of c.args.flow c.args.held c.args.to) c.args.notes.now (ap (λ (o : Option ℕ). hold_of c.args.flow c.args.held o) c.in_default.is)

pub returns-then-not-held-clause-paid : goal.returns-then-not-held-clause-paid
returns-then-not-held-clause-paid c =
    let low : c.args.held ≡ false = grind (arith, c.if-not-held.true) in
    owed_none (hold_of c.args.flow c.args.held c.args.to) c.args.notes.now (unheld c.args.flow c.args.held c.args.to low)

pub returns-clause-paid : goal.returns-clause-paid
returns-clause-paid c =
    let up : c.args.held ≡ true = grind (arith, c.if-not-held.false) in
    subst (λ (ns : List Note). Pays c.note.result ns c.args.notes.now c.note.new.notes) (held_is c.args.flow c.args.held c.args.to c.in-Some.to up c.in-Some.is) c.note.ensures.paid
