use Rattle.wire_state.proofs.Idle.{owed_none}
use Rattle.flow_notes.specs.declared.notes.Note.{Note}
use Rattle.flow_notes.specs.declared.notes.Note.TheVariants as note
use Rattle.std.proofs.Common.{ap, arith, refl, subst, sym, ◌∙◌}
use Rattle.std.proofs.lemmas.Bool.Decides.{nat_tests}
use Rattle.std.proofs.lemmas.List.{append-nil}
use Rattle.std.specs.Prelude.{Bool, List, [], false, if◌then◌else◌, ℕ, ◌++◌, ◌==◌, ◌∷◌, ◌≡◌}
use Rattle.wire_turns.proofs.events.note_out.Goals as goal
use Rattle.wire_state.proofs.Goings.{told_at}
use Rattle.wire_state.specs.Worlds.{Pays, outs_of}

pub returns-then-n-eq0-clause-octets : goal.returns-then-n-eq0-clause-octets
returns-then-n-eq0-clause-octets c = owed_none (outs_of c.args.conn c.args.n) c.args.notes.now (ap (λ (j : ℕ). outs_of c.args.conn j) c.if-n-eq0.true)

pub returns-clause-octets : goal.returns-clause-octets
returns-clause-octets c =
    let some : (c.args.n == 0) ≡ false = grind (arith, nat_tests, c.if-n-eq0.false) in
    subst (λ (owed : List Note). Pays c.note.result owed c.args.notes.now c.note.new.notes) (sym (ap (λ (b : Bool). if b then [] else note.Out c.args.conn c.args.n ∷ []) some)) c.note.ensures.paid
