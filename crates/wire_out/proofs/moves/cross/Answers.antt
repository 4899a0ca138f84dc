use Rattle.flow_notes.specs.declared.notes.Note.{Note}
use Rattle.std.proofs.Common.{ap, refl, subst}
use Rattle.std.proofs.lemmas.List.{append-nil}
use Rattle.std.specs.Prelude.{Bool, List, None, Some, [], if◌then◌else◌, ◌++◌}
use Rattle.wire_out.proofs.moves.cross.Goals as goal
use Rattle.wire_state.proofs.Goings.{told_at}
use Rattle.wire_state.specs.Noting.{pause_of, resume_of}
use Rattle.wire_state.specs.Worlds.{Told}

pub returns-then-moved-clause-octets : goal.returns-then-moved-clause-octets
returns-then-moved-clause-octets c = record {
  goes = λ {k} {t} h g start told.
      let core = c.args.core.now in
      let f = c.args.course.flow in
      let m = c.args.moved in
      let late = subst (λ (b : Bool). Told k t (if b then Some f.exchange else None) h g start core (c.args.notes.now ++ (pause_of f m.rose ++ (if b then [] else resume_of f m.drained)))) c.if-moved.true told in
      let paused = c.in_ok-note_pause.ensures.paid.goes h g start _ _ _
      (told_at h g start core.conns core.conns core.flows core.links _ (c.args.notes.now ++ pause_of f m.rose) refl (ap (λ (ns : List Note). c.args.notes.now ++ ns) (append-nil (pause_of f m.rose))) late) in
      c.doom.ensures.late.goes h g start (c.in_ok-ask_drain.ensures.octets.goes h g start _ paused);
}

pub returns-clause-octets : goal.returns-clause-octets
returns-clause-octets c = record {
  goes = λ {k} {t} h g start told.
      let core = c.args.core.now in
      let f = c.args.course.flow in
      let m = c.args.moved in
      let none = subst (λ (b : Bool). Told k t (if b then Some f.exchange else None) h g start core (c.args.notes.now ++ (pause_of f m.rose ++ (if b then [] else resume_of f m.drained)))) c.if-moved.false told in
      c.pass_body.ensures.octets.goes h g start (c.in_ok-resume_where.ensures.octets.goes h g start (c.in_ok-note_pause.ensures.paid.front h g start _ _ _ _ none));
}
