use Rattle.flow_rules.specs.declared.ids.BufferId.TheVariants as buffer
use Rattle.flow_notes.specs.declared.notes.Note.TheVariants as note
use Rattle.std.proofs.Common.{ap, refl, sym, ◌∙◌}
use Rattle.std.proofs.lemmas.List.{append-nil}
use Rattle.std.specs.Prelude.{Bool, [], false, not, true, ◌++◌, ◌∷◌, ◌≡◌}
use Rattle.wire_out.proofs.units.end_or_resume.Goals as goal
use Rattle.wire_state.proofs.Goings.{told_at}
use Rattle.wire_state.specs.Noting.{told_of}

not_yes : (b : Bool) → not b ≡ true → b ≡ false
not_yes false e = refl
not_yes true e = sym e

not_no : (b : Bool) → not b ≡ false → b ≡ true
not_no true e = refl
not_no false e = sym e

pub returns-then-not-framed-clause-octets : goal.returns-then-not-framed-clause-octets
returns-then-not-framed-clause-octets c = record {
  goes = λ h g start t.
      let k = c.args.core.now in
      let f = c.args.course.flow in
      c.end_where.ensures.octets.goes h g start
      (told_at h g start k.conns k.conns k.flows k.links _ c.args.notes.now refl (ap (λ (b : Bool). c.args.notes.now ++ told_of b f) (not_yes c.args.framed.drained c.if-not-framed.true) ∙ append-nil c.args.notes.now) t);
}

pub returns-clause-octets : goal.returns-clause-octets
returns-clause-octets c = record {
  goes = λ h g start t.
      let k = c.args.core.now in
      let f = c.args.course.flow in
      let owed = told_at h g start k.conns k.conns k.flows k.links _ (c.args.notes.now ++ note.Resume f (buffer.Send f) ∷ []) refl (ap (λ (b : Bool). c.args.notes.now ++ told_of b f) (not_no c.args.framed.drained c.if-not-framed.false)) t in
      c.resume.ensures.octets.goes h g start (c.in_ok-ask_end.ensures.octets.goes h g start _ owed);
}
