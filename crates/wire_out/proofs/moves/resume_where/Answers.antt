use Rattle.flow_rules.specs.declared.ids.BufferId.{BufferId}
use Rattle.flow_notes.specs.declared.notes.Note.TheVariants as note
use Rattle.std.proofs.Common.{ap, refl, ◌∙◌}
use Rattle.std.proofs.lemmas.List.{append-nil}
use Rattle.std.specs.Prelude.{Option, [], ◌++◌, ◌∷◌}
use Rattle.wire_out.proofs.moves.resume_where.Goals as goal
use Rattle.wire_state.proofs.Goings.{told_at}
use Rattle.wire_state.specs.Noting.{resume_of}

pub returns-in-Some-clause-octets : goal.returns-in-Some-clause-octets
returns-in-Some-clause-octets c = record {
  goes = λ h g start t.
      let k = c.args.core.now in
      let f = c.args.course.flow in
      c.resume.ensures.octets.goes h g start
      (told_at h g start k.conns k.conns k.flows k.links _ (c.args.notes.now ++ note.Resume f c.in-Some.buffer ∷ []) refl (ap (λ (o : Option BufferId). c.args.notes.now ++ resume_of f o) c.in-Some.is) t);
}

pub returns-in-None-clause-octets : goal.returns-in-None-clause-octets
returns-in-None-clause-octets c = record {
  goes = λ h g start t.
      let k = c.args.core.now in
      let f = c.args.course.flow in
      told_at h g start k.conns k.conns k.flows k.links _ c.args.notes.now refl (ap (λ (o : Option BufferId). c.args.notes.now ++ resume_of f o) c.in-None.is ∙ append-nil c.args.notes.now) t;
}
