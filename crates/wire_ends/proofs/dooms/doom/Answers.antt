use Rattle.std.proofs.Common.{refl}
use Rattle.std.proofs.lemmas.List.{append-nil}
use Rattle.wire_state.proofs.Goings.{told_at}
use Rattle.wire_ends.proofs.dooms.doom.Goals as goal

pub returns-clause-octets : goal.returns-clause-octets
returns-clause-octets c = record {
  goes = λ h g start t.
      let noted = c.in_ok-note_doom.ensures.paid.goes h g start _ _ _ (c.in-Some.ensures.octets.goes h g start c.args.notes.now t) in
      let stirred = c.in_ok-stir_some.ensures.octets.goes h g start _ (c.in_ok-stir.ensures.octets.goes h g start _ noted) in
      c.tell.ensures.octets.goes h g start _ (c.leave.ensures.octets.goes h g start _ (c.in_ok-leave_client.ensures.octets.goes h g start _ stirred));
}

pub returns-clause-late : goal.returns-clause-late
returns-clause-late c = record {
  goes = λ h g start t.
      let noted = c.in_ok-note_doom.ensures.paid.goes h g start _ _ _ ((rw c.in-Some.is at c.unlink.ensures.late).goes h g start c.args.notes.now t) in
      let stirred = c.in_ok-stir_some.ensures.octets.goes h g start _ (c.in_ok-stir.ensures.octets.goes h g start _ noted) in
      c.tell.ensures.octets.goes h g start _ (c.leave.ensures.octets.goes h g start _ (c.in_ok-leave_client.ensures.octets.goes h g start _ stirred));
}

pub returns-in_default-clause-late : goal.returns-in_default-clause-late
returns-in_default-clause-late c = record {
  goes = λ h g start t.
      let k = c.unlink.new.core in
      told_at h g start k.conns k.conns k.flows k.links _ c.args.notes.now refl (append-nil c.args.notes.now) ((rw c.in_default.is at c.unlink.ensures.late).goes h g start c.args.notes.now t);
}
