use Rattle.flow_notes.specs.declared.notes.Note.{Note}
use Rattle.std.proofs.Common.{ap, refl, ◌∙◌}
use Rattle.std.proofs.lemmas.List.{append-nil}
use Rattle.std.specs.Prelude.{Bool, List, ◌++◌}
use Rattle.wire_ends.proofs.closes.say_farewell.Goals as goal
use Rattle.wire_flows.specs.Writes.{watchers_on}
use Rattle.wire_state.proofs.Goings.{told_at}
use Rattle.wire_state.specs.Noting.{risen_of}

pub returns-then-rose-clause-octets : goal.returns-then-rose-clause-octets
returns-then-rose-clause-octets c = record {
  goes = λ h g start t.
      let k = c.write_farewell.new.core in
      let n = c.args.number in
      let noted = c.in_ok-note_answer.ensures.paid.front h g start _ _ _ _ ((rw c.in-Some.is at c.in_ok-octets.ensures.octets).goes h g start c.args.notes.now t) in
      c.note_pauses.ensures.paid.goes h g start _ _ _ (told_at h g start k.conns k.conns k.flows k.links _ _ refl (ap (λ (b : Bool). c.note_answer.new.notes ++ risen_of b n (watchers_on n k.flows)) c.if-rose.true) noted);
}

pub returns-clause-octets : goal.returns-clause-octets
returns-clause-octets c = record {
  goes = λ h g start t.
      let k = c.write_farewell.new.core in
      let n = c.args.number in
      let noted = c.in_ok-note_answer.ensures.paid.front h g start _ _ _ _ ((rw c.in-Some.is at c.in_ok-octets.ensures.octets).goes h g start c.args.notes.now t) in
      told_at h g start k.conns k.conns k.flows k.links _ _ refl (ap (λ (b : Bool). c.note_answer.new.notes ++ risen_of b n (watchers_on n k.flows)) c.if-rose.false ∙ append-nil c.note_answer.new.notes) noted;
}

pub returns-in_default-clause-octets : goal.returns-in_default-clause-octets
returns-in_default-clause-octets c = record {
  goes = λ h g start t. ((rw c.in_default.is at c.in_ok-octets.ensures.octets).goes h g start c.args.notes.now t);
}
