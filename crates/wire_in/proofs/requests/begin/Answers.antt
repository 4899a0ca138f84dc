use Rattle.flow_notes.specs.declared.notes.Note.TheVariants as note
use Rattle.std.proofs.Common.{ap, refl, sym, ◌∙◌}
use Rattle.std.specs.Prelude.{ℕ, ◌++◌, ◌∷◌}
use Rattle.wire_in.proofs.requests.begin.Goals as goal
use Rattle.wire_state.proofs.Begun.{numbered}
use Rattle.wire_state.proofs.Goings.{told_at}
use Rattle.wire_state.specs.Noting.{conn_number, held_of}

pub returns-clause-octets : goal.returns-clause-octets
returns-clause-octets c = record {
  goes = λ h g start t.
      let s = c.in_ok-started.started in
      let n = c.args.number in
      let to = c.goal_of-row.result.1 in
      let held = held_of s n to in
      let named = c.unwrap_or.ensures ∙ numbered to in
      let begun = c.in_ok-begin_stream.ensures.octets.goes h g start _ (c.in_ok-arm.ensures.octets.goes h g start _ (c.disarm.ensures.octets.goes h g start _ (c.in_ok-started.ensures.octets.goes h g start c.args.notes.now t))) in
      c.in_ok-note_held.ensures.paid.goes h g start _ _ _
      (c.in_ok-note.ensures.paid.front h g start held _ _ _
      (told_at h g start _ _ _ _ (c.args.notes.now ++ (note.Start s.exchange n c.args.stream (conn_number to) ∷ held)) _ refl (ap (λ (d : ℕ). c.args.notes.now ++ (note.Start s.exchange n c.args.stream d ∷ held)) (sym named)) begun));
}
