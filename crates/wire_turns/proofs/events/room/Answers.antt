use Rattle.flow_notes.specs.declared.events.Event.TheVariants as event
use Rattle.flow_notes.specs.declared.notes.Note.{Note}
use Rattle.std.proofs.Common.{subst}
use Rattle.std.proofs.lemmas.List.{append-nil}
use Rattle.std.specs.Prelude.{List, None}
use Rattle.wire_turns.proofs.events.room.Goals as goal
use Rattle.wire_state.proofs.Turned.{turn_rests}
use Rattle.wire_state.specs.Marks.{footing_of}
use Rattle.wire_state.specs.Worlds.{Told, left_after}

pub returns-in_default-clause-octets : goal.returns-in_default-clause-octets
returns-in_default-clause-octets c = record {
  goes = λ h g before k is s left fresh none.
      let old = c.args.core.now in
      let f = left_after (event.Room c.args.number c.args.n) old.conns g in
      subst (λ (ns : List Note). Told old.config None None h f before c.leave_at.new.core ns) (append-nil c.args.notes.now)
      (c.in_default.ensures.octets.goes h g before c.args.notes.now (turn_rests old.conns old.flows old.links h g left {l = footing_of old} none k (event.Room c.args.number c.args.n) tt before c.args.notes.now is s));
}

pub returns-clause-octets : goal.returns-clause-octets
returns-clause-octets c = record {
  goes = λ h g before k is s left fresh none.
      let old = c.args.core.now in
      let f = left_after (event.Room c.args.number c.args.n) old.conns g in
      let out = c.in-Some.ensures.octets.goes h g before c.args.notes.now (turn_rests old.conns old.flows old.links h g left {l = footing_of old} none k (event.Room c.args.number c.args.n) tt before c.args.notes.now is s) in
      c.in_ok-note_out.ensures.octets.goes h f before _ _ _ (c.in_ok-stir_left.ensures.octets.goes h f before _ out);
}
