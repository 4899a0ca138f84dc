use Rattle.flow_notes.specs.declared.notes.Note.{Note}
use Rattle.std.proofs.Common.{refl, subst, sym, ◌∙◌}
use Rattle.std.specs.Prelude.{List, None, Some}
use Rattle.wire_ends.proofs.closes.lose.Goals as goal
use Rattle.wire_state.proofs.Results.{on_ok}
use Rattle.wire_state.proofs.Turned.{told_none}
use Rattle.wire_state.specs.Marks.{footing_of}
use Rattle.wire_state.specs.Worlds.{Told}

pub returns-clause-octets : goal.returns-clause-octets
returns-clause-octets c = record {
  goes = λ h g before k is s left fresh none.
      let old = c.args.core.now in
      on_ok c.stir.result (c.stir.ensures.octets.goes h g before c.args.notes.now
      (subst (λ (ns : List Note). Told old.config (Some c.args.number) None h g before c.lose_rest.new.core ns) (sym is) ((c.lose_rest.ensures.octets k).goes h g before before (told_none old.conns old.flows old.links h g left {l = footing_of old} none before s))));
}
