use Rattle.std.proofs.Common.{ap, refl, sym, ◌∙◌}
use Rattle.std.specs.Prelude.{is_some}
use Rattle.h2_session.proofs.Calls.{ended_from, put_there}
use Rattle.h2_session.proofs.session.Session.end_local.Goals as goal

pub returns-clause-stands : goal.returns-clause-stands
returns-clause-stands c =
    ended_from _ _ _ _ c.self.view_is (record { side = refl; failed = refl; started = refl; block = refl; greatest = refl; next = refl; empties = refl }) c.end.ensures.moves c.end.ensures.other

pub returns-clause-open : goal.returns-clause-open
returns-clause-open c = c.end.ensures.open ∙ ap is_some (sym (put_there _ _ _ _ c.end.ensures.moves))
