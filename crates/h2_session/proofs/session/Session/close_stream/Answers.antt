use Rattle.std.proofs.Common.{refl}
use Rattle.h2_session.proofs.Calls.{closed_from}
use Rattle.h2_session.proofs.session.Session.close_stream.Goals as goal

pub returns-clause-stands : goal.returns-clause-stands
returns-clause-stands c =
    closed_from _ _ _ _ c.self.view_is (record { side = refl; failed = refl; started = refl; block = refl; greatest = refl; next = refl; empties = refl }) c.close.ensures.moves c.close.ensures.other
