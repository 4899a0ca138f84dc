use Rattle.std.proofs.Common.{ap, refl, ◌∙◌}
use Rattle.h2_frames.specs.Frame.{Reset}
use Rattle.h2_session.specs.Acts.{reset_act}
use Rattle.h2_session.specs.Summary.{Summary}
use Rattle.h2_session.specs.contracts.session.Session.{the_view}
use Rattle.h2_session.proofs.Frames.{reset_takes, takes_from}
use Rattle.h2_session.proofs.session.Session.take_reset.Goals as goal

pub returns-clause-takes : goal.returns-clause-takes
returns-clause-takes c =
    let s = c.args.stream in
    let u : Summary = the_view c.self.inside in
    let w : Summary = record { side = u.side; failed = u.failed; started = u.started; block = u.block; greatest = u.greatest; next = u.next; empties = u.empties; streams = c.close.new.self } in
    takes_from (Reset s c.args.code) w c.reset_act-act.result u c.args.self.now c.self.view_is
    (reset_takes u w s c.args.code c.reset_act-act.result (c.reset_act-act.ensures ∙ ap (reset_act s c.args.code) c.get.ensures)
    (record { side = refl; failed = refl; block = refl; greatest = refl; next = refl }) refl c.close.ensures.moves)
