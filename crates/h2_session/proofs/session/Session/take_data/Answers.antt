use Rattle.std.proofs.Common.{ap, length, refl, ◌∙◌}
use Rattle.h2_frames.specs.Frame.{DataFrame, Frame}
use Rattle.h2_session.specs.Acts.{data_act}
use Rattle.h2_session.specs.Summary.{Summary}
use Rattle.h2_session.specs.contracts.session.Session.{the_view}
use Rattle.h2_session.proofs.Frames.{data_takes, takes_from}
use Rattle.h2_session.proofs.Sizes.{data_less, kept_less}
use Rattle.h2_session.proofs.session.Session.take_data.Goals as goal

pub returns-clause-takes : goal.returns-clause-takes
returns-clause-takes c =
    let s = c.args.stream in
    let octets = c.args.octets.now in
    let frame : Frame = DataFrame s c.args.last c.args.padded octets in
    let u : Summary = the_view c.self.inside in
    let w : Summary = record { side = u.side; failed = u.failed; started = u.started; block = u.block; greatest = u.greatest; next = u.next; empties = c.run_after-self-inside.result; streams = c.data_came.new.self } in
    takes_from frame w c.data_act.new.into u c.args.self.now c.self.view_is
    (data_takes u w s c.args.padded c.args.last octets c.data_act.new.into (c.in_ok-data_act.ensures ∙ ap (data_act s c.args.last c.args.padded octets) c.get-state.ensures)
    (record { side = refl; failed = refl; block = refl; greatest = refl; next = refl }) c.run_after-self-inside.ensures c.data_came.ensures.moves)

pub invariant_of-self : goal.invariant_of-self
invariant_of-self c =
    let before = c.self.inside in
    kept_less before.client_side before.next (length before.streams) (length c.data_came.new.self) c.self.invariant
    (data_less c.args.stream c.args.last before.streams c.data_came.new.self c.data_came.ensures.moves)
