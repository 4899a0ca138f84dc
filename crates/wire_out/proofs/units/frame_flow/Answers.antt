use Rattle.std.proofs.Common.{sym, ◌∙◌}
use Rattle.wire_out.proofs.Framing.{live_there}
use Rattle.wire_out.proofs.units.frame_flow.Goals as goal

pub frame_body_first-requires-clause-there : goal.frame_body_first-requires-clause-there
frame_body_first-requires-clause-there c =
    live_there c.args.core.now.flows c.in-Some.going.course.flow c.are_sound.ensures (sym (c.requires.sound.live c.in-Some.going.course.flow.exchange) ∙ c.in-Some.ensures.linked)
