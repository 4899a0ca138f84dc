use Rattle.std.proofs.Common.{sym, ◌∙◌}
use Rattle.wire_out.proofs.Framing.{live_there}
use Rattle.wire_out.proofs.passes.frame_moved.Goals as goal

pub frame_octets-requires-clause-there : goal.frame_octets-requires-clause-there
frame_octets-requires-clause-there c =
    live_there c.args.core.now.flows c.in-Some.going.course.flow c.are_sound.ensures (sym (c.requires.sound.live c.in-Some.going.course.flow.exchange) ∙ c.in-Some.ensures.linked)
