use Rattle.std.proofs.Common.{IfOk, List, OnOk, false, subst, true, ℕ, ◌≡◌}
use Rattle.hpack_codec.specs.declared.fields.Field.{Field}
use Rattle.wire_outlet.proofs.outlet.Outlet.write_reply.Goals as goal
use Rattle.wire_outlet.specs.Heads.{section_octets}
use Rattle.wire_outlet.specs.Outgoing.{Writes}
use Rattle.wm_buffer.specs.declared.watermark.Crossed.{Crossed}

pub returns-clause-octets : goal.returns-clause-octets
returns-clause-octets c =
    let spelled = λ (fields : List Field). IfOk c.frame_block.result (λ (framed : List ℕ × Crossed). framed.0 ≡ section_octets c.args.self.now.anew c.args.stream true fields) in
    subst spelled c.in_ok-fields.ensures.list c.frame_block.ensures.octets

pub returns-clause-writes : goal.returns-clause-writes
returns-clause-writes c =
    let old = c.args.self.now in
    let written = λ (fields : List Field).
    OnOk c.frame_block.result (Writes (section_octets old.anew c.args.stream true fields) old (record old { anew = false }) c.frame_block.new.self) in
    subst written c.in_ok-fields.ensures.list c.frame_block.ensures.writes
