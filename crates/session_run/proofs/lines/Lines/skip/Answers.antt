-- The octets that are skipped stand at the front.
use Rattle.std.proofs.Common.{◌-◌, arith, drop, length-take}
use Rattle.session_run.proofs.Holding.{skipped}
use Rattle.session_run.proofs.lines.Lines.skip.Goals as goal

pub returns : goal.returns
returns c =
    let l = c.args.self.now in
    skipped c.args.n l.start l.end l.octets.items (omega (arith, c.requires, length-take (l.end - l.start) (drop l.start l.octets.items)))
