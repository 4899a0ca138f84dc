-- More is held, or the session has ended, or the source failed.
use Rattle.std.proofs.Common.{◌≡◌, arith, refl}
use Rattle.session_run.proofs.Running.{read_ended, read_failed, read_on}
use Rattle.session_run.proofs.run.Run.refill.Goals as goal

pub returns-in-Ok-2-clause-refills : goal.returns-in-Ok-2-clause-refills
returns-in-Ok-2-clause-refills g c =
    let none : c.in-Ok.n ≡ 0 = omega (arith, c.if-n-gt0.false) in
    read_ended c.args.self.now _ _ _ _ c.fill.ensures.fills (omega (arith, c.in-Ok.ensures.count, none)) (c.in-Ok.ensures.end none) refl refl refl refl c.requires.whole c.requires.short c.at_end.ensures

pub returns-in-Ok-clause-refills : goal.returns-in-Ok-clause-refills
returns-in-Ok-clause-refills g c = read_on c.args.self.now _ _ _ c.fill.ensures.fills refl refl refl refl

pub returns-in-Err-clause-refills : goal.returns-in-Err-clause-refills
returns-in-Err-clause-refills g c = read_failed c.args.self.now _ _ _ c.fill.ensures.fills c.in-Err.ensures.err refl refl refl refl c.requires.whole c.requires.short
