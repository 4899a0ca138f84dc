-- It stands behind the others.
use Rattle.std.proofs.Common.{refl}
use Rattle.tape_plot.proofs.Drawing.{push_grows, push_has}
use Rattle.tape_plot.proofs.draw.sheet.Sheet.push.Goals as goal

pub returns-clause-grows : goal.returns-clause-grows
returns-clause-grows c = push_grows c.args.self.now _ c.args.piece refl c.in_ok-push.ensures.items

pub returns-clause-put : goal.returns-clause-put
returns-clause-put c = push_has c.args.self.now.pieces.items _ c.args.piece c.in_ok-push.ensures.items
