use Rattle.std.proofs.Common.{refl}
use Rattle.h2_heads.proofs.Fronts.{takes_regular}
use Rattle.h2_heads.proofs.front.Front.take_regular.Goals as goal

pub returns-in-Some : goal.returns-in-Some
returns-in-Some c message =
    let told = rw c.in-Some.is at (c.fault_of_regular.ensures message c.args.self.now) in
    (told, tt)

pub returns : goal.returns
returns c message =
    let told = rw c.in_default.is at (c.fault_of_regular.ensures message c.args.self.now) in
    (told, takes_regular c.args.self.now _ c.args.place c.args.field.now c.requires.regular refl refl)
