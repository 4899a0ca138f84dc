use Rattle.overload_core.proofs.OneClass.{one_class}
use Rattle.overload_core.proofs.classes.one_class.Goals as goal

pub returns : goal.returns
returns c = one_class
