use Rattle.overload_core.proofs.Turning.{is_class}
use Rattle.overload_core.proofs.classes.class_has_number.Goals as goal

pub returns : goal.returns
returns c = is_class
