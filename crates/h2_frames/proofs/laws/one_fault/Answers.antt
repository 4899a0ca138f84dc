use Rattle.h2_frames.proofs.Shown.{fault_no_frame, fault_once, fault_stays}
use Rattle.h2_frames.proofs.laws.one_fault.Goals as goal

pub returns-clause-one : goal.returns-clause-one
returns-clause-one c = fault_once

pub returns-clause-stays : goal.returns-clause-stays
returns-clause-stays c = fault_stays

pub returns-clause-no_frame : goal.returns-clause-no_frame
returns-clause-no_frame c = fault_no_frame
