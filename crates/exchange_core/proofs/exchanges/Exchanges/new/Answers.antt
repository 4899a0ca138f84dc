use Rattle.exchange_core.proofs.Keeping.{nothing_kept}
use Rattle.exchange_core.proofs.Seeing.{seen_sound}
use Rattle.exchange_core.proofs.exchanges.Exchanges.new.Goals as goal
use Rattle.std.proofs.Common.{arith}

pub invariant_of-result : goal.invariant_of-result
invariant_of-result c = nothing_kept _ c.new.ensures.empty c.new-2.ensures.items c.new-3.ensures c.new.ensures.ordered (omega arith) c.new-2.ensures.len

pub returns-clause-live : goal.returns-clause-live
returns-clause-live c = cc

pub returns-clause-sound : goal.returns-clause-sound
returns-clause-sound c = seen_sound (record { alloc = c.args.alloc; live = c.new.result; doomed = c.new-2.result; metered = c.new-3.result; spares = c.new-4.result; last = 0; ticked = 0; time = 0 }) (nothing_kept (record { alloc = c.args.alloc; live = c.new.result; doomed = c.new-2.result; metered = c.new-3.result; spares = c.new-4.result; last = 0; ticked = 0; time = 0 }) c.new.ensures.empty c.new-2.ensures.items c.new-3.ensures c.new.ensures.ordered (omega arith) c.new-2.ensures.len)
