-- The worker of the next parts stands last, and where the head of its journal couldn't be written its journal has failed.
use Rattle.proxy_wire.proofs.Pooling.{joined_next, last_failed}
use Rattle.proxy_wire.proofs.Running.{rose_some}
use Rattle.session_run.specs.Ends.{AppendsFront}
use Rattle.std.proofs.Common.{inr, refl}
use Rattle.std.specs.Io.KnownBytes.{Appends}
use Rattle.proxy_wire.proofs.hiring.enlist.Goals as goal

pub returns-in-Ok-clause-joins : goal.returns-in-Ok-clause-joins
returns-in-Ok-clause-joins g c parts is =
    joined_next _ Appends c.args.next.now c.take_next-parts.result parts c.args.wires c.args.clock c.args.journal c.begin_journal-head.new.journal c.args.pool.now.workers.items c.push_reserved.new.self.items _ is c.take_next-parts.ensures c.requires.next c.push_reserved.ensures.items
    refl refl refl refl refl refl c.new.ensures c.in-Ok.ensures.ok c.in-Ok.ensures.told

pub returns-in-Ok-clause-front : goal.returns-in-Ok-clause-front
returns-in-Ok-clause-front g c parts is =
    joined_next _ AppendsFront c.args.next.now c.take_next-parts.result parts c.args.wires c.args.clock c.args.journal c.begin_journal-head.new.journal c.args.pool.now.workers.items c.push_reserved.new.self.items _ is c.take_next-parts.ensures c.requires.next c.push_reserved.ensures.items
    refl refl refl refl refl refl c.new.ensures c.in-Ok.ensures.front c.in-Ok.ensures.told

pub returns-in-Err-clause-front : goal.returns-in-Err-clause-front
returns-in-Err-clause-front g c parts is =
    joined_next _ AppendsFront c.args.next.now c.take_next-parts.result parts c.args.wires c.args.clock c.args.journal c.begin_journal-head.new.journal c.args.pool.now.workers.items c.push_reserved.new.self.items _ is c.take_next-parts.ensures c.requires.next c.push_reserved.ensures.items
    refl refl refl refl refl refl c.new.ensures c.in-Err.ensures.front c.in-Err.ensures.told

pub returns-in-Err-clause-failed : goal.returns-in-Err-clause-failed
returns-in-Err-clause-failed g c = (refl, last_failed _ c.args.pool.now.workers.items _ _ c.push_reserved.ensures.items (inr (rose_some _ _ c.in-Err.ensures.cause)))
