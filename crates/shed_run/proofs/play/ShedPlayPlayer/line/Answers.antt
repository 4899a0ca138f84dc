-- By what the line was read as.
use Rattle.shed_run.proofs.Lining.{can_take, header_played, line_taken, none_played}
use Rattle.shed_run.proofs.play.ShedPlayPlayer.line.Goals as goal
use Rattle.std.proofs.Common.{refl}
use Rattle.wire_run.proofs.Playing.{read_as}

pub take-requires : goal.take-requires
take-requires c = λ own. can_take c.args.self.now _ c.args.line.now c.in-Event.event (read_as _ _ _ _ _ c.in-Event.is c.in_ok-read.ensures.read) own c.in_ok-read.ensures.rests refl refl c.requires

pub returns-in-Header : goal.returns-in-Header
returns-in-Header c = header_played c.args.self.now _ c.in_ok-read.ensures.rests refl refl c.args.line.now _ _ (read_as _ _ _ _ _ c.in-Header.is c.in_ok-read.ensures.read) refl

pub returns-in-Limits : goal.returns-in-Limits
returns-in-Limits c = none_played c.args.self.now _ c.args.line.now _ _ _ _ c.in-Limits.is c.in_ok-read.ensures.read refl

pub returns-in-Event : goal.returns-in-Event
returns-in-Event c =
    line_taken c.args.self.now _ c.args.line.now c.in-Event.event c.take.new.self _ _ c.take.result (read_as _ _ _ _ _ c.in-Event.is c.in_ok-read.ensures.read) c.in_ok-read.ensures.rests refl refl c.take.ensures
