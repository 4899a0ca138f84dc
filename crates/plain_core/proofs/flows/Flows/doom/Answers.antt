use Rattle.plain_core.proofs.FlowDooms.{dooms, doom_known, doom_less}
use Rattle.plain_core.proofs.flows.Flows.doom.Goals as goal

pub doom-replies-requires-clause-known : goal.doom-replies-requires-clause-known
doom-replies-requires-clause-known c = doom_known c.args.exchange c.args.self.now c.requires.settled c.requires.live

pub returns-clause-dooms : goal.returns-clause-dooms
returns-clause-dooms c = rw c.unhold.ensures.rest (dooms c.args.exchange c.args.cause c.args.self.now c.doom-replies.new.self c.doom-replies.new.gates c.unready.new.self c.unhold.new.self.holding c.doom-replies.ensures.dooms c.doom-replies.ensures.sound
    c.doom-replies.ensures.gates c.doom-replies.ensures.counted c.unready.ensures.ready c.unready.ensures.write c.unready.ensures.framed_last c.unhold.ensures.holding)

pub returns-clause-less : goal.returns-clause-less
returns-clause-less c =
    rw c.unhold.ensures.rest (doom_less c.args.exchange c.args.self.now c.doom-replies.new.self c.doom-replies.new.gates c.unready.new.self c.unhold.new.self.holding
    c.requires.settled.settled.stands.exchanges.sound c.doom-replies.ensures.dooms c.doom-replies.ensures.sound c.requires.settled c.requires.live c.doom-replies.ensures.gates)
