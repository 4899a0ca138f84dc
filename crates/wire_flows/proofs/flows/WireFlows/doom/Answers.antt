use Rattle.wire_flows.proofs.Answering.{known_flows, request_left, response_left}
use Rattle.wire_flows.proofs.Doomed.{Gone, gone_of, go_gone, left_gone, live_gone, lows_gone, sound_gone, writes_gone}
use Rattle.wire_flows.proofs.flows.WireFlows.doom.Goals as goal
use Rattle.wire_flows.specs.Flows.{flows_of}

pub doom-requires-clause-known : goal.doom-requires-clause-known
doom-requires-clause-known c = known_flows c.args.exchange (flows_of c.self.inside) c.self.invariant

pub invariant_of-self : goal.invariant_of-self
invariant_of-self c = sound_gone c.args.exchange (flows_of c.self.inside) c.doom.new.self c.doom.new.gates c.self.invariant c.doom.ensures.dooms (gone_of c.args.exchange _ c.self.inside.gates c.doom.new.gates (rw (← c.self.view_is) at c.requires) (c.self.invariant.each c.args.exchange) c.doom.ensures.gates) c.doom.ensures.sound c.doom.ensures.counted

pub returns-clause-request : goal.returns-clause-request
returns-clause-request c = rw (← c.self.view_is) (request_left c.args.exchange c.args.cause c.args.back (flows_of c.self.inside) c.doom.result c.doom.ensures.answer)

pub returns-clause-response : goal.returns-clause-response
returns-clause-response c = rw (← c.self.view_is) (response_left c.args.exchange c.args.cause c.args.back (flows_of c.self.inside) c.doom.result c.doom.ensures.answer)

pub returns-clause-live : goal.returns-clause-live
returns-clause-live c = rw (← c.self.view_is) (live_gone c.args.exchange (flows_of c.self.inside) c.doom.new.self c.doom.new.gates c.self.invariant c.doom.ensures.dooms (gone_of c.args.exchange _ c.self.inside.gates c.doom.new.gates (rw (← c.self.view_is) at c.requires) (c.self.invariant.each c.args.exchange) c.doom.ensures.gates))

pub returns-clause-left : goal.returns-clause-left
returns-clause-left c = rw (← c.self.view_is) (left_gone c.args.exchange (flows_of c.self.inside) c.doom.new.self c.doom.new.gates c.self.invariant c.doom.ensures.dooms (gone_of c.args.exchange _ c.self.inside.gates c.doom.new.gates (rw (← c.self.view_is) at c.requires) (c.self.invariant.each c.args.exchange) c.doom.ensures.gates))

pub returns-clause-time : goal.returns-clause-time
returns-clause-time c = rw (← c.self.view_is) c.doom.ensures.dooms.gone.time

pub returns-clause-writes : goal.returns-clause-writes
returns-clause-writes c = rw (← c.self.view_is) (writes_gone c.args.exchange (flows_of c.self.inside) c.doom.new.self c.doom.new.gates c.self.invariant c.doom.ensures.dooms (gone_of c.args.exchange _ c.self.inside.gates c.doom.new.gates (rw (← c.self.view_is) at c.requires) (c.self.invariant.each c.args.exchange) c.doom.ensures.gates))

pub returns-clause-lows : goal.returns-clause-lows
returns-clause-lows c = rw (← c.self.view_is) (lows_gone c.args.exchange (flows_of c.self.inside) c.doom.new.self c.doom.new.gates c.self.invariant c.doom.ensures.dooms (gone_of c.args.exchange _ c.self.inside.gates c.doom.new.gates (rw (← c.self.view_is) at c.requires) (c.self.invariant.each c.args.exchange) c.doom.ensures.gates))

pub returns-clause-less : goal.returns-clause-less
returns-clause-less c = rw (← c.self.view_is) (go_gone c.args.exchange (flows_of c.self.inside) c.doom.new.self c.doom.new.gates c.self.invariant c.doom.ensures.dooms (gone_of c.args.exchange _ c.self.inside.gates c.doom.new.gates (rw (← c.self.view_is) at c.requires) (c.self.invariant.each c.args.exchange) c.doom.ensures.gates) c.doom.ensures.sound (rw (← c.self.view_is) at c.requires))

pub returns-clause-sound : goal.returns-clause-sound
returns-clause-sound c = sound_gone c.args.exchange (flows_of c.self.inside) c.doom.new.self c.doom.new.gates c.self.invariant c.doom.ensures.dooms (gone_of c.args.exchange _ c.self.inside.gates c.doom.new.gates (rw (← c.self.view_is) at c.requires) (c.self.invariant.each c.args.exchange) c.doom.ensures.gates) c.doom.ensures.sound c.doom.ensures.counted
