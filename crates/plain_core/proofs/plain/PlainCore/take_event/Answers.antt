-- The event's own function takes it.
use Rattle.flow_notes.specs.declared.events.PlainEvent.TheVariants as plain
use Rattle.std.proofs.Common.{rules}
use Rattle.plain_core.proofs.EventNames.{cut_named, opens_named, plain_alone, plain_is, take_named}
use Rattle.plain_core.proofs.plain.PlainCore.take_event.Goals as goal

pub begin-requires : goal.begin-requires
begin-requires c =
    take_named c.args.self.now c.args.notes.now _ c.args.event.now
    (plain_is c.args.event.now c.in-Plain-Begin.field-0 (plain.Begin c.in-Plain-Begin.stream) c.in-Plain-Begin.is (rw c.in-Plain-Begin.is at c.in-Plain-Begin.field-0-is)) c.requires

pub returns-in-Plain-Begin : goal.returns-in-Plain-Begin
returns-in-Plain-Begin c =
    let r = plain_is c.args.event.now c.in-Plain-Begin.field-0 (plain.Begin c.in-Plain-Begin.stream) c.in-Plain-Begin.is (rw c.in-Plain-Begin.is at c.in-Plain-Begin.field-0-is) in
    record {
      ok = opens_named c.args.self.now c.begin.new.self c.args.notes.now c.begin.new.notes _ c.args.event.now c.begin.result r c.begin.ensures.ok;
      cut = cut_named c.args.self.now c.args.notes.now c.begin.new.notes _ c.args.event.now r c.begin.ensures.cut;
    }

pub pair-requires : goal.pair-requires
pair-requires c =
    take_named c.args.self.now c.args.notes.now _ c.args.event.now
    (plain_is c.args.event.now c.in-Plain-Pair.field-0 (plain.Pair c.in-Plain-Pair.first c.in-Plain-Pair.second) c.in-Plain-Pair.is (rw c.in-Plain-Pair.is at c.in-Plain-Pair.field-0-is)) c.requires

pub returns-in-Plain-Pair : goal.returns-in-Plain-Pair
returns-in-Plain-Pair c =
    let r = plain_is c.args.event.now c.in-Plain-Pair.field-0 (plain.Pair c.in-Plain-Pair.first c.in-Plain-Pair.second) c.in-Plain-Pair.is (rw c.in-Plain-Pair.is at c.in-Plain-Pair.field-0-is) in
    record {
      ok = opens_named c.args.self.now c.pair.new.self c.args.notes.now c.pair.new.notes _ c.args.event.now c.pair.result r c.pair.ensures.ok;
      cut = cut_named c.args.self.now c.args.notes.now c.pair.new.notes _ c.args.event.now r c.pair.ensures.cut;
    }

pub body-requires : goal.body-requires
body-requires c =
    take_named c.args.self.now c.args.notes.now _ c.args.event.now
    (plain_is c.args.event.now c.in-Plain-Body.field-0 (plain.Body c.in-Plain-Body.stream c.in-Plain-Body.octets) c.in-Plain-Body.is (rw c.in-Plain-Body.is at c.in-Plain-Body.field-0-is)) c.requires

pub returns-in-Plain-Body : goal.returns-in-Plain-Body
returns-in-Plain-Body c =
    let r = plain_is c.args.event.now c.in-Plain-Body.field-0 (plain.Body c.in-Plain-Body.stream c.in-Plain-Body.octets) c.in-Plain-Body.is (rw c.in-Plain-Body.is at c.in-Plain-Body.field-0-is) in
    record {
      ok = opens_named c.args.self.now c.body.new.self c.args.notes.now c.body.new.notes _ c.args.event.now c.body.result r c.body.ensures.ok;
      cut = cut_named c.args.self.now c.args.notes.now c.body.new.notes _ c.args.event.now r c.body.ensures.cut;
    }

pub finish-requires : goal.finish-requires
finish-requires c =
    take_named c.args.self.now c.args.notes.now _ c.args.event.now
    (plain_is c.args.event.now c.in-Plain-Finish.field-0 (plain.Finish c.in-Plain-Finish.stream) c.in-Plain-Finish.is (rw c.in-Plain-Finish.is at c.in-Plain-Finish.field-0-is)) c.requires

pub returns-in-Plain-Finish : goal.returns-in-Plain-Finish
returns-in-Plain-Finish c =
    let r = plain_is c.args.event.now c.in-Plain-Finish.field-0 (plain.Finish c.in-Plain-Finish.stream) c.in-Plain-Finish.is (rw c.in-Plain-Finish.is at c.in-Plain-Finish.field-0-is) in
    record {
      ok = opens_named c.args.self.now c.finish.new.self c.args.notes.now c.finish.new.notes _ c.args.event.now c.finish.result r c.finish.ensures.ok;
      cut = cut_named c.args.self.now c.args.notes.now c.finish.new.notes _ c.args.event.now r c.finish.ensures.cut;
    }

pub cut-requires : goal.cut-requires
cut-requires c =
    take_named c.args.self.now c.args.notes.now _ c.args.event.now
    (plain_is c.args.event.now c.in-Plain-Cut.field-0 (plain.Cut c.in-Plain-Cut.stream) c.in-Plain-Cut.is (rw c.in-Plain-Cut.is at c.in-Plain-Cut.field-0-is)) c.requires

pub returns-in-Plain-Cut : goal.returns-in-Plain-Cut
returns-in-Plain-Cut c =
    let r = plain_is c.args.event.now c.in-Plain-Cut.field-0 (plain.Cut c.in-Plain-Cut.stream) c.in-Plain-Cut.is (rw c.in-Plain-Cut.is at c.in-Plain-Cut.field-0-is) in
    record {
      ok = opens_named c.args.self.now c.cut.new.self c.args.notes.now c.cut.new.notes _ c.args.event.now c.cut.result r c.cut.ensures.ok;
      cut = cut_named c.args.self.now c.args.notes.now c.cut.new.notes _ c.args.event.now r c.cut.ensures.cut;
    }

pub room-requires : goal.room-requires
room-requires c =
    take_named c.args.self.now c.args.notes.now _ c.args.event.now
    (plain_is c.args.event.now c.in-Plain-Room.field-0 (plain.Room c.in-Plain-Room.n) c.in-Plain-Room.is (rw c.in-Plain-Room.is at c.in-Plain-Room.field-0-is)) c.requires

pub returns-in-Plain-Room : goal.returns-in-Plain-Room
returns-in-Plain-Room c =
    let r = plain_is c.args.event.now c.in-Plain-Room.field-0 (plain.Room c.in-Plain-Room.n) c.in-Plain-Room.is (rw c.in-Plain-Room.is at c.in-Plain-Room.field-0-is) in
    record {
      ok = opens_named c.args.self.now c.room.new.self c.args.notes.now c.room.new.notes _ c.args.event.now c.room.result r c.room.ensures.ok;
      cut = cut_named c.args.self.now c.args.notes.now c.room.new.notes _ c.args.event.now r c.room.ensures.cut;
    }

pub unreachable-requires : goal.unreachable-requires
unreachable-requires c = plain_alone c.args.self.now c.args.event.now c.args.notes.now c.requires (search rules)
