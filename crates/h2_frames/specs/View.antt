-- What a borrowed frame is, without where its octets lie in memory.
use Rattle.h2_frames.specs.Frame.{Continuation, DataFrame, Frame, GoAway, Headers, Ping, Priority, Push, Reset, Settings, Unknown, WindowUpdate}
use Rattle.h2_frames.specs.Head.{Head}
use Rattle.h2_frames.specs.declared.types.Frame.{Frame as Borrowed}
use Rattle.h2_frames.specs.declared.types.Frame.TheVariants as borrowed
use Rattle.h2_frames.specs.declared.head.FrameHead.{FrameHead}

abbrev pub view : Borrowed → Frame
view (borrowed.DataFrame stream last padded octets) = DataFrame stream last padded octets.now
view (borrowed.Headers stream last end_headers padded priority block) = Headers stream last end_headers padded priority block.now
view (borrowed.Priority stream priority) = Priority stream priority
view (borrowed.Reset stream code) = Reset stream code
view (borrowed.Settings ack entries) = Settings ack entries.now
view (borrowed.Push stream end_headers padded promised block) = Push stream end_headers padded promised block.now
view (borrowed.Ping ack octets) = Ping ack octets
view (borrowed.GoAway last code debug) = GoAway last code debug.now
view (borrowed.WindowUpdate stream increment) = WindowUpdate stream increment
view (borrowed.Continuation stream end_headers block) = Continuation stream end_headers block.now
view (borrowed.Unknown kind flags stream octets) = Unknown kind flags stream octets.now

abbrev pub head_view : FrameHead → Head
head_view head = record { len = head.len; kind = head.kind; flags = head.flags; stream = head.stream }
