use Rattle.std.proofs.Common.{take, ◌+◌}
use Rattle.h2_frames.specs.View.{head_view, view}
use Rattle.h2_frames.proofs.Readable.{padding, writable}
use Rattle.h2_frames.proofs.Shown.{fault_no_frame, frame_by_payload, shown_by_payload}
use Rattle.h2_frames.proofs.reading.read_frame.Goals as goal

pub returns-in-Ok-clause-reads : goal.returns-in-Ok-clause-reads
returns-in-Ok-clause-reads c =
    frame_by_payload c.args.max c.args.input.now (head_view c.in-Whole.head) c.in-Whole.payload.now (view c.in-Ok.frame) c.in-Whole.ensures.reads c.in-Ok.ensures

pub returns-in-Err-clause-reads : goal.returns-in-Err-clause-reads
returns-in-Err-clause-reads c =
    let max = c.args.max in
    let input = c.args.input.now in
    let shown = shown_by_payload max input (head_view c.in-Whole.head) c.in-Whole.payload.now c.in-Err.fault c.in-Whole.ensures.reads c.in-Err.ensures in
    (fault_no_frame max input c.in-Err.fault shown, shown)

pub returns-in-Ok-clause-writable : goal.returns-in-Ok-clause-writable
returns-in-Ok-clause-writable c =
    let spelled = (returns-in-Ok-clause-reads c).1 in
    let input = take (c.in-Whole.head.len + 9) c.args.input.now in
    (writable c.args.max input (view c.in-Ok.frame) spelled, padding c.args.max input (view c.in-Ok.frame) spelled)
