-- The track at the place changes.
use Rattle.tape_summary.proofs.Placing.{changed, never}
use Rattle.tape_summary.proofs.tracks.Tracks.pause.Goals as goal
use Rattle.tape_summary.specs.Tracking.{PausesTrack}
use Rattle.std.proofs.Common.{arith, refl}
use Rattle.std.proofs.lemmas.Option.{slice_get_read}
use Rattle.std.proofs.lemmas.Result.{IfOk-weaker}

pub returns-then-at-len : goal.returns-then-at-len
returns-then-at-len c = IfOk-weaker c.pause.result _ _
    (λ v k. changed c.args.self.now c.place.new.self _ c.args.spot c.in_ok-at.at c.index_mut.result.now c.pause.new.self (λ a b. PausesTrack a c.args.place b v) c.in_ok-at.ensures
    (slice_get_read c.place.new.self.tracks.items c.place.new.self.tracks.len c.in_ok-at.at c.index_mut.result.now c.place.new.self.tracks.ok.0 (omega (arith, c.len.ensures, c.if-at-len.true)) c.index_mut.ensures.value)
    refl refl refl k)
    c.pause.ensures

pub returns-else-at-len : goal.returns-else-at-len
returns-else-at-len c = never c.args.self.now c.place.new.self _ c.args.spot c.in_ok-at.at _ c.in_ok-at.ensures (omega (arith, c.len.ensures, c.place.new.self.tracks.ok.0, c.if-at-len.false))
