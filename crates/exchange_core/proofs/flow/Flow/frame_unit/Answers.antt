use Rattle.exchange_core.proofs.Behind.{framed_last, nothing_behind}
use Rattle.exchange_core.proofs.flow.Flow.frame_unit.Goals as goal
use Rattle.exchange_core.specs.Effects.{body_framed}
use Rattle.exchange_core.specs.Flow.{last_place}
use Rattle.exchange_core.specs.Units.{next_unit}
use Rattle.std.proofs.Common.{ap, arith, sym, true, ◌∙◌, ◌≡◌, ◌≤◌}

pub returns-then-piece-clause-unit : goal.returns-then-piece-clause-unit
returns-then-piece-clause-unit c =
    let is : c.frame_body.new.self ≡ body_framed c.args.piece.n c.args.piece.last c.args.self.now = c.in_ok-shifted.ensures.frames in
    let some : 1 ≤ last_place c.args.self.now =
    omega (arith, c.frame_body.ensures.sound.chain.few, ap last_place is, framed_last c.args.piece.n c.args.piece.last c.args.self.now) in
    let ends : c.frame_body.new.self ≡ body_framed c.args.piece.n true c.args.self.now = is ∙ ap (λ b. body_framed c.args.piece.n b c.args.self.now) c.if-piece.true in
    sym (ap (next_unit c.args.room c.args.frame) ends ∙ nothing_behind c.args.room c.args.frame c.args.piece.n c.args.self.now some c.requires.headed (c.requires.all c.if-piece.true))
