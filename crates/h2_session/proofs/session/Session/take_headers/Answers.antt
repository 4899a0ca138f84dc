use Rattle.std.proofs.Common.{Bool, List, ℕ, ap, subst, sym}
use Rattle.h2_frames.specs.Frame.{Headers}
use Rattle.h2_session.specs.Summary.{EndsBlock, Summary}
use Rattle.h2_session.specs.contracts.session.Session.{the_view}
use Rattle.h2_session.proofs.Frames.{TakesFrom}
use Rattle.h2_session.proofs.Heads.{emptied, headers_end_takes}
use Rattle.h2_session.proofs.session.Session.take_headers.Goals as goal

pub returns-clause-takes : goal.returns-clause-takes
returns-clause-takes c = λ padded priority.
    let s = c.args.stream in
    let u : Summary = c.end_block.new.self in
    let w : Summary = emptied (the_view c.self-2.inside) in
    let block : EndsBlock (record { stream = s; last = c.args.last; octets = c.in_ok-octets.octets; frames = 1 }) c.args.self.now u c.end_block.new.into = c.in_ok-end_block.ensures.ends in
    let ends = subst (λ (o : List ℕ). EndsBlock (record { stream = s; last = c.args.last; octets = o; frames = 1 }) c.args.self.now u c.end_block.new.into) c.in_ok-octets.ensures block in
    let whole = headers_end_takes c.args.self.now u w s c.args.last padded priority c.args.block.now c.end_block.new.into ends (ap emptied c.self-2.view_is) in
    subst (λ (e : Bool). TakesFrom (Headers s c.args.last e padded priority c.args.block.now) w c.end_block.new.into c.args.self.now) (sym c.if-not-end_headers.false) whole
