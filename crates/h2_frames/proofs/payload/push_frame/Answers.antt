use Rattle.std.proofs.Common.{Bool, refl, subst, sym}
use Rattle.h2_frames.specs.Head.{tells_padding, word}
use Rattle.h2_frames.specs.Payload.{IsPadded}
use Rattle.h2_frames.specs.View.{head_view}
use Rattle.h2_frames.proofs.payload.push_frame.Goals as goal

pub returns : goal.returns
returns c =
    let content = c.in_ok-padded.content.now in
    let promised = c.word_at-promised.ensures in
    let bit = c.word_at-promised.result.0 in
    let number = c.word_at-promised.result.1 in
    let padded : IsPadded (tells_padding (head_view c.args.head)) c.args.payload.now c.in_ok-padded.padded content =
    subst (λ (b : Bool). IsPadded b c.args.payload.now c.in_ok-padded.padded content) c.has.ensures c.in_ok-padded.ensures.0 in (
      c.requires.kind,
      c.requires.stream,
      refl,
      sym c.has-2.ensures,
      (content, word bit number, padded, promised.octets, (bit, refl, promised.number)),
    )
