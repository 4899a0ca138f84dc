use Rattle.std.proofs.Common.{List, ap, length, subst, sym, ℕ, ◌∙◌, ◌≡◌, ◌≤◌}
use Rattle.std.proofs.lemmas.Result.{IfOk-weaker}
use Rattle.h2_frames.specs.Blocks.{block_frames, spellings}
use Rattle.hpack_codec.specs.Encoding.{encode_block}
use Rattle.hpack_codec.specs.Sections.{list_size}
use Rattle.wire_outlet.proofs.heads.HeadWriter.frames.Goals as goal
use Rattle.wire_outlet.specs.Heads.{head_most, section_octets}

-- the frames are those of the block, which is the list's
pub returns-then-size-lt-PIECE-clause-bound : goal.returns-then-size-lt-PIECE-clause-bound
returns-then-size-lt-PIECE-clause-bound c =
    let most = head_most (list_size c.args.fields.now) in
    IfOk-weaker c.one_frame.result (λ octets. octets ≡ section_octets c.args.self.now c.args.stream c.args.last c.args.fields.now) (λ octets. length octets ≤ most)
    (λ octets e. subst (λ x. length x ≤ most) (sym e) (c.heads_fit.ensures.most c.args.self.now c.args.last c.args.stream c.args.fields.now))
    c.one_frame.ensures.octets

pub returns-clause-bound : goal.returns-clause-bound
returns-clause-bound c =
    let most = head_most (list_size c.args.fields.now) in
    let framed = λ (block : List ℕ). spellings (block_frames c.args.stream c.args.last block) in
    let block_is : c.as_slice.result.now ≡ encode_block c.args.self.now c.args.fields.now =
    c.as_slice.ensures ∙ c.in_ok-block.ensures.spelling ∙ ap (λ anew. encode_block anew c.args.fields.now) (c.self.invariant ∙ c.self.view_is) in
    IfOk-weaker c.frames_of-framed.result (λ octets. octets ≡ framed c.as_slice.result.now) (λ octets. length octets ≤ most)
    (λ octets e. subst (λ x. length x ≤ most) (sym (e ∙ ap framed block_is)) (c.heads_fit.ensures.most c.args.self.now c.args.last c.args.stream c.args.fields.now))
    c.frames_of-framed.ensures
