use Rattle.std.proofs.Common.{List, ap, arith, drop, length, length-append, take, ℕ, ◌+◌, ◌++◌, ◌≤◌, ◌∙◌, ◌≡◌}
use Rattle.std.proofs.Math.Seq.{take-append_seam}
use Rattle.h2_frames.specs.Blocks.{block_frames, spellings}
use Rattle.hpack_codec.specs.Encoding.{encode_block}
use Rattle.hpack_codec.specs.Sections.{list_size}
use Rattle.wire_outlet.proofs.HeadSizes.{behind_nine}
use Rattle.wire_outlet.proofs.heads.HeadWriter.one_frame.Goals as goal

pub returns-clause-octets : goal.returns-clause-octets
returns-clause-octets c =
    let framed = λ (block : List ℕ). spellings (block_frames c.args.stream c.args.last block) in
    let fields = c.args.fields.now in
    let before = c.extend_from_slice.new.self.items in
    let vec = c.encode_onto.new.out in
    let new = c.write_head.new.octets in
    let tail = drop (length new) vec.items in
    let zeros : length before ≡ 9 =
    ap length c.in_ok-extend_from_slice.ensures.items ∙ length-append c.in_ok-octets.octets.items _ ∙ ap (λ x. length x + 9) c.in_ok-octets.ensures.items in
    let block : drop 9 vec.items ≡ encode_block c.args.self.now fields =
    behind_nine before _ vec.items zeros c.in_ok-encode_onto.ensures.spelling ∙ ap (λ anew. encode_block anew fields) (c.self.invariant ∙ c.self.view_is) in
    let long : vec.len ≡ length new = omega (arith, c.write_head.ensures.len, c.as_mut_slice.ensures.len) in
    c.from_vec.ensures ∙ ap (λ n. take n (new ++ tail)) long ∙ take-append_seam new tail
    ∙ c.write_head.ensures.frame ∙ ap (λ x. framed (drop 9 x)) c.as_mut_slice.ensures.value ∙ ap framed block

pub write_head-requires : goal.write_head-requires
write_head-requires c =
    let fields = c.args.fields.now in
    let before = c.extend_from_slice.new.self.items in
    let zeros : length before ≡ 9 =
    ap length c.in_ok-extend_from_slice.ensures.items ∙ length-append c.in_ok-octets.octets.items _ ∙ ap (λ x. length x + 9) c.in_ok-octets.ensures.items in
    let most : length (encode_block c.self.inside.encoder fields) ≤ list_size fields + 1 = c.in_ok-encode_onto.ensures.bound in
    let all = ap length c.in_ok-encode_onto.ensures.spelling ∙ length-append before (encode_block c.self.inside.encoder fields) in
    let same = ap length c.as_mut_slice.ensures.value in record {
      on_stream = c.requires.on_stream;
      fits = c.requires.fits;
      head = omega (arith, zeros, all, same);
      few = omega (arith, zeros, all, same, most, c.requires.few);
    }
