use Rattle.std.proofs.Common.{◌≡◌, ◌++◌, flat_map, take}
use Rattle.hpack_codec.specs.Encoding.{encode_field}
use Rattle.hpack_codec.proofs.encoder.Encoder.encode_onto.Given as goal

abbrev pub invariant-loop-place : goal.invariant-loop-place
invariant-loop-place l = l.out.items ≡ l.initial.out.items ++ flat_map encode_field (take l.place l.fields)
