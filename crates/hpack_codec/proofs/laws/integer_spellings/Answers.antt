use Rattle.std.proofs.Common.{refl, arith}
use Rattle.hpack_codec.specs.Encoding.{integer, varint}
use Rattle.hpack_codec.proofs.Spelt.{spelt}
use Rattle.hpack_codec.proofs.laws.integer_spellings.Goals as goal

pub returns-clause-c_1_1 : goal.returns-clause-c_1_1
unfolding integer varint
returns-clause-c_1_1 c = spelt 5 0 10 _ (omega arith) refl

pub returns-clause-c_1_2 : goal.returns-clause-c_1_2
unfolding integer varint
returns-clause-c_1_2 c = spelt 5 0 1337 _ (omega arith) refl

pub returns-clause-c_1_3 : goal.returns-clause-c_1_3
unfolding integer varint
returns-clause-c_1_3 c = spelt 8 0 42 _ (omega arith) refl

pub returns-clause-below_full : goal.returns-clause-below_full
unfolding integer varint
returns-clause-below_full c = spelt 7 1 126 _ (omega arith) refl

pub returns-clause-full : goal.returns-clause-full
unfolding integer varint
returns-clause-full c = spelt 7 1 127 _ (omega arith) refl

pub returns-clause-one_behind : goal.returns-clause-one_behind
unfolding integer varint
returns-clause-one_behind c = spelt 7 1 254 _ (omega arith) refl

pub returns-clause-two_behind : goal.returns-clause-two_behind
unfolding integer varint
returns-clause-two_behind c = spelt 7 1 255 _ (omega arith) refl

pub returns-clause-greatest : goal.returns-clause-greatest
unfolding integer varint
returns-clause-greatest c = spelt 4 0 4294967295 _ (omega arith) refl
