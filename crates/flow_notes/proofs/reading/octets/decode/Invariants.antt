-- The octets so far are those of the digits so far, if these are digits.
use Rattle.std.proofs.Common.{◌≡◌, ◌*◌, true, length, take}
use Rattle.std.specs.List.{list_all}
use Rattle.hex.specs.Hex.{IsBytes, encode_lower}
use Rattle.flow_notes.specs.Digits.{is_digit}
use Rattle.flow_notes.proofs.reading.octets.decode.Given as goal

abbrev pub invariant-octets : goal.invariant-octets
invariant-octets l = record {
  len : length l.into ≡ length l.fn.into;
  bytes : IsBytes l.into;
  digits : l.digits ≡ list_all is_digit (take (2 * l.i) l.word);
  text : l.digits ≡ true → encode_lower (take l.i l.into) ≡ take (2 * l.i) l.word;
}
