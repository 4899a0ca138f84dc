-- Two digits more, and one octet.
use Rattle.std.proofs.Common.{◌+◌, ◌*◌, ◌<◌, length, refl, arith, length-set}
use Rattle.flow_notes.proofs.Hex.{encode_lower-none}
use Rattle.flow_notes.proofs.Octets.{step_digits, step_text, bytes_kept}
use Rattle.flow_notes.proofs.reading.octets.decode.Goals as goal

pub octets-init : goal.octets-init
octets-init c = record {
  len = refl;
  bytes = λ i. omega (arith, c.type_inv.into i);
  digits = refl;
  text = λ is. encode_lower-none;
}

pub octets-preserved : goal.octets-preserved
octets-preserved c =
    let word = c.args.word.now in
    let i = c.octets.i in
    let kept = c.octets.invariant in
    let within : i < length c.octets.into = omega (arith, kept.len) in
    let long : 2 * i + 1 < length word = omega (arith, kept.len) in
    record {
      len = omega (arith, kept.len, length-set c.octets.into i c.octet.result);
      bytes = bytes_kept c.octets.into i c.octet.result kept.bytes (omega arith);
      digits = step_digits word i c.octets.digits c.is_digit.result c.is_digit-in-octets.result long kept.digits c.is_digit.ensures c.is_digit-in-octets.ensures;
      text = step_text word c.octets.into i c.octet.result c.octets.digits c.is_digit.result c.is_digit-in-octets.result long within kept.text c.is_digit.ensures c.is_digit-in-octets.ensures c.octet.ensures;
    }
