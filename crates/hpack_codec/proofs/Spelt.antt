-- What is written for an integer is read as that integer alone.
use Rattle.std.proofs.Common.{◌≡◌, ℕ, ◌^◌, ◌<◌, ◌∙◌, List, [], Result, Ok, Err, ap, subst}
use Rattle.std.proofs.lemmas.List.{append-nil}
use Rattle.hpack_codec.specs.Encoding.{integer}
use Rattle.hpack_codec.specs.Integers.{IsInteger}
use Rattle.hpack_codec.specs.declared.fault.HpackFault.{HpackFault}
use Rattle.hpack_codec.proofs.OneInteger.{integer_one}
use Rattle.hpack_codec.proofs.Readback.{integer_reads}
use Rattle.hpack_codec.specs.Spelling.{IsSpelling}

abbrev number_of : Result (ℕ × List ℕ) HpackFault → ℕ
number_of (Ok x) = x.0
number_of (Err e) = 0

abbrev rest_of : Result (ℕ × List ℕ) HpackFault → List ℕ
rest_of (Ok x) = x.1
rest_of (Err e) = []

pub spelt : (prefix pattern n : ℕ) (octets : List ℕ) → n < 2 ^ 32 → integer prefix pattern n ≡ octets → IsSpelling prefix pattern n octets
spelt prefix pattern n octets small e =
    let read : IsInteger prefix octets n [] = subst (λ o. IsInteger prefix o n []) (append-nil (integer prefix pattern n) ∙ e) (integer_reads prefix pattern n [] small) in
    record {
      written = e;
      read = read;
      alone = λ m rest h. let same = integer_one prefix octets (Ok (m, rest)) (Ok (n, [])) h read in (ap number_of same, ap rest_of same);
    }
