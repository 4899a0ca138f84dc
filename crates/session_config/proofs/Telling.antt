-- The line of a refusal is written piece by piece.
use Rattle.flow_notes.specs.Line.{newline}
use Rattle.io_ports.specs.declared.octets.NoMemory.{NoMemory}
use Rattle.config_tables.specs.declared.fault.ConfigFault.{ConfigFault}
use Rattle.session_config.specs.Refusals.{fault_number, key_text, refusal_line}
use Rattle.std.proofs.Common.{ap, append_assoc, ◌∙◌}
use Rattle.std.specs.Fmt.{decimal}
use Rattle.std.specs.Prelude.{Err, List, Ok, OnOk, Result, codes, ℕ, ◌++◌, ◌≡◌}

joined : (old a b c d e : List ℕ) → ((((old ++ a) ++ b) ++ c) ++ d) ++ e ≡ old ++ (a ++ (b ++ (c ++ (d ++ e))))
joined old a b c d e =
    append_assoc (((old ++ a) ++ b) ++ c) d e ∙ append_assoc ((old ++ a) ++ b) c (d ++ e) ∙ append_assoc (old ++ a) b (c ++ (d ++ e)) ∙ append_assoc old a (b ++ (c ++ (d ++ e)))

pub line_told : (r : Result (Unit {0}) NoMemory) (why : ConfigFault) (n : ℕ) (old one two three four new digits : List ℕ) → one ≡ old ++ codes "refused config " → two ≡ one ++ digits → digits ≡ decimal n → n ≡ fault_number why
    → three ≡ two ++ codes " " → four ≡ three ++ key_text why → OnOk r (new ≡ four ++ newline) → OnOk r (new ≡ old ++ refusal_line why)
line_told (Ok x) why n old one two three four new digits a b spelled number c d e =
    let words : List ℕ = codes "refused config " in
    let blank : List ℕ = codes " " in
    let numbered : two ≡ one ++ decimal (fault_number why) = b ∙ ap (λ (v : List ℕ). one ++ v) (spelled ∙ ap decimal number) in
    let two_is : two ≡ (old ++ words) ++ decimal (fault_number why) = numbered ∙ ap (λ (v : List ℕ). v ++ decimal (fault_number why)) a in
    let four_is : four ≡ (((old ++ words) ++ decimal (fault_number why)) ++ blank) ++ key_text why = d ∙ ap (λ (v : List ℕ). v ++ key_text why) (c ∙ ap (λ (v : List ℕ). v ++ blank) two_is) in
    e ∙ ap (λ (v : List ℕ). v ++ newline) four_is ∙ joined old words (decimal (fault_number why)) blank (key_text why) newline
line_told (Err x) why n old one two three four new digits a b spelled number c d e = tt
