-- Why an exchange was doomed.
use Rattle.std.specs.Prelude.{ℕ, List, [], ◌∷◌, codes}
use Rattle.std.specs.Fmt.{decimal}
use Rattle.flow_notes.specs.Fire.{fire_word}
use Rattle.flow_rules.specs.declared.causes.Cause.{Cause}
use Rattle.flow_rules.specs.declared.causes.Cause.TheVariants.{Done, PeerReset, StreamError, TooLarge, Timeout, Overload, Overflow, ConnLost, EarlyEnd, Posted, Refused}

abbrev pub cause_words : Cause → List (List ℕ)
cause_words Done = codes "done" ∷ []
cause_words (PeerReset code) = codes "peer-reset" ∷ decimal code ∷ []
cause_words (StreamError code) = codes "stream-error" ∷ decimal code ∷ []
cause_words TooLarge = codes "too-large" ∷ []
cause_words (Timeout kind) = codes "timeout" ∷ fire_word kind ∷ []
cause_words Overload = codes "overload" ∷ []
cause_words Overflow = codes "overflow" ∷ []
cause_words (ConnLost conn) = codes "conn-lost" ∷ decimal conn ∷ []
cause_words EarlyEnd = codes "early-end" ∷ []
cause_words (Posted poster number) = codes "posted" ∷ decimal poster ∷ decimal number ∷ []
cause_words (Refused status) = codes "refused" ∷ decimal status ∷ []
