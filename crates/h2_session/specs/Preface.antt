-- The client connection preface (RFC 9113 section 3.4).
use Rattle.h2_session.specs.declared.preface.Prefaced.{Prefaced}
use Rattle.h2_session.specs.declared.preface.Prefaced.TheVariants.{Bad, Done, Need}
use Rattle.std.specs.Prelude.{List, codes, length, slice_index, take, ℕ, ◌++◌, ◌<◌, ◌≡◌, ◌≢◌}

abbrev pub preface : List ℕ
preface = codes "PRI * HTTP/2.0\r\n\r\nSM\r\n\r\n"

-- the octets begin with the preface, are a proper front of it, or differ from it at some octet
abbrev pub Begins : List ℕ → Prefaced → Type 0
Begins input Done = (rest : List ℕ) × (input ≡ preface ++ rest)
Begins input Need = (length input < 24) × (input ≡ take (length input) preface)
Begins input Bad = (k : ℕ) × (k < length input) × (k < 24) × (take k input ≡ take k preface) × (slice_index input k ≢ slice_index preface k)
