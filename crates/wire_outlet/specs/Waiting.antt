-- Units that wait to be framed, and what each is once it is framed.
use Rattle.h2_heads.specs.Replies.{status_list}
use Rattle.std.specs.Prelude.{Bool, List, false, true, ℕ, ◌<◌, ◌^◌}
use Rattle.wire_outlet.specs.Heads.{section_octets}
use Rattle.wire_outlet.specs.declared.outlet.Framed.{Framed}
use Rattle.wire_outlet.specs.declared.outlet.Framed.TheVariants as framed
use Rattle.wire_outlet.specs.declared.waiting.Waiting.{Waiting}
use Rattle.wire_outlet.specs.declared.waiting.Waiting.TheVariants.{Answer, Reply}

-- a reply is of a stream (RFC 9113 section 5.1.1)
abbrev pub IsFrameable : Waiting → Type 0
IsFrameable (Answer octets) = Unit {0}
IsFrameable (Reply stream status) = (0 < stream) × (stream < 2 ^ 31)

-- the unit as it is framed, where the encoder begins anew or doesn't: a reply is `:status` alone with END_STREAM
abbrev pub framed_of : Bool → Waiting → Framed
framed_of anew (Answer octets) = framed.Answer octets
framed_of anew (Reply stream status) = framed.Reply stream (section_octets anew stream true (status_list status))

-- whether the encoder still begins anew once the unit is framed
abbrev pub anew_after : Waiting → Bool → Bool
anew_after (Answer octets) anew = anew
anew_after (Reply stream status) anew = false

abbrev pub octets_of : Framed → List ℕ
octets_of (framed.Answer octets) = octets
octets_of (framed.Reply stream octets) = octets
