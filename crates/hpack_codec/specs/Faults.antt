-- What a fault says.
use Rattle.std.specs.Prelude.{◌≡◌, ◌⊎◌}
use Rattle.hpack_codec.specs.declared.fault.HpackFault.{HpackFault}
use Rattle.hpack_codec.specs.declared.fault.HpackFault.TheVariants.{NoMemory}

-- it ran out of memory, or this holds
abbrev pub OrNoMemory : HpackFault → Type 0 → Type 0
OrNoMemory fault P = (fault ≡ NoMemory) ⊎ P
