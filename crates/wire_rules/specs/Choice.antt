-- The connection of a cluster that a request goes to (RFC 9113 section 5.1.2).
use Rattle.proxy_config.specs.declared.config.Config.{Config}
use Rattle.std.specs.Prelude.{Bool, Option, find, length, min, nat_lt, not, ℕ, ◌&&◌}
use Rattle.wire_laws.specs.Draining.{draining}
use Rattle.wire_laws.specs.Marks.{WireHistory}
use Rattle.wire_laws.specs.Peers.{joined}
use Rattle.wire_laws.specs.SendWindows.{concurrent_streams}
use Rattle.wire_laws.specs.Streams.{exchanges_of}

-- it isn't draining, and has fewer exchanges than its peer lets it have, at most 100
abbrev pub has_place : Config → ℕ → WireHistory → Bool
has_place config d past =
    not (draining config d past) && nat_lt (length (exchanges_of d past)) (min 100 (concurrent_streams d past))

-- the earliest that joined of those that have a place
abbrev pub chosen : Config → ℕ → WireHistory → Option ℕ
chosen config cluster past = find (λ d. has_place config d past) (joined cluster past)
