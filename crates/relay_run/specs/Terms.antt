-- What a configuration says of a relay.
use Rattle.proxy_config.specs.declared.config.Config.{Config}
use Rattle.std.specs.Prelude.{ℕ}

-- the limit of each write buffer in octets, 0 for none
abbrev pub limit_of : Config → ℕ
limit_of config = config.limits.write_buffer
