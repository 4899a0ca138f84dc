-- What is seen of the site over sockets.
use Rattle.proxy_sockets.specs.declared.socket_site.SocketSite.{SocketSite}
use Rattle.std.specs.Prelude.{ℕ}

-- whatever its runtime is, with the types of its traits
module _ {R V X Y Z : Type 0} where
  abbrev pub site_faults : SocketSite R V X Y Z → ℕ
  site_faults site = site.faults
