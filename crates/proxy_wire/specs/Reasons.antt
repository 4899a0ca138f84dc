-- The status of each reason for which the proxy ends.
use Rattle.proxy_site.specs.Reasons.{reason_status}
use Rattle.proxy_wire.specs.Serving.{wire_status}
use Rattle.proxy_wire.specs.declared.serve.ProxyReason.{ProxyReason}
use Rattle.session_run.specs.declared.status.Status.{Status}
use Rattle.proxy_wire.specs.declared.serve.ProxyReason.TheVariants as reason

abbrev pub proxy_status : ProxyReason → Status
proxy_status (reason.Relay why) = reason_status why
proxy_status (reason.Wire end) = wire_status end
