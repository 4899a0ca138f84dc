-- The status of each reason for which the proxy ends.
use Rattle.proxy_site.specs.Relaying.{ended_status}
use Rattle.proxy_site.specs.declared.reason.ServeReason.{ServeReason}
use Rattle.session_run.specs.declared.status.Status.{Status}
use Rattle.proxy_site.specs.declared.reason.ServeReason.TheVariants as reason
use Rattle.session_run.specs.declared.status.Status.TheVariants as status

abbrev pub reason_status : ServeReason → Status
reason_status reason.Words = status.Usage
reason_status (reason.Config fault) = status.Config
reason_status reason.LongConfig = status.TooLong
reason_status reason.ConfigRead = status.ReadFault
reason_status reason.Listen = status.WriteFault
reason_status reason.Fit = status.WriteFault
reason_status reason.Write = status.WriteFault
reason_status reason.JournalHead = status.WriteFault
reason_status (reason.Relay end) = ended_status end
reason_status reason.Memory = status.Memory
