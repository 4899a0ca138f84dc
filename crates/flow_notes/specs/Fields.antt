-- Numbers of mathematics that fit the fields of a machine. Each value of a program does; a law ranges over all of them.
use Rattle.std.specs.Prelude.{ℕ, ◌<◌, ◌^◌}
use Rattle.std.specs.List.{AllByRecursion}
use Rattle.hex.specs.Hex.{IsBytes}
use Rattle.flow_rules.specs.declared.ids.FlowId.{FlowId}
use Rattle.flow_rules.specs.declared.ids.BufferId.{BufferId}
use Rattle.flow_rules.specs.declared.ids.BufferId.TheVariants as buffers
use Rattle.flow_notes.specs.declared.events.Event.{Event}
use Rattle.flow_notes.specs.declared.events.Event.TheVariants as events
use Rattle.flow_notes.specs.declared.events.Job.{Job}
use Rattle.flow_notes.specs.declared.events.Job.TheVariants as jobs
use Rattle.flow_notes.specs.declared.events.PlainEvent.{PlainEvent}
use Rattle.flow_notes.specs.declared.events.PlainEvent.TheVariants as plain
use Rattle.flow_rules.specs.declared.causes.Cause.{Cause}
use Rattle.flow_rules.specs.declared.causes.Cause.TheVariants as causes
use Rattle.flow_notes.specs.declared.notes.Note.{Note}
use Rattle.flow_notes.specs.declared.notes.Note.TheVariants as notes

abbrev pub Fits16 : ℕ → Type 0
Fits16 n = n < 2 ^ 16

abbrev pub Fits32 : ℕ → Type 0
Fits32 n = n < 2 ^ 32

abbrev pub Fits64 : ℕ → Type 0
Fits64 n = n < 2 ^ 64

abbrev pub FitsFlow : FlowId → Type 0
FitsFlow flow = Fits64 flow.exchange

abbrev pub FitsBuffer : BufferId → Type 0
FitsBuffer (buffers.Recv flow) = FitsFlow flow
FitsBuffer (buffers.Stage flow i) = FitsFlow flow × Fits32 i
FitsBuffer (buffers.Send flow) = FitsFlow flow
FitsBuffer (buffers.Write conn) = Fits32 conn

abbrev pub FitsPlain : PlainEvent → Type 0
FitsPlain (plain.Begin stream) = Fits32 stream
FitsPlain (plain.Pair first second) = Fits32 first × Fits32 second
FitsPlain (plain.Body stream octets) = Fits32 stream × IsBytes octets
FitsPlain (plain.Finish stream) = Fits32 stream
FitsPlain (plain.Cut stream) = Fits32 stream
FitsPlain (plain.Room n) = Fits32 n

abbrev pub FitsJob : Job → Type 0
FitsJob jobs.Drain = Unit {0}
FitsJob (jobs.Cancel exchange) = Fits64 exchange
FitsJob jobs.Look = Unit {0}

abbrev pub FitsEvent : Event → Type 0
FitsEvent (events.Accept conn) = Fits32 conn
FitsEvent (events.Join conn cluster) = Fits32 conn × Fits32 cluster
FitsEvent (events.Read conn octets) = Fits32 conn × IsBytes octets
FitsEvent (events.Gone conn) = Fits32 conn
FitsEvent (events.Room conn n) = Fits32 conn × Fits32 n
FitsEvent (events.Tick now) = Fits64 now
FitsEvent (events.Post poster number job) = Fits32 poster × Fits64 number × FitsJob job
FitsEvent (events.Obey version pressures) = Fits64 version × AllByRecursion Fits32 pressures
FitsEvent (events.Plain happens) = FitsPlain happens

abbrev pub FitsCause : Cause → Type 0
FitsCause (causes.PeerReset code) = Fits32 code
FitsCause (causes.StreamError code) = Fits32 code
FitsCause (causes.ConnLost conn) = Fits32 conn
FitsCause (causes.Posted poster number) = Fits32 poster × Fits64 number
FitsCause (causes.Refused status) = Fits16 status
FitsCause _ = Unit {0}

abbrev pub FitsNote : Note → Type 0
FitsNote (notes.Turn number event) = Fits64 number × FitsEvent event
FitsNote (notes.Arrive flow octets) = FitsFlow flow × IsBytes octets
FitsNote (notes.Move flow place n) = FitsFlow flow × Fits32 place × Fits32 n
FitsNote (notes.Frame conn flow n last) = Fits32 conn × FitsFlow flow × Fits32 n
FitsNote (notes.Out conn n) = Fits32 conn × Fits32 n
FitsNote (notes.Pause flow buffer) = FitsFlow flow × FitsBuffer buffer
FitsNote (notes.Resume flow buffer) = FitsFlow flow × FitsBuffer buffer
FitsNote (notes.Credit conn stream n) = Fits32 conn × Fits32 stream × Fits32 n
FitsNote (notes.Head conn stream octets) = Fits32 conn × Fits32 stream × IsBytes octets
FitsNote (notes.Answer conn octets) = Fits32 conn × IsBytes octets
FitsNote (notes.Waste conn stream n) = Fits32 conn × Fits32 stream × Fits32 n
FitsNote (notes.Start exchange conn stream to) = Fits64 exchange × Fits32 conn × Fits32 stream × Fits32 to
FitsNote (notes.Doom exchange cause) = Fits64 exchange × FitsCause cause
FitsNote (notes.Gone exchange) = Fits64 exchange
FitsNote (notes.Close conn code cause) = Fits32 conn × Fits32 code
FitsNote (notes.Fire kind id) = Fits64 id
