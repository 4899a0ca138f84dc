-- What the workers of the proxy did.
use Rattle.flow_notes.specs.declared.notes.Note.{Note}
use Rattle.proxy_config.specs.declared.config.Config.{Config}
use Rattle.session_config.specs.ClusterNames.{names_in}
use Rattle.session_run.specs.declared.status.Status.{Status}
use Rattle.std.specs.Io.KnownBytes.{Appends}
use Rattle.std.specs.List.{list_any}
use Rattle.std.specs.Prelude.{Bool, List, Option, [], false, if◌then◌else◌, length, slice_index_or, true, ℕ, ◌<◌, ◌≡◌, ◌⊎◌}
use Rattle.worker_core.specs.Sessions.{IsNew, RestsWire}
use Rattle.worker_loop.specs.Parts.{GoesOnIn, Hands}
use Rattle.worker_loop.specs.declared.turns.Ended.{Ended}
use Rattle.worker_parts.specs.Journals.{header}
use Rattle.worker_ports.specs.declared.ports.OpenGate.{OpenGate}
use Rattle.worker_threads.specs.Starting.{Outside, Worked}
use Rattle.worker_threads.specs.declared.worker.Shared.{Shared}
use Rattle.worker_threads.specs.declared.worker.Worker.{Worker}
use Rattle.session_run.specs.declared.status.Status.TheVariants as status
use Rattle.worker_loop.specs.declared.turns.Ended.TheVariants as ended

abbrev pub is_fault : Ended → Bool
is_fault ended.WiresFault = true
is_fault ended.JournalFault = true
is_fault other = false

abbrev pub is_memory : Ended → Bool
is_memory ended.Memory = true
is_memory other = false

abbrev pub is_stopped : Ended → Bool
is_stopped ended.Stopped = true
is_stopped other = false

-- a fault of one counts before memory that ran out
abbrev pub ends_status : List Ended → Status
ends_status ends = if list_any is_fault ends then status.WriteFault else if list_any is_memory ends then status.Memory else status.Done

-- where one had no thread, that counts as out of memory once one was stopped by it
abbrev pub threads_status : List Ended → Status
threads_status ends = if list_any is_fault ends then status.WriteFault else if list_any is_stopped ends then status.Memory else ends_status ends

-- it is the status of the ends, or that of a round of the site that failed, or where one was stopped that of threads that couldn't be had
abbrev pub EndsSo : Status → List Ended → Type 0
EndsSo how ends = (how ≡ ends_status ends) ⊎ ((how ≡ status.WriteFault) ⊎ ((how ≡ status.Memory) × (list_any is_stopped ends ≡ true)))

-- W is what a site gives, and M how a worker has it
module _ {W M C L : Type 0} (bare : M → W) (o : Outside M C L) where
  -- it works over what the site gave it, with a core that rests, once the head of its journal is written as Writes says
  pub record Begins (Writes : Option (List ℕ) → Option (List ℕ) → List ℕ → Type 0) (given : W × (C × L)) (w : Worker M C OpenGate L) : Type 0 where
    pub wires : bare w.wires ≡ given.0
    pub clock : w.clock ≡ given.1.0
    pub head : Writes (o.text given.1.1) (o.text w.journal) header
    pub told : o.told w.journal ≡ o.told given.1.1
    pub core : RestsWire w.core.kind
    pub none : w.held ≡ []

  -- It did one work with a new core of the configuration, and what it worked over came back. The notes that its journal was handed
  -- are a tape from the beginning on: it keeps the promise at each moment, and what its connections took is what left them in it.
  pub record WorkerRan (config : Config) (shared : Shared) (place n : ℕ) (given : W × (C × L)) (end : Ended) (back : W × L) : Type 0 where
    pub first : Worker M C OpenGate L
    pub last : Worker M C OpenGate L
    pub begins : Begins Appends given first
    pub new : IsNew config first.core.kind
    pub worked : Worked o shared place n first end last
    pub tape : (notes : List Note) → Hands (o.told given.1.1) (o.told back.1) notes → GoesOnIn end first.core.kind last.core.kind (o.seen first.wires) (o.seen last.wires) notes []
    pub wires : back.0 ≡ bare last.wires
    pub journal : back.1 ≡ last.journal

  -- all did, in the order of their numbers
  pub record RanEach (config : Config) (n : ℕ) (given : List (W × (C × L))) (ends : List Ended) (back : List (W × L)) : Type 0 where
    pub shared : Shared
    pub names : shared.names ≡ names_in config
    pub permits : shared.permits.max ≡ config.proxy.max_connections
    pub workers : length given ≡ config.proxy.workers
    pub each_end : length ends ≡ length given
    pub each_back : length back ≡ length given
    pub each : (i : ℕ) (g : W × (C × L)) (e : Ended) (b : W × L) → i < length given → WorkerRan config shared i n (slice_index_or given i g) (slice_index_or ends i e) (slice_index_or back i b)
