-- What the proxy of HTTP/2 does under its configuration.
use Rattle.metered_wires.specs.Rising.{untold}
use Rattle.metered_wires.specs.declared.metering.MeteredWires.{MeteredWires}
use Rattle.proxy_config.specs.declared.config.Config.{Config}
use Rattle.proxy_site.specs.Relaying.{IsCutShort, listening_line}
use Rattle.proxy_site.specs.Serving.{HasConfig, HasNoConfig}
use Rattle.proxy_site.specs.Sites.{TellsListening, Told}
use Rattle.proxy_site.specs.WireSites.{TellsWorkers, WireTold}
use Rattle.proxy_wire.specs.Working.{EndsSo, RanEach, ends_status, threads_status}
use Rattle.proxy_wire.specs.declared.end.WireEnd.{WireEnd}
use Rattle.session_run.specs.Ends.{AppendsFront}
use Rattle.session_run.specs.declared.status.Status.{Status}
use Rattle.std.specs.Io.KnownBytes.{Appends}
use Rattle.std.specs.Prelude.{List, Option, length, slice_index_or, ℕ, ◌<◌, ◌≡◌, ◌≤◌, ◌⊎◌}
use Rattle.worker_loop.specs.declared.turns.Ended.{Ended}
use Rattle.worker_parts.specs.Journals.{header}
use Rattle.worker_ports.specs.Wires.{Seen}
use Rattle.worker_ports.specs.declared.wires.Wires.{Ghosts}
use Rattle.worker_threads.specs.Starting.{Outside}
use Rattle.proxy_wire.specs.declared.end.WireEnd.TheVariants as end
use Rattle.session_run.specs.declared.status.Status.TheVariants as status

-- the status of each way in which it ends
abbrev pub wire_status : WireEnd → Status
wire_status end.Listen = status.WriteFault
wire_status end.Fit = status.WriteFault
wire_status end.JournalHead = status.WriteFault
wire_status end.Write = status.WriteFault
wire_status end.Memory = status.Memory
wire_status (end.Workers ends) = ends_status ends.items
wire_status (end.Round ends) = status.WriteFault
wire_status (end.Threads ends) = threads_status ends.items

-- what was given came back unused: of the head of its journal a front was written
module _ {W C L : Type 0} (seen : W → Seen) (text : L → Option (List ℕ)) where
  pub record Unused (given : W × (C × L)) (back : W × L) : Type 0 where
    pub seen_same : seen back.0 ≡ seen given.0
    pub head : AppendsFront (text given.1.1) (text back.1) header

  -- some workers were fitted, or all or none, and none ran
  pub record NoneRan (config : Config) (address : List ℕ) (wired_old wired_new : Option (WireTold W C L)) (out_old out_new : Option (List ℕ)) (how : Status) : Type 0 where
    pub given : List (W × (C × L))
    pub back : List (W × L)
    pub wired : TellsWorkers wired_old given back wired_new
    pub most : length given ≤ config.proxy.workers
    pub each_back : length back ≡ length given
    pub each : (i : ℕ) (g : W × (C × L)) (b : W × L) → i < length given → Unused (slice_index_or given i g) (slice_index_or back i b)
    pub line : AppendsFront out_old out_new (listening_line address)
    pub cut : IsCutShort how

module _ {W M C L : Type 0} (bare : M → W) (o : Outside M C L) where
  -- it was told where the proxy listens, all workers ran, and what they worked over came back
  pub record AllRan (config : Config) (n : ℕ) (address : List ℕ) (wired_old wired_new : Option (WireTold W C L)) (out_old out_new : Option (List ℕ)) (how : Status) : Type 0 where
    pub given : List (W × (C × L))
    pub ends : List Ended
    pub back : List (W × L)
    pub wired : TellsWorkers wired_old given back wired_new
    pub line : Appends out_old out_new (listening_line address)
    pub ran : RanEach bare o config n given ends back
    pub status : EndsSo how ends

-- connections that take tokens don't tell what was done
abbrev pub metered_outside : {W C L : Type 0} (G : Ghosts W) → Outside W C L → Outside (MeteredWires W G) C L
metered_outside {W} G o = record { seen = λ (m : MeteredWires W G). untold m.greatest (o.seen m.inner); moments = o.moments; text = o.text; told = o.told; wires_faults = λ (m : MeteredWires W G). o.wires_faults m.inner; journal_faults = o.journal_faults }

module _ {T J : Type 0} {W C L : Type 0} (G : Ghosts W) (o : Outside W C L) where
  -- it couldn't listen, or didn't since memory ran out; nothing was given to a worker, and nothing was written
  pub record NotListened (told_old told_new : Option (Told T J)) (wired_old wired_new : Option (WireTold W C L)) (out_old out_new : Option (List ℕ)) (how : Status) : Type 0 where
    pub told : told_new ≡ told_old
    pub wired : wired_new ≡ wired_old
    pub out : out_new ≡ out_old
    pub cut : IsCutShort how

  -- it listened where the configuration says, at an address; clients' connections take tokens exactly where they have a rate
  pub record Listened (config : Config) (n : ℕ) (told_old told_new : Option (Told T J)) (wired_old wired_new : Option (WireTold W C L)) (out_old out_new : Option (List ℕ)) (how : Status) : Type 0 where
    pub address : List ℕ
    pub told : TellsListening told_old (config.proxy.listen, address) told_new
    pub over : NoneRan o.seen o.text config address wired_old wired_new out_old out_new how
        ⊎ (((config.proxy.accept_rate ≡ 0) × AllRan (λ (w : W). w) o config n address wired_old wired_new out_old out_new how)
        ⊎ ((0 < config.proxy.accept_rate) × AllRan (λ (m : MeteredWires W G). m.inner) (metered_outside G o) config n address wired_old wired_new out_old out_new how))

  abbrev pub ServesWire : (config : Config) (n : ℕ) (told_old told_new : Option (Told T J)) (wired_old wired_new : Option (WireTold W C L)) (out_old out_new : Option (List ℕ)) (how : Status) → Type 0
  ServesWire config n told_old told_new wired_old wired_new out_old out_new how =
      NotListened told_old told_new wired_old wired_new out_old out_new how
      ⊎ Listened config n told_old told_new wired_old wired_new out_old out_new how

-- under the configuration that was read; where there is none, the site told nothing more
module _ {A B : Type 0} where
  abbrev pub ServesConfig : (Serves : Config → Type 0) (left_old left_new : Option (List ℕ)) (told_old told_new : A) (wired_old wired_new : B) (out_old out_new : Option (List ℕ)) (how : Status) → Type 0
  ServesConfig Serves left_old left_new told_old told_new wired_old wired_new out_old out_new how =
      HasConfig Serves left_old left_new ⊎ (HasNoConfig left_old left_new out_old out_new how × ((told_new ≡ told_old) × (wired_new ≡ wired_old)))
