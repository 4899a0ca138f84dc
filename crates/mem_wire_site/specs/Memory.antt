-- What is seen of a site in memory, and of what it gives to workers.
use Rattle.mem_ports.specs.Moments.{ClockMemory}
use Rattle.mem_wire_site.specs.Journals.{JournalMemory}
use Rattle.mem_wire_site.specs.declared.play.WorkerPlay.{WorkerPlay}
use Rattle.mem_wire_site.specs.declared.site.MemWireSite.{MemWireSite}
use Rattle.proxy_site.specs.Memory.{new_sink}
use Rattle.proxy_site.specs.declared.mem_site.MemSite.{MemSite}
use Rattle.proxy_site.specs.WireSites.{WireTold}
use Rattle.relay_ports.specs.Memory.{TapsMemory, is_new}
use Rattle.std.specs.Option.{option_map}
use Rattle.std.specs.Prelude.{List, None, Option, Some, [], false, if◌then◌else◌, min, slice_get, ℕ, ◌-◌, ◌^◌, ◌∷◌, ◌≡◌}

-- what a play gives: connections to so many clusters that nobody has used, a clock that nobody has asked, and an empty journal
abbrev pub wires_of : ℕ → WorkerPlay → TapsMemory
wires_of clusters play = is_new clusters play.outside.answers.items play.outside.room play.outside.failing.items (2 ^ 64 - 1)

abbrev pub clock_of : ℕ → ClockMemory
clock_of moment = record { moments = min moment (2 ^ 60 - 1) ∷ []; calls = 0 }

abbrev pub journal_of : WorkerPlay → JournalMemory
journal_of play = record { sink = new_sink play.outside.journal_room play.outside.journal_failing.items; notes = []; faults = 0 }

abbrev pub fit_of : ℕ → WorkerPlay → TapsMemory × (ClockMemory × JournalMemory)
fit_of clusters play = (wires_of clusters play, (clock_of play.moment, journal_of play))

-- what the worker of a number, counted from 1, is given of these plays, if there is one for it
abbrev pub given_at : List WorkerPlay → (worker clusters : ℕ) → Option (TapsMemory × (ClockMemory × JournalMemory))
given_at plays worker clusters = option_map (fit_of clusters) (slice_get plays (worker - 1))

-- all that it gave to workers and that came back is told, unless something that came back couldn't be kept
abbrev pub wired_of : MemWireSite → Option (WireTold TapsMemory ClockMemory JournalMemory)
wired_of site = if site.lost then None else Some (record { fitted = site.fitted.items; returned = site.returned.items })

-- before the first call
pub record IsNewWireSite (site : MemWireSite) (for_relays : MemSite) (for_workers : List WorkerPlay) (refused fails : List ℕ) : Type 0 where
  pub relay : site.relay ≡ for_relays
  pub plays : site.plays.items ≡ for_workers
  pub unfit : site.unfit.items ≡ refused
  pub fitted : site.fitted.items ≡ []
  pub returned : site.returned.items ≡ []
  pub lost : site.lost ≡ false
  pub rounds : site.rounds ≡ 0
  pub failing : site.failing.items ≡ fails
  pub faults : site.faults ≡ 0
