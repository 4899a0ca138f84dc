-- What is seen of a site and of a journal in memory.
use Rattle.io_ports.specs.Memory.{SinkMemory}
use Rattle.proxy_site.specs.Sites.{Told}
use Rattle.proxy_site.specs.declared.mem_journal.MemJournal.{MemJournal}
use Rattle.proxy_site.specs.declared.mem_site.MemSite.{MemSite}
use Rattle.proxy_site.specs.declared.mem_site.RelayPlay.{RelayPlay}
use Rattle.relay_ports.specs.Memory.{TapsMemory, is_new}
use Rattle.std.specs.Prelude.{List, None, Option, Some, [], if◌then◌else◌, map, ℕ, ◌-◌, ◌^◌, ◌∷◌, ◌≡◌}

abbrev pub journal_text : MemJournal → Option (List ℕ)
journal_text journal = Some journal.sink.octets

abbrev pub journal_faults : MemJournal → ℕ
journal_faults journal = journal.faults

-- a sink that has taken nothing yet
abbrev pub new_sink : ℕ → List ℕ → SinkMemory
new_sink room failing = record { octets = []; room = room; calls = 0; faults = 0; failing = failing; most = 2 ^ 64 - 1 }

abbrev pub new_journal : ℕ → List ℕ → MemJournal
new_journal room failing = record { sink = new_sink room failing; faults = 0 }

-- what a play gives, with connections to so many clusters
abbrev pub fit_of : ℕ → RelayPlay → TapsMemory × MemJournal
fit_of clusters play = (is_new clusters play.answers.items play.room play.failing.items (2 ^ 64 - 1), new_journal play.journal_room play.journal_failing.items)

abbrev pub given_of : RelayPlay → Option ℕ → List (TapsMemory × MemJournal)
given_of play None = []
given_of play (Some clusters) = fit_of clusters play ∷ []

-- it always listens at the same address
abbrev pub listens_of : List ℕ → List (List ℕ) → List (List ℕ × List ℕ)
listens_of used asked = map (λ at. (at, used)) asked

-- all is told, unless something that came back couldn't be kept
abbrev pub told_of : MemSite → Option (Told TapsMemory MemJournal)
told_of site = if site.lost then None else Some (record { listens = listens_of site.address site.asked.items; given = given_of site.play site.fitted; back = site.back.items })

-- before the first call
pub record IsNewSite (site : MemSite) (at : List ℕ) (gives : RelayPlay) (fails : List ℕ) : Type 0 where
  pub address : site.address ≡ at
  pub play : site.play ≡ gives
  pub asked : site.asked.items ≡ []
  pub fitted : site.fitted ≡ None
  pub back : site.back.items ≡ []
  pub calls : site.calls ≡ 0
  pub failing : site.failing.items ≡ fails
  pub faults : site.faults ≡ 0
