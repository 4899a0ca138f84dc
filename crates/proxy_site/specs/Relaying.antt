-- What the proxy does as a relay.
use Rattle.flow_notes.specs.Line.{newline}
use Rattle.io_ports.specs.Faults.{Rose}
use Rattle.proxy_config.specs.declared.config.Config.{Config}
use Rattle.proxy_site.specs.Sites.{TellsAll, TellsNoMore, Told}
use Rattle.relay_work.specs.Live.{live_of}
use Rattle.relay_work.specs.Works.{Works}
use Rattle.relay_work.specs.declared.turns.RelayEnded.{RelayEnded}
use Rattle.session_config.specs.ClusterNames.{names_in}
use Rattle.session_run.specs.Ends.{AppendsFront}
use Rattle.session_run.specs.declared.status.Status.{Status}
use Rattle.std.specs.Io.KnownBytes.{Appends}
use Rattle.std.specs.Prelude.{List, Option, [], codes, ℕ, ◌++◌, ◌≡◌, ◌⊎◌}
use Rattle.tcp_relay.specs.Rests.{Rests}
use Rattle.tcp_relay.specs.declared.relay.Relay.{Relay}
use Rattle.worker_ports.specs.Wires.{Seen}
use Rattle.relay_work.specs.declared.turns.RelayEnded.TheVariants as ended
use Rattle.session_run.specs.declared.status.Status.TheVariants as status

-- the first line of a relay's journal
abbrev pub journal_head : List ℕ
journal_head = codes "h2replay-session 1 wire" ++ newline

abbrev pub listening_line : List ℕ → List ℕ
listening_line address = codes "listening " ++ (address ++ newline)

-- how the proxy ends where its relay ended so
abbrev pub ended_status : RelayEnded → Status
ended_status ended.Turns = status.Done
ended_status ended.Stopped = status.Done
ended_status ended.TapsFault = status.WriteFault
ended_status ended.JournalFault = status.WriteFault
ended_status ended.Memory = status.Memory

-- it was cut short since memory ran out, or since the site or the output failed
abbrev pub IsCutShort : Status → Type 0
IsCutShort how = (how ≡ status.Memory) ⊎ (how ≡ status.WriteFault)

-- A new relay under the configuration, which stands for the empty tape, worked over connections and a journal for so many
-- turns, or until it ended so.
pub record Relays (config : Config) (n : ℕ) (seen_old : Seen) (text_old : Option (List ℕ)) (end : RelayEnded) (seen_new : Seen) (text_new : Option (List ℕ)) : Type 0 where
  pub first : Relay
  pub last : Relay
  pub starts : Rests config.limits.write_buffer (names_in config) first []
  pub works : Works config.limits.write_buffer (names_in config) [] n (live_of first seen_old text_old) end (live_of last seen_new text_new)

-- where it listens was written, and it worked behind the head of its journal
pub record Ran (config : Config) (n : ℕ) (address : List ℕ) (seen_old seen_new : Seen) (text_old text_new out_old out_new : Option (List ℕ)) (how : Status) : Type 0 where
  pub line : Appends out_old out_new (listening_line address)
  pub begun : Option (List ℕ)
  pub head : Appends text_old begun journal_head
  pub end : RelayEnded
  pub relayed : Relays config n seen_old begun end seen_new text_new
  pub ends : how ≡ ended_status end

-- the connections weren't used; of the journal's head, and of the line that tells where it listens, a front was written
pub record NotBegun (address : List ℕ) (seen_old seen_new : Seen) (text_old text_new out_old out_new : Option (List ℕ)) (how : Status) : Type 0 where
  pub line : AppendsFront out_old out_new (listening_line address)
  pub head : AppendsFront text_old text_new journal_head
  pub seen : seen_new ≡ seen_old
  pub cut : IsCutShort how

-- what was done over connections and a journal
abbrev pub RelaysOver : (config : Config) (n : ℕ) (address : List ℕ) (seen_old seen_new : Seen) (text_old text_new out_old out_new : Option (List ℕ)) (how : Status) → Type 0
RelaysOver config n address seen_old seen_new text_old text_new out_old out_new how =
    Ran config n address seen_old seen_new text_old text_new out_old out_new how ⊎ NotBegun address seen_old seen_new text_old text_new out_old out_new how

module _ {T J : Type 0} (seen_of : T → Seen) (text_of : J → Option (List ℕ)) where
  -- it listened where the configuration says, at an address; what the site gave was worked over, and came back
  pub record Listened (config : Config) (n : ℕ) (old new : Option (Told T J)) (out_old out_new : Option (List ℕ)) (how : Status) : Type 0 where
    pub address : List ℕ
    pub given : T × J
    pub back : T × J
    pub told : TellsAll old (config.proxy.listen, address) given back new
    pub over : RelaysOver config n address (seen_of given.0) (seen_of back.0) (text_of given.1) (text_of back.1) out_old out_new how

  -- the site gave nothing to a relay, and nothing was written
  pub record NotGiven (config : Config) (old new : Option (Told T J)) (out_old out_new : Option (List ℕ)) (how : Status) : Type 0 where
    pub told : TellsNoMore old config.proxy.listen new
    pub out : out_new ≡ out_old
    pub cut : IsCutShort how

  abbrev pub ServesRelay : (config : Config) (n : ℕ) (old new : Option (Told T J)) (out_old out_new : Option (List ℕ)) (how : Status) → Type 0
  ServesRelay config n old new out_old out_new how = Listened config n old new out_old out_new how ⊎ NotGiven config old new out_old out_new how

-- a fault of writing has its cause
abbrev pub SiteOrOut : Status → (site_old site_new out_old out_new : ℕ) → Type 0
SiteOrOut how site_old site_new out_old out_new = how ≡ status.WriteFault → Rose site_old site_new ⊎ Rose out_old out_new
