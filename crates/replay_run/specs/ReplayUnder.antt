-- What a replay does that reads a configuration first.
use Rattle.flow_notes.specs.Line.{newline}
use Rattle.config_tables.specs.Reading.{config_of}
use Rattle.proxy_config.specs.declared.config.Config.{Config}
use Rattle.config_tables.specs.declared.fault.ConfigFault.{ConfigFault}
use Rattle.session_config.specs.Loading.{IsWhole, StopsAs, longest_config}
use Rattle.session_config.specs.Refusals.{refusal_line}
use Rattle.session_config.specs.declared.load.ConfigEnd.{ConfigEnd}
use Rattle.session_run.specs.declared.status.Status.{Status}
use Rattle.std.specs.Io.KnownBytes.{Appends, Consumes}
use Rattle.std.specs.Prelude.{Err, List, None, Ok, Option, Some, [], codes, length, ℕ, ◌++◌, ◌<◌, ◌≡◌, ◌≤◌}
use Rattle.shed_run.specs.Allowed as shed
use Rattle.wire_run.specs.Allowed.{Completes}
use Rattle.session_config.specs.declared.load.ConfigEnd.TheVariants as end
use Rattle.session_run.specs.declared.status.Status.TheVariants as status

-- the whole text is refused, and its first fault is told
pub record IsRefusedConfig (text told : List ℕ) (left : Option (List ℕ)) : Type 0 where
  pub fault : ConfigFault
  pub whole : IsWhole text left
  pub refused : config_of text ≡ Err fault
  pub is : told ≡ refusal_line fault

-- there is no configuration, by the status: what was read of it, and what is told
abbrev pub ConfigEndsAs : Status → (text told : List ℕ) → Option (List ℕ) → Type 0
ConfigEndsAs status.Config text told left = IsRefusedConfig text told left
ConfigEndsAs status.TooLong text told left = (longest_config < length text) × (told ≡ codes "refused length config" ++ newline)
ConfigEndsAs status.ReadFault text told left = (length text ≤ longest_config) × (told ≡ [])
ConfigEndsAs status.Memory text told left = told ≡ []
ConfigEndsAs status text told left = ⊥

-- where the sink failed, what was written is a front of such a text
pub record ConfigEndsFront (text told : List ℕ) (left : Option (List ℕ)) : Type 0 where
  pub status : Status
  pub whole : List ℕ
  pub rest : List ℕ
  pub front : whole ≡ told ++ rest
  pub ends : ConfigEndsAs status text whole left

abbrev pub ConfigEnds : Status → (text told : List ℕ) → Option (List ℕ) → Type 0
ConfigEnds status.WriteFault text told left = ConfigEndsFront text told left
ConfigEnds status text told left = ConfigEndsAs status text told left

-- the line of a configuration that isn't there was written
pub record EndsAtConfig (stop : ConfigEnd) (out_old out_new : Option (List ℕ)) (status : Status) : Type 0 where
  pub told : List ℕ
  pub appends : Appends out_old out_new told
  pub goes : (text : List ℕ) (left : Option (List ℕ)) → StopsAs stop text left → ConfigEnds status text told left

-- the status and the line of a configuration that isn't there
abbrev pub end_status : ConfigEnd → Status
end_status (end.Refused fault) = status.Config
end_status end.TooLong = status.TooLong
end_status end.ReadFault = status.ReadFault
end_status end.Memory = status.Memory

abbrev pub end_text : ConfigEnd → List ℕ
end_text (end.Refused fault) = refusal_line fault
end_text end.TooLong = codes "refused length config" ++ newline
end_text stop = []

-- there is no configuration, and the session is unread
pub record HasNoConfig (config_old config_new left_old left_new out_old out_new : Option (List ℕ)) (status : Status) : Type 0 where
  pub text : List ℕ
  pub told : List ℕ
  pub consumes : Consumes config_old config_new text
  pub appends : Appends out_old out_new told
  pub unread : left_new ≡ left_old
  pub ends : ConfigEnds status text told config_new

-- the whole of the configuration was read and the session was run under it, or there is none
pub data ReplaysUnder (Run : List ℕ → Status → Type 0) (config_old config_new left_old left_new out_old out_new : Option (List ℕ)) (status : Status) : Type 0 where
  Configured : (text : List ℕ) → Consumes config_old config_new text → IsWhole text config_new → Run text status → ReplaysUnder Run config_old config_new left_old left_new out_old out_new status
  Unconfigured : HasNoConfig config_old config_new left_old left_new out_old out_new status → ReplaysUnder Run config_old config_new left_old left_new out_old out_new status

-- an allowed wire session under an allowed configuration is run to its end, but for lack of memory and a source or sink that fails
abbrev pub WireCompletes : (config session : Option (List ℕ)) → Status → Type 0
WireCompletes (Some text) session how = (config : Config) → config_of text ≡ Ok config → length text ≤ longest_config → Completes config session how
WireCompletes None session how = Unit {0}

-- and so is an allowed session for the load shed points
abbrev pub ShedCompletes : (config session : Option (List ℕ)) → Status → Type 0
ShedCompletes (Some text) session how = (config : Config) → config_of text ≡ Ok config → length text ≤ longest_config → shed.Completes config session how
ShedCompletes None session how = Unit {0}
