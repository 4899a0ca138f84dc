-- What the proxy does by its configuration.
use Rattle.flow_notes.specs.Line.{newline}
use Rattle.config_tables.specs.Reading.{config_of}
use Rattle.proxy_config.specs.declared.config.Config.{Config}
use Rattle.session_config.specs.Loading.{IsWhole, StopsAs}
use Rattle.session_config.specs.Refusals.{refusal_line}
use Rattle.session_config.specs.declared.load.ConfigEnd.{ConfigEnd}
use Rattle.session_run.specs.Ends.{AppendsFront}
use Rattle.session_run.specs.declared.status.Status.{Status}
use Rattle.std.specs.Io.KnownBytes.{Appends, Consumes}
use Rattle.std.specs.Prelude.{List, Ok, Option, [], codes, ℕ, ◌++◌, ◌≡◌, ◌⊎◌}
use Rattle.session_config.specs.declared.load.ConfigEnd.TheVariants as end
use Rattle.session_run.specs.declared.status.Status.TheVariants as status

-- the status and the line of a configuration that isn't there
abbrev pub end_status : ConfigEnd → Status
end_status (end.Refused fault) = status.Config
end_status end.TooLong = status.TooLong
end_status end.ReadFault = status.ReadFault
end_status end.Memory = status.Memory

abbrev pub end_line : ConfigEnd → List ℕ
end_line (end.Refused fault) = refusal_line fault
end_line end.TooLong = codes "refused length config" ++ newline
end_line end.ReadFault = []
end_line end.Memory = []

-- the line was written; or a front of it, since the output failed; or nothing, since memory ran out
abbrev pub TellsEnd : ConfigEnd → Status → (out_old out_new : Option (List ℕ)) → Type 0
TellsEnd stop how out_old out_new =
    ((how ≡ end_status stop) × Appends out_old out_new (end_line stop)) ⊎ ((how ≡ status.WriteFault) × AppendsFront out_old out_new (end_line stop)) ⊎ ((how ≡ status.Memory) × (out_new ≡ out_old))

-- there is no configuration, by what was read of it
pub record HasNoConfig (left_old left_new out_old out_new : Option (List ℕ)) (how : Status) : Type 0 where
  pub stop : ConfigEnd
  pub text : List ℕ
  pub consumes : Consumes left_old left_new text
  pub stops : StopsAs stop text left_new
  pub tells : TellsEnd stop how out_old out_new

-- the whole of the configuration was read, and it was served under it
pub record HasConfig (Serves : Config → Type 0) (left_old left_new : Option (List ℕ)) : Type 0 where
  pub config : Config
  pub text : List ℕ
  pub consumes : Consumes left_old left_new text
  pub whole : IsWhole text left_new
  pub is : config_of text ≡ Ok config
  pub served : Serves config

-- a site that tells told nothing more where there is no configuration
module _ {A : Type 0} where
  abbrev pub ServesUnder : (Serves : Config → Type 0) (left_old left_new : Option (List ℕ)) (told_old told_new : A) (out_old out_new : Option (List ℕ)) (how : Status) → Type 0
  ServesUnder Serves left_old left_new told_old told_new out_old out_new how =
      HasConfig Serves left_old left_new ⊎ (HasNoConfig left_old left_new out_old out_new how × (told_new ≡ told_old))
