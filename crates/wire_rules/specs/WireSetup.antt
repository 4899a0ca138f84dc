-- What the laws of all sessions are told of a wire session.
use Rattle.proxy_config.specs.declared.config.Config.{Config}
use Rattle.tape_laws.specs.Setup.{Setup}
use Rattle.wire_laws.specs.Base.{wire_base}
use Rattle.wire_laws.specs.Grants.{due_grants}
use Rattle.wire_laws.specs.Marks.{WireMark}
use Rattle.wire_laws.specs.Waiting.{waiting_on}

abbrev pub wire_setup : Config → Setup WireMark
wire_setup config = record (wire_base config) {
  waiting = λ c past. waiting_on config c past;
  grants = λ c past. due_grants config c past;
}
