use Rattle.flow_laws.proofs.Watching.{each_crosses}
use Rattle.flow_laws.proofs.laws.sources_cross.Goals as goal

pub returns : goal.returns
returns c = λ start setup step past ways p f before now. each_crosses setup ways step past p f before now
