-- Flows as one word: the exchange, then q for the request or r for the response.
use Rattle.std.specs.Prelude.{ℕ, List, codes, ◌++◌, if◌then◌else◌}
use Rattle.std.specs.Fmt.{decimal}
use Rattle.flow_rules.specs.declared.ids.FlowId.{FlowId}

abbrev pub flow_word : FlowId → List ℕ
flow_word flow = decimal flow.exchange ++ (if flow.back then codes "r" else codes "q")
