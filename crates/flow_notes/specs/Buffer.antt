-- How a buffer of a flow is spelled.
use Rattle.std.specs.Prelude.{List, [], ℕ, ◌∷◌, codes}
use Rattle.std.specs.Fmt.{decimal}
use Rattle.flow_rules.specs.declared.ids.BufferId.{BufferId}
use Rattle.flow_rules.specs.declared.ids.BufferId.TheVariants.{Recv, Stage, Send, Write}

-- A buffer of a flow is spelled without the flow, which stands before it. A receive buffer has no words.
abbrev pub buffer_words : BufferId → List (List ℕ)
buffer_words (Recv flow) = []
buffer_words (Stage flow i) = codes "stage" ∷ decimal i ∷ []
buffer_words (Send flow) = codes "send" ∷ []
buffer_words (Write conn) = codes "write" ∷ decimal conn ∷ []
