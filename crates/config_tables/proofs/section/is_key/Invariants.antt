use Rattle.std.proofs.Common.{◌≡◌, map, drop}
use Rattle.config_tables.specs.Kinds.{key_of}
use Rattle.config_tables.specs.Texts.{is_among}
use Rattle.config_tables.proofs.section.is_key.Given as goal

-- what is left decides
abbrev pub invariant-loop-key : goal.invariant-loop-key
invariant-loop-key l =
    is_among (map (λ key. key.name) (map key_of (drop l.key-index l.keys))) l.name ≡ is_among (map (λ key. key.name) (map key_of l.keys)) l.name
