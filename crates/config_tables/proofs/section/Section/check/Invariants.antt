use Rattle.std.proofs.Common.{◌≡◌, map, drop}
use Rattle.config_tables.specs.Answers.{members_of}
use Rattle.config_tables.specs.Keys.{keys_faults}
use Rattle.config_tables.specs.Kinds.{key_of}
use Rattle.config_tables.proofs.section.Section.check.Given as goal

-- the keys so far have no fault
abbrev pub invariant-loop-key : goal.invariant-loop-key
invariant-loop-key l =
    keys_faults l.self.place.now (members_of l.self.table) (map key_of (drop l.key-index l.keys))
    ≡ keys_faults l.self.place.now (members_of l.self.table) (map key_of l.keys)
