use Rattle.wire_load.proofs.load.Load.settle.Given as goal

abbrev pub ghosts-settle_as : goal.ghosts-settle_as
ghosts-settle_as a = record { name = a.blank.name; parts = a.blank.parts }
