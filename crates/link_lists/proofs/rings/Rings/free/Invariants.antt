use Rattle.link_lists.proofs.rings.Rings.free.Given as goal

abbrev pub ghosts-remove_as : goal.ghosts-remove_as
ghosts-remove_as g a = record { name = a.blank.name; parts = a.blank.parts }
