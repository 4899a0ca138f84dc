use Rattle.link_lists.proofs.rings.Rings.swap_back.Given as goal

abbrev pub ghosts-swap_as : goal.ghosts-swap_as
ghosts-swap_as g a = record { name = a.blank.name; parts = a.blank.parts }
