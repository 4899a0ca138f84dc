use Rattle.overload_core.proofs.classes.Classes.drop.Given as goal

abbrev pub ghosts-release : goal.ghosts-release
ghosts-release a = record { name = a.blank.name; parts = a.blank.parts }
