use Rattle.overload_core.proofs.classes.Classes.drop_one.Given as goal

abbrev pub ghosts-drop_as : goal.ghosts-drop_as
ghosts-drop_as a = record { name = a.blank.name; parts = a.blank.parts }
