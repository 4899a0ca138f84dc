use Rattle.wire_timers.proofs.tokens.give_back.Given as goal

abbrev pub ghosts-give_back_as : goal.ghosts-give_back_as
ghosts-give_back_as a = record { name = a.blank.name; parts = a.blank.parts }
