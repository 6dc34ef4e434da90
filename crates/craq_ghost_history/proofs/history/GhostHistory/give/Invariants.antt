use Rattle.craq_ghost_history.proofs.history.GhostHistory.give.Given as goal

-- the author that was asked for
abbrev pub ghosts-give_as : goal.ghosts-give_as
ghosts-give_as g a = record { chosen = a.author }
