use Rattle.craq_embedding.proofs.begin.Given as goal

-- the history that was just opened
abbrev pub ghosts-run : goal.ghosts-run
ghosts-run g a = record { history = a.opened }
