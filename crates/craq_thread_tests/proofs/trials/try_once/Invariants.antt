use Rattle.craq_thread_tests.proofs.trials.try_once.Given as goal

-- the history that was just opened
abbrev pub ghosts-try_named : goal.ghosts-try_named
ghosts-try_named g a = record { history = a.opened }
