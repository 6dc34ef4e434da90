use Rattle.craq_thread_tests.proofs.server.serve_clients.Given as goal

-- the history that was just opened
abbrev pub ghosts-serve_named : goal.ghosts-serve_named
ghosts-serve_named g a = record { history = a.opened }
