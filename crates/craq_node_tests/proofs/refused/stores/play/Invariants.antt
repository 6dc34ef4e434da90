use Rattle.craq_node_tests.proofs.refused.stores.play.Given as goal

-- the history that was just opened
abbrev pub ghosts-play_named : goal.ghosts-play_named
ghosts-play_named g a = record { history = a.opened }
