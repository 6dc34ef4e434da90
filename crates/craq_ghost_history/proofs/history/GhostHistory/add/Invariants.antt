use Rattle.std.specs.Prelude.{Some}
use Rattle.craq_ghost_history.proofs.history.GhostHistory.add.Given as goal

-- the entry that is added
abbrev pub ghosts-add_as : goal.ghosts-add_as
ghosts-add_as g a = record { entry = Some a.entry.now }
