-- Limits of each command line that `craqd` serves by.
use Rattle.std.specs.Prelude.{◌≤◌}
use Rattle.craq_cli.specs.declared.server.Line.{Line}

-- at most 64 threads serve connections
abbrev pub IsServable : Line → Type 0
IsServable line = line.threads ≤ 64
