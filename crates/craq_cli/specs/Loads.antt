-- The load of `craq bench` without words and options.
use Rattle.craq_cli.specs.declared.task.BenchLoad.{BenchLoad}

abbrev pub usual_load : BenchLoad
usual_load = record { connections = 50; seconds = 10; reads = 50; keys = 1000; size = 16 }
