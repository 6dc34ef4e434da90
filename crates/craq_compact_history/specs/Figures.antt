-- The figures of a node.
use Rattle.std.specs.Prelude.{ℕ, ◌-◌, ◌^◌, length, min}
use Rattle.craq_model.specs.Plain.{Plain, length_of}
use Rattle.craq_model.specs.Past.{newest_in}
use Rattle.craq_compact_history.specs.declared.figures.NodeFigures.{NodeFigures}

-- the figures of a node that holds this many bytes
abbrev pub figures_of : Plain → ℕ → NodeFigures
figures_of p bytes = record {
  epoch = p.epoch;
  is_ready = p.ready;
  is_running = p.running;
  length = length_of p;
  committed = p.past.acknowledged;
  waiting_updates = length p.waiting_updates;
  waiting_reads = length p.waiting_reads;
  objects = min (length (newest_in p.past).objects) (2 ^ 64 - 1);
  bytes = bytes;
}
