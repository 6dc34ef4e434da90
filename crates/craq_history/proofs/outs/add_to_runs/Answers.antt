use Rattle.std.proofs.Common.{◌∷◌, ◌++◌, ap, ◌∙◌}
use Rattle.craq_commands.specs.declared.entry.Entry.{Entry}
use Rattle.craq_history.proofs.Running.{with_rest, next}
use Rattle.craq_history.proofs.outs.add_to_runs.Goals as goal

pub loop-entry-preserved : goal.loop-entry-preserved
loop-entry-preserved c =
    record {
      room = c.in_ok-add_to_run.ensures.room;
      made = λ rest.
          next c.loop-entry.bodies.items c.add_to_run.new.bodies.items c.loop-entry.run.items c.add_to_run.new.run.items c.args.entries.now rest c.loop-entry.entry-index c.entry-item.result c.loop-entry-test.true c.entry-item.is
          (λ later. c.in_ok-add_to_run.ensures.made later ∙ ap (λ (e : Entry). with_rest c.loop-entry.bodies.items (c.loop-entry.run.items ++ e ∷ later)) c.in_ok-copied.ensures)
          ∙ c.loop-entry.invariant.made rest;
    }
