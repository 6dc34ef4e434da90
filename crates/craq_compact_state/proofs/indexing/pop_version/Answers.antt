use Rattle.std.proofs.Common.{sym, ◌∙◌}
use Rattle.craq_compact_state.proofs.Clean.{placed_popped}
use Rattle.craq_compact_state.proofs.Placing.{later_popped, nothing_popped, objects_popped, rising_popped}
use Rattle.craq_compact_state.proofs.indexing.pop_version.Goals as goal

pub returns-then-has_later_in-clause-objects : goal.returns-then-has_later_in-clause-objects
returns-then-has_later_in-clause-objects c =
    objects_popped c.args.table.now c.pop.new.self c.args.key.now c.requires.rising (rising_popped c.pop.new.self c.pop.ensures.rising) c.pop.ensures.held (sym c.has_later_in.ensures ∙ c.if-has_later_in.true)

pub returns-then-has_later_in-clause-later : goal.returns-then-has_later_in-clause-later
returns-then-has_later_in-clause-later c = later_popped c.args.table.now c.pop.new.self c.args.key.now c.pop.ensures.held (sym c.has_later_in.ensures ∙ c.if-has_later_in.true)

pub returns-then-has_later_in-clause-placed : goal.returns-then-has_later_in-clause-placed
returns-then-has_later_in-clause-placed c =
    placed_popped c.args.table.now c.pop.new.self c.args.key.now (rising_popped c.pop.new.self c.pop.ensures.rising) c.pop.ensures.held (sym c.has_later_in.ensures ∙ c.if-has_later_in.true) c.requires

pub returns-else-has_later_in-clause-later : goal.returns-else-has_later_in-clause-later
returns-else-has_later_in-clause-later c = nothing_popped c.args.table.now c.args.key.now (sym c.has_later_in.ensures ∙ c.if-has_later_in.false)
