use Rattle.craq_compact_state.proofs.held.HeldPast.apply.Goals as goal

pub invariant_of-self : goal.invariant_of-self
invariant_of-self c = (c.apply.ensures.placed, c.apply.ensures.indexed, c.apply.ensures.next, c.apply.ensures.counted)
