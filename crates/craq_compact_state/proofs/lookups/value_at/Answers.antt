use Rattle.std.proofs.Common.{subst}
use Rattle.craq_compact_state.specs.declared.value_locations.ValueLocation.{ValueLocation}
use Rattle.craq_compact_state.specs.Indexed.{StandsThere}
use Rattle.craq_compact_state.proofs.lookups.value_at.Goals as goal

pub returns-in-Written-clause-object : goal.returns-in-Written-clause-object
returns-in-Written-clause-object c = λ given stands. c.written.ensures.object given (subst (λ (p : ValueLocation). StandsThere c.args.entries.now c.args.version p given) c.in-Written.is stands).1
