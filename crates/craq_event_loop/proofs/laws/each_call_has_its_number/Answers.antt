use Rattle.craq_event_loop.specs.SubmittedCalls.{called_by}
use Rattle.craq_event_loop.proofs.Numbers as numbers
use Rattle.craq_event_loop.specs.Advancing.{under_key}
use Rattle.craq_event_loop.proofs.laws.each_call_has_its_number.Goals as goal

pub returns-clause-in_order : goal.returns-clause-in_order
returns-clause-in_order g c key before after count more old new taken =
    numbers.in_order (g.H.Backend.tells c.args.backend.now) (g.H.Backend.refuses c.args.backend.now) (under_key (called_by (g.H.AsyncBackend.submits c.args.backend.now) (g.H.AsyncBackend.finishes c.args.backend.now)) key) old before new count after more taken

pub returns-clause-none_twice : goal.returns-clause-none_twice
returns-clause-none_twice g c = numbers.none_twice
