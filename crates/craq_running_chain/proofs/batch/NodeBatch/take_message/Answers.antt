use Rattle.std.proofs.Common.{rules, inl}
use Rattle.craq_running_chain.proofs.Reacting.{may_take}
use Rattle.craq_running_chain.proofs.batch.NodeBatch.take_message.Goals as goal

pub deliver-requires-clause-may : goal.deliver-requires-clause-may
deliver-requires-clause-may g c = may_take c.in-Ok.token _ c.args.wire.chain c.in-Ok.message (search rules) c.in-Ok.ensures.sent

pub returns-in-Ok : goal.returns-in-Ok
returns-in-Ok g c = inl (c.in-Ok.message, c.in-Ok.ensures.spelled, c.deliver.ensures)
