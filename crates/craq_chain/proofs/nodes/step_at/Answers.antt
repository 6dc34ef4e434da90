use Rattle.std.proofs.Common.{arith}
use Rattle.craq_chain.proofs.Steps.{stepped}
use Rattle.craq_chain.proofs.nodes.step_at.Goals as goal

pub returns-clause-step : goal.returns-clause-step
returns-clause-step g c = λ m d id h e.
    stepped g.C.Core.represents c.args.cores.now.items m d id c.args.place c.args.event c.index_mut.result.now c.step.new.self c.step.result h e (omega (arith, c.requires.within, c.args.cores.now.ok)) c.index_mut.ensures.value c.step.ensures.step
