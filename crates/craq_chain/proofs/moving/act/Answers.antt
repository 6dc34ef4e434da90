use Rattle.craq_chain.proofs.moving.act.Goals as goal

pub returns-in-Ask-clause-step : goal.returns-in-Ask-clause-step
returns-in-Ask-clause-step g c = λ d h k. rw c.in-Ask.is (c.ask.ensures.step c.args.master.now d h)

pub returns-in-Deliver-clause-step : goal.returns-in-Deliver-clause-step
returns-in-Deliver-clause-step g c = λ d h k. rw c.in-Deliver.is (c.arrival.ensures.step c.args.master.now d h k)

pub returns-in-Stop-clause-step : goal.returns-in-Stop-clause-step
returns-in-Stop-clause-step g c = λ d h k. rw c.in-Stop.is (c.stop.ensures.step c.args.master.now d h)
