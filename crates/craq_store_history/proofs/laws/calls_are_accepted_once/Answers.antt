use Rattle.craq_store_history.proofs.Permits.{accepted_once, withdrawn_never}
use Rattle.craq_store_history.proofs.laws.calls_are_accepted_once.Goals as goal

pub returns-clause-once : goal.returns-clause-once
returns-clause-once c = accepted_once

pub returns-clause-withdrawn : goal.returns-clause-withdrawn
returns-clause-withdrawn c = withdrawn_never
