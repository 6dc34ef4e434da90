use Rattle.craq_store_history.proofs.Between.{accepted_later, asked_by, may_call}
use Rattle.craq_store_history.proofs.laws.accepted_calls_follow.Goals as goal

pub returns-clause-asked : goal.returns-clause-asked
returns-clause-asked c = λ log done rest name stamp event pass step call ask h is of_ask. asked_by done name event.value call ask (may_call log done rest _ h is) of_ask

pub returns-clause-made : goal.returns-clause-made
returns-clause-made c = λ log done rest name stamp event pass step call h is. may_call log done rest _ h is

pub returns-clause-later : goal.returns-clause-later
returns-clause-later c = λ log seen reported mid done rest call name at ask stamp event pass step h a p is. accepted_later log seen reported mid done rest call name at ask stamp event pass step h a p is
