use Rattle.craq_running_promise.proofs.Seen.{is_call}
use Rattle.craq_running_promise.proofs.Standing.{has_explanation, stands, together}
use Rattle.craq_running_promise.proofs.witnessed_calls_are_explained.Goals as goal

pub returns-clause-stands : goal.returns-clause-stands
returns-clause-stands c = λ client old new log node ask answer receipt w p h. stands client old new log node ask answer receipt w p h

pub returns-clause-together : goal.returns-clause-together
returns-clause-together c = λ client other old new before after node at ask request answer reply receipt its w v p. together client other old new before after node at ask request answer reply receipt its w v p

pub returns-clause-called : goal.returns-clause-called
returns-clause-called c = λ old new log node ask receipt s h few. is_call old new log node ask receipt s h few

pub returns-clause-explained : goal.returns-clause-explained
returns-clause-explained c = λ log chain members h is few. has_explanation log chain members h is few
