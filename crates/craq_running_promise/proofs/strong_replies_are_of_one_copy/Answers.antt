use Rattle.craq_running_promise.proofs.Asked.{was_asked}
use Rattle.craq_running_promise.proofs.Copies.{by_mode, no_older, one_copy, one_reply, only_grows, ordered}
use Rattle.craq_running_promise.proofs.Growing.{grows}
use Rattle.craq_running_promise.proofs.Standing.{accepted_in, in_one}
use Rattle.craq_running_promise.proofs.strong_replies_are_of_one_copy.Goals as goal

pub returns-clause-one_copy : goal.returns-clause-one_copy
returns-clause-one_copy c = λ client o members log w p h strong. one_copy client o members log w p h strong

pub returns-clause-in_run_order : goal.returns-clause-in_run_order
returns-clause-in_run_order c = λ o next members log h same first second q less. ordered o next members log h same first second q less

pub returns-clause-in_order : goal.returns-clause-in_order
returns-clause-in_order c = λ o next members log h same first second p q. no_older o next members log h same first second p q

pub returns-clause-eventual : goal.returns-clause-eventual
returns-clause-eventual c = λ client o members log w p h weak. by_mode client o members log w p h weak

pub returns-clause-once : goal.returns-clause-once
returns-clause-once c = λ chain members log h. only_grows chain members log h

pub returns-clause-one_reply : goal.returns-clause-one_reply
returns-clause-one_reply c = λ chain members log h. one_reply chain members log h

pub returns-clause-grows : goal.returns-clause-grows
returns-clause-grows c = λ chain members log more h k p. grows chain members log more h k p

pub returns-clause-asked : goal.returns-clause-asked
returns-clause-asked c = λ chain members log update h there. was_asked chain members log update h there

pub returns-clause-accepted : goal.returns-clause-accepted
returns-clause-accepted c = λ client o log w p. accepted_in client o log w p

pub returns-clause-together : goal.returns-clause-together
returns-clause-together c = λ client other o next w v p. in_one client other o.old o.new next.old next.new o.node next.node o.ask next.ask o.answer next.answer o.receipt next.receipt w v p
