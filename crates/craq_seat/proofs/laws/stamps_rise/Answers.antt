use Rattle.craq_seat.specs.Stamps.{book_stamp, event_stamp}
use Rattle.craq_seat.proofs.Taking.{stamps_rise}
use Rattle.craq_seat.proofs.laws.stamps_rise.Goals as goal

pub returns-clause-nodes : goal.returns-clause-nodes
returns-clause-nodes c = λ first last rs h. stamps_rise event_stamp first last rs h

pub returns-clause-masters : goal.returns-clause-masters
returns-clause-masters c = λ first last rs h. stamps_rise book_stamp first last rs h
