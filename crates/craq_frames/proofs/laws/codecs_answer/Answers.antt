use Rattle.craq_frames.proofs.Talks.{stands_first, stands_received, stands_asked, stands_refused, stands_ahead, stands_replied}
use Rattle.craq_frames.proofs.laws.codecs_answer.Goals as goal

pub returns-clause-begins : goal.returns-clause-begins
returns-clause-begins c = stands_first

pub returns-clause-received : goal.returns-clause-received
returns-clause-received c = stands_received

pub returns-clause-asked : goal.returns-clause-asked
returns-clause-asked c = stands_asked

pub returns-clause-refused : goal.returns-clause-refused
returns-clause-refused c = stands_refused

pub returns-clause-replied : goal.returns-clause-replied
returns-clause-replied c = stands_replied

pub returns-clause-ahead : goal.returns-clause-ahead
returns-clause-ahead c = stands_ahead
