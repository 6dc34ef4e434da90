use Rattle.craq_history.specs.Nodes.{plain_of}
use Rattle.craq_history.proofs.Sound.{follows_in_row, grows_applicable, grows_encodable}
use Rattle.craq_history.proofs.node.Node.apply.Goals as goal

pub change_history-requires-clause-in_row : goal.change_history-requires-clause-in_row
change_history-requires-clause-in_row g c = follows_in_row (plain_of g.H.History.past c.args.self.now) c.args.change c.requires.sound

pub change_history-requires-clause-applicable : goal.change_history-requires-clause-applicable
change_history-requires-clause-applicable g c = grows_applicable (plain_of g.H.History.past c.args.self.now) c.args.change c.requires.sound

pub change_history-requires-clause-spelled : goal.change_history-requires-clause-spelled
change_history-requires-clause-spelled g c = grows_encodable (plain_of g.H.History.past c.args.self.now) c.args.change c.requires.sound
