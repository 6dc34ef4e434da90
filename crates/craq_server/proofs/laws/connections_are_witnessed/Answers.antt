use Rattle.std.proofs.Common.{length}
use Rattle.craq_server.specs.Refusing.{RefusesServed}
use Rattle.craq_server.specs.Status.{TellsStatus}
use Rattle.craq_server.proofs.Reached.{reached_witnessed}
use Rattle.craq_server.proofs.laws.connections_are_witnessed.Goals as goal

pub returns : goal.returns
returns c store most_leap read written first state fresh reached =
    reached_witnessed most_leap (TellsStatus store) (λ node pass ask e. RefusesServed (length store.names) node ask e) first fresh read written state reached
