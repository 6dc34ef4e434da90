use Rattle.std.proofs.Common.{◌≡◌, false, None, refl, ap, ◌∙◌}
use Rattle.std.specs.Prelude.{List, []}
use Rattle.craq_epochs.specs.Switched.{Switched}
use Rattle.craq_model.specs.declared.step.Out.{Out}
use Rattle.craq_model.specs.Past.{Past}
use Rattle.craq_history.specs.Nodes.{plain_of}
use Rattle.craq_node.specs.Represented.{plain_at}
use Rattle.craq_node.proofs.Stops.{stops}
use Rattle.craq_node.proofs.node_core.NodeCore.take_admitted.Goals as goal

pub returns-in-Stop-clause-gives : goal.returns-in-Stop-clause-gives
returns-in-Stop-clause-gives g c =
    let empty : c.done.result ≡ record { ticket = None; outs = []; ignored = None } = c.done.ensures ∙ ap (λ (os : List Out). record { ticket = None; outs = os; ignored = None }) c.new.ensures.items in
    rw (ap (λ (s : Switched). s.running) c.stop.ensures.stopped)
    (_, stops (plain_of g.H.History.past c.args.self.now.node) c.args.event c.done.result refl c.in-Stop.is empty, ap (λ (h : Past). record (plain_at g.H.History.past c.args.self.now.node false) { past = h }) (g.met.H.History.is_remembered c.args.self.now.node.history))
