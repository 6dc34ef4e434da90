use Rattle.std.proofs.Common.{length, refl, ap}
use Rattle.craq_compact_history.specs.Stored.{stored}
use Rattle.craq_compact_history.proofs.Seen.{bytes_told, figures_told}
use Rattle.craq_compact_history.proofs.figures.figures_of.Goals as goal

pub returns-clause-figures : goal.returns-clause-figures
returns-clause-figures c = λ p h.
    figures_told p _ c.get.result c.len.result c.acknowledged.result c.len-2.result (length c.as_slice-reads.result.now) c.objects.result c.bytes.result c.node-node.result.now.ready c.is_running.result h.sound (c.node-node.ensures p h) c.get.ensures refl
    (c.is_running.ensures p h) c.len.ensures c.acknowledged.ensures c.len-2.ensures (ap length c.as_slice-reads.ensures.value) c.objects.ensures

pub returns-clause-bytes : goal.returns-clause-bytes
returns-clause-bytes c = λ p h.
    let history = c.node-node.result.now.history in
    bytes_told p _ (stored history.held.base history.held.state history.held.entries history.acknowledged) c.bytes.result (c.node-node.ensures p h) refl c.bytes.ensures
