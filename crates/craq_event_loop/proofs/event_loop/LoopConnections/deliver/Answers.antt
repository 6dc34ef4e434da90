use Rattle.std.proofs.Common.{ap, sym}
use Rattle.craq_event_loop.proofs.Belonging.{delivered}
use Rattle.craq_event_loop.proofs.Marks.{behind_changed, same_listed}
use Rattle.craq_event_loop.proofs.event_loop.LoopConnections.deliver.Goals as goal

pub returns-clause-reported : goal.returns-clause-reported
returns-clause-reported g c =
    delivered (g.H.AsyncBackend.finishes c.args.backend.now) c.args.self.now.connections c.wake.new.self.connections c.args.completion.token c.in-Some.addressee.now c.take_reply.new.self c.args.completion.reply
    (sym c.in-Some.ensures.value) c.take_reply.ensures c.wake.ensures.wakes

pub returns-clause-kept : goal.returns-clause-kept
returns-clause-kept g c k = record {
  listed = c.wake.ensures.listed (
      same_listed c.args.self.now.connections c.args.self.now.busy c.args.self.now.behind c.args.completion.token.connection c.in-Some.addressee.now
      c.take_reply.new.self k.listed (sym c.in-Some.ensures.value) (ap (λ x. x.busy) c.take_reply.ensures.rest));
  behind =
      behind_changed c.args.self.now.connections c.wake.new.self.connections c.args.completion.token.connection c.in-Some.addressee.now
      c.take_reply.new.self k.behind (sym c.in-Some.ensures.value) c.wake.ensures.wakes c.wake.ensures.vacant c.wake.ensures.others;
}
