use Rattle.std.proofs.Common.{ap}
use Rattle.mio.specs.declared.token.Token.{Token}
use Rattle.craq_event_loop.proofs.Coming.{listed_noticed, reported_and_woken}
use Rattle.craq_event_loop.proofs.Marks.{behind_woken}
use Rattle.craq_event_loop.proofs.event_loop.LoopConnections.notice_event.Goals as goal

pub returns-clause-kept : goal.returns-clause-kept
returns-clause-kept g c k = record {
  listed = c.wake.ensures.listed (
      listed_noticed c.args.self.now.connections c.notice_at.new.connections c.args.self.now.busy c.args.self.now.behind c.token-key.result.0 c.args.event.now
      k.listed c.notice_at.ensures.reported c.notice_at.ensures.vacant c.notice_at.ensures.others);
  behind =
      behind_woken c.args.self.now.connections c.notice_at.new.connections c.wake.new.self.connections c.token-key.result.0 k.behind c.notice_at.ensures.others
      c.wake.ensures.wakes c.wake.ensures.vacant c.wake.ensures.others;
}

pub returns-clause-reported : goal.returns-clause-reported
returns-clause-reported g c =
    reported_and_woken c.args.self.now.connections c.notice_at.new.connections c.wake.new.self.connections c.token-key.result.0 c.args.event.now
    (ap (λ (t : Token). t.0) c.token-key.ensures)
    c.notice_at.ensures.reported c.notice_at.ensures.vacant c.notice_at.ensures.others c.wake.ensures.wakes c.wake.ensures.vacant c.wake.ensures.others
