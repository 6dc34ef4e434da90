use Rattle.std.proofs.Common.{◌∙◌, refl}
use Rattle.slab.specs.Slab.{get}
use Rattle.craq_event_loop.proofs.Coming.{behind_where_none_left, ends_woken, listed_looked, looked_same}
use Rattle.craq_event_loop.proofs.Marks.{behind_woken}
use Rattle.craq_event_loop.proofs.event_loop.LoopConnections.end_idle.Goals as goal

pub returns-then-close_if_idle-clause-kept : goal.returns-then-close_if_idle-clause-kept
returns-then-close_if_idle-clause-kept g c k = record {
  listed = c.wake.ensures.listed (
      listed_looked c.args.self.now.connections c.close_if_idle.new.connections c.args.self.now.busy c.args.self.now.behind c.args.key c.args.now c.args.self.now.idle
      c.close_if_idle.result k.listed c.close_if_idle.ensures.ends c.close_if_idle.ensures.vacant c.close_if_idle.ensures.others);
  behind =
      behind_woken c.args.self.now.connections c.close_if_idle.new.connections c.wake.new.self.connections c.args.key k.behind c.close_if_idle.ensures.others
      c.wake.ensures.wakes c.wake.ensures.vacant c.wake.ensures.others;
}

pub returns-then-close_if_idle-clause-ends : goal.returns-then-close_if_idle-clause-ends
returns-then-close_if_idle-clause-ends g c =
    ends_woken c.args.self.now.connections c.close_if_idle.new.connections c.wake.new.self.connections c.args.key c.args.now c.args.self.now.idle c.close_if_idle.result
    c.if-close_if_idle.true c.close_if_idle.ensures.ends c.close_if_idle.ensures.vacant c.wake.ensures.wakes c.wake.ensures.vacant
    (get c.args.self.now.connections c.args.key) refl

pub returns-then-close_if_idle-clause-others : goal.returns-then-close_if_idle-clause-others
returns-then-close_if_idle-clause-others g c other differs = c.wake.ensures.others other differs ∙ c.close_if_idle.ensures.others other differs

pub returns-else-close_if_idle-clause-kept : goal.returns-else-close_if_idle-clause-kept
returns-else-close_if_idle-clause-kept g c k = record {
  listed =
      listed_looked c.args.self.now.connections c.close_if_idle.new.connections c.args.self.now.busy c.args.self.now.behind c.args.key c.args.now c.args.self.now.idle
      c.close_if_idle.result k.listed c.close_if_idle.ensures.ends c.close_if_idle.ensures.vacant c.close_if_idle.ensures.others;
  behind =
      behind_where_none_left c.args.self.now.connections c.close_if_idle.new.connections c.args.key c.args.now c.args.self.now.idle c.close_if_idle.result
      c.if-close_if_idle.false c.close_if_idle.ensures.ends c.close_if_idle.ensures.vacant c.close_if_idle.ensures.others k.behind;
}

pub returns-else-close_if_idle-clause-ends : goal.returns-else-close_if_idle-clause-ends
returns-else-close_if_idle-clause-ends g c =
    (looked_same c.args.self.now.connections c.close_if_idle.new.connections c.args.key c.args.now c.args.self.now.idle c.close_if_idle.result
    c.if-close_if_idle.false c.close_if_idle.ensures.ends c.close_if_idle.ensures.vacant (get c.args.self.now.connections c.args.key) refl).1
