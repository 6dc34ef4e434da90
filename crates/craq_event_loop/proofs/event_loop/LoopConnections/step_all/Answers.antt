use Rattle.std.proofs.Common.{◌≡◌, ◌++◌, ◌∙◌, ap, filter, subst}
use Rattle.slab.specs.Slab.{get}
use Rattle.craq_event_loop.specs.SubmittedCalls.{called_by}
use Rattle.craq_event_loop.specs.Belonging.{OneByOne}
use Rattle.craq_event_loop.specs.Busy.{is_marked}
use Rattle.craq_event_loop.specs.Serving.{WritesAt}
use Rattle.craq_event_loop.proofs.Marks.{behind_handed, listed_handed, right_written}
use Rattle.craq_event_loop.proofs.Reaching.{reads_reachable, rounds_reachable}
use Rattle.craq_event_loop.proofs.event_loop.LoopConnections.step_all.Goals as goal

pub give_all-requires : goal.give_all-requires
give_all-requires g c =
    rounds_reachable g.H.LoopBackend.is_new (g.H.Backend.tells c.args.backend.now) (g.H.Backend.refuses c.args.backend.now) (called_by (g.H.AsyncBackend.submits c.args.backend.now) (g.H.AsyncBackend.finishes c.args.backend.now)) (g.H.AsyncBackend.finishes c.args.backend.now)
    c.read_all.new.self.busy.items c.read_all.new.self.connections c.advance_all.new.self.connections c.advance_all.ensures.rounds
    (reads_reachable g.H.LoopBackend.is_new (g.H.Backend.tells c.args.backend.now) (g.H.Backend.refuses c.args.backend.now) (called_by (g.H.AsyncBackend.submits c.args.backend.now) (g.H.AsyncBackend.finishes c.args.backend.now)) (g.H.AsyncBackend.finishes c.args.backend.now)
    g.S.Socket.remaining g.S.Socket.contents g.S.Socket.is_over g.S.Socket.is_dry g.S.Socket.is_full c.args.self.now.busy.items c.args.self.now.connections c.read_all.new.self.connections c.read_all.ensures.reads c.requires)

pub returns-clause-kept : goal.returns-clause-kept
returns-clause-kept g c k = record {
  listed = c.give_all.ensures.listed (
      listed_handed g.S.Socket.remaining g.S.Socket.contents g.S.Socket.is_over g.S.Socket.is_dry g.S.Socket.is_full (g.H.Backend.tells c.args.backend.now) (g.H.Backend.refuses c.args.backend.now) (called_by (g.H.AsyncBackend.submits c.args.backend.now) (g.H.AsyncBackend.finishes c.args.backend.now))
      c.args.self.now.connections c.read_all.new.self.connections c.advance_all.new.self.connections
      c.args.self.now.busy c.read_all.new.self.busy c.advance_all.new.self.busy c.args.self.now.behind c.read_all.new.self.behind c.advance_all.new.self.behind k.listed
      c.read_all.ensures.reads c.read_all.ensures.busy c.read_all.ensures.behind c.advance_all.ensures.rounds c.advance_all.ensures.busy c.advance_all.ensures.behind);
  behind =
      behind_handed g.S.Socket.remaining g.S.Socket.contents g.S.Socket.is_over g.S.Socket.is_dry g.S.Socket.is_full (g.H.Backend.tells c.args.backend.now) (g.H.Backend.refuses c.args.backend.now) (called_by (g.H.AsyncBackend.submits c.args.backend.now) (g.H.AsyncBackend.finishes c.args.backend.now))
      c.args.self.now.connections c.read_all.new.self.connections c.advance_all.new.self.connections c.give_all.new.self.connections
      c.args.self.now.busy c.read_all.new.self.busy c.advance_all.new.self.busy c.args.self.now.behind k.listed k.behind
      c.read_all.ensures.reads c.read_all.ensures.busy c.advance_all.ensures.rounds c.advance_all.ensures.busy c.give_all.ensures.writes;
}

pub returns-clause-marks : goal.returns-clause-marks
returns-clause-marks g c =
    let same : c.advance_all.new.self.busy ≡ c.args.self.now.busy = c.advance_all.ensures.busy ∙ c.read_all.ensures.busy in
    right_written g.S.Socket.remaining g.S.Socket.contents g.S.Socket.is_over g.S.Socket.is_dry g.S.Socket.is_full (g.H.Backend.tells c.args.backend.now) (g.H.Backend.refuses c.args.backend.now) (called_by (g.H.AsyncBackend.submits c.args.backend.now) (g.H.AsyncBackend.finishes c.args.backend.now))
    c.advance_all.new.self.connections c.give_all.new.self.connections c.args.self.now.busy.items
    (subst (λ v. OneByOne (WritesAt g.S.Socket.remaining g.S.Socket.contents g.S.Socket.is_over g.S.Socket.is_dry g.S.Socket.is_full) v.items c.advance_all.new.self.connections c.give_all.new.self.connections) same c.give_all.ensures.writes)

pub returns-clause-behind : goal.returns-clause-behind
returns-clause-behind g c k =
    c.give_all.ensures.behind (
    listed_handed g.S.Socket.remaining g.S.Socket.contents g.S.Socket.is_over g.S.Socket.is_dry g.S.Socket.is_full (g.H.Backend.tells c.args.backend.now) (g.H.Backend.refuses c.args.backend.now) (called_by (g.H.AsyncBackend.submits c.args.backend.now) (g.H.AsyncBackend.finishes c.args.backend.now))
    c.args.self.now.connections c.read_all.new.self.connections c.advance_all.new.self.connections
    c.args.self.now.busy c.read_all.new.self.busy c.advance_all.new.self.busy c.args.self.now.behind c.read_all.new.self.behind c.advance_all.new.self.behind k.listed
    c.read_all.ensures.reads c.read_all.ensures.busy c.read_all.ensures.behind c.advance_all.ensures.rounds c.advance_all.ensures.busy c.advance_all.ensures.behind)
    ∙ ap (λ v. v.items ++ filter (λ key. is_marked (get c.give_all.new.self.connections key)) c.advance_all.new.self.busy.items) (c.advance_all.ensures.behind ∙ c.read_all.ensures.behind)
    ∙ ap (λ v. c.args.self.now.behind.items ++ filter (λ key. is_marked (get c.give_all.new.self.connections key)) v.items) (c.advance_all.ensures.busy ∙ c.read_all.ensures.busy)
