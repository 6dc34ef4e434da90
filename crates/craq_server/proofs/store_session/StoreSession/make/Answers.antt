use Rattle.std.proofs.Common.{rules, ◌≡◌}
use Rattle.craq_server.specs.Sessions.{calls_from, next_call}
use Rattle.craq_server.proofs.Sessions.{makes_call, makes_first}
use Rattle.craq_server.proofs.store_session.StoreSession.make.Goals as goal

pub returns-clause-call : goal.returns-clause-call
returns-clause-call g c =
    let old = c.args.self.now in
    let inside = c.self.inside in
    let mine : c.in_ok-call.call ≡ next_call old = search rules in
    let calls : old.calls ≡ calls_from inside.session.client inside.first inside.session.next = search rules in
    let behind = makes_first inside.session.client inside.session.next c.make_ask.new.session.client c.make_ask.new.session.next inside.first inside.last c.in_ok-call.call old.calls c.first_with.result c.self.invariant
    c.in_ok-call.ensures.call c.in_ok-call.ensures.client c.in_ok-call.ensures.next calls c.first_with.ensures in
    makes_call old _ c.args.node.now c.args.ask.now c.in_ok-call.call mine behind (search rules) (search rules)
