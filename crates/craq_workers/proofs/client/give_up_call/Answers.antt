use Rattle.std.proofs.Common.{◌≡◌, inr, rules}
use Rattle.craq_workers.proofs.Refusing.{came_back}
use Rattle.craq_workers.proofs.client.give_up_call.Goals as goal

-- the call came back, and was withdrawn
pub returns-clause-given_up : goal.returns-clause-given_up
returns-clause-given_up g c =
    let same : c.in-Some.made.call ≡ c.args.call = search rules in
    let parts = c.into_parts-refusal.result in
    inr (came_back c.args.pass parts.2 c.moment_of_pass-moment.result parts.1 parts.0 c.see_moment-refusal.result c.in-Some.made c.args.call c.see_moment-refusal.new.session.seen c.take_back.new.self.seen c.in-Some.is same c.into_parts-refusal.ensures.shown c.moment_of_pass-moment.ensures c.see_moment-refusal.ensures.seen c.take_back.ensures.later c.take_back.ensures.never c.take_back.ensures.history)
