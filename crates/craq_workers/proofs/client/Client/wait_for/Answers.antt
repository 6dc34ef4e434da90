use Rattle.std.proofs.Common.{◌≡◌, ℕ, ap, subst}
use Rattle.std.specs.Prelude.{◌⊎◌}
use Rattle.craq_workers.specs.Clients.{Asker}
use Rattle.craq_workers.specs.Untaken.{IsGivenUp, LeavesOpen}
use Rattle.craq_workers.proofs.Refusing.{can_report, untaken}
use Rattle.craq_workers.proofs.client.Client.wait_for.Goals as goal

-- the call was made and refused
pub returns-in-Err-clause-untaken : goal.returns-in-Err-clause-untaken
returns-in-Err-clause-untaken g c =
    let old = c.args.self.now in
    let e = c.give_up.result in
    let same : c.make.new.self.pass ≡ old.pass = ap (λ (a : Asker). a.pass) c.make.ensures.same in
    let given = subst (λ (pass : ℕ). LeavesOpen e ⊎ IsGivenUp c.give_up.new.self.seen c.in_ok-call.call pass e) same c.give_up.ensures.given_up in
    untaken old.client old.seen c.make.new.self.seen c.give_up.new.self.seen c.args.node.now c.args.ask.now old.pass c.in_ok-call.call c.in_ok-call.ensures.caller c.in_ok-call.ensures.made c.give_up.ensures.later e
    (can_report c.args.ask.now c.in-Err.refusal e c.in-Err.ensures.refused c.give_up.ensures.reported) given
