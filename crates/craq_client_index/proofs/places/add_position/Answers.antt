use Rattle.std.proofs.Common.{rules}
use Rattle.std.proofs.lemmas.Result.{on_ok_weaker, on_err_weaker}
use Rattle.craq_client_index.proofs.Placing.{noted_more, noted_same}
use Rattle.craq_client_index.proofs.places.add_position.Goals as goal

pub returns-in-Some-clause-ok : goal.returns-in-Some-clause-ok
returns-in-Some-clause-ok c =
    on_ok_weaker c.push.result
    (λ more. noted_more c.args.places.now.entries _ c.args.client c.args.position c.in-Some.positions.now c.push.new.self c.in-Some.ensures.value more ((c.get_mut.follows.holds c.push.new.self).3 (search rules)).0)
    c.push.ensures.ok

pub returns-in-Some-clause-err : goal.returns-in-Some-clause-err
returns-in-Some-clause-err c =
    on_err_weaker c.push.result
    (λ same. noted_same c.args.places.now.entries _ c.args.client c.in-Some.positions.now c.push.new.self c.in-Some.ensures.value same ((c.get_mut.follows.holds c.push.new.self).3 (search rules)).0)
    c.push.ensures.err
