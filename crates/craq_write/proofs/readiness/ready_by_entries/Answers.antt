use Rattle.std.proofs.Common.{◌≡◌, ◌≤◌, true, false, arith, rules}
use Rattle.craq_names.specs.Limits.{greatest}
use Rattle.craq_model.specs.Plain.{is_last}
use Rattle.craq_history.specs.Nodes.{plain_of}
use Rattle.craq_write.proofs.Readying.{ready_by_last, ready_by_others}
use Rattle.craq_write.proofs.readiness.ready_by_entries.Goals as goal

pub returns-then-eq : goal.returns-then-eq
returns-then-eq g c =
    let p = plain_of g.H.History.past c.args.node.now in
    let last : is_last p ≡ true = cc in
    let few : c.args.end ≤ greatest = first_of (omega arith, search rules) in
    ready_by_last p c.args.entries c.args.end c.growing_ready.result c.done.result c.in_ok-outs.outs.items last c.requires.end few c.requires.unready (c.requires.takes.idle c.requires.unready) c.requires.reached
    c.growing_ready.ensures
    c.in_ok-outs.ensures c.done.ensures

pub returns : goal.returns
returns g c =
    let p = plain_of g.H.History.past c.args.node.now in
    let last : is_last p ≡ false = cc in
    let few : c.args.end ≤ greatest = first_of (omega arith, search rules) in
    ready_by_others p c.args.entries c.args.end c.growing_ready-2.result c.done-2.result c.in_ok-outs-2.outs.items last c.requires.end few c.requires.unready (c.requires.takes.idle c.requires.unready) c.requires.reached c.requires.takes.within
    c.growing_ready-2.ensures
    (rw c.as_slice-2.ensures at c.in_ok-outs-2.ensures) c.done-2.ensures
