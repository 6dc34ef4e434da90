use Rattle.std.proofs.Common.{◌≡◌, ◌++◌, [], ◌∷◌, length, length-append, ap, arith}
use Rattle.craq_history.proofs.Running.{full}
use Rattle.craq_history.proofs.outs.add_to_run.Goals as goal

pub returns-clause-made : goal.returns-clause-made
returns-clause-made c =
    λ rest.
    let run = c.args.run.now.items in
    let count : length (run ++ c.args.entry ∷ []) ≡ 16 = omega (arith, length-append run (c.args.entry ∷ []), ap length c.as_slice.ensures.value, ap length c.in_ok-push.ensures.items, c.requires) in
    rw (c.in_ok-push-2.ensures.items, c.of.ensures, c.replace-full.ensures.value, c.replace-full.ensures.after, c.in_ok-push.ensures.items, c.new.ensures.items)
    (full c.args.bodies.now.items run rest c.args.entry count)
