use Rattle.std.proofs.lemmas.Result.{IfOk-weaker}
use Rattle.craq_commands.specs.SingleCopy.{after_entries}
use Rattle.craq_part_tests.proofs.Next.{one_write_is_next}
use Rattle.craq_part_tests.proofs.held.next_entry.Goals as goal

pub returns-clause-next : goal.returns-clause-next
returns-clause-next c =
    let s = after_entries c.args.held.now.state c.args.held.now.entries in
    IfOk-weaker c.entry.result _ _ (λ e writes. one_write_is_next s e c.in_ok-write.write writes c.in_ok-write.ensures) c.entry.ensures.writes
