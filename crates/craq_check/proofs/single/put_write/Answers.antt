use Rattle.craq_check.proofs.Bounds.{written_at}
use Rattle.craq_check.proofs.single.put_write.Goals as goal

pub returns-clause-bound : goal.returns-clause-bound
returns-clause-bound c =
    written_at c.args.objects.now.entries c.put_next.new.objects.entries (c.args.key.now, c.args.value.now) c.args.highest c.in_ok-put_next.ensures c.requires.bound
