use Rattle.std.proofs.Common.{ap}
use Rattle.std.specs.Map.{lookup}
use Rattle.std.specs.BTreeMap.{is_at}
use Rattle.craq_explain.specs.Firsts.{write_cmp}
use Rattle.craq_explain.specs.Tables.{first_written}
use Rattle.craq_explain.proofs.committed.Committed.new.Goals as goal

pub returns : goal.returns
unfolding first_written
returns c = record {
  origins = c.new.ensures.items;
  written = λ q. ap (λ es. lookup (is_at (write_cmp q)) es) c.new-2.ensures.empty;
}
