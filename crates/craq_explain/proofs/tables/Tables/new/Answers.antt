use Rattle.std.proofs.Common.{ap}
use Rattle.std.specs.Map.{lookup}
use Rattle.std.specs.BTreeMap.{is_at}
use Rattle.craq_runs.specs.Seen.{ask_with}
use Rattle.craq_explain.specs.Firsts.{name_cmp}
use Rattle.craq_explain.specs.Tables.{asked_at, pending_of}
use Rattle.craq_explain.proofs.tables.Tables.new.Goals as goal

pub returns : goal.returns
unfolding asked_at ask_with pending_of
returns c = record {
  asked = λ q. ap (λ es. lookup (is_at (name_cmp q)) es) c.new.ensures.empty;
  pending = λ q. ap (λ es. lookup (is_at (name_cmp q)) es) c.new-2.ensures.empty;
  committed = c.new-3.ensures;
}
