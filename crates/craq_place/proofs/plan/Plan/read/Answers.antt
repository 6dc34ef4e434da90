use Rattle.toml.specs.View.{table_view}
use Rattle.craq_place.proofs.Plans.{found, only, bad}
use Rattle.craq_place.proofs.plan.Plan.read.Goals as goal

pub returns-in-Ok-clause-found : goal.returns-in-Ok-clause-found
returns-in-Ok-clause-found c = found c.args.text.now (table_view c.in-Ok.table) c.read_plan.result c.in-Ok.ensures.ok c.read_plan.ensures

pub returns-in-Ok-clause-only : goal.returns-in-Ok-clause-only
returns-in-Ok-clause-only c = only c.args.text.now (table_view c.in-Ok.table) c.read_plan.result c.in-Ok.ensures.ok c.read_plan.ensures

pub returns-in-Ok-clause-bad : goal.returns-in-Ok-clause-bad
returns-in-Ok-clause-bad c = bad c.args.text.now (table_view c.in-Ok.table) c.read_plan.result c.in-Ok.ensures.ok c.read_plan.ensures
