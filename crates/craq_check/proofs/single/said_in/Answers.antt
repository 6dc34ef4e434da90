use Rattle.std.proofs.Common.{[], Option, ◌∙◌, ap}
use Rattle.std.specs.Prelude.{unwrap_or}
use Rattle.std.specs.Map.{lookup}
use Rattle.std.specs.BTreeMap.{is_at}
use Rattle.std.specs.Ordering.{nat_cmp}
use Rattle.craq_names.specs.Maps.{at_number}
use Rattle.craq_commands.specs.Kept.{Window, is_stale, said_of}
use Rattle.craq_check.proofs.Maps.{found_is}
use Rattle.craq_check.proofs.single.said_in.Goals as goal

pub returns-in-Some : goal.returns-in-Some
returns-in-Some c =
    c.look.ensures.reply ∙ ap (λ (o : Option Window). said_of (unwrap_or o []) c.args.number) (c.in-Some.ensures.value ∙ ap (λ n. lookup (is_at (nat_cmp n)) c.args.kept.now.entries) c.get.ensures ∙ found_is nat_cmp c.args.client c.args.kept.now.entries)

pub returns-in-None : goal.returns-in-None
unfolding said_of is_stale
returns-in-None c =
    ap (λ (o : Option Window). said_of (unwrap_or o []) c.args.number) (c.in-None.ensures.value ∙ ap (λ n. lookup (is_at (nat_cmp n)) c.args.kept.now.entries) c.get.ensures ∙ found_is nat_cmp c.args.client c.args.kept.now.entries)
