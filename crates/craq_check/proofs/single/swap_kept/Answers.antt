use Rattle.std.proofs.Common.{◌∙◌, ap}
use Rattle.std.specs.Map.{lookup}
use Rattle.std.specs.BTreeMap.{is_at, insert_entry}
use Rattle.std.specs.Ordering.{nat_cmp}
use Rattle.craq_check.proofs.Maps.{found_is, put_is}
use Rattle.craq_check.proofs.single.swap_kept.Goals as goal

pub returns-clause-kept : goal.returns-clause-kept
returns-clause-kept c =
    c.in_ok-held.ensures.entries
    ∙ ap (λ n. insert_entry nat_cmp c.args.kept.now.entries n c.args.window) c.get.ensures
    ∙ put_is nat_cmp c.args.client c.args.window c.args.kept.now.entries

pub returns-clause-held : goal.returns-clause-held
returns-clause-held c =
    c.in_ok-held.ensures.old ∙ ap (λ n. lookup (is_at (nat_cmp n)) c.args.kept.now.entries) c.get.ensures ∙ found_is nat_cmp c.args.client c.args.kept.now.entries
