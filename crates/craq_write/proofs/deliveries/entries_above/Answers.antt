use Rattle.std.proofs.Common.{List, nat_lt, rules, ap, ◌∙◌}
use Rattle.std.proofs.lemmas.Fn.{filter_same}
use Rattle.craq_commands.specs.declared.entry.Entry.{Entry}
use Rattle.craq_model.specs.Deliveries.{entries_above}
use Rattle.craq_write.proofs.deliveries.entries_above.Goals as goal

pub returns : goal.returns
unfolding entries_above
returns c =
    c.of.ensures
    ∙ filter_same _ (λ (e : Entry). nat_lt c.args.position e.position) _ (λ x b f t. search rules) _ _ c.retain.ensures.filtered
    ∙ ap (λ (l : List Entry). entries_above c.args.position l) c.into_vec-above.ensures
