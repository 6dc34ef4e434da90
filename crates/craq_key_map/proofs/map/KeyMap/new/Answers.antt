use Rattle.std.proofs.Common.{◌∙◌, ap, subst, sym}
use Rattle.craq_key_map.specs.Mapped.{entries_of, IsMapped}
use Rattle.craq_key_map.proofs.Writes.{no_entries, nothing_mapped}
use Rattle.craq_key_map.proofs.map.KeyMap.new.Goals as goal

pub invariant_of-result : goal.invariant_of-result
invariant_of-result g c = subst (λ m. IsMapped m 0 c.new-2.result c.new-3.result.fed) (sym c.new.ensures) (nothing_mapped c.new-2.result c.new-3.result.fed)

pub returns : goal.returns
returns g c = ap entries_of c.new.ensures ∙ no_entries
