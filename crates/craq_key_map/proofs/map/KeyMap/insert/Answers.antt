use Rattle.std.proofs.Common.{◌+◌, ◌∷◌, [], ◌++◌, ◌∙◌, ap, subst, sym}
use Rattle.craq_key_map.specs.Indexed.{Knows}
use Rattle.craq_key_map.specs.Mapped.{entries_of, IsMapped}
use Rattle.craq_key_map.proofs.Writes.{inserted_entries, inserted_mapped}
use Rattle.craq_key_map.proofs.map.KeyMap.insert.Goals as goal

pub invariant_of-self-2 : goal.invariant_of-self-2
invariant_of-self-2 g c =
    let k = c.self.inside in
    let new = c.add.new.self in
    let absent = rw (← c.self.view_is) at c.requires in
    let is = c.in_ok-push.ensures.ok ∙ ap (λ m. m ++ (c.args.key, c.args.item) ∷ []) c.reserve.ensures in
    let known = subst (λ h. Knows new h k.count) c.hash.ensures c.in_ok-add.ensures.ok in
    subst (λ m. IsMapped m (k.count + 1) new k.hasher.fed) (sym is) (inserted_mapped k.items k.count k.index new k.hasher.fed c.self.invariant c.in_ok-add.ensures.keeps c.args.key c.args.item absent known)

pub returns-clause-ok : goal.returns-clause-ok
returns-clause-ok g c =
    let k = c.self.inside in
    let new = c.add.new.self in
    let absent = rw (← c.self.view_is) at c.requires in
    let is = c.grow.ensures ∙ c.in_ok-push.ensures.ok ∙ ap (λ m. m ++ (c.args.key, c.args.item) ∷ []) c.reserve.ensures in
    rw (← c.self.view_is) (ap entries_of is ∙ inserted_entries k.items k.count k.index new k.hasher.fed c.self.invariant c.in_ok-add.ensures.keeps c.args.key c.args.item absent)
