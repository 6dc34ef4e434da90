use Rattle.std.proofs.Common.{◌≡◌, ◌≢◌, ℕ, ◌+◌, List, ◌∷◌, ap, arith, rules}
use Rattle.std.proofs.lemmas.List.Elements.{All-rest}
use Rattle.craq_names.specs.Limits.{greatest}
use Rattle.craq_commands.specs.Objects.{version_of}
use Rattle.craq_model.specs.Past.{newest_in}
use Rattle.craq_write.proofs.Versions.{one_more}
use Rattle.craq_write.proofs.making_entries.versioned.Goals as goal

pub loop-key-preserved : goal.loop-key-preserved
loop-key-preserved g c =
    let objects = (newest_in (g.H.History.past c.args.history.now)).objects in
    let rest : c.loop-key.key-iterator.rest.items ≡ (c.in-Some.key, c.in-Some.value) ∷ c.next.new.self.rest.items = search rules in
    let version : c.new-version.result ≡ version_of objects c.in-Some.key + 1 = omega (arith, c.new-version.ensures, c.get.ensures, ap (λ (o : ℕ × List ℕ). o.0) c.newest-version.ensures.object) in
    record {
      left = All-rest (λ (w : List ℕ × List ℕ). version_of objects w.0 ≢ greatest) (c.in-Some.key, c.in-Some.value) c.next.new.self.rest.items c.loop-key.key-iterator.rest.items rest c.loop-key.invariant.left;
      made = one_more objects c.loop-key.made.items c.push.new.self.items c.args.writes.items c.loop-key.key-iterator.rest.items c.next.new.self.rest.items c.in-Some.key c.in-Some.value c.new-version.result c.loop-key.invariant.made rest version c.in_ok-push.ensures.items;
    }
