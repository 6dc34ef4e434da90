use Rattle.std.proofs.Common.{◌≡◌, ◌<◌, length, set, arith, subst}
use Rattle.craq_world.specs.Promise.{AreExplained}
use Rattle.craq_world.proofs.Chains.{HasMoved, all_explained, has_moved, nothing_changes, running_on}
use Rattle.craq_world.proofs.world.World.take.Goals as goal

pub returns-then-place-len-clause-explained : goal.returns-then-place-len-clause-explained
returns-then-place-len-clause-explained g c = subst (AreExplained 0) c.self.view_is (all_explained 0 c.self.inside.chains.items c.self.invariant)

pub returns-then-place-len-clause-grows : goal.returns-then-place-len-clause-grows
returns-then-place-len-clause-grows g c = nothing_changes c.args.self.now

pub invariant_of-self : goal.invariant_of-self
invariant_of-self g c =
    let xs = c.self.inside.chains.items in
    let within : c.from-place.result < length xs = omega (arith, c.self.inside.chains.ok) in
    running_on xs c.from-place.result c.index_mut.result.now c.take.new.self c.args.chosen c.take.result c.self.invariant within c.index_mut.ensures.value c.take.ensures.gives c.take.ensures.typed

pub returns : goal.returns
returns g c =
    let xs = c.self.inside.chains.items in
    let new = set xs c.from-place.result c.take.new.self in
    let within : c.from-place.result < length xs = omega (arith, c.self.inside.chains.ok) in
    let id : c.from-place.result ≡ c.args.chain = cc in
    let here = has_moved xs c.from-place.result c.index_mut.result.now c.take.new.self c.args.chosen c.take.result c.self.invariant within c.index_mut.ensures.value c.take.ensures.gives c.take.ensures.typed in
    let reported = subst (λ i. HasMoved xs new i c.args.chosen c.take.result) id here in
    let moved = subst (λ ws. HasMoved ws new c.args.chain c.args.chosen c.take.result) c.self.view_is reported in
    record { gives = moved.gives; others = moved.others; explained = moved.explained; grows = moved.grows }
