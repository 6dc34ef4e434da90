use Rattle.std.proofs.Common.{ℕ, List, refl, sym, ap, ◌∙◌, arith}
use Rattle.craq_commands.specs.Objects.{set_object}
use Rattle.craq_versions.proofs.Placed.{versions_at}
use Rattle.craq_compact_state.specs.declared.value_locations.ValueLocation.{ValueLocation}
use Rattle.craq_compact_state.specs.Bytes.{bytes_of_object}
use Rattle.craq_compact_state.specs.Placed.{settled_in}
use Rattle.craq_compact_state.proofs.Bytes.{settled_counted}
use Rattle.craq_compact_state.proofs.Clean.{placed_settled}
use Rattle.craq_compact_state.proofs.Placing.{changed, later_settled, object_found, objects_settled}
use Rattle.craq_compact_state.proofs.counted.CountedTable.settle.Goals as goal

pub returns-clause-objects : goal.returns-clause-objects
unfolding set_object
returns-clause-objects c =
    let t = c.args.self.now.table in
    let key = c.args.key.now in
    objects_settled t c.settle_as_at.new.self key c.args.version c.args.value c.requires.placed.rising (c.settle_as_at.ensures.objects key c.in-Some.ensures.some)

pub returns-clause-versions : goal.returns-clause-versions
returns-clause-versions c =
    let key = c.args.key.now in
    changed c.args.self.now.table c.settle_as_at.new.self key _ (c.settle_as_at.ensures.objects key c.in-Some.ensures.some)

pub returns-clause-later : goal.returns-clause-later
returns-clause-later c =
    let t = c.args.self.now.table in
    let key = c.args.key.now in
    let at = c.in-Some.ensures.some in
    later_settled t c.settle_as_at.new.self key c.args.version c.args.value (c.settle_as_at.ensures.objects key at) (c.settle_as_at.ensures.were_versions key at) c.requires.next

pub returns-clause-placed : goal.returns-clause-placed
returns-clause-placed c =
    let t = c.args.self.now.table in
    let key = c.args.key.now in
    placed_settled t c.settle_as_at.new.self key c.args.version c.args.value (c.settle_as_at.ensures.objects key c.in-Some.ensures.some) c.requires.placed

pub returns-clause-counted : goal.returns-clause-counted
unfolding set_object
returns-clause-counted c =
    let t = c.args.self.now.table in
    let key = c.args.key.now in
    let at = c.in-Some.ensures.some in
    let rising = c.requires.placed.rising in
    let objects = objects_settled t c.settle_as_at.new.self key c.args.version c.args.value rising (c.settle_as_at.ensures.objects key at) in
    let list = c.at.result.now in
    let replaced =
    c.bytes_in-replaced.ensures
    ∙ ap (λ (vs : List (ℕ × ValueLocation)). bytes_of_object key (settled_in vs)) (versions_at t key list (c.at.ensures key at))
    ∙ sym (ap (bytes_of_object key) (object_found t key rising)) in
    settled_counted t c.settle_as_at.new.self key c.args.version c.args.value c.args.self.now.bytes c.bytes_in-replaced.result _ rising objects replaced (omega arith) refl
