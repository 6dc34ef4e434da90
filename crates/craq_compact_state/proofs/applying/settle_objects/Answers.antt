use Rattle.std.proofs.Common.{List, sym, subst, ◌∙◌, rules}
use Rattle.std.proofs.lemmas.List.{nil_from_length}
use Rattle.craq_commands.specs.declared.entry.Write.{Write}
use Rattle.craq_model.specs.Past.{values_in}
use Rattle.craq_compact_state.specs.Followed.{CanApply}
use Rattle.craq_compact_state.specs.Placed.{later_of, objects_of, versions_of}
use Rattle.craq_compact_state.proofs.Bytes.{write_counted, writes_counted}
use Rattle.craq_compact_state.proofs.Following.{applies_on, settles_next}
use Rattle.craq_compact_state.proofs.Settling.{write_settled, writes_settled}
use Rattle.craq_compact_state.proofs.applying.settle_objects.Goals as goal

pub settle-requires-clause-next : goal.settle-requires-clause-next
settle-requires-clause-next c =
    let w = c.in-Some.write in
    settles_next w c.next.new.self.rest.items (versions_of c.loop-write.counted.table w.key) (subst (λ (l : List Write). CanApply (values_in l w.key) (versions_of c.loop-write.counted.table w.key)) c.in-Some.ensures.steps.0 (c.loop-write.invariant.ready w.key))

pub loop-write-preserved : goal.loop-write-preserved
loop-write-preserved c =
    let left = c.next.new.self.rest.items in
    let step = c.in-Some.ensures.steps.0 in
    let w = c.in-Some.write in
    record {
      written = search rules;
      later = λ q. write_settled _ (later_of c.loop-write.counted.table q) _ _ left w q step (c.loop-write.invariant.later q) (c.settle.ensures.later q);
      ready = λ q. applies_on w left q (versions_of c.loop-write.counted.table q) (versions_of c.settle.new.self.table q) (versions_of c.loop-write.counted.table w.key) w.value (c.settle.ensures.versions q) (c.settle.ensures.later q)
          (subst (λ (l : List Write). CanApply (values_in l q) (versions_of c.loop-write.counted.table q)) step (c.loop-write.invariant.ready q));
      placed = c.settle.ensures.placed;
      counted = λ more before. write_counted c.loop-write.counted.bytes c.settle.new.self.bytes (objects_of c.loop-write.counted.table) (objects_of c.settle.new.self.table) w c.loop-write.write-iterator.rest.items left more step c.settle.ensures.counted (c.loop-write.invariant.counted more before);
    }

pub loop-write-preserved-in-Some : goal.loop-write-preserved-in-Some
loop-write-preserved-in-Some c =
    let left = c.next.new.self.rest.items in
    let step = c.in-Some.ensures.steps.0 in
    let w = c.in-Some.write in
    record {
      written = search rules;
      later = λ q. write_settled _ (later_of c.loop-write.counted.table q) _ _ left w q step (c.loop-write.invariant.later q) (c.settle.ensures.later q);
      ready = λ q. applies_on w left q (versions_of c.loop-write.counted.table q) (versions_of c.settle.new.self.table q) (versions_of c.loop-write.counted.table w.key) w.value (c.settle.ensures.versions q) (c.settle.ensures.later q)
          (subst (λ (l : List Write). CanApply (values_in l q) (versions_of c.loop-write.counted.table q)) step (c.loop-write.invariant.ready q));
      placed = c.settle.ensures.placed;
      counted = λ more before. write_counted c.loop-write.counted.bytes c.settle.new.self.bytes (objects_of c.loop-write.counted.table) (objects_of c.settle.new.self.table) w c.loop-write.write-iterator.rest.items left more step c.settle.ensures.counted (c.loop-write.invariant.counted more before);
    }

pub returns-clause-later : goal.returns-clause-later
returns-clause-later c =
    let rest = c.loop-write.write-iterator.rest in
    λ q. writes_settled _ (later_of c.loop-write.counted.table q) rest.items q (nil_from_length rest.items (sym rest.ok.0 ∙ c.in-None.ensures.steps.0)) (c.loop-write.invariant.later q)

pub returns-clause-counted : goal.returns-clause-counted
returns-clause-counted c =
    let rest = c.loop-write.write-iterator.rest in
    λ more before. writes_counted c.loop-write.counted.bytes (objects_of c.loop-write.counted.table) rest.items more (nil_from_length rest.items (sym rest.ok.0 ∙ c.in-None.ensures.steps.0)) (c.loop-write.invariant.counted more before)
