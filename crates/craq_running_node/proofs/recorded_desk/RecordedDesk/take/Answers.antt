use Rattle.std.proofs.Common.{◌≡◌, ◌∙◌, ap, refl, sym, subst, Option, Ok, Bor}
use Rattle.std.specs.Prelude.{IsSome}
use Rattle.std.specs.Option.{option_copied}
use Rattle.craq_model.specs.declared.step.Step.{Step}
use Rattle.craq_model.specs.Plain.{Plain}
use Rattle.craq_seat.specs.Calls.{Desked}
use Rattle.craq_seat.specs.Cells.{with_inside}
use Rattle.craq_seat.specs.Taken.{TakesEvent}
use Rattle.craq_store_parts.specs.Recorded.{MayHappen}
use Rattle.craq_store_parts.proofs.Recording.{Took, desk_after, desk_may, desk_own, desk_recorded, desk_taken, last_replied, never, same_some, took}
use Rattle.craq_running_node.proofs.Refusing.{accepts_still, refused_recorded, refuses_at}
use Rattle.craq_running_node.proofs.recorded_desk.RecordedDesk.take.Goals as goal
use Rattle.craq_running_node.proofs.recorded_desk.RecordedDesk.take.Goals.{in-ChainOpened-1, in-ClientCall-1, in-NodeStep-1, in-MasterStep-1, in-CallTakenBack-1}

pub refuse-requires-clause-recorded : goal.refuse-requires-clause-recorded
refuse-requires-clause-recorded g c =
    refused_recorded g.C.Core.represents c.self.inside.desk c.take.new.self c.self.inside.writer c.args.event c.args.cause.pass c.in-Err.refusal c.self.invariant (c.in-Err.ensures.step c.self.invariant.node c.self.invariant.stands)

pub refuse-requires-clause-refuses : goal.refuse-requires-clause-refuses
refuse-requires-clause-refuses g c =
    let takes = c.in-Err.ensures.step c.self.invariant.node c.self.invariant.stands in
    let may : MayHappen c.args.cause.origin.seen c.self.inside.desk.cell.opening.name c.args.event c.args.cause.origin.call =
    subst (λ (d : Desked g.row.C.Denot). MayHappen c.args.cause.origin.seen d.cell.opening.name c.args.event c.args.cause.origin.call) (sym c.self.view_is) c.requires.may in (
      c.args.event,
      accepts_still g.C.Core.represents c.self.inside.desk c.take.new.self c.self.inside.writer c.args.event c.args.cause.pass c.in-Err.refusal c.args.cause.origin c.self.invariant takes may,
      refuses_at g.C.Core.represents c.self.inside.desk c.take.new.self c.self.inside.writer c.args.event c.args.cause.pass c.in-Err.refusal c.self.invariant takes,
    )

pub unreachable-requires : goal.unreachable-requires
unreachable-requires g c =
    let old = c.self.inside.desk in
    let new = c.take.new.self in
    let t : Took g.C.Core.represents old.cell new.cell c.self.invariant.node c.args.event =
    took g.C.Core.represents old.cell new.cell c.self.invariant.node c.args.event c.args.cause.pass c.in-Ok.receipt (c.in-Ok.ensures.step c.self.invariant.node c.self.invariant.stands) in
    let none = subst (λ (o : Option (Bor Step)). option_copied o ≡ c.cell-cell.result.now.last) c.in_default.is c.last.ensures.value in
    let last : c.cell-cell.result.now.last ≡ new.cell.last = ap (λ x. x.last) c.cell-cell.ensures in
    never new.cell.last t.step (sym (none ∙ last)) t.last

pub add_with-token-requires-clause-own : goal.add_with-token-requires-clause-own
add_with-token-requires-clause-own g c =
    let old = c.self.inside.desk in
    let new = c.take.new.self in
    let t : Took g.C.Core.represents old.cell new.cell c.self.invariant.node c.args.event =
    took g.C.Core.represents old.cell new.cell c.self.invariant.node c.args.event c.args.cause.pass c.in-Ok.receipt (c.in-Ok.ensures.step c.self.invariant.node c.self.invariant.stands) in
    let named : c.opening.result.now.name ≡ new.cell.opening.name = ap (λ x. x.name) c.opening.ensures ∙ ap (λ x. x.opening.name) c.cell-cell.ensures in
    let stamped : c.stamp.result ≡ new.cell.stamp = c.stamp.ensures ∙ ap (λ x. x.stamp) c.cell-cell.ensures in
    let says : c.of.result.value ≡ t.step = c.of.ensures ∙ same_some (c.in-Some.ensures.value ∙ (ap (λ x. x.last) c.cell-cell.ensures ∙ t.last)) in
    let may : MayHappen c.args.cause.origin.seen old.cell.opening.name c.args.event c.args.cause.origin.call =
    subst (λ (d : Desked g.row.C.Denot). MayHappen c.args.cause.origin.seen d.cell.opening.name c.args.event c.args.cause.origin.call) (sym c.self.view_is) c.requires.may in
    desk_own g.C.Core.represents old new.cell c.self.inside.writer c.args.cause.origin.seen c.args.event c.of-noted.result c.args.cause.pass c.of.result c.args.cause.origin.call c.opening.result.now.name c.stamp.result c.self.invariant t named stamped c.of-noted.ensures says may c.keep_event_limits.ensures

pub add_with-token-requires-clause-may : goal.add_with-token-requires-clause-may
add_with-token-requires-clause-may g c =
    let old = c.self.inside.desk in
    let new = c.take.new.self in
    let t : Took g.C.Core.represents old.cell new.cell c.self.invariant.node c.args.event =
    took g.C.Core.represents old.cell new.cell c.self.invariant.node c.args.event c.args.cause.pass c.in-Ok.receipt (c.in-Ok.ensures.step c.self.invariant.node c.self.invariant.stands) in
    let named : c.opening.result.now.name ≡ new.cell.opening.name = ap (λ x. x.name) c.opening.ensures ∙ ap (λ x. x.opening.name) c.cell-cell.ensures in
    let stamped : c.stamp.result ≡ new.cell.stamp = c.stamp.ensures ∙ ap (λ x. x.stamp) c.cell-cell.ensures in
    let says : c.of.result.value ≡ t.step = c.of.ensures ∙ same_some (c.in-Some.ensures.value ∙ (ap (λ x. x.last) c.cell-cell.ensures ∙ t.last)) in
    let may : MayHappen c.args.cause.origin.seen old.cell.opening.name c.args.event c.args.cause.origin.call =
    subst (λ (d : Desked g.row.C.Denot). MayHappen c.args.cause.origin.seen d.cell.opening.name c.args.event c.args.cause.origin.call) (sym c.self.view_is) c.requires.may in
    rw (c.into_parts-call.ensures.seen, c.into_parts-call.ensures.call)
    (desk_may g.C.Core.represents old new.cell c.self.inside.writer c.args.cause.origin.seen c.args.event c.of-noted.result c.args.cause.pass c.of.result c.args.cause.origin.call c.opening.result.now.name c.stamp.result c.self.invariant t named stamped c.of-noted.ensures says may c.keep_event_limits.ensures)

pub accepted_call-accepted-requires : goal.accepted_call-accepted-requires
accepted_call-accepted-requires g c =
    let old = c.self.inside.desk in
    let new = c.take.new.self in
    let t : Took g.C.Core.represents old.cell new.cell c.self.invariant.node c.args.event =
    took g.C.Core.represents old.cell new.cell c.self.invariant.node c.args.event c.args.cause.pass c.in-Ok.receipt (c.in-Ok.ensures.step c.self.invariant.node c.self.invariant.stands) in
    let named : c.opening.result.now.name ≡ new.cell.opening.name = ap (λ x. x.name) c.opening.ensures ∙ ap (λ x. x.opening.name) c.cell-cell.ensures in
    let stamped : c.stamp.result ≡ new.cell.stamp = c.stamp.ensures ∙ ap (λ x. x.stamp) c.cell-cell.ensures in
    let says : c.of.result.value ≡ t.step = c.of.ensures ∙ same_some (c.in-Some.ensures.value ∙ (ap (λ x. x.last) c.cell-cell.ensures ∙ t.last)) in
    let may : MayHappen c.args.cause.origin.seen old.cell.opening.name c.args.event c.args.cause.origin.call =
    subst (λ (d : Desked g.row.C.Denot). MayHappen c.args.cause.origin.seen d.cell.opening.name c.args.event c.args.cause.origin.call) (sym c.self.view_is) c.requires.may in
    (c.args.event, rw (c.cell-cell.ensures, c.into_parts-call.ensures.call) (desk_taken g.C.Core.represents old new.cell c.self.inside.writer c.args.cause.origin.seen c.args.event c.of-noted.result c.args.cause.pass c.of.result c.args.cause.origin.call c.opening.result.now.name c.stamp.result c.self.invariant t named stamped c.of-noted.ensures says may c.keep_event_limits.ensures c.add_with-token.new.self.seen c.add_with-token.result (rw (c.into_parts-call.ensures.seen, c.into_parts-call.ensures.call) at c.add_with-token.ensures.added) c.add_with-token.ensures.token))

pub invariant_of-self-in-Some-3 : goal.invariant_of-self-in-Some-3
invariant_of-self-in-Some-3 g c =
    let old = c.self.inside.desk in
    let new = c.take.new.self in
    let t : Took g.C.Core.represents old.cell new.cell c.self.invariant.node c.args.event =
    took g.C.Core.represents old.cell new.cell c.self.invariant.node c.args.event c.args.cause.pass c.in-Ok.receipt (c.in-Ok.ensures.step c.self.invariant.node c.self.invariant.stands) in
    let named : c.opening.result.now.name ≡ new.cell.opening.name = ap (λ x. x.name) c.opening.ensures ∙ ap (λ x. x.opening.name) c.cell-cell.ensures in
    let stamped : c.stamp.result ≡ new.cell.stamp = c.stamp.ensures ∙ ap (λ x. x.stamp) c.cell-cell.ensures in
    let says : c.of.result.value ≡ t.step = c.of.ensures ∙ same_some (c.in-Some.ensures.value ∙ (ap (λ x. x.last) c.cell-cell.ensures ∙ t.last)) in
    let may : MayHappen c.args.cause.origin.seen old.cell.opening.name c.args.event c.args.cause.origin.call =
    subst (λ (d : Desked g.row.C.Denot). MayHappen c.args.cause.origin.seen d.cell.opening.name c.args.event c.args.cause.origin.call) (sym c.self.view_is) c.requires.may in
    desk_recorded g.C.Core.represents old new.cell c.self.inside.writer c.args.cause.origin.seen c.args.event c.of-noted.result c.args.cause.pass c.of.result c.args.cause.origin.call c.opening.result.now.name c.stamp.result c.self.invariant t named stamped c.of-noted.ensures says may c.keep_event_limits.ensures new.waiting c.add_with-token.new.self c.add_with-token.ensures.author (rw (c.into_parts-call.ensures.seen, c.into_parts-call.ensures.call) at c.add_with-token.ensures.added)

pub returns-in-Some-clause-step : goal.returns-in-Some-clause-step
returns-in-Some-clause-step g c =
    let same = λ (p : Plain) (h : g.C.Core.represents c.args.self.now.cell.inside p).
    subst (λ (d : Desked g.row.C.Denot). TakesEvent g.C.Core.represents c.take.new.self.cell (with_inside d.cell p) c.args.event c.args.cause.pass (Ok c.in-Ok.receipt)) c.self.view_is
    (c.in-Ok.ensures.step p (subst (λ (d : Desked g.row.C.Denot). g.C.Core.represents d.cell.inside p) (sym c.self.view_is) h)) in
    elim c.match-entry.branch [
      | in-ChainOpened-1 w ↦ rw w.self-is same
      | in-ClientCall-1 w ↦ rw w.self-is same
      | in-NodeStep-1 w ↦ rw w.self-is same
      | in-MasterStep-1 w ↦ rw w.self-is same
      | in-CallTakenBack-1 w ↦ rw w.self-is same
    ]

pub returns-in-Some-clause-opening : goal.returns-in-Some-clause-opening
returns-in-Some-clause-opening g c =
    let old = c.self.inside.desk in
    let new = c.take.new.self in
    let t : Took g.C.Core.represents old.cell new.cell c.self.invariant.node c.args.event =
    took g.C.Core.represents old.cell new.cell c.self.invariant.node c.args.event c.args.cause.pass c.in-Ok.receipt (c.in-Ok.ensures.step c.self.invariant.node c.self.invariant.stands) in
    let same : new.cell.opening ≡ c.args.self.now.cell.opening = t.opening ∙ ap (λ x. x.cell.opening) c.self.view_is in
    elim c.match-entry.branch [
      | in-ChainOpened-1 w ↦ rw w.self-is same
      | in-ClientCall-1 w ↦ rw w.self-is same
      | in-NodeStep-1 w ↦ rw w.self-is same
      | in-MasterStep-1 w ↦ rw w.self-is same
      | in-CallTakenBack-1 w ↦ rw w.self-is same
    ]

pub returns-in-Some-clause-moved : goal.returns-in-Some-clause-moved
returns-in-Some-clause-moved g c =
    let old = c.self.inside.desk in
    let new = c.take.new.self in
    let t : Took g.C.Core.represents old.cell new.cell c.self.invariant.node c.args.event =
    took g.C.Core.represents old.cell new.cell c.self.invariant.node c.args.event c.args.cause.pass c.in-Ok.receipt (c.in-Ok.ensures.step c.self.invariant.node c.self.invariant.stands) in
    let moved : IsSome new.cell.last = subst (λ (o : Option Step). IsSome o) (sym t.last) refl in
    elim c.match-entry.branch [
      | in-ChainOpened-1 w ↦ rw w.self-is moved
      | in-ClientCall-1 w ↦ rw w.self-is moved
      | in-NodeStep-1 w ↦ rw w.self-is moved
      | in-MasterStep-1 w ↦ rw w.self-is moved
      | in-CallTakenBack-1 w ↦ rw w.self-is moved
    ]

pub returns-in-Some-clause-taken : goal.returns-in-Some-clause-taken
returns-in-Some-clause-taken g c =
    let old = c.self.inside.desk in
    let new = c.take.new.self in
    let t : Took g.C.Core.represents old.cell new.cell c.self.invariant.node c.args.event =
    took g.C.Core.represents old.cell new.cell c.self.invariant.node c.args.event c.args.cause.pass c.in-Ok.receipt (c.in-Ok.ensures.step c.self.invariant.node c.self.invariant.stands) in
    let named : c.opening.result.now.name ≡ new.cell.opening.name = ap (λ x. x.name) c.opening.ensures ∙ ap (λ x. x.opening.name) c.cell-cell.ensures in
    let stamped : c.stamp.result ≡ new.cell.stamp = c.stamp.ensures ∙ ap (λ x. x.stamp) c.cell-cell.ensures in
    let says : c.of.result.value ≡ t.step = c.of.ensures ∙ same_some (c.in-Some.ensures.value ∙ (ap (λ x. x.last) c.cell-cell.ensures ∙ t.last)) in
    let may : MayHappen c.args.cause.origin.seen old.cell.opening.name c.args.event c.args.cause.origin.call =
    subst (λ (d : Desked g.row.C.Denot). MayHappen c.args.cause.origin.seen d.cell.opening.name c.args.event c.args.cause.origin.call) (sym c.self.view_is) c.requires.may in
    let taken = desk_after g.C.Core.represents old new.cell c.self.inside.writer c.args.cause.origin.seen c.args.event c.of-noted.result c.args.cause.pass c.of.result c.args.cause.origin.call c.opening.result.now.name c.stamp.result c.self.invariant t named stamped c.of-noted.ensures says may c.keep_event_limits.ensures c.add_with-token.new.self.seen c.accepted_call-accepted.new.token (rw (c.into_parts-call.ensures.seen, c.into_parts-call.ensures.call) at c.add_with-token.ensures.added) (c.accepted_call-accepted.ensures.same ∙ c.add_with-token.ensures.token) in
    elim c.match-entry.branch [
      | in-ChainOpened-1 w ↦ rw w.self-is taken
      | in-ClientCall-1 w ↦ rw w.self-is taken
      | in-NodeStep-1 w ↦ rw w.self-is taken
      | in-MasterStep-1 w ↦ rw w.self-is taken
      | in-CallTakenBack-1 w ↦ rw w.self-is taken
    ]

pub returns-in-Some-clause-replied : goal.returns-in-Some-clause-replied
returns-in-Some-clause-replied g c =
    let old = c.self.inside.desk in
    let new = c.take.new.self in
    let t : Took g.C.Core.represents old.cell new.cell c.self.invariant.node c.args.event =
    took g.C.Core.represents old.cell new.cell c.self.invariant.node c.args.event c.args.cause.pass c.in-Ok.receipt (c.in-Ok.ensures.step c.self.invariant.node c.self.invariant.stands) in
    let named : c.opening.result.now.name ≡ new.cell.opening.name = ap (λ x. x.name) c.opening.ensures ∙ ap (λ x. x.opening.name) c.cell-cell.ensures in
    let stamped : c.stamp.result ≡ new.cell.stamp = c.stamp.ensures ∙ ap (λ x. x.stamp) c.cell-cell.ensures in
    let says : c.of.result.value ≡ t.step = c.of.ensures ∙ same_some (c.in-Some.ensures.value ∙ (ap (λ x. x.last) c.cell-cell.ensures ∙ t.last)) in
    let may : MayHappen c.args.cause.origin.seen old.cell.opening.name c.args.event c.args.cause.origin.call =
    subst (λ (d : Desked g.row.C.Denot). MayHappen c.args.cause.origin.seen d.cell.opening.name c.args.event c.args.cause.origin.call) (sym c.self.view_is) c.requires.may in
    let taken = desk_taken g.C.Core.represents old new.cell c.self.inside.writer c.args.cause.origin.seen c.args.event c.of-noted.result c.args.cause.pass c.of.result c.args.cause.origin.call c.opening.result.now.name c.stamp.result c.self.invariant t named stamped c.of-noted.ensures says may c.keep_event_limits.ensures c.add_with-token.new.self.seen c.accepted_call-accepted.new.token (rw (c.into_parts-call.ensures.seen, c.into_parts-call.ensures.call) at c.add_with-token.ensures.added) (c.accepted_call-accepted.ensures.same ∙ c.add_with-token.ensures.token) in
    let replied =
    last_replied c.accepted_call-accepted.new.token new.cell c.args.event c.args.cause.pass c.args.cause.origin.call t.step t.last taken c.in-Ok.receipt c.in-Ok.ensures.receipt old.waiting new.waiting c.in-Ok.calls c.in-Ok.ensures.calls in
    elim c.match-entry.branch [
      | in-ChainOpened-1 w ↦ rw w.self-is replied
      | in-ClientCall-1 w ↦ rw w.self-is replied
      | in-NodeStep-1 w ↦ rw w.self-is replied
      | in-MasterStep-1 w ↦ rw w.self-is replied
      | in-CallTakenBack-1 w ↦ rw w.self-is replied
    ]
