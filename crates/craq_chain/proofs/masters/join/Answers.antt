use Rattle.std.proofs.Common.{◌≡◌, ◌==◌, true, false, refl, arith, inl, inr}
use Rattle.std.specs.Prelude.{is_some, IsOk}
use Rattle.std.proofs.lemmas.Result.{err_from_is_err_and}
use Rattle.craq_model.specs.Plain.{opening_joined}
use Rattle.craq_runs.specs.Chain.{join_progress}
use Rattle.craq_chain.specs.Parts.{AreParts, place_from}
use Rattle.craq_chain.proofs.Commands.{can_join, zero_used, id_used, stays_out, not_out, join_made, joins}
use Rattle.craq_chain.proofs.Refusing.{lacks, passed_on}
use Rattle.craq_chain.proofs.Reported.{join_encodable}
use Rattle.craq_chain.proofs.masters.join.Goals as goal

pub returns-then-get-eq0-clause-step : goal.returns-then-get-eq0-clause-step
returns-then-get-eq0-clause-step g c = λ d h. (inr (zero_used d c.args.id (omega arith)), h)

pub returns-then-is_some-clause-step : goal.returns-then-is_some-clause-step
returns-then-is_some-clause-step g c =
    λ d h.
    let at = c.place_of.ensures.place d.nodes (rw c.as_slice.ensures.value h.nodes) in
    let known : is_some (place_from 0 d.nodes c.args.id) ≡ true = cc in
    (inr (id_used d c.args.id known), h)

pub returns-in_err-step-clause-step : goal.returns-in_err-step-clause-step
returns-in_err-step-clause-step g c =
    let p = err_from_is_err_and c.from_residual.result c.from_residual.ensures.1 in
    let zero : (c.args.id == 0) ≡ false = grind arith in
    λ d h.
    let at = c.place_of.ensures.place d.nodes (rw c.as_slice.ensures.value h.nodes) in
    let known : is_some (place_from 0 d.nodes c.args.id) ≡ false = cc in
    passed_on (AreParts g.C.Core.represents c.args.cores.now.items c.args.master.now) d (IsOk (join_progress d c.args.id)) _ c.in_err-step.field-0.0 (join_progress d c.args.id) p
    (elim c.in_err-step.ensures [
      | inl memory ↦ inl (memory.0, can_join g.C.Core.represents c.args.cores.now.items c.args.master.now d c.args.id h zero known memory.1)
      | inr s ↦ inr (stays_out g.C.Core.represents c.args.cores.now.items c.args.master.now d c.args.id c.in_err-step.field-0.0 h zero known s)
    ]) h

pub returns-in_err-join-clause-step : goal.returns-in_err-join-clause-step
returns-in_err-join-clause-step g c =
    let p = err_from_is_err_and c.from_residual-in_err-join.result c.from_residual-in_err-join.ensures.1 in
    let zero : (c.args.id == 0) ≡ false = grind arith in
    λ d h.
    let at = c.place_of.ensures.place d.nodes (rw c.as_slice.ensures.value h.nodes) in
    let known : is_some (place_from 0 d.nodes c.args.id) ≡ false = cc in
    passed_on (AreParts g.C.Core.represents c.reserve.new.self.items c.join.new.self) d (IsOk (join_progress d c.args.id)) _ c.in_err-join.field-0.0 (join_progress d c.args.id) p
    (not_out g.C.Core.represents c.args.cores.now.items c.args.master.now d c.args.id c.in_ok-step.step c.in_err-join.field-0.0 h zero known c.in_ok-step.ensures c.in_err-join.ensures.err)
    (rw (c.in_err-join.ensures.same, c.reserve.ensures.items) h)

pub returns-clause-step : goal.returns-clause-step
returns-clause-step g c =
    let zero : (c.args.id == 0) ≡ false = grind arith in
    let core : g.C.Core.represents c.in_ok-core.core (opening_joined (record { chain = c.args.master.now.chain; node = c.args.id })) = rw (← c.chain-chain.ensures) c.in_ok-core.ensures.ok in
    λ d h.
    let at = c.place_of.ensures.place d.nodes (rw c.as_slice.ensures.value h.nodes) in
    let known : is_some (place_from 0 d.nodes c.args.id) ≡ false = cc in
    rw (c.push_reserved.ensures.items, c.reserve.ensures.items)
    (joins g.C.Core.represents c.args.cores.now.items c.args.master.now c.join.new.self d c.args.id c.in_ok-core.core c.in_ok-step.step h zero known core c.in_ok-step.ensures c.in_ok-join.ensures.ok)

pub returns-clause-spelled : goal.returns-clause-spelled
returns-clause-spelled g c = join_encodable c.args.master.now c.join.new.self c.args.id c.in_ok-step.step c.keep_membership.ensures c.in_ok-step.ensures (join_made c.args.master.now c.join.new.self c.args.id c.in_ok-join.ensures.ok)

pub returns-in_err-core-clause-step : goal.returns-in_err-core-clause-step
returns-in_err-core-clause-step g c =
    let p = err_from_is_err_and c.from_residual-in_err-core.result c.from_residual-in_err-core.ensures.1 in
    let zero : (c.args.id == 0) ≡ false = grind arith in
    λ d h.
    let at = c.place_of.ensures.place d.nodes (rw c.as_slice.ensures.value h.nodes) in
    let known : is_some (place_from 0 d.nodes c.args.id) ≡ false = cc in
    passed_on (AreParts g.C.Core.represents c.args.cores.now.items c.args.master.now) d (IsOk (join_progress d c.args.id)) _ c.in_err-core.field-0.0 (join_progress d c.args.id) p
    (inl (c.in_err-core.ensures.err, can_join g.C.Core.represents c.args.cores.now.items c.args.master.now d c.args.id h zero known (rw c.in_ok-step.ensures refl)))
    h

pub returns-in_err-reserve-clause-step : goal.returns-in_err-reserve-clause-step
returns-in_err-reserve-clause-step g c =
    let zero : (c.args.id == 0) ≡ false = grind arith in
    λ d h.
    let at = c.place_of.ensures.place d.nodes (rw c.as_slice.ensures.value h.nodes) in
    let known : is_some (place_from 0 d.nodes c.args.id) ≡ false = cc in
    lacks (AreParts g.C.Core.represents c.reserve.new.self.items c.args.master.now) d (IsOk (join_progress d c.args.id)) _ (join_progress d c.args.id) c.from_residual-in_err-reserve.ensures
    (can_join g.C.Core.represents c.args.cores.now.items c.args.master.now d c.args.id h zero known (rw c.in_ok-step.ensures refl))
    (rw c.reserve.ensures.items h)
