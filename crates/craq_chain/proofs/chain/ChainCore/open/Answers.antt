use Rattle.std.proofs.Common.{◌≡◌, Err, sym, ap, subst, ◌∙◌}
use Rattle.std.specs.Prelude.{◌↔◌, IfErr}
use Rattle.std.specs.List.{AllZip}
use Rattle.std.proofs.lemmas.Result.{err_from_is_err_and}
use Rattle.craq_names.specs.declared.refusal.Refusal.TheVariants.{BadConfig}
use Rattle.craq_model.specs.Members.{IsMembership}
use Rattle.craq_epochs.specs.Mastered.{Mastered}
use Rattle.craq_chain.specs.Chained.{openings}
use Rattle.craq_chain.proofs.Opening.{opening_stands}
use Rattle.craq_chain.proofs.chain.ChainCore.open.Goals as goal

pub returns-in_err-master-clause-bad : goal.returns-in_err-master-clause-bad
returns-in_err-master-clause-bad g c =
    let p = err_from_is_err_and c.from_residual.result c.from_residual.ensures.1 in
    let bad = c.in_err-master.ensures.bad in
    let e = c.in_err-master.field-0.0 in
    let exact : (e ≡ BadConfig) ↔ ¬ (IsMembership c.args.members.now) = (λ x. bad.0 (ap Err x), λ n. let same = bad.1 n in cc) in
    subst (λ r. IfErr r (λ x. (x ≡ BadConfig) ↔ ¬ (IsMembership c.args.members.now))) (sym (p.1 ∙ ap Err p.2)) exact

pub invariant_of-result : goal.invariant_of-result
invariant_of-result g c =
    let nodes = subst (λ (x : Mastered). AllZip g.C.Core.represents c.in_ok-cores.cores.items (openings x.chain x.members x.members)) c.in_ok-master.ensures.ok c.in_ok-cores.ensures.ok in
    let o = opening_stands g.C.Core.represents c.in_ok-cores.cores.items c.in_ok-master.master c.args.chain c.args.members.now c.in_ok-master.ensures.ok c.in_ok-master.ensures.membership nodes in
    rw (c.new-2.ensures.items, c.of.ensures, c.in_ok-from_slice.ensures.items, c.new.ensures) o
