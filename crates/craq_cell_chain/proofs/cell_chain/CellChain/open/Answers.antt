use Rattle.std.proofs.Common.{◌≡◌, Err, sym, ap, subst, ◌∙◌}
use Rattle.std.specs.Prelude.{◌↔◌, IfErr}
use Rattle.std.proofs.lemmas.Result.{err_from_is_err_and}
use Rattle.craq_names.specs.declared.refusal.Refusal.TheVariants.{BadConfig}
use Rattle.craq_model.specs.Members.{IsMembership}
use Rattle.craq_cell_chain.proofs.cell_chain.CellChain.open.Goals as goal

pub returns-in_err-book-clause-bad : goal.returns-in_err-book-clause-bad
returns-in_err-book-clause-bad g c =
    let p = err_from_is_err_and c.from_residual.result c.from_residual.ensures.1 in
    let bad = c.in_err-book.ensures.bad in
    let e = c.in_err-book.field-0.0 in
    let exact : (e ≡ BadConfig) ↔ ¬ (IsMembership c.args.members.now) = (λ x. bad.0 (ap Err x), λ n. let same = bad.1 n in cc) in
    subst (λ r. IfErr r (λ x. (x ≡ BadConfig) ↔ ¬ (IsMembership c.args.members.now))) (sym (p.1 ∙ ap Err p.2)) exact
