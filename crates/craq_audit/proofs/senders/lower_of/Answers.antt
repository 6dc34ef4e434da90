use Rattle.std.proofs.Common.{◌<◌, ℕ, List, [], ◌∷◌, ◌++◌, sym, ap, subst}
use Rattle.std.specs.Prelude.{MatchOption, ⊤}
use Rattle.std.specs.List.{AllByRecursion}
use Rattle.craq_model.specs.declared.ask.Event.{Event}
use Rattle.craq_seat.specs.declared.journal.Record.{Record}
use Rattle.craq_seat.specs.Audits.{HasSender}
use Rattle.craq_audit.specs.Journals.{journals_of, kept_of}
use Rattle.craq_audit.specs.Lookups.{IsFirstNot, IsFirstOf, cells_of}
use Rattle.craq_audit.proofs.Best.{best_new, best_sent, best_stays}
use Rattle.craq_audit.proofs.Tests.{not_both}
use Rattle.craq_audit.proofs.senders.lower_of.Goals as goal

pub returns-then-not-is_lower : goal.returns-then-not-is_lower
returns-then-not-is_lower g c = λ others b.
    let own = ap (λ o. o.name.node) c.opening.ensures in
    let j = journals_of c.args.book.now (cells_of c.args.cells.now) in
    best_stays j others (kept_of c.args.cell.now) c.args.found (λ l. not_both c.is_lower.result (c.is_lower.ensures.1 (subst (λ (n : ℕ). MatchOption c.args.found ⊤ (λ f. n < f.0)) (sym own) l)) c.if-not-is_lower.true) b

pub returns-in-None : goal.returns-in-None
returns-in-None g c = λ others b.
    let j = journals_of c.args.book.now (cells_of c.args.cells.now) in
    best_sent j others (kept_of c.args.cell.now) c.args.found (subst (λ (rs : List (Record Event)). AllByRecursion (HasSender j) rs) c.records_of.ensures.records c.in-None.ensures) b

pub returns-in-Some : goal.returns-in-Some
returns-in-Some g c = λ others b.
    let j = journals_of c.args.book.now (cells_of c.args.cells.now) in
    let own = ap (λ o. o.name.node) c.opening.ensures in
    let low = subst (λ (n : ℕ). MatchOption c.args.found ⊤ (λ f. n < f.0)) own (c.is_lower.ensures.0 c.if-not-is_lower.false) in
    let first = subst (λ (rs : List (Record Event)). IsFirstNot (HasSender j) rs c.in-Some.index) c.records_of.ensures.records c.in-Some.ensures in
    subst (λ (n : ℕ). IsFirstOf j (others ++ kept_of c.args.cell.now ∷ []) n c.in-Some.index) (sym own) (best_new j others (kept_of c.args.cell.now) c.args.found c.in-Some.index low first b)
