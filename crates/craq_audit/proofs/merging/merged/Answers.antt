use Rattle.std.proofs.Common.{List, sym, subst, ap, ◌∙◌}
use Rattle.std.specs.Prelude.{IsPermutation}
use Rattle.craq_merge.specs.Sorted.{AreSorted}
use Rattle.craq_seat.specs.Books.{members_of}
use Rattle.craq_seat.specs.Merge.{MergedStep, all_lines, run_of}
use Rattle.craq_audit.specs.Journals.{journals_of}
use Rattle.craq_audit.specs.Lookups.{cells_of}
use Rattle.craq_audit.proofs.Whole.{arrivals, in_order, is_audited}
use Rattle.craq_audit.proofs.merging.merged.Goals as goal

pub run_of-requires-clause-order : goal.run_of-requires-clause-order
run_of-requires-clause-order g c =
    let same = sym c.as_slice.ensures.value in
    let all = subst (λ (ls : List MergedStep). IsPermutation (all_lines (journals_of c.args.book.now (cells_of c.args.cells.now))) ls) same c.in_ok-lines.ensures.all in
    let sorted = subst AreSorted same c.in_ok-lines.ensures.sorted in
    in_order g.C.Core.represents c.args.book.now c.args.cells.now c.keep_book.ensures c.keep_cells.ensures c.requires.audited c.requires.sent c.as_slice.result.now all sorted

pub run_of-requires-clause-sent : goal.run_of-requires-clause-sent
run_of-requires-clause-sent g c =
    let same = sym c.as_slice.ensures.value in
    let all = subst (λ (ls : List MergedStep). IsPermutation (all_lines (journals_of c.args.book.now (cells_of c.args.cells.now))) ls) same c.in_ok-lines.ensures.all in
    let sorted = subst AreSorted same c.in_ok-lines.ensures.sorted in
    arrivals g.C.Core.represents c.args.book.now c.args.cells.now c.keep_book.ensures c.keep_cells.ensures c.requires.audited c.requires.sent c.as_slice.result.now all sorted

pub returns-clause-run : goal.returns-clause-run
returns-clause-run g c = λ receipts held.
    let same = sym c.as_slice.ensures.value in
    let all = subst (λ (ls : List MergedStep). IsPermutation (all_lines (journals_of c.args.book.now (cells_of c.args.cells.now))) ls) same c.in_ok-lines.ensures.all in
    let sorted = subst AreSorted same c.in_ok-lines.ensures.sorted in
    let is = c.in_ok-run.ensures.run ∙ ap (λ ms. run_of ms c.as_slice.result.now) (c.members_of.ensures ∙ ap (λ o. members_of o.config) c.opening.ensures) in
    is_audited g.C.Core.represents c.args.book.now c.args.cells.now c.keep_book.ensures c.keep_cells.ensures c.requires.audited c.requires.sent c.as_slice.result.now all sorted _ receipts is c.in_ok-run.ensures.numbered c.in_ok-run.ensures.typed held
