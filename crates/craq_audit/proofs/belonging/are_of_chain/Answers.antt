use Rattle.craq_audit.proofs.Belongs.{chain_ids, chain_opened, chain_stops, of_chain}
use Rattle.craq_audit.proofs.Tests.{no_true, not_both}
use Rattle.craq_audit.proofs.belonging.are_of_chain.Goals as goal

pub returns-then-not-have_ids : goal.returns-then-not-have_ids
returns-then-not-have_ids g c =
    let k = rw c.used.ensures at c.have_ids.ensures in
    (no_true, λ h. not_both c.have_ids.result (k.1 (chain_ids c.args.book.now c.args.cells.now h)) c.if-not-have_ids.true)

pub returns-then-not-are_opened : goal.returns-then-not-are_opened
returns-then-not-are_opened g c = (no_true, λ h. not_both c.are_opened.result (c.are_opened.ensures.1 (chain_opened c.args.book.now c.args.cells.now h)) c.if-not-are_opened.true)

pub returns : goal.returns
returns g c =
    let ids = rw c.used.ensures at c.have_ids.ensures in
    let stops = rw c.book_records.ensures.records at c.name_their_stops.ensures in (
      λ h. of_chain c.args.book.now c.args.cells.now c.keep_book.ensures c.requires (ids.0 c.if-not-have_ids.false) (c.are_opened.ensures.0 c.if-not-are_opened.false) (stops.0 h),
      λ h. stops.1 (chain_stops c.args.book.now c.args.cells.now h),
    )
