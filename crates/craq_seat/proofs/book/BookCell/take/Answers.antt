use Rattle.std.proofs.Common.{◌≡◌, Some, None, Ok, Err, refl, sym, inr}
use Rattle.std.specs.Prelude.{IsOk, ⊤}
use Rattle.std.proofs.lemmas.Result.{err_from_is_err_and}
use Rattle.craq_seat.specs.Books.{book_step}
use Rattle.craq_seat.specs.Stamps.{book_stamp, next_stamp}
use Rattle.craq_seat.proofs.Booking.{books_alone, books_noted}
use Rattle.craq_seat.proofs.Taking.{above, no_stamp, passed, refused, takes_alone, takes_noted}
use Rattle.craq_seat.proofs.book.BookCell.take.Goals as goal

pub returns-in_err-stamp-clause-step : goal.returns-in_err-stamp-clause-step
returns-in_err-stamp-clause-step c =
    let p = err_from_is_err_and c.from_residual.result c.from_residual.ensures.1 in
    let none : next_stamp c.args.self.now.stamp c.args.pass (book_stamp c.args.event) ≡ Err c.in_err-stamp.field-0.0 = rw (← c.self.view_is, ← c.book_stamp.ensures) (sym c.in_err-stamp.ensures) in
    passed c.args.self.now c.args.self.now c.from_residual.result c.in_err-stamp.field-0.0 _ _ p
    (inr (no_stamp book_step c.args.self.now c.args.event (book_stamp c.args.event) c.args.pass c.in_err-stamp.field-0.0 none), refl)

pub returns-in_err-step-in-Some-clause-step : goal.returns-in_err-step-in-Some-clause-step
returns-in_err-step-in-Some-clause-step c =
    let stamps : next_stamp c.self.inside.stamp c.args.pass (book_stamp c.args.event) ≡ Ok c.in_ok-stamp.stamp = rw (← c.book_stamp.ensures) (sym c.in_ok-stamp.ensures) in
    let p = err_from_is_err_and c.from_residual-in_err-step-in-Some.result c.from_residual-in_err-step-in-Some.ensures.1 in
    rw (← c.self.view_is, c.in-Some.is, c.reserve.ensures.items)
    (passed _ _ c.from_residual-in_err-step-in-Some.result c.in_err-step-in-Some.field-0.0 _ _ p
    (refused book_step c.self.inside.opening c.self.inside.master c.transition.new.master c.self.inside.stamp (Some c.in-Some.journal.items) _ c.args.event (book_stamp c.args.event) c.args.pass c.in_ok-stamp.stamp c.in_err-step-in-Some.field-0.0 (IsOk (book_step c.self.inside.master c.args.event)) (IsOk (book_step c.self.inside.master c.args.event)) stamps (λ x. inr x) c.in_err-step-in-Some.ensures.step))

pub invariant_of-self-in-Some : goal.invariant_of-self-in-Some
invariant_of-self-in-Some c =
    let stamps : next_stamp c.self.inside.stamp c.args.pass (book_stamp c.args.event) ≡ Ok c.in_ok-stamp.stamp = rw (← c.book_stamp.ensures) (sym c.in_ok-stamp.ensures) in
    let kept = rw c.in-Some.is at c.self.invariant in
    rw (c.push_reserved.ensures.items, c.reserve.ensures.items)
    (books_noted c.self.inside.opening c.self.inside.master c.transition.new.master c.self.inside.stamp c.in-Some.journal.items _ (record { stamp = c.in_ok-stamp.stamp; event = c.args.event; pass = c.args.pass; step = c.in_ok-step-in-Some.step }) kept stamps c.in_ok-step-in-Some.ensures.step c.transition.ensures.mastered)

pub returns-in_err-transition-in-None-clause-step : goal.returns-in_err-transition-in-None-clause-step
returns-in_err-transition-in-None-clause-step c =
    let stamps : next_stamp c.self.inside.stamp c.args.pass (book_stamp c.args.event) ≡ Ok c.in_ok-stamp.stamp = rw (← c.book_stamp.ensures) (sym c.in_ok-stamp.ensures) in
    let p = err_from_is_err_and c.from_residual-in_err-transition-in-None.result c.from_residual-in_err-transition-in-None.ensures.1 in
    rw (← c.self.view_is, c.in-None.is)
    (passed _ _ c.from_residual-in_err-transition-in-None.result c.in_err-transition-in-None.field-0.0 _ _ p
    (refused book_step c.self.inside.opening c.self.inside.master c.transition-in-None.new.master c.self.inside.stamp None c.self.inside.last c.args.event (book_stamp c.args.event) c.args.pass c.in_ok-stamp.stamp c.in_err-transition-in-None.field-0.0 (IsOk (book_step c.self.inside.master c.args.event)) (IsOk (book_step c.self.inside.master c.args.event)) stamps (λ x. inr x) c.in_err-transition-in-None.ensures.step))

pub invariant_of-self-in-None : goal.invariant_of-self-in-None
invariant_of-self-in-None c =
    let stamps : next_stamp c.self.inside.stamp c.args.pass (book_stamp c.args.event) ≡ Ok c.in_ok-stamp.stamp = rw (← c.book_stamp.ensures) (sym c.in_ok-stamp.ensures) in
    let up = above c.self.inside.stamp c.args.pass (book_stamp c.args.event) c.in_ok-stamp.stamp stamps in
    let kept = rw c.in-None.is at c.self.invariant in
    rw c.in-None.is
    (books_alone c.self.inside.opening c.self.inside.master c.transition-in-None.new.master c.self.inside.stamp c.in_ok-stamp.stamp c.self.inside.last c.args.event c.in_ok-transition-in-None.field-0 kept up c.in_ok-transition-in-None.ensures.step c.transition-in-None.ensures.mastered)

pub returns-in_ok-step-in-Some-clause-step : goal.returns-in_ok-step-in-Some-clause-step
returns-in_ok-step-in-Some-clause-step c =
    let stamps : next_stamp c.self.inside.stamp c.args.pass (book_stamp c.args.event) ≡ Ok c.in_ok-stamp.stamp = rw (← c.book_stamp.ensures) (sym c.in_ok-stamp.ensures) in
    rw (← c.self.view_is, c.in-Some.is, c.push_reserved.ensures.items, c.reserve.ensures.items)
    (takes_noted book_step c.self.inside.opening c.self.inside.master c.transition.new.master c.self.inside.stamp c.in-Some.journal.items _ _ c.args.event (book_stamp c.args.event) c.args.pass c.in_ok-stamp.stamp c.in_ok-step-in-Some.step ⊤ stamps refl c.in_ok-step-in-Some.ensures.step)

pub returns-in_ok-step-in-Some-clause-kept : goal.returns-in_ok-step-in-Some-clause-kept
returns-in_ok-step-in-Some-clause-kept c =
    let stamps : next_stamp c.self.inside.stamp c.args.pass (book_stamp c.args.event) ≡ Ok c.in_ok-stamp.stamp = rw (← c.book_stamp.ensures) (sym c.in_ok-stamp.ensures) in
    let kept = rw c.in-Some.is at c.self.invariant in
    rw (c.push_reserved.ensures.items, c.reserve.ensures.items)
    (books_noted c.self.inside.opening c.self.inside.master c.transition.new.master c.self.inside.stamp c.in-Some.journal.items _ (record { stamp = c.in_ok-stamp.stamp; event = c.args.event; pass = c.args.pass; step = c.in_ok-step-in-Some.step }) kept stamps c.in_ok-step-in-Some.ensures.step c.transition.ensures.mastered)

pub returns-in_ok-transition-in-None-clause-step : goal.returns-in_ok-transition-in-None-clause-step
returns-in_ok-transition-in-None-clause-step c =
    let stamps : next_stamp c.self.inside.stamp c.args.pass (book_stamp c.args.event) ≡ Ok c.in_ok-stamp.stamp = rw (← c.book_stamp.ensures) (sym c.in_ok-stamp.ensures) in
    rw (← c.self.view_is, c.in-None.is)
    (takes_alone book_step c.self.inside.opening c.self.inside.master c.transition-in-None.new.master c.self.inside.stamp c.self.inside.last c.args.event (book_stamp c.args.event) c.args.pass c.in_ok-stamp.stamp c.in_ok-transition-in-None.field-0 ⊤ stamps c.in_ok-transition-in-None.ensures.step)

pub returns-in_ok-transition-in-None-clause-kept : goal.returns-in_ok-transition-in-None-clause-kept
returns-in_ok-transition-in-None-clause-kept c =
    let stamps : next_stamp c.self.inside.stamp c.args.pass (book_stamp c.args.event) ≡ Ok c.in_ok-stamp.stamp = rw (← c.book_stamp.ensures) (sym c.in_ok-stamp.ensures) in
    let up = above c.self.inside.stamp c.args.pass (book_stamp c.args.event) c.in_ok-stamp.stamp stamps in
    let kept = rw c.in-None.is at c.self.invariant in
    rw c.in-None.is
    (books_alone c.self.inside.opening c.self.inside.master c.transition-in-None.new.master c.self.inside.stamp c.in_ok-stamp.stamp c.self.inside.last c.args.event c.in_ok-transition-in-None.field-0 kept up c.in_ok-transition-in-None.ensures.step c.transition-in-None.ensures.mastered)
