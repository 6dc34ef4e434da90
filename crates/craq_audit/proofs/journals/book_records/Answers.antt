use Rattle.std.proofs.Common.{sym, ap, ◌∙◌}
use Rattle.std.specs.Option.{option_copied}
use Rattle.craq_seat.specs.Stamps.{book_stamp}
use Rattle.craq_audit.proofs.Stamped.{rises_at}
use Rattle.craq_audit.proofs.journals.book_records.Goals as goal

pub returns-in-Some-clause-rising : goal.returns-in-Some-clause-rising
returns-in-Some-clause-rising c = rises_at book_stamp _ _ _ _ c.journal.ensures.kept.stamps (sym c.journal.ensures.value ∙ ap option_copied c.in-Some.is)
