use Rattle.std.proofs.Common.{sym, ap, ◌∙◌}
use Rattle.std.specs.Option.{option_copied}
use Rattle.craq_seat.specs.Stamps.{event_stamp}
use Rattle.craq_audit.proofs.Stamped.{rises_at}
use Rattle.craq_audit.proofs.journals.records_of.Goals as goal

pub returns-in-Some-clause-rising : goal.returns-in-Some-clause-rising
returns-in-Some-clause-rising g c = rises_at event_stamp _ _ _ _ c.journal.ensures.kept.stamps (sym c.journal.ensures.value ∙ ap option_copied c.in-Some.is)
