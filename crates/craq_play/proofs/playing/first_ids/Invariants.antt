use Rattle.std.proofs.Common.{◌≡◌}
use Rattle.craq_play.specs.Played.{first_ids}
use Rattle.craq_play.proofs.playing.first_ids.Given as goal

abbrev pub invariant-loop-id : goal.invariant-loop-id
invariant-loop-id l = l.ids.items ≡ first_ids l.id
