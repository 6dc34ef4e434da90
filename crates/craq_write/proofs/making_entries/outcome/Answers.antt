use Rattle.std.proofs.Common.{◌≡◌, false, ap}
use Rattle.craq_commands.specs.Evaluation.{Outcome, eval, objects_named, some_used_up}
use Rattle.craq_model.specs.Past.{newest_in}
use Rattle.craq_write.proofs.Room.{written_have_next}
use Rattle.craq_write.proofs.making_entries.outcome.Goals as goal

pub versioned-requires : goal.versioned-requires
versioned-requires g c =
    let objects = (newest_in (g.H.History.past c.args.history.now)).objects in
    let versions : some_used_up objects (objects_named c.in-Other.command) ≡ false = rw c.in-Other.is at c.requires in
    let made : c.in_ok-writes-in-Other.writes ≡ (eval objects c.in-Other.command).0 = ap (λ (o : Outcome). o.0) c.in_ok-writes-in-Other.ensures in
    rw (c.into_vec.ensures, made) (written_have_next objects c.in-Other.command versions)
