use Rattle.craq_compact_state.proofs.Applied.{after_is, when_ok}
use Rattle.craq_compact_state.proofs.applying.apply_one.Goals as goal

pub returns-clause-state : goal.returns-clause-state
returns-clause-state c =
    after_is _ _ _ _ c.args.entry c.settle_objects.ensures.objects (when_ok c.keep.result (c.keep.ensures.succeeds c.requires.room) c.keep.ensures.ok)
