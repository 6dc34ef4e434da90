use Rattle.craq_world.proofs.Chosen.{can_happen, chosen_anywhere, chosen_holds, chosen_there}
use Rattle.craq_world.proofs.explaining.explain_run.Goals as goal

pub explain_run_of-requires : goal.explain_run_of-requires
explain_run_of-requires c =
    can_happen c.args.run.now c.as_slice-moves.result.now c.in-Some.chain (record { are = c.as_slice-moves.ensures; typed = c.keep_all_limits.ensures }) c.in-Some.ensures c.requires

pub returns-in-Some-clause-chosen : goal.returns-in-Some-clause-chosen
returns-in-Some-clause-chosen c =
    chosen_there c.explain_run_of.result c.args.run.now c.as_slice-moves.result.now c.in-Some.chain (record { are = c.as_slice-moves.ensures; typed = c.keep_all_limits.ensures }) c.in-Some.ensures c.explain_run_of.ensures

pub returns-in-Some-clause-valid : goal.returns-in-Some-clause-valid
returns-in-Some-clause-valid c =
    chosen_holds c.explain_run_of.result c.args.run.now c.as_slice-moves.result.now (record { are = c.as_slice-moves.ensures; typed = c.keep_all_limits.ensures }) c.requires c.every_run_is_explained.ensures
    (chosen_there c.explain_run_of.result c.args.run.now c.as_slice-moves.result.now c.in-Some.chain (record { are = c.as_slice-moves.ensures; typed = c.keep_all_limits.ensures }) c.in-Some.ensures c.explain_run_of.ensures)

pub returns-in-None-clause-chosen : goal.returns-in-None-clause-chosen
returns-in-None-clause-chosen c =
    chosen_anywhere c.explain_unasked.result c.args.run.now c.as_slice-moves.result.now (record { are = c.as_slice-moves.ensures; typed = c.keep_all_limits.ensures }) c.in-None.ensures c.explain_unasked.ensures

pub returns-in-None-clause-valid : goal.returns-in-None-clause-valid
returns-in-None-clause-valid c =
    chosen_holds c.explain_unasked.result c.args.run.now c.as_slice-moves.result.now (record { are = c.as_slice-moves.ensures; typed = c.keep_all_limits.ensures }) c.requires c.every_run_is_explained.ensures
    (chosen_anywhere c.explain_unasked.result c.args.run.now c.as_slice-moves.result.now (record { are = c.as_slice-moves.ensures; typed = c.keep_all_limits.ensures }) c.in-None.ensures c.explain_unasked.ensures)
