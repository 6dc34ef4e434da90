use Rattle.craq_runs.specs.Explain.{account_of, opening_account}
use Rattle.craq_explain.proofs.replay.explain_run_of.Goals as goal

pub returns : goal.returns
returns c = c.explained.ensures (account_of (opening_account c.args.chain c.args.run.now.members) c.args.run.now.moves) c.in_ok-notes.ensures
