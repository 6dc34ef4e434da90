use Rattle.std.proofs.Common.{ap, ◌∙◌}
use Rattle.std.specs.Prelude.{unwrap_or}
use Rattle.std.specs.BTreeMap.{get}
use Rattle.craq_runs.specs.Explain.{written_at}
use Rattle.craq_explain.specs.Firsts.{write_cmp}
use Rattle.craq_explain.specs.Tables.{first_written}
use Rattle.craq_explain.proofs.committed.Committed.written_at.Goals as goal

pub returns : goal.returns
unfolding written_at first_written
returns c = λ entries h.
    c.unwrap_or.ensures
    ∙ ap (λ x. unwrap_or x 0) (c.copied-2.ensures ∙ c.get.ensures.value ∙ ap (λ k. get write_cmp c.args.self.now.written (k, c.args.version)) c.in_ok-copied.ensures ∙ h.written (c.args.key.now, c.args.version))
