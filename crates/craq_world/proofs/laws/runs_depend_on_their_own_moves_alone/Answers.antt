use Rattle.std.proofs.Common.{Some, sym, ap, ◌∙◌}
use Rattle.craq_chain.specs.Chained.{opened_chain}
use Rattle.craq_world.specs.Apart.{running_chain_after}
use Rattle.craq_world.proofs.Apart.{as_given, as_taken, just_taken}
use Rattle.craq_world.proofs.laws.runs_depend_on_their_own_moves_alone.Goals as goal

pub returns : goal.returns
returns c = record {
  run = as_taken;
  just = just_taken;
  taken = λ x y id members e f same.
      as_taken x id members e
      ∙ ap (λ ms. Some (running_chain_after (opened_chain id members) ms)) same
      ∙ sym (as_taken y id members f);
  given = λ x y id members e f had have same.
      as_given x id members e had
      ∙ ap (λ ms. Some (running_chain_after (opened_chain id members) ms)) same
      ∙ sym (as_given y id members f have);
}
