use Rattle.std.proofs.Common.{◌≡◌, ◌+◌, ◌<◌, length, get_or, take, sym, ap, subst, ◌∙◌}
use Rattle.craq_runs.specs.Seen.{asks_from}
use Rattle.craq_runs.specs.Chain.{chain_step}
use Rattle.craq_runs.specs.Explain.{Account}
use Rattle.craq_runs.specs.Runs.{Takes}
use Rattle.craq_chain.specs.Chained.{chain_of_run, opened_chain, with_move}
use Rattle.craq_explain.specs.Noted.{IsNoted}
use Rattle.craq_explain.proofs.Replaying.{account_at, asks_there, chain_there, count_there, next_account, next_chain, takes_there}
use Rattle.craq_explain.proofs.replay.replay_all.Goals as goal

pub loop-place-init : goal.loop-place-init
loop-place-init c = record {
  core = c.in_ok-core.ensures ∙ ap (λ ms. opened_chain c.args.chain ms) c.as_slice.ensures;
  notes = c.new-notes.ensures c.args.chain c.args.run.now.members;
}

pub loop-place-preserved : goal.loop-place-preserved
loop-place-preserved c =
    let chain = c.args.chain in
    let run = c.args.run.now in
    let i = c.loop-place.place in
    let t = c.index-moves-place.result in
    let inv = c.loop-place.invariant in
    let e2 = c.as_slice-moves.ensures in
    let is : t ≡ get_or run.moves i t = subst (λ xs. t ≡ get_or xs i t) e2 c.index-moves-place.is in
    let h : i < length run.moves = subst (λ xs. i < length xs) e2 c.loop-place-test.true in
    let q = c.in_ok-replay_move.ensures (account_at chain run i) inv.notes (chain_there chain run i ∙ ap chain_of_run (sym inv.core)) (ap (λ xs. length (take (i + 1) xs)) e2 ∙ count_there chain run i h c.requires) (ap (λ xs. asks_from 1 (take (i + 1) xs)) e2 ∙ asks_there chain run i t h is c.requires) (subst (λ x. Takes (chain_step (chain_of_run x) t.chosen) t.step) (sym inv.core) (takes_there chain run i t h is c.requires)) in
    record {
      core = q.1 ∙ ap (λ x. with_move x t) inv.core ∙ next_chain chain run i t h is;
      notes = subst (λ (w : Account). IsNoted w c.replay_move.new.notes) (sym (next_account chain run i t h is)) q.0;
    }
