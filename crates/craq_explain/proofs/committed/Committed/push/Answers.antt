use Rattle.std.proofs.Common.{◌∷◌, ◌++◌, [], sym, ap, ◌∙◌}
use Rattle.std.specs.Option.{option_or}
use Rattle.craq_runs.specs.Explain.{wrote}
use Rattle.craq_explain.specs.Firsts.{number_if}
use Rattle.craq_explain.specs.Tables.{origin}
use Rattle.craq_explain.proofs.Noting.{origins_push, written_push}
use Rattle.craq_explain.proofs.committed.Committed.push.Goals as goal

pub returns : goal.returns
returns c = λ entries h.
    let e = c.args.entry.now in
    record {
      origins = c.in_ok-push.ensures.items ∙ ap (λ xs. xs ++ origin e ∷ []) h.origins ∙ sym (origins_push entries e);
      written = λ q. c.in_ok-note_writes.ensures q ∙ ap (λ x. option_or x (number_if (wrote q.0 q.1 e) e.position)) (h.written q) ∙ sym (written_push entries e q);
    }
