-- The notes after one more move.
use Rattle.std.proofs.Common.{◌≡◌, ◌+◌, ℕ, List, [], ◌∷◌, ◌++◌, length, map, Option, ap, subst, ◌∙◌}
use Rattle.craq_model.specs.declared.message.LinkMessage.{LinkMessage}
use Rattle.craq_model.specs.Plain.{Plain}
use Rattle.craq_runs.specs.declared.explanation.Place.{Place}
use Rattle.craq_runs.specs.declared.run.Taken.{Taken}
use Rattle.craq_runs.specs.Chain.{Chain, sent_in}
use Rattle.craq_runs.specs.Explain.{Account, account_with, committed_by, pending_in, places_of, tail_word}
use Rattle.craq_runs.specs.Seen.{Asked, answers_in, ask_in}
use Rattle.craq_explain.specs.declared.account.Notes.{Notes}
use Rattle.craq_explain.specs.Noted.{IsNoted}
use Rattle.craq_explain.specs.Tables.{AreTables}

pub added : (w : Account) (t : Taken) (node : ℕ) (next : Chain) (p : Option Plain) (asks : List Asked) (number count : ℕ) (word : Option (ℕ × ℕ)) (old n : Notes) → IsNoted w old → number ≡ w.chain.moves + 1 → asks ≡ w.asks ++ ask_in (w.chain.moves + 1) t.step.ticket t.chosen → word ≡ tail_word w t.chosen → AreTables (w.asks ++ ask_in number t.step.ticket t.chosen) (w.pending ++ pending_in (length w.committed) t.step.ticket p t.chosen) (committed_by w.committed p) n.tables → count ≡ length (committed_by w.committed p) → n.lens.items ≡ old.lens.items ++ count ∷ [] → n.sent_at.items ≡ old.sent_at.items ++ map (λ (x : LinkMessage). count) (sent_in t.step.outs) → n.places.items ≡ old.places.items ++ places_of asks (w.pending ++ pending_in (length w.committed) t.step.ticket p t.chosen) (committed_by w.committed p) p word (answers_in (w.chain.moves + 1) node t.step.outs) → IsNoted (account_with w t node next p p) n
unfolding account_with
added w t node next p asks number count word old n h en ea ew tables ec hl hs hp =
    let pending : List Place = w.pending ++ pending_in (length w.committed) t.step.ticket p t.chosen in
    let entries = committed_by w.committed p in
    let answers = answers_in (w.chain.moves + 1) node t.step.outs in
    record {
      tables = subst (λ k. AreTables (w.asks ++ ask_in k t.step.ticket t.chosen) pending entries n.tables) en tables;
      lens = hl ∙ ap (λ (xs : List ℕ). xs ++ count ∷ []) h.lens ∙ ap (λ k. w.lens ++ k ∷ []) ec;
      sent_at = hs ∙ ap (λ (xs : List ℕ). xs ++ map (λ (x : LinkMessage). count) (sent_in t.step.outs)) h.sent_at ∙ ap (λ k. w.sent_at ++ map (λ (x : LinkMessage). k) (sent_in t.step.outs)) ec;
      places = hp ∙ ap (λ (xs : List Place). xs ++ places_of asks pending entries p word answers) h.places ∙ ap (λ (xs : List Asked). w.places ++ places_of xs pending entries p word answers) ea ∙ ap (λ (x : Option (ℕ × ℕ)). w.places ++ places_of (w.asks ++ ask_in (w.chain.moves + 1) t.step.ticket t.chosen) pending entries p x answers) ew;
    }
