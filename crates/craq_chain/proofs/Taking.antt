-- A running chain takes one more move.
use Rattle.std.proofs.Common.{◌≡◌, ◌≤◌, ◌<◌, ◌+◌, ◌++◌, ℕ, true, List, [], ◌∷◌, length, get_or, Ok, refl, sym, ap, subst, arith, ◌∙◌, inl, inr, append_assoc, length-append}
use Rattle.std.specs.List.{AllByRecursion}
use Rattle.std.proofs.lemmas.List.{append-nil}
use Rattle.craq_names.specs.Limits.{greatest}
use Rattle.craq_names.specs.declared.refusal.Refusal.{Refusal}
use Rattle.craq_names.specs.Order.{RefusesWhere}
use Rattle.craq_names.proofs.Lists.{all_append}
use Rattle.craq_model.specs.declared.step.Out.{Out}
use Rattle.craq_model.specs.declared.step.Out.TheVariants as outs
use Rattle.craq_model.specs.declared.step.Step.{Step}
use Rattle.craq_model.specs.Plain.{Plain}
use Rattle.craq_model.specs.Encodable.{IsEncodable}
use Rattle.craq_epochs.specs.Mastered.{Mastered}
use Rattle.craq_runs.specs.declared.run.Move.{Move}
use Rattle.craq_runs.specs.declared.run.Taken.{Taken}
use Rattle.craq_runs.specs.Chain.{Chain, opening_chain, sent_in, move_progress, numbers_left, chain_step}
use Rattle.craq_runs.specs.Runs.{Takes, progressed}
use Rattle.craq_runs.specs.Typed.{IsMoveOfType}
use Rattle.craq_laws.proofs.Nodes.{goes_on, after_push, typed_push}
use Rattle.craq_node_invariant.specs.Sound.{AreEncodable}
use Rattle.craq_chain.specs.Chained.{Chained, Finds, chain_of_run, with_move, after_taking}
use Rattle.craq_chain.specs.Parts.{AreParts, Moves}
use Rattle.craq_chain.specs.Sent.{counts_from, sent_by}
use Rattle.craq_chain.specs.Standing.{IsStanding}
use Rattle.craq_chain.proofs.Sendings.{counts_long, total}

sent_push : (ts : List Taken) (t : Taken) → sent_by (ts ++ t ∷ []) ≡ sent_by ts ++ sent_in t.step.outs
sent_push [] t = append-nil (sent_in t.step.outs)
sent_push (u ∷ ts) t = ap (λ ms. sent_in u.step.outs ++ ms) (sent_push ts t) ∙ sym (append_assoc (sent_in u.step.outs) (sent_by ts) (sent_in t.step.outs))

counts_push : (before : ℕ) (ts : List Taken) (t : Taken) → counts_from before (ts ++ t ∷ []) ≡ counts_from before ts ++ (before + length (sent_by ts) + length (sent_in t.step.outs)) ∷ []
counts_push before [] t = ap (λ n. n ∷ []) (omega arith)
counts_push before (u ∷ ts) t =
    ap (λ ns. (before + length (sent_in u.step.outs)) ∷ ns)
    (counts_push (before + length (sent_in u.step.outs)) ts t
    ∙ ap (λ n. counts_from (before + length (sent_in u.step.outs)) ts ++ n ∷ []) (omega (arith, length-append (sent_in u.step.outs) (sent_by ts))))

-- each message sent has an encoding
sends_encodable : (os : List Out) → AreEncodable os → AllByRecursion IsEncodable (sent_in os)
unfolding sent_in
sends_encodable [] h = tt
sends_encodable (outs.Send to m ∷ os) h = (h.0.0, sends_encodable os h.1)
sends_encodable (outs.Answer ticket answer ∷ os) h = sends_encodable os h.1

pub numbered : (c : Chain) (step : Step) → c.moves < greatest → length c.messages + length (sent_in step.outs) ≤ greatest → numbers_left c step ≡ true
unfolding numbers_left
numbered c step few fits = grind arith

counted : (c d : Chain) (m : Move) (step : Step) → move_progress c m ≡ Ok (d, step) → numbers_left c step ≡ true → chain_step c m ≡ Ok (record d { messages = c.messages ++ sent_in step.outs; moves = c.moves + 1 }, step)
unfolding chain_step
counted c d m step e n = rw (e, n) refl

-- one more move was taken
pub record Took {C : Type 0} (R : C → Plain → Type 0) (cs : List C) (m : Mastered) (sent : List ℕ) (w : Chained) (t : Taken) : Type 0 where
  pub standing : IsStanding R cs m sent (with_move w t)
  pub wanted : after_taking w t.chosen ≡ Ok (with_move w t)

pub took : {C : Type 0} (R : C → Plain → Type 0) (cs ds : List C) (m n : Mastered) (sent : List ℕ) (count : ℕ) (w : Chained) (t : Taken) → IsStanding R cs m sent w → Moves (AreParts R ds n) (chain_of_run w) (Finds (chain_of_run w) t.chosen) (Ok t.step) (move_progress (chain_of_run w) t.chosen) → AreEncodable t.step.outs → IsMoveOfType t.chosen → length w.run.moves < greatest → length (sent_by w.run.moves) + length (sent_in t.step.outs) ≤ greatest → count ≡ length (sent_by w.run.moves) + length (sent_in t.step.outs) → Took R ds n (sent ++ count ∷ []) w t
took R cs ds m n sent count w t h a spelled typed few fits was =
    let c = chain_of_run w in
    let d = a.0 in
    let left : numbers_left c t.step ≡ true = numbered c t.step (rw h.moves few) (rw h.messages fits) in
    let next : Chain = record d { messages = c.messages ++ sent_in t.step.outs; moves = c.moves + 1 } in
    let step : chain_step c t.chosen ≡ Ok (next, t.step) = counted c d t.chosen t.step a.1 left in
    let is : chain_of_run (with_move w t) ≡ next = after_push (opening_chain w.chain w.run.members) w.run.moves t ∙ ap (progressed c) step in
    record {
      standing = record {
        parts = subst (AreParts R ds n) (sym is) (record { nodes = a.2.nodes; master = a.2.master; names = a.2.names });
        run = record {
          run_of = record {
            members = h.run.run_of.members;
            moves = goes_on (opening_chain w.chain w.run.members) w.run.moves t h.run.run_of.moves (subst (λ r. Takes r t.step) (sym step) refl);
          };
          typed = typed_push w.run.moves t h.run.typed typed;
        };
        counts = ap (λ xs. xs ++ count ∷ []) h.counts ∙ ap (λ k. counts_from 0 w.run.moves ++ k ∷ []) (omega (arith, was)) ∙ sym (counts_push 0 w.run.moves t);
        messages = ap (λ x. x.messages) is ∙ ap (λ ms. ms ++ sent_in t.step.outs) h.messages ∙ sym (sent_push w.run.moves t);
        moves = ap (λ x. x.moves) is ∙ ap (λ k. k + 1) h.moves ∙ sym (length-append w.run.moves (t ∷ []));
        spelled = subst (AllByRecursion IsEncodable) (sym (sent_push w.run.moves t)) (all_append IsEncodable (sent_by w.run.moves) (sent_in t.step.outs) h.spelled (sends_encodable t.step.outs spelled));
      };
      wanted = rw step refl;
    }

-- the move is refused
pub refused : (w : Chained) (m : Move) (e : Refusal) → RefusesWhere (Finds (chain_of_run w) m) e (move_progress (chain_of_run w) m) → RefusesWhere (Finds (chain_of_run w) m) e (after_taking w m)
unfolding chain_step
refused w m e (inl memory) = inl memory
refused w m e (inr h) = inr (rw h refl)

-- the last count is that of all messages
pub all_counted : (w : Chained) (sent : List ℕ) (last : ℕ) → sent ≡ counts_from 0 w.run.moves → last ≡ get_or (0 ∷ sent) (length sent) 0 → last ≡ length (sent_by w.run.moves)
all_counted w sent last is h =
    let long : length sent ≡ length w.run.moves = ap length is ∙ counts_long 0 w.run.moves in
    let at : get_or (0 ∷ sent) (length sent) 0 ≡ get_or (0 ∷ counts_from 0 w.run.moves) (length w.run.moves) 0 = ap (λ xs. get_or (0 ∷ xs) (length sent) 0) is ∙ ap (λ k. get_or (0 ∷ counts_from 0 w.run.moves) k 0) long in
    h ∙ at ∙ total 0 w.run.moves ∙ omega arith
