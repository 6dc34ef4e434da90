-- A reply in a run comes no earlier than its request.
use Rattle.std.proofs.Common.{◌≡◌, ◌<◌, ◌≤◌, ℕ, zero, suc, ◌+◌, List, [], ◌∷◌, ◌++◌, length, Option, Some, refl, sym, ap, subst, arith, ◌∙◌, inl, inr, append_assoc}
use Rattle.craq_model.specs.declared.step.Out.{Out}
use Rattle.craq_model.specs.declared.step.Out.TheVariants as outs
use Rattle.craq_runs.specs.declared.run.Run.{Run}
use Rattle.craq_runs.specs.declared.run.Taken.{Taken}
use Rattle.craq_runs.specs.Chain.{opening_chain}
use Rattle.craq_runs.specs.Seen.{Asked, Answered, answers_from, answers_in, ask_in, ask_with, asks_from, node_of, receivers_in}
use Rattle.craq_runs.specs.Typed.{IsTypedRunOf}
use Rattle.craq_causality.proofs.Orders.{IsIn, all_in, in_either, in_left, in_right}
use Rattle.craq_strong_answers.proofs.Placed.{HasAsk}
use Rattle.craq_strong_answers.proofs.Stays.{asked_in_time}
use Rattle.craq_strong_answers.proofs.Strong.{clients_run}
use Rattle.craq_updates.proofs.Explained.{taken_front, typed_front}
use Rattle.craq_updates.proofs.Found.{ask_stays}
use Rattle.craq_updates.proofs.Runs.{known_run, run_account}
use Rattle.craq_merge.proofs.Positions.{same_some}

-- ---- the first moves of a run

pub record Cut {X : Type 0} (xs : List X) (n : ℕ) : Type 0 where
  pub first : List X
  pub rest : List X
  pub is : xs ≡ first ++ rest
  pub long : length first ≡ n

pub cut : {X : Type 0} (xs : List X) (n : ℕ) → n ≤ length xs → Cut xs n
cut xs zero h = record { first = []; rest = xs; is = refl; long = refl }
cut [] (suc n) h = absurd (omega (arith, h))
cut (x ∷ xs) (suc n) h =
    let c = cut xs n (omega (arith, h)) in
    record { first = x ∷ c.first; rest = c.rest; is = ap (λ zs. x ∷ zs) c.is; long = ap suc c.long }

numbered_in : (number node : ℕ) (os : List Out) (x : Answered) → IsIn (answers_in number node os) x → x.move ≡ number
unfolding answers_in
numbered_in number node [] x i = absurd i
numbered_in number node (outs.Send to m ∷ os) x i = numbered_in number node os x i
numbered_in number node (outs.Answer ticket answer ∷ os) x (inl e) = ap (λ (y : Answered). y.move) (sym e)
numbered_in number node (outs.Answer ticket answer ∷ os) x (inr i) = numbered_in number node os x i

no_earlier : (number : ℕ) (receivers : List ℕ) (ts : List Taken) (x : Answered) → IsIn (answers_from number receivers ts) x → number ≤ x.move
unfolding answers_from
no_earlier number receivers [] x i = absurd i
no_earlier number receivers (t ∷ ts) x i =
    elim (in_either (answers_in number (node_of receivers t.chosen) t.step.outs) (answers_from (number + 1) (receivers ++ receivers_in t.step.outs) ts) x i) [
      | inl k ↦ (let e = numbered_in number (node_of receivers t.chosen) t.step.outs x k in omega (arith, e))
      | inr k ↦ (let le = no_earlier (number + 1) (receivers ++ receivers_in t.step.outs) ts x k in omega (arith, le))
    ]

in_first : (number : ℕ) (receivers : List ℕ) (ts us : List Taken) (x : Answered) → IsIn (answers_from number receivers (ts ++ us)) x → x.move < number + length ts → IsIn (answers_from number receivers ts) x
unfolding answers_from
in_first number receivers [] us x i less = let le = no_earlier number receivers us x i in absurd (omega (arith, le, less))
in_first number receivers (t ∷ ts) us x i less =
    let here : List Answered = answers_in number (node_of receivers t.chosen) t.step.outs in
    let more : List ℕ = receivers ++ receivers_in t.step.outs in
    elim (in_either here (answers_from (number + 1) more (ts ++ us)) x i) [
      | inl k ↦ in_left here (answers_from (number + 1) more ts) x k
      | inr k ↦ in_right here (answers_from (number + 1) more ts) x (in_first (number + 1) more ts us x k (omega (arith, less)))
    ]

pub asks_append : (number : ℕ) (ts us : List Taken) → asks_from number (ts ++ us) ≡ asks_from number ts ++ asks_from (number + length ts) us
unfolding asks_from
asks_append number [] us = let n : number ≡ number + 0 = omega arith in ap (λ k. asks_from k us) n
asks_append number (t ∷ ts) us =
    let first : List Asked = ask_in number t.step.ticket t.chosen in
    let n : number + 1 + length ts ≡ number + suc (length ts) = omega arith in
    ap (λ (l : List Asked). first ++ l) (asks_append (number + 1) ts us)
    ∙ (ap (λ k. first ++ (asks_from (number + 1) ts ++ asks_from k us)) n ∙ sym (append_assoc first (asks_from (number + 1) ts) (asks_from (number + suc (length ts)) us)))

-- ---- the request of a reply among the first moves is one of them

pub among_first : (chain : ℕ) (members : List ℕ) (ts us : List Taken) (asked : Asked) (x : Answered) → IsTypedRunOf chain (record { members = members; moves = ts ++ us }) → ask_with (asks_from 1 (ts ++ us)) x.node x.ticket ≡ Some asked
    → IsIn (answers_from 1 [] (ts ++ us)) x → x.move ≤ length ts → asked.move ≤ length ts
among_first chain members ts us asked x i is there le =
    let run : Run = record { members = members; moves = ts } in
    let typed : IsTypedRunOf chain run = record { run_of = record { members = i.run_of.members; moves = (taken_front ts us (opening_chain chain members) i.run_of.moves).0 }; typed = (typed_front ts us i.typed).0 } in
    let r = clients_run chain run typed in
    let k = known_run chain run typed in
    let early : IsIn (answers_from 1 [] ts) x = in_first 1 [] ts us x there (omega (arith, le)) in
    let has : HasAsk (run_account chain run).asks x = all_in (HasAsk (run_account chain run).asks) (answers_from 1 [] ts) x r.clients.asked early in
    let asks : (run_account chain run).asks ≡ asks_from 1 ts = k.asks in
    let found : ask_with (asks_from 1 ts) x.node x.ticket ≡ Some has.0 = subst (λ (l : List Asked). ask_with l x.node x.ticket ≡ Some has.0) asks has.1 in
    let whole : ask_with (asks_from 1 (ts ++ us)) x.node x.ticket ≡ Some has.0 =
    subst (λ (l : List Asked). ask_with l x.node x.ticket ≡ Some has.0) (sym (asks_append 1 ts us)) (ask_stays (asks_from 1 ts) (asks_from (1 + length ts) us) x.node x.ticket has.0 found) in
    let same : has.0 ≡ asked = same_some has.0 asked (ask_with (asks_from 1 (ts ++ us)) x.node x.ticket) whole is in
    let upto : has.0.move ≤ (run_account chain run).chain.moves = asked_in_time (run_account chain run) (run_account chain run).chain.moves x.node x.ticket has.0 k.known.in_time has.1 in
    let moves : (run_account chain run).chain.moves ≡ length ts = omega (arith, k.moves) in
    let move : has.0.move ≡ asked.move = ap (λ (y : Asked). y.move) same in
    omega (arith, upto, moves, move)
