-- The account of a run, move by move.
use Rattle.std.proofs.Common.{◌≡◌, ◌<◌, ◌+◌, ℕ, zero, suc, Bool, true, false, List, [], ◌∷◌, ◌++◌, length, get_or, take, map, Option, Result, Ok, Err, refl, sym, ap, subst, arith, ◌∙◌, append_assoc}
use Rattle.std.specs.Prelude.{if◌then◌else◌}
use Rattle.std.proofs.lemmas.List.{append-nil}
use Rattle.craq_names.specs.declared.refusal.Refusal.{Refusal}
use Rattle.craq_names.specs.declared.refusal.Refusal.TheVariants.{Exhausted}
use Rattle.craq_model.specs.declared.message.LinkMessage.{LinkMessage}
use Rattle.craq_model.specs.declared.step.Step.{Step}
use Rattle.craq_runs.specs.declared.run.Move.{Move}
use Rattle.craq_runs.specs.declared.run.Taken.{Taken}
use Rattle.craq_model.specs.Plain.{Plain}
use Rattle.craq_explain.specs.declared.account.Notes.{Notes}
use Rattle.craq_explain.specs.Noted.{IsNoted}
use Rattle.craq_explain.specs.Shown.{as_running}
use Rattle.craq_explain.proofs.Running.{same_account}
use Rattle.craq_explain.proofs.Words.{same_reads}
use Rattle.craq_runs.specs.Chain.{Chain, Progress, node_at, opening_chain, chain_step, counted_progress, move_progress, numbers_left, sent_in}
use Rattle.craq_runs.specs.Runs.{AreTaken, Takes, after_move, after_moves, progressed}
use Rattle.craq_runs.specs.Explain.{Account, account_after, account_of, account_with}
use Rattle.craq_runs.specs.Seen.{Asked, ask_in, asks_from, node_of}
use Rattle.craq_laws.proofs.Nodes.{after_push}
use Rattle.craq_chain.specs.Chained.{Chained, chain_of_run, moved, with_move, after_taking}

pub one_more : (w : Account) (ts : List Taken) (t : Taken) → account_of w (ts ++ t ∷ []) ≡ account_after (account_of w ts) t
one_more w [] t = refl
one_more w (u ∷ ts) t = one_more (account_after w u) ts t

chain_then : (w : Account) (t : Taken) → (account_after w t).chain ≡ after_move w.chain t.chosen
unfolding account_with
chain_then w t = refl

pub asks_then : (w : Account) (t : Taken) → (account_after w t).asks ≡ w.asks ++ ask_in (w.chain.moves + 1) t.step.ticket t.chosen
unfolding account_with
asks_then w t = refl

-- the account's chain is that to which the moves lead
pub account_chain_after : (w : Account) (ts : List Taken) → (account_of w ts).chain ≡ after_moves w.chain ts
account_chain_after w [] = refl
account_chain_after w (t ∷ ts) = account_chain_after (account_after w t) ts ∙ ap (λ (c : Chain). after_moves c ts) (chain_then w t)

by_left : (c d : Chain) (step step2 : Step) (b : Bool) → Takes (if b then (let r : Result Progress Refusal = Ok (record d { messages = c.messages ++ sent_in step2.outs; moves = c.moves + 1 }, step2) in r) else Err Exhausted) step → (progressed c (if b then (let r : Result Progress Refusal = Ok (record d { messages = c.messages ++ sent_in step2.outs; moves = c.moves + 1 }, step2) in r) else Err Exhausted)).moves ≡ c.moves + 1
by_left c d step step2 true h = refl
by_left c d step step2 false h = absurd h

counted : (c : Chain) (step : Step) (r : Result Progress Refusal) → Takes (counted_progress c r) step → (progressed c (counted_progress c r)).moves ≡ c.moves + 1
counted c step (Ok x) h = by_left c x.0 step x.1 (numbers_left c x.1) h
counted c step (Err e) h = absurd h

-- a move that is taken is counted
moves_on : (c : Chain) (m : Move) (step : Step) → Takes (chain_step c m) step → (after_move c m).moves ≡ c.moves + 1
unfolding chain_step
moves_on c m step h = counted c step (move_progress c m) h

-- the account's requests are those of the moves
pub asks_after : (w : Account) (ts : List Taken) → AreTaken w.chain ts → (account_of w ts).asks ≡ w.asks ++ asks_from (w.chain.moves + 1) ts
unfolding asks_from
asks_after w [] h = sym (append-nil w.asks)
asks_after w (t ∷ ts) h =
    let v = account_after w t in
    let c = chain_then w t in
    let number : v.chain.moves ≡ w.chain.moves + 1 = ap (λ (x : Chain). x.moves) c ∙ moves_on w.chain t.chosen t.step h.0 in
    asks_after v ts (subst (λ x. AreTaken x ts) (sym c) h.1)
    ∙ ap (λ n. v.asks ++ asks_from (n + 1) ts) number
    ∙ ap (λ (xs : List Asked). xs ++ asks_from (w.chain.moves + 1 + 1) ts) (asks_then w t)
    ∙ append_assoc w.asks (ask_in (w.chain.moves + 1) t.step.ticket t.chosen) (asks_from (w.chain.moves + 1 + 1) ts)

-- the moves of a prefix are counted
pub count_after : (c : Chain) (ts : List Taken) → AreTaken c ts → (after_moves c ts).moves ≡ c.moves + length ts
count_after c [] h = omega arith
count_after c (t ∷ ts) h =
    let later = count_after (after_move c t.chosen) ts h.1 in
    let here = moves_on c t.chosen t.step h.0 in
    omega (arith, later, here)

-- a prefix of taken moves is taken, and so is the next move
pub taken_before : (c : Chain) (ts : List Taken) (i : ℕ) → AreTaken c ts → AreTaken c (take i ts)
taken_before c [] zero h = tt
taken_before c [] (suc i) h = tt
taken_before c (t ∷ ts) zero h = tt
taken_before c (t ∷ ts) (suc i) h = (h.0, taken_before (after_move c t.chosen) ts i h.1)

pub taken_next : (c : Chain) (ts : List Taken) (i : ℕ) (t : Taken) → i < length ts → t ≡ get_or ts i t → AreTaken c ts → Takes (chain_step (after_moves c (take i ts)) t.chosen) t.step
taken_next c [] i t h is a = absurd (omega (arith, h))
taken_next c (u ∷ ts) zero t h is a = subst (λ x. Takes (chain_step c x.chosen) x.step) (sym is) a.0
taken_next c (u ∷ ts) (suc i) t h is a = taken_next (after_move c u.chosen) ts i t (omega (arith, h)) is a.1

same_progress : (w new : Chained) (t : Taken) (r : Result Progress Refusal) → Takes r t.step → moved w t.chosen r ≡ Ok new → new ≡ with_move w t
same_progress w new t (Ok x) h e = let put : with_move w (record { chosen = t.chosen; step = x.1 }) ≡ new = cc in sym put ∙ ap (λ (s : Step). with_move w (record { chosen = t.chosen; step = s })) h
same_progress w new t (Err r) h e = absurd h

-- the chain that replays a move of a run keeps the run's step
pub took_again : (w new : Chained) (t : Taken) → Takes (chain_step (chain_of_run w) t.chosen) t.step → after_taking w t.chosen ≡ Ok new → new ≡ with_move w t
took_again w new t h e = same_progress w new t (chain_step (chain_of_run w) t.chosen) h e

-- the chain with one more move
pub chain_with : (w : Chained) (t : Taken) → chain_of_run (with_move w t) ≡ after_move (chain_of_run w) t.chosen
chain_with w t = after_push (opening_chain w.chain w.run.members) w.run.moves t

-- the notes of the account after a move, from the chain before it and after it
pub noted_after : (w : Account) (t : Taken) (c d : Chain) (node : ℕ) (stands : Option Plain) (n : Notes) → w.chain ≡ c → d ≡ after_move c t.chosen → node ≡ node_of (map (λ (x : LinkMessage). x.receiver) c.messages) t.chosen → stands ≡ as_running (node_at d.nodes node) → IsNoted (account_with w t node (after_move w.chain t.chosen) stands stands) n → IsNoted (account_after w t) n
noted_after w t c d node stands n e ed en es h =
    let next : Chain = after_move w.chain t.chosen in
    let at : node ≡ node_of (map (λ (x : LinkMessage). x.receiver) w.chain.messages) t.chosen = en ∙ ap (λ (x : Chain). node_of (map (λ (y : LinkMessage). y.receiver) x.messages) t.chosen) (sym e) in
    let is : stands ≡ as_running (node_at next.nodes node) = es ∙ ap (λ (x : Chain). as_running (node_at x.nodes node)) (ed ∙ ap (λ (x : Chain). after_move x t.chosen) (sym e)) in
    let there : ℕ = node_of (map (λ (x : LinkMessage). x.receiver) w.chain.messages) t.chosen in
    let same : account_with w t node next stands stands ≡ account_after w t =
    ap (λ (x : Option Plain). account_with w t node next x x) is
    ∙ ap (λ (k : ℕ). account_with w t k next (as_running (node_at next.nodes k)) (as_running (node_at next.nodes k))) at
    ∙ same_account w t there next (node_at w.chain.nodes there) (node_at next.nodes there) (λ entries key. same_reads w t.chosen entries key) in
    subst (λ (x : Account). IsNoted x n) same h
