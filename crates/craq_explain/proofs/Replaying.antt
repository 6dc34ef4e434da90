-- A replayed run, after some of its moves.
use Rattle.std.proofs.Common.{◌≡◌, ◌<◌, ◌+◌, ℕ, List, [], ◌∷◌, ◌++◌, length, get_or, take, sym, ap, arith, ◌≤◌, ◌∙◌}
use Rattle.std.proofs.lemmas.List.{length-take-le, take_more}
use Rattle.craq_runs.specs.declared.run.Run.{Run}
use Rattle.craq_runs.specs.declared.run.Taken.{Taken}
use Rattle.craq_runs.specs.Chain.{Chain, chain_step, opening_chain}
use Rattle.craq_runs.specs.Runs.{IsRunOf, Takes}
use Rattle.craq_runs.specs.Explain.{Account, account_after, account_of, opening_account}
use Rattle.craq_runs.specs.Seen.{ask_in, asks_from}
use Rattle.craq_chain.specs.Chained.{Chained, chain_of_run, with_move}
use Rattle.craq_explain.proofs.Accounts.{asks_after, asks_then, account_chain_after, count_after, one_more, taken_before, taken_next}

-- the chain, and the account, after i moves of the run
abbrev pub chain_at : ℕ → Run → ℕ → Chained
chain_at chain run i = record { chain = chain; run = record { members = run.members; moves = take i run.moves } }

abbrev pub account_at : ℕ → Run → ℕ → Account
account_at chain run i = account_of (opening_account chain run.members) (take i run.moves)

more : (ts : List Taken) (i : ℕ) (t : Taken) → i < length ts → t ≡ get_or ts i t → take (i + 1) ts ≡ take i ts ++ t ∷ []
more ts i t h is = take_more ts i t h ∙ ap (λ (x : Taken). take i ts ++ x ∷ []) (sym is)

pub chain_there : (chain : ℕ) (run : Run) (i : ℕ) → (account_at chain run i).chain ≡ chain_of_run (chain_at chain run i)
chain_there chain run i = account_chain_after (opening_account chain run.members) (take i run.moves)

pub takes_there : (chain : ℕ) (run : Run) (i : ℕ) (t : Taken) → i < length run.moves → t ≡ get_or run.moves i t → IsRunOf chain run → Takes (chain_step (chain_of_run (chain_at chain run i)) t.chosen) t.step
takes_there chain run i t h is r = taken_next (opening_chain chain run.members) run.moves i t h is r.moves

pub next_chain : (chain : ℕ) (run : Run) (i : ℕ) (t : Taken) → i < length run.moves → t ≡ get_or run.moves i t → with_move (chain_at chain run i) t ≡ chain_at chain run (i + 1)
next_chain chain run i t h is = ap (λ (ts : List Taken). let w : Chained = record { chain = chain; run = record { members = run.members; moves = ts } } in w) (sym (more run.moves i t h is))

pub next_account : (chain : ℕ) (run : Run) (i : ℕ) (t : Taken) → i < length run.moves → t ≡ get_or run.moves i t → account_at chain run (i + 1) ≡ account_after (account_at chain run i) t
next_account chain run i t h is = ap (account_of (opening_account chain run.members)) (more run.moves i t h is) ∙ one_more (opening_account chain run.members) (take i run.moves) t

asks_at : (chain : ℕ) (run : Run) (i : ℕ) → IsRunOf chain run → (account_at chain run i).asks ≡ asks_from 1 (take i run.moves)
asks_at chain run i r = asks_after (opening_account chain run.members) (take i run.moves) (taken_before (opening_chain chain run.members) run.moves i r.moves)

pub asks_there : (chain : ℕ) (run : Run) (i : ℕ) (t : Taken) → i < length run.moves → t ≡ get_or run.moves i t → IsRunOf chain run → asks_from 1 (take (i + 1) run.moves) ≡ (account_at chain run i).asks ++ ask_in ((account_at chain run i).chain.moves + 1) t.step.ticket t.chosen
asks_there chain run i t h is r =
    sym (asks_at chain run (i + 1) r)
    ∙ ap (λ (w : Account). w.asks) (next_account chain run i t h is)
    ∙ asks_then (account_at chain run i) t

-- the moves so far, with the next, are counted
pub count_there : (chain : ℕ) (run : Run) (i : ℕ) → i < length run.moves → IsRunOf chain run → length (take (i + 1) run.moves) ≡ (account_at chain run i).chain.moves + 1
count_there chain run i h r =
    let counted = count_after (opening_chain chain run.members) (take i run.moves) (taken_before (opening_chain chain run.members) run.moves i r.moves) in
    let there = ap (λ (c : Chain). c.moves) (chain_there chain run i) in
    let some : i ≤ length run.moves = omega (arith, h) in
    let most : i + 1 ≤ length run.moves = omega (arith, h) in
    let before = length-take-le i run.moves some in
    let now = length-take-le (i + 1) run.moves most in
    omega (arith, counted, there, before, now)
