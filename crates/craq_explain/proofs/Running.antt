-- The account of a run does not depend on which nodes run.
use Rattle.std.proofs.Common.{◌≡◌, ◌+◌, ℕ, List, [], ◌∷◌, ◌++◌, length, Option, Some, None, refl, ap, ◌∙◌}
use Rattle.craq_commands.specs.declared.entry.Entry.{Entry}
use Rattle.craq_commands.specs.declared.read_mode.ReadMode.TheVariants.{Strong, Eventual, Bounded}
use Rattle.craq_model.specs.declared.ask.Ask.{Ask}
use Rattle.craq_model.specs.declared.ask.Ask.TheVariants as asks
use Rattle.craq_model.specs.Plain.{Plain, clean, entries_after}
use Rattle.craq_runs.specs.declared.explanation.Place.{Place}
use Rattle.craq_runs.specs.declared.run.Move.{Move}
use Rattle.craq_runs.specs.declared.run.Move.TheVariants as moves
use Rattle.craq_runs.specs.declared.run.Taken.{Taken}
use Rattle.craq_runs.specs.Chain.{Chain}
use Rattle.craq_runs.specs.Explain.{Account, account_with, clean_at, committed_by, pending_in, place_at, place_if_asked, places_of, read_place, tail_word}
use Rattle.craq_runs.specs.Seen.{Answered, Asked, answers_in, ask_in, ask_with}
use Rattle.craq_explain.specs.Shown.{as_running}

pub same_committed : (entries : List Entry) (p : Option Plain) → committed_by entries (as_running p) ≡ committed_by entries p
unfolding entries_after
same_committed entries None = refl
same_committed entries (Some p) = refl

pub same_pending : (before : ℕ) (ticket : Option ℕ) (p : Option Plain) (m : Move) → pending_in before ticket (as_running p) m ≡ pending_in before ticket p m
same_pending before None p (moves.Ask node (asks.Update u)) = refl
same_pending before None p (moves.Ask node (asks.Read mode object)) = refl
same_pending before (Some t) None (moves.Ask node (asks.Update u)) = refl
same_pending before (Some t) None (moves.Ask node (asks.Read mode object)) = refl
same_pending before (Some t) (Some p) (moves.Ask node (asks.Update u)) = refl
same_pending before (Some t) (Some p) (moves.Ask node (asks.Read mode object)) = refl
same_pending before ticket p (moves.Deliver number) = refl
same_pending before ticket p (moves.Tick node) = refl
same_pending before ticket p (moves.Stop node) = refl
same_pending before ticket p (moves.Remove node) = refl
same_pending before ticket p (moves.Join node) = refl

same_clean : (p : Option Plain) (key : List ℕ) → clean_at (as_running p) key ≡ clean_at p key
unfolding clean
same_clean None key = refl
same_clean (Some p) key = refl

same_read : (committed : List Entry) (p : Option Plain) (word : Option (ℕ × ℕ)) (key : List ℕ) → read_place committed (as_running p) word key ≡ read_place committed p word key
same_read committed p None key = refl
same_read committed p (Some word) key = rw (same_clean p key) refl

module _ (committed : List Entry) (p q : Option Plain) (word : Option (ℕ × ℕ)) (same : (key : List ℕ) → read_place committed p word key ≡ read_place committed q word key) where
  same_place : (pending : List Place) (a : Answered) (ask : Option Asked) → place_if_asked pending committed p word a ask ≡ place_if_asked pending committed q word a ask
  same_place pending a None = refl
  same_place pending a (Some ask) =
      elim ask.ask as (λ (x : Ask). place_if_asked pending committed p word a (Some (record ask { ask = x })) ≡ place_if_asked pending committed q word a (Some (record ask { ask = x }))) [
        | asks.Update u ↦ refl
        | asks.Read mode object ↦
            elim mode as (λ x. place_if_asked pending committed p word a (Some (record ask { ask = asks.Read x object })) ≡ place_if_asked pending committed q word a (Some (record ask { ask = asks.Read x object }))) [
              | Strong ↦ ap (place_at a) (same object.key)
              | Eventual ↦ refl
              | Bounded k ↦ refl
            ]
      ]

  same_places : (xs : List Asked) (pending : List Place) (answers : List Answered) → places_of xs pending committed p word answers ≡ places_of xs pending committed q word answers
  unfolding places_of
  same_places xs pending [] = refl
  same_places xs pending (a ∷ later) = rw (same_place pending a (ask_with xs a.node a.ticket), same_places xs pending later) refl

-- so the account is the same, if reads have the same places
pub same_account : (w : Account) (t : Taken) (node : ℕ) (next : Chain) (old new : Option Plain) → ((entries : List Entry) (key : List ℕ) → read_place entries new (tail_word w t.chosen) key ≡ read_place entries old (tail_word w t.chosen) key) → account_with w t node next (as_running new) (as_running new) ≡ account_with w t node next old new
unfolding account_with
same_account w t node next old new same =
    let number = w.chain.moves + 1 in
    let xs = w.asks ++ ask_in number t.step.ticket t.chosen in
    let entries = committed_by w.committed new in
    let pending = w.pending ++ pending_in (length w.committed) t.step.ticket new t.chosen in
    let word = tail_word w t.chosen in
    let answers = answers_in number node t.step.outs in
    let read : (key : List ℕ) → read_place entries (as_running new) word key ≡ read_place entries old word key = λ key. same_read entries new word key ∙ same entries key in
    let at : places_of xs pending entries (as_running new) word answers ≡ places_of xs pending entries old word answers = same_places entries (as_running new) old word read xs pending answers in
    simp (same_committed, same_pending, at)
