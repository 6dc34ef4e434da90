-- A run without a request commits nothing and answers nothing, so its explanation is the same in
-- each chain.
use Rattle.std.proofs.Common.{◌≡◌, ℕ, suc, ◌+◌, cond, Bool, true, false, List, [], ◌∷◌, ◌++◌, map, length, replicate, Option, Some, None, refl, ap, sym, subst, ◌∙◌, append_assoc, append-nil}
use Rattle.craq_commands.specs.declared.entry.Entry.{Entry}
use Rattle.craq_commands.specs.SingleCopy.{opening_state}
use Rattle.craq_model.specs.Plain.{Plain, is_tail, entries_after}
use Rattle.craq_runs.specs.declared.explanation.Place.{Place}
use Rattle.craq_runs.specs.declared.run.Move.{Move}
use Rattle.craq_runs.specs.declared.run.Move.TheVariants as moves
use Rattle.craq_runs.specs.declared.run.Run.{Run}
use Rattle.craq_runs.specs.declared.run.Taken.{Taken}
use Rattle.craq_runs.specs.Explain.{Account, opening_account, account_with, account_after, account_of, committed_by, ask_number, places_of, explain}
use Rattle.craq_runs.specs.Seen.{Asked, Answered, ask_in, asks_from, ask_with}
use Rattle.craq_runs.specs.Typed.{IsTypedRunOf}
use Rattle.craq_updates.specs.ValidEntries.{AllValid}
use Rattle.craq_updates.proofs.Explained.{valid_run}
use Rattle.craq_world.specs.Named.{named_first, named_in, unasked}

no_ask : (m : Move) (later : Option ℕ) → named_first m later ≡ None → ((number : ℕ) (ticket : Option ℕ) → ask_in number ticket m ≡ []) × (later ≡ None)
no_ask (moves.Ask node ask) later is = absurd (cc)
no_ask (moves.Deliver number) later is = (λ number ticket. refl, is)
no_ask (moves.Tick node) later is = (λ number ticket. refl, is)
no_ask (moves.Stop node) later is = (λ number ticket. refl, is)
no_ask (moves.Remove node) later is = (λ number ticket. refl, is)
no_ask (moves.Join node) later is = (λ number ticket. refl, is)

no_asks : (ts : List Taken) (number : ℕ) → named_in ts ≡ None → asks_from number ts ≡ []
unfolding asks_from
no_asks [] number is = refl
no_asks (t ∷ ts) number is =
    let n : _ = no_ask t.chosen (named_in ts) is in
    ap (λ l. l ++ asks_from (number + 1) ts) (n.0 number t.step.ticket) ∙ no_asks ts (number + 1) n.1

-- entries without a request do not exist
none_valid : (es : List Entry) → AllValid [] opening_state es → es ≡ []
unfolding ask_with
none_valid [] g = refl
none_valid (e ∷ es) g = let is : _ = g.0.by.is_ask in absurd (cc)

nothing_committed : (chain : ℕ) (run : Run) → IsTypedRunOf chain run → named_in run.moves ≡ None → (account_of (opening_account chain run.members) run.moves).committed ≡ []
nothing_committed chain run i is =
    let es : List Entry = (account_of (opening_account chain run.members) run.moves).committed in
    let P : List Asked → Type 0 = λ asked. AllValid asked opening_state es in
    none_valid es (subst P (no_asks run.moves 1 is) (valid_run chain run i))

front_nil : {A : Type 0} (xs ys : List A) → xs ++ ys ≡ [] → xs ≡ []
front_nil [] ys e = refl
front_nil (x ∷ xs) ys e = absurd (cc)

before_nil : (es : List Entry) (o : Option Plain) → committed_by es o ≡ [] → es ≡ []
before_nil es None e = e
before_nil es (Some p) e = by_tail (is_tail p) e
  where
    by_tail : (b : Bool) → cond b (es ++ entries_after p (length es)) es ≡ [] → es ≡ []
    by_tail true e = front_nil es (entries_after p (length es)) e
    by_tail false e = e

no_places : (pending : List Place) (es : List Entry) (p : Option Plain) (word : Option (ℕ × ℕ)) (answers : List Answered) → places_of [] pending es p word answers ≡ []
unfolding places_of ask_with
no_places pending es p word [] = refl
no_places pending es p word (a ∷ later) = no_places pending es p word later

same_places : (places : List Place) (asked : List Asked) (pending : List Place) (es : List Entry) (p : Option Plain) (word : Option (ℕ × ℕ)) (answers : List Answered) → asked ≡ [] → places ++ places_of asked pending es p word answers ≡ places
same_places places asked pending es p word answers none =
    ap (λ (l : List Asked). places ++ places_of l pending es p word answers) none ∙ (ap (λ l. places ++ l) (no_places pending es p word answers) ∙ append-nil places)

-- the account of moves without a request, if nothing is committed after them
record IsQuiet (a b : Account) (count : ℕ) : Type 0 where
  pub before : a.committed ≡ []
  pub lens : b.lens ≡ a.lens ++ replicate count 0
  pub places : b.places ≡ a.places

quiet_more : (a : Account) (t : Taken) (b : Account) (count : ℕ) → (account_after a t).asks ≡ [] → IsQuiet (account_after a t) b count → IsQuiet a b (suc count)
unfolding account_with
quiet_more a t b count asks q =
    let next : Account = account_after a t in
    let before : a.committed ≡ [] = before_nil a.committed _ q.before in
    let lens : next.lens ≡ a.lens ++ 0 ∷ [] = ap (λ (l : List Entry). a.lens ++ length l ∷ []) q.before in
    let places : next.places ≡ a.places = same_places a.places next.asks _ _ _ _ _ asks in
    record {
      before = before;
      lens = q.lens ∙ (ap (λ l. l ++ replicate count 0) lens ∙ append_assoc a.lens (0 ∷ []) (replicate count 0));
      places = q.places ∙ places;
    }

quiet : (ts : List Taken) (a : Account) → a.asks ≡ [] → named_in ts ≡ None → (account_of a ts).committed ≡ [] → IsQuiet a (account_of a ts) (length ts)
unfolding account_with
quiet [] a asks is none = record { before = none; lens = sym (append-nil a.lens); places = refl }
quiet (t ∷ ts) a asks is none =
    let n : _ = no_ask t.chosen (named_in ts) is in
    let later : (account_after a t).asks ≡ [] = ap (λ l. l ++ ask_in (a.chain.moves + 1) t.step.ticket t.chosen) asks ∙ n.0 (a.chain.moves + 1) t.step.ticket in
    quiet_more a t (account_of (account_after a t) ts) (length ts) later (quiet ts (account_after a t) later n.1 none)

pub unasked_is : (chain : ℕ) (run : Run) → IsTypedRunOf chain run → named_in run.moves ≡ None → explain chain run ≡ unasked (length run.moves)
unasked_is chain run i is =
    let a : Account = account_of (opening_account chain run.members) run.moves in
    let none : a.committed ≡ [] = nothing_committed chain run i is in
    let q : IsQuiet (opening_account chain run.members) a (length run.moves) = quiet run.moves (opening_account chain run.members) refl is none in
    let asks : map (ask_number a.asks) a.committed ≡ [] = ap (map (ask_number a.asks)) none in
    let lens : a.lens ≡ replicate (length run.moves) 0 = q.lens in
    let places : a.places ≡ [] = q.places in
    λ j. record { asks = asks j; lens = lens j; places = places j }
