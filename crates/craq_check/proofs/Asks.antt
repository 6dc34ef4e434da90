-- The first request of a node and ticket, request by request.
use Rattle.std.proofs.Common.{◌≡◌, ℕ, ◌+◌, ◌<◌, add-one, Bool, true, false, cond, length, get_or, take, List, [], ◌∷◌, ◌++◌, Option, Some, None, refl, sym, ap, ◌∙◌}
use Rattle.std.specs.Prelude.{◌==◌, ◌&&◌, is_some}
use Rattle.std.specs.Option.{option_map, option_or}
use Rattle.std.specs.Borrow.{Bor}
use Rattle.std.specs.Map.{lookup}
use Rattle.std.specs.HashMap.{HashMap, get}
use Rattle.std.proofs.lemmas.List.Folds.{find-append}
use Rattle.std.proofs.Math.Seq.{take-suc}
use Rattle.craq_runs.specs.Seen.{Asked, is_ticket, ask_with}
use Rattle.craq_check.specs.Tests.{same_pair, found_in}
use Rattle.craq_check.proofs.Bools.{and_both}
use Rattle.craq_check.proofs.Lists.{same_number}

-- one more request
pub one_more : (xs : List Asked) (i : ℕ) (x : Asked) (node ticket : ℕ) → i < length xs → x ≡ get_or xs i x → option_or (ask_with (take i xs) node ticket) (ask_with (x ∷ []) node ticket) ≡ ask_with (take (i + 1) xs) node ticket
unfolding ask_with
one_more xs i x node ticket low is =
    sym (find-append (λ (a : Asked). (a.node == node) && is_ticket a.ticket ticket) (take i xs) (x ∷ []))
    ∙ ap (λ (ys : List Asked). ask_with (take i xs ++ ys) node ticket) (ap (λ (y : Asked). y ∷ []) is)
    ∙ ap (λ (ys : List Asked). ask_with ys node ticket) (sym (take-suc xs i x low))
    ∙ ap (λ n. ask_with (take n xs) node ticket) (sym (add-one i))

none_there : {A : Type 0} (o : Option A) → false ≡ is_some o → o ≡ None
none_there None h = refl
none_there (Some x) h = cc

or_none : {A : Type 0} (o : Option A) → o ≡ option_or o None
or_none None = refl
or_none (Some x) = refl

-- the request of this node and this ticket is the one looked for, or not
its_own : (x : Asked) (n t node ticket : ℕ) (b : Bool) → n ≡ x.node → x.ticket ≡ Some t → same_pair (n, t) (node, ticket) ≡ b → ask_with (x ∷ []) node ticket ≡ cond b (Some x) None
unfolding ask_with
its_own x n t node ticket b by got at =
    ap (λ m. cond ((m == node) && is_ticket x.ticket ticket) (Some x) None) (sym by)
    ∙ ap (λ (o : Option ℕ). cond ((n == node) && is_ticket o ticket) (Some x) None) got
    ∙ ap (λ b. cond b (Some x) None) at

shown_as : {S : Type 0} (old : HashMap (ℕ × ℕ) (Bor Asked) S) (x : Bor Asked) (n t node ticket : ℕ) (b : Bool) → n ≡ x.now.node → x.now.ticket ≡ Some t → get same_pair old (n, t) ≡ None → same_pair (n, t) (node, ticket) ≡ b → option_map (λ (a : Bor Asked). a.now) (cond b (Some x) (get same_pair old (node, ticket))) ≡ option_or (found_in old node ticket) (ask_with (x.now ∷ []) node ticket)
shown_as old x n t node ticket true by got none at =
    let both : ((n == node) ≡ true) × ((t == ticket) ≡ true) = and_both (n == node) (t == ticket) at in
    let node_is : n ≡ node = same_number n node both.0 in
    let ticket_is : t ≡ ticket = same_number t ticket both.1 in
    let missing : found_in old node ticket ≡ None = (λ i. found_in old (sym node_is i) (sym ticket_is i)) ∙ ap (option_map (λ (a : Bor Asked). a.now)) none in
    sym (ap (λ (o : Option Asked). option_or o (ask_with (x.now ∷ []) node ticket)) missing ∙ its_own x.now n t node ticket true by got at)
shown_as old x n t node ticket false by got none at =
    or_none (found_in old node ticket) ∙ ap (option_or (found_in old node ticket)) (sym (its_own x.now n t node ticket false by got at))

-- a request whose name had none is put at its name
pub kept_first : {S : Type 0} (old new : HashMap (ℕ × ℕ) (Bor Asked) S) (x : Bor Asked) (n t : ℕ) → n ≡ x.now.node → x.now.ticket ≡ Some t → false ≡ is_some (get same_pair old (n, t)) → ((q : ℕ × ℕ) → get same_pair new q ≡ cond (same_pair (n, t) q) (Some x) (get same_pair old q)) → (node ticket : ℕ) → found_in new node ticket ≡ option_or (found_in old node ticket) (ask_with (x.now ∷ []) node ticket)
kept_first old new x n t by got none put node ticket =
    ap (option_map (λ (a : Bor Asked). a.now)) (put (node, ticket))
    ∙ shown_as old x n t node ticket (same_pair (n, t) (node, ticket)) by got (none_there (get same_pair old (n, t)) none) refl

-- an index with no entry has no request
pub none_in : {S : Type 0} (index : HashMap (ℕ × ℕ) (Bor Asked) S) (node ticket : ℕ) → index.entries ≡ [] → found_in index node ticket ≡ ask_with [] node ticket
unfolding ask_with
none_in index node ticket h = ap (λ (es : List ((ℕ × ℕ) × Bor Asked)). option_map (λ (a : Bor Asked). a.now) (lookup (same_pair (node, ticket)) es)) h
