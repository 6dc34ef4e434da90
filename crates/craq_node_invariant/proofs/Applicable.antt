-- Applicable entries, each after those before it.
use Rattle.std.proofs.Common.{◌≡◌, ℕ, zero, suc, ◌+◌, ◌==◌, true, false, not, Bool, ◌&&◌, cond, List, [], ◌∷◌, ◌++◌, map, take, drop, Option, Some, None, is_some, refl, ap, ◌∙◌}
use Rattle.std.specs.List.{list_all}
use Rattle.std.proofs.lemmas.Bool.{and_parts, eq-eqb}
use Rattle.craq_commands.specs.declared.command.Update.{Update}
use Rattle.craq_commands.specs.declared.entry.Entry.{Entry}
use Rattle.craq_commands.specs.declared.entry.Write.{Write}
use Rattle.craq_commands.specs.declared.reply.Reply.{Reply}
use Rattle.craq_commands.specs.declared.reply.Reply.TheVariants.{Stale}
use Rattle.craq_commands.specs.declared.state.State.{State}
use Rattle.craq_commands.specs.Evaluation.{Outcome}
use Rattle.craq_commands.specs.Kept.{Window, is_new, is_stale, largest, said_of}
use Rattle.craq_commands.specs.Objects.{Objects, version_of}
use Rattle.craq_commands.specs.SingleCopy.{after_entries, after_entry, is_new_to, said, window_of}
use Rattle.craq_model.specs.Asks.{entry_of, versioned_write}
use Rattle.craq_model.specs.Deliveries.{are_applicable, is_applicable}
use Rattle.craq_model.specs.Plain.{Plain, newest}
use Rattle.craq_names.specs.Maps.{at_number}

both : (a b : Bool) → a ≡ true → b ≡ true → (a && b) ≡ true
both a b p q = ap (λ (x : Bool). x && b) p ∙ q

pub applicable_append : (s : State) (xs ys : List Entry) → are_applicable s xs ≡ true → are_applicable (after_entries s xs) ys ≡ true → are_applicable s (xs ++ ys) ≡ true
applicable_append s [] ys a b = b
applicable_append s (x ∷ xs) ys a b =
    let parts = and_parts (is_applicable s x) (are_applicable (after_entry s x) xs) a in
    both (is_applicable s x) (are_applicable (after_entry s x) (xs ++ ys)) parts.0 (applicable_append (after_entry s x) xs ys parts.1 b)

-- the later entries are applicable after the earlier ones
pub applicable_rest : (s : State) (xs ys : List Entry) → are_applicable s (xs ++ ys) ≡ true → are_applicable (after_entries s xs) ys ≡ true
applicable_rest s [] ys a = a
applicable_rest s (x ∷ xs) ys a = applicable_rest (after_entry s x) xs ys (and_parts (is_applicable s x) (are_applicable (after_entry s x) (xs ++ ys)) a).1

pub applicable_drop : (s : State) (n : ℕ) (es : List Entry) → are_applicable s es ≡ true → are_applicable (after_entries s (take n es)) (drop n es) ≡ true
applicable_drop s zero es a = a
applicable_drop s (suc n) [] a = refl
applicable_drop s (suc n) (e ∷ es) a = applicable_drop (after_entry s e) n es (and_parts (is_applicable s e) (are_applicable (after_entry s e) es) a).1

-- ---- the entry of a new update

unsaid : (stale : Bool) (kept : Option Reply) (last : Reply) → cond stale (Some last) kept ≡ None → (not (is_some kept) && not stale) ≡ true
unsaid true kept last e = absurd cc
unsaid false None last e = refl
unsaid false (Some r) last e = absurd cc

new_in : (w : Window) (number : ℕ) → said_of w number ≡ None → is_new w number ≡ true
unfolding said_of is_new
new_in w number e = unsaid (is_stale w number) (at_number w number) (Stale (largest w)) e

-- a request number without a reply is new
pub unsaid_is_new : (s : State) (client number : ℕ) → said s client number ≡ None → is_new_to s client number ≡ true
unsaid_is_new s client number e = new_in (window_of s client) number e

all_next : (m : Objects) (ws : List (List ℕ × List ℕ)) → list_all (λ (w : Write). w.version == version_of m w.key + 1) (map (versioned_write m) ws) ≡ true
all_next m [] = refl
all_next m (w ∷ ws) =
    both (version_of m w.0 + 1 == version_of m w.0 + 1) (list_all (λ (w : Write). w.version == version_of m w.key + 1) (map (versioned_write m) ws)) (eq-eqb (version_of m w.0 + 1) (version_of m w.0 + 1) refl) (all_next m ws)

pub entry_is_applicable : (p : Plain) (u : Update) (o : Outcome) → is_new_to (newest p) u.client u.number ≡ true → are_applicable (newest p) (entry_of p u o ∷ []) ≡ true
unfolding is_applicable
entry_is_applicable p u o n =
    let m : Objects = (newest p).objects in
    let next : Bool = list_all (λ (w : Write). w.version == version_of m w.key + 1) (map (versioned_write m) o.0) in
    let new : Bool = is_new_to (newest p) u.client u.number in
    both (next && new) true (both next new (all_next m o.0) n) refl
