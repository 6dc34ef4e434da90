-- The updates that valid entries name.
use Rattle.std.proofs.Common.{◌≡◌, ℕ, zero, suc, ◌==◌, Bool, true, false, ◌&&◌, List, [], ◌∷◌, map, length, take, find, filter_map, option_and_then, option_map, unwrap_or, is_some, IsSome, Option, Some, refl, ap, sym, subst, ◌∙◌}
use Rattle.std.specs.List.{AllByRecursion, IsDistinct}
use Rattle.std.proofs.lemmas.Bool.{eqb-true, and_parts, both_ways, false_from_ne_true}
use Rattle.std.proofs.lemmas.List.{length-map}
use Rattle.craq_names.proofs.Lists.{all_like}
use Rattle.craq_commands.specs.declared.command.Update.{Update}
use Rattle.craq_commands.specs.declared.entry.Entry.{Entry}
use Rattle.craq_commands.specs.declared.state.State.{State}
use Rattle.craq_commands.specs.SingleCopy.{is_new_to, apply, after_from, after_entry, after_entries}
use Rattle.craq_runs.specs.Seen.{Asked, ask_with, update_of, update_at}
use Rattle.craq_runs.specs.Explain.{ask_number}
use Rattle.craq_runs.specs.Valid.{same_request}
use Rattle.craq_laws.proofs.Histories.{applied_is_old, HasRisingWindows, apply_rises, old_after_one}
use Rattle.craq_updates.specs.ValidEntries.{IsValidEntry, AllValid}
use Rattle.craq_updates.proofs.Entries.{StaysAsked}
use Rattle.craq_updates.proofs.Found.{find_all, IsNumbered}

-- the numbers of the requests of entries, and their updates
abbrev pub numbers_of : List Asked → List Entry → List ℕ
numbers_of asked es = map (ask_number asked) es

pub numbers_length : (asked : List Asked) (es : List Entry) → length (numbers_of asked es) ≡ length es
numbers_length asked es = length-map es (ask_number asked)

abbrev pub updates_of : List Asked → List Entry → List Update
updates_of asked es = filter_map (update_at asked) (numbers_of asked es)

pub number_is : (asked : List Asked) (s : State) (e : Entry) → (g : IsValidEntry asked s e) → ask_number asked e ≡ g.by.ask.move
unfolding ask_number
number_is asked s e g = ap (λ (o : Option Asked). unwrap_or (option_map (λ (a : Asked). a.move) o) 0) g.by.is_ask

-- the request is among those that are found by number
numbered_ask : (asked : List Asked) (node ticket : ℕ) (a : Asked) → IsNumbered asked → ask_with asked node ticket ≡ Some a → find (λ (b : Asked). b.move == a.move) asked ≡ Some a
unfolding ask_with
numbered_ask asked node ticket a n h = find_all (λ (a : Asked). find (λ (b : Asked). b.move == a.move) asked ≡ Some a) (λ (a : Asked). (a.node == node) && _) asked a n h

pub update_is : (asked : List Asked) (s : State) (e : Entry) → IsNumbered asked → (g : IsValidEntry asked s e) → update_at asked (ask_number asked e) ≡ Some g.update
unfolding update_at
update_is asked s e n g =
    ap (λ (k : ℕ). option_and_then (λ (a : Asked). update_of a.ask) (find (λ (b : Asked). b.move == k) asked)) (number_is asked s e g)
    ∙ (ap (λ (o : Option Asked). option_and_then (λ (a : Asked). update_of a.ask) o) (numbered_ask asked e.origin_node e.origin_ticket g.by.ask n g.by.is_ask)
    ∙ ap update_of g.by.is)

pub updates_cons : (asked : List Asked) (s : State) (e : Entry) (es : List Entry) → IsNumbered asked → (g : IsValidEntry asked s e) → updates_of asked (e ∷ es) ≡ g.update ∷ updates_of asked es
updates_cons asked s e es n g = rw (update_is asked s e n g) refl

-- the state after the entries is that after the updates
pub after_updates : (asked : List Asked) (s : State) (es : List Entry) → IsNumbered asked → AllValid asked s es → after_from s (updates_of asked es) ≡ after_entries s es
after_updates asked s [] n g = refl
after_updates asked s (e ∷ es) n g =
    ap (after_from s) (updates_cons asked s e es n g.0)
    ∙ (ap (λ (t : State). after_from t (updates_of asked es)) (sym g.0.applied) ∙ after_updates asked (after_entry s e) es n g.1)

pub updates_length : (asked : List Asked) (s : State) (es : List Entry) → IsNumbered asked → AllValid asked s es → length (updates_of asked es) ≡ length es
updates_length asked s [] n g = refl
updates_length asked s (e ∷ es) n g = ap length (updates_cons asked s e es n g.0) ∙ ap suc (updates_length asked (after_entry s e) es n g.1)

pub updates_take : (asked : List Asked) (s : State) (k : ℕ) (es : List Entry) → IsNumbered asked → AllValid asked s es → take k (updates_of asked es) ≡ updates_of asked (take k es)
updates_take asked s zero es n g = refl
updates_take asked s (suc k) [] n g = refl
updates_take asked s (suc k) (e ∷ es) n g =
    ap (take (suc k)) (updates_cons asked s e es n g.0)
    ∙ (ap (λ l. g.0.update ∷ l) (updates_take asked (after_entry s e) k es n g.1) ∙ sym (updates_cons asked s e (take k es) n g.0))

-- each number names an update
pub numbers_name : (asked : List Asked) (s : State) (es : List Entry) → IsNumbered asked → AllValid asked s es → AllByRecursion (λ number. IsSome (update_at asked number)) (numbers_of asked es)
numbers_name asked s [] n g = tt
numbers_name asked s (e ∷ es) n g = (ap is_some (update_is asked s e n g.0), numbers_name asked (after_entry s e) es n g.1)

-- more requests keep the numbers
pub numbers_stay : (asked more : List Asked) → StaysAsked asked more → (s : State) (es : List Entry) → AllValid asked s es → numbers_of more es ≡ numbers_of asked es
unfolding ask_number
numbers_stay asked more f s [] g = refl
numbers_stay asked more f s (e ∷ es) g =
    let one : ask_with more e.origin_node e.origin_ticket ≡ ask_with asked e.origin_node e.origin_ticket = f e.origin_node e.origin_ticket g.0.by.ask g.0.by.is_ask ∙ sym g.0.by.is_ask in
    let head : ask_number more e ≡ ask_number asked e = ap (λ (o : Option Asked). unwrap_or (option_map (λ (a : Asked). a.move) o) 0) one in
    let tail : numbers_of more es ≡ numbers_of asked es = numbers_stay asked more f (after_entry s e) es g.1 in
    λ i. head i ∷ tail i

-- ---- no request twice

-- a number that is new after an update was new before it
pub new_before : (s : State) (v : Update) (client number : ℕ) → HasRisingWindows s → is_new_to (apply s v) client number ≡ true → is_new_to s client number ≡ true
new_before s v client number rises h =
    let by : (b : Bool) → is_new_to s client number ≡ b → is_new_to s client number ≡ true = elim [
      | true ↦ λ e. e
      | false ↦ λ e. absurd (both_ways (is_new_to (apply s v) client number) (old_after_one s v client number rises e) h)
    ] in
    by (is_new_to s client number) refl

pub valid_rises : (asked : List Asked) (s : State) (e : Entry) → HasRisingWindows s → IsValidEntry asked s e → HasRisingWindows (after_entry s e)
valid_rises asked s e rises g = subst HasRisingWindows (sym g.applied) (apply_rises s g.update rises)

pub all_new : (asked : List Asked) (s : State) (es : List Entry) → HasRisingWindows s → IsNumbered asked → AllValid asked s es → AllByRecursion (λ (v : Update). is_new_to s v.client v.number ≡ true) (updates_of asked es)
all_new asked s [] rises n g = tt
all_new asked s (e ∷ es) rises n g =
    let u : Update = g.0.update in
    let P : Update → Type 0 = λ v. is_new_to s v.client v.number ≡ true in
    let Q : State → Type 0 = λ t. AllByRecursion (λ (v : Update). is_new_to t v.client v.number ≡ true) (updates_of asked es) in
    let rest : Q (apply s u) = subst Q g.0.applied (all_new asked (after_entry s e) es (valid_rises asked s e rises g.0) n g.1) in
    let all : AllByRecursion P (u ∷ updates_of asked es) = (g.0.new, all_like (λ (v : Update). is_new_to (apply s u) v.client v.number ≡ true) P (updates_of asked es) (λ v h. new_before s u v.client v.number rises h) rest) in
    let R : List Update → Type 0 = λ l. AllByRecursion P l in
    subst R (sym (updates_cons asked s e es n g.0)) all

pub other_request : (s : State) (u v : Update) → is_new_to (apply s u) v.client v.number ≡ true → same_request u v ≡ false
other_request s u v h =
    false_from_ne_true (same_request u v)
    (λ e.
    let p : ((u.client == v.client) ≡ true) × ((u.number == v.number) ≡ true) = and_parts (u.client == v.client) (u.number == v.number) e in
    let P : ℕ → ℕ → Type 0 = λ c k. is_new_to (apply s u) c k ≡ true in
    let Q : ℕ → Type 0 = λ c. P c v.number in
    let there : P u.client u.number = let R : ℕ → Type 0 = λ k. P u.client k in subst R (sym (eqb-true u.number v.number p.1)) (subst Q (sym (eqb-true u.client v.client p.0)) h) in
    both_ways (is_new_to (apply s u) u.client u.number) (applied_is_old s u) there)

pub no_request_twice : (asked : List Asked) (s : State) (es : List Entry) → HasRisingWindows s → IsNumbered asked → AllValid asked s es → IsDistinct same_request (updates_of asked es)
unfolding IsDistinct
no_request_twice asked s [] rises n g = tt
no_request_twice asked s (e ∷ es) rises n g =
    let u : Update = g.0.update in
    let Q : State → Type 0 = λ t. AllByRecursion (λ (v : Update). is_new_to t v.client v.number ≡ true) (updates_of asked es) in
    let rest : Q (apply s u) = subst Q g.0.applied (all_new asked (after_entry s e) es (valid_rises asked s e rises g.0) n g.1) in
    let first : AllByRecursion (λ (v : Update). same_request u v ≡ false) (updates_of asked es) = all_like (λ (v : Update). is_new_to (apply s u) v.client v.number ≡ true) (λ (v : Update). same_request u v ≡ false) (updates_of asked es) (λ v h. other_request s u v h) rest in
    let R : List Update → Type 0 = λ l. IsDistinct same_request l in
    subst R (sym (updates_cons asked s e es n g.0)) (first, no_request_twice asked (after_entry s e) es (valid_rises asked s e rises g.0) n g.1)
