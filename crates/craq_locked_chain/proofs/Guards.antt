-- The cells behind held locks, one after another, and their history.
use Rattle.std.proofs.Common.{◌≡◌, ◌<◌, ◌∙◌, ℕ, zero, suc, ◌+◌, List, [], ◌∷◌, ◌++◌, map, take, set, length, get_or, refl, sym, ap, subst, arith}
use Rattle.std.specs.List.{AllByRecursion}
use Rattle.std.proofs.lemmas.List.{length-map, map-append, take_more_set}
use mathlib.Core.List.{IsPrefix}
use Rattle.craq_model.specs.declared.ask.Event.{Event}
use Rattle.craq_epochs.specs.Mastered.{Mastered}
use Rattle.craq_seat.specs.declared.journal.BookEvent.{BookEvent}
use Rattle.craq_seat.specs.Cells.{Celled}
use Rattle.craq_ghost_history.proofs.Prefixes.{prefix_trans}
use Rattle.craq_store_history.specs.declared.entry.HistoryEntry.{HistoryEntry}
use Rattle.craq_store_parts.specs.Recorded.{HadLinesIn}
use Rattle.craq_locked_chain.specs.Held.{HaveHistory}

all_append : {X : Type 0} (P : X → Type 0) (xs ys : List X) → AllByRecursion P xs → AllByRecursion P ys → AllByRecursion P (xs ++ ys)
all_append P [] ys a b = b
all_append P (x ∷ xs) ys a b = (a.0, all_append P xs ys a.1 b)

-- if P implies Q, then all that have P have Q
pub all_so : {X : Type 0} (P Q : X → Type 0) (xs : List X) → ((x : X) → P x → Q x) → AllByRecursion P xs → AllByRecursion Q xs
all_so P Q [] so a = tt
all_so P Q (x ∷ xs) so a = (so x a.0, all_so P Q xs so a.1)

-- one more has the property, after it was written
pub all_more : {X Y : Type 0} (P : Y → Type 0) (f : X → Y) (xs : List X) (i : ℕ) (x : X) → i < length xs → AllByRecursion P (map f (take i xs)) → P (f x) → AllByRecursion P (map f (take (i + 1) (set xs i x)))
all_more P f xs i x within before here =
    let is : map f (take (i + 1) (set xs i x)) ≡ map f (take i xs) ++ f x ∷ [] = ap (map f) (take_more_set xs i x within) ∙ map-append f (take i xs) (x ∷ []) in
    subst (AllByRecursion P) (sym is) (all_append P (map f (take i xs)) (f x ∷ []) before (here, tt))

all_get : {X : Type 0} (P : X → Type 0) (xs : List X) (i : ℕ) (d : X) → i < length xs → AllByRecursion P xs → P (get_or xs i d)
all_get P [] i d within a = absurd (omega (arith, within))
all_get P (x ∷ xs) zero d within a = a.0
all_get P (x ∷ xs) (suc i) d within a = all_get P xs i d (omega (arith, within)) a.1

map_get : {X Y : Type 0} (f : X → Y) (xs : List X) (i : ℕ) (d : X) → get_or (map f xs) i (f d) ≡ f (get_or xs i d)
map_get f [] i d = refl
map_get f (x ∷ xs) zero d = refl
map_get f (x ∷ xs) (suc i) d = map_get f xs i d

-- of items that f cannot tell from these, each has the property that all of these have
pub all_at : {X Y : Type 0} (P : Y → Type 0) (f : X → Y) (old new : List X) (i : ℕ) (d : X) → i < length new → map f new ≡ map f old → AllByRecursion P (map f old) → P (f (get_or new i d))
all_at P f old new i d within same a =
    let size = length-map new f in
    subst P (map_get f new i d) (all_get P (map f new) i (f d) (omega (arith, size, within)) (subst (AllByRecursion P) (sym same) a))

-- lines that a token had seen it still has once it has seen more
pub had_later : {C : Type 0} (log later : List HistoryEntry) (cell : Celled C Event) → IsPrefix log later → HadLinesIn log cell → HadLinesIn later cell
had_later log later cell p (before, q, h) = (before, prefix_trans before log later q p, h)

-- the history of these cells is that of cells that are equal to them
pub same_history : {C : Type 0} (book now : Celled Mastered BookEvent) (cells later : List (Celled C Event)) → now ≡ book → later ≡ cells
    → HaveHistory (record { book = book; cells = cells }) → HaveHistory (record { book = now; cells = later })
same_history {C} book now cells later first rest h =
    subst (λ (b : Celled Mastered BookEvent). HaveHistory {C = C} (record { book = b; cells = later })) (sym first)
    (subst (λ (cs : List (Celled C Event)). HaveHistory {C = C} (record { book = book; cells = cs })) (sym rest) h)
