-- Items that wait under tickets.
use Rattle.std.specs.Prelude.{◌≡◌, ◌<◌, ◌==◌, ⊤, ℕ, List, [], ◌∷◌, take, length, find, slice_index_or, Option, Some, None}
use Rattle.std.specs.List.{AllByRecursion}

-- the items that wait, in the order of arrival
pub record Queued (T : Type 0) : Type 0 where
  pub items : List T

-- each ticket is below all later ones
abbrev pub Rises : {T : Type 0} → (T → ℕ) → List T → Type 0
Rises ticket_of [] = ⊤
Rises {T} ticket_of (x ∷ xs) = AllByRecursion (λ (y : T). ticket_of x < ticket_of y) xs × Rises ticket_of xs

-- the index of the first item under a ticket, if there is one
abbrev pub IsPlace : {T : Type 0} → (T → ℕ) → ℕ → List T → Option ℕ → Type 0
IsPlace {T} ticket_of ticket items None = find (λ (x : T). ticket_of x == ticket) items ≡ None
IsPlace {T} ticket_of ticket items (Some i) =
    (i < length items) × (find (λ (x : T). ticket_of x == ticket) (take i items) ≡ None) × ((d : T) → ticket_of (slice_index_or items i d) ≡ ticket)
