-- Entries that may be added to a history, and the history after an addition.
use Rattle.std.specs.Prelude.{◌≡◌, ◌⊎◌, ℕ, List, [], ◌∷◌, ◌++◌, Option, IfSome}
use mathlib.Core.List.{IsPrefix}
use Rattle.atomic_table.specs.Seated.{TableId}
use Rattle.craq_ghost_history.specs.declared.author.Author.{Author}
use Rattle.craq_ghost_history.specs.declared.author.Permit.{Permit}
use Rattle.craq_ghost_history.specs.Authors.{of, uses}

-- the identity of a history
abbrev pub HistoryId : Type 0
HistoryId = TableId

-- no entry of the history has used up the permit of this one
abbrev pub IsUnused : {E : Type 0} → (E → Option Permit) → List E → E → Type 0
IsUnused permit log e = IfSome (permit e) (λ p. uses permit p log ≡ [])

-- the entry keeps the rule, whatever others have added: after each history that extends the prefixes that the author has seen and
-- learned, has no more of the author's entries, and has not used up the entry's permit
abbrev pub MayAdd : {E : Type 0} → (E → Author) → (E → Option Permit) → (List E → Type 0) → List E → List E → E → Type 0
MayAdd {E} author permit holds seen reported e =
    (log : List E) → holds log → IsPrefix seen log → IsPrefix reported log → of author (author e) seen ≡ of author (author e) log → IsUnused permit log e → holds (log ++ e ∷ [])

-- the entry was added to the whole history, which extended the prefixes seen and learned, and had no more of the author's entries
pub record IsAdded {E : Type 0} (author : E → Author) (seen reported : List E) (e : E) (new : List E) : Type 0 where
  pub before : List E
  pub kept : IsPrefix seen before
  pub heard : IsPrefix reported before
  pub own : of author (author e) before ≡ of author (author e) seen
  pub now : new ≡ before ++ e ∷ []

-- the view that contracts have of a writer: whose entries it adds, the number of the next permit that it gives, if it is a client's,
-- and the history that it has seen
pub record Written (E : Type 0) : Type 0 where
  pub author : Author
  pub next : ℕ
  pub seen : List E

-- the view that contracts have of a grant: the history that it has seen, and its permit
pub record Granted (E : Type 0) : Type 0 where
  pub seen : List E
  pub permit : Option Permit

-- one of two histories begins with the other
abbrev pub AreComparable : {E : Type 0} → List E → List E → Type 0
AreComparable xs ys = IsPrefix xs ys ⊎ IsPrefix ys xs
