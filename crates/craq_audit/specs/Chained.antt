-- The cells of a chain.
use Rattle.std.specs.Prelude.{◌≡◌, ◌⊎◌, ℕ, List, length}
use Rattle.std.specs.List.{AllByRecursion}
use Rattle.std.specs.Borrow.{Bor}
use Rattle.craq_model.specs.declared.ask.Event.{Event}
use Rattle.craq_epochs.specs.Mastered.{Mastered}
use Rattle.craq_seat.specs.declared.journal.BookEvent.{BookEvent}
use Rattle.craq_seat.specs.Audits.{IsOpenedFirst, IsOpenedLater}
use Rattle.craq_seat.specs.Cells.{Celled}
use Rattle.craq_audit.specs.Journals.{records_in}
use Rattle.craq_audit.specs.Lookups.{Found, IsCellOf}

-- one of the cells is that of the node
abbrev pub HasCell : {C : Type 0} → List (Bor (Celled C Event)) → ℕ → Type 0
HasCell cells id = Found (IsCellOf id) cells

-- as many cells as ids, and one for each id
abbrev pub HaveIds : {C : Type 0} → List ℕ → List (Bor (Celled C Event)) → Type 0
HaveIds used cells = (length cells ≡ length used) × AllByRecursion (HasCell cells) used

-- a cell of the chain, opened as its node became a member
abbrev pub IsOfChain : {C : Type 0} → Celled Mastered BookEvent → Bor (Celled C Event) → Type 0
IsOfChain book c =
    (c.now.opening.name.chain ≡ book.opening.name.chain)
    × (IsOpenedFirst book c.now.opening ⊎ IsOpenedLater (records_in book.journal) c.now.opening)
