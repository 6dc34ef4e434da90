-- Knowledge of the history's seats, and the rule that all of them keep.
use Rattle.std.specs.Prelude.{◌≡◌, ℕ, ⊤, Bool, true, false, List, [], Option, Some, None}
use mathlib.Core.Option.{some}
use mathlib.Core.List.{IsPrefix}
use lib.ListN.{get_elem?}
use Rattle.atomic_table.specs.Table.{Me}
use Rattle.atomic_table.specs.declared.shared.Seat.{Seat}
use Rattle.craq_ghost_history.specs.declared.author.Author.{Author}
use Rattle.craq_ghost_history.specs.declared.author.Author.TheVariants.{Client}
use Rattle.craq_ghost_history.specs.declared.author.Permit.{Permit}
use Rattle.craq_ghost_history.specs.declared.author.Right.{Right}
use Rattle.craq_ghost_history.specs.declared.author.Right.TheVariants.{Nothing, One, Caller, Using, Others}
use Rattle.craq_ghost_history.specs.declared.history.View.{View}
use Rattle.craq_ghost_history.specs.Authors.{of, uses, Owns, Has, without, right_of, first_permit, after_permit, using}
use Rattle.craq_ghost_history.specs.Histories.{HistoryId, IsAdded}

abbrev pub no_history : HistoryId
no_history = record { words = 0; slots = 0; views_name = 0; atom = 0; block = 0; offset = 0; slot_names = [] }

abbrev pub no_author : Author
no_author = Client 0

-- the seat that has the right to an author's entries knows all of them, and no other seat has the right; a permit that a seat has is
-- unused, and no other seat has it. A permit's place is a seat, and whether the seat got the permit with what it learned
pub record Fits {E : Type 0} (author : E → Author) (permit : E → Option Permit) (log : List E) (seat : Author → ℕ) (place : Permit → ℕ × Bool) (i : ℕ) (v : View E) : Type 0 where
  pub seen : IsPrefix v.seen log
  pub reported : IsPrefix v.reported log
  pub mine : (a : Author) → Owns v.right a → (seat a ≡ i) × (of author a v.seen ≡ of author a log)
  pub unused : (p : Permit) → Has v.right p → (place p ≡ (i, false)) × (uses permit p log ≡ [])
  pub lent : (p : Permit) → Has v.lent p → (place p ≡ (i, true)) × (uses permit p log ≡ [])

-- there is one history that keeps the rule, and the prefixes that each seat has seen and learned are prefixes of it
pub record Kept {E : Type 0} (author : E → Author) (permit : E → Option Permit) (holds : List E → Type 0) (views : List (View E)) : Type 0 where
  pub log : List E
  pub seat : Author → ℕ
  pub place : Permit → ℕ × Bool
  pub history : holds log
  pub fits : (i : ℕ) (v : View E) → get_elem? views i ≡ some v → Fits author permit log seat place i v

abbrev pub view : {E : Type 0} → List E → Right → View E
view seen right = record { seen = seen; reported = []; right = right; lent = Nothing }

abbrev pub first_view : {E : Type 0} → View E
first_view {E} = view {E = E} [] (Others [] 0)

abbrev pub witness : {E : Type 0} → View E → View E
witness v = view v.seen Nothing

abbrev pub informed : {E : Type 0} → View E → View E → View E
informed v w = record { seen = v.seen; reported = w.seen; right = v.right; lent = w.right }

abbrev pub spent : {E : Type 0} → View E
spent {E} = view {E = E} [] Nothing

abbrev pub after_giving : {E : Type 0} → Author → View E → View E
after_giving a v = record { seen = v.seen; reported = v.reported; right = without a v.right; lent = Nothing }

abbrev pub given : {E : Type 0} → Author → View E → View E
given a v = view v.seen (right_of a 0)

abbrev pub after_permitting : {E : Type 0} → View E → View E
after_permitting v = record { seen = v.seen; reported = v.reported; right = after_permit v.right; lent = Nothing }

abbrev pub permitted : {E : Type 0} → View E → View E
permitted v = view v.seen (using (first_permit v.right))

-- the entry was added, and the seat has seen all
pub record Extends {E : Type 0} (author : E → Author) (holds : List E → Type 0) (v : View E) (e : E) (w : View E) : Type 0 where
  pub added : IsAdded author v.seen v.reported e w.seen
  pub history : holds w.seen
  pub reported : w.reported ≡ []
  pub right : w.right ≡ v.right

-- all that is there was seen
pub record Looks {E : Type 0} (author : E → Author) (holds : List E → Type 0) (v : View E) (w : View E) : Type 0 where
  pub seen : IsPrefix v.seen w.seen
  pub reported : IsPrefix v.reported w.seen
  pub history : holds w.seen
  pub own : (a : Author) → Owns v.right a → of author a w.seen ≡ of author a v.seen
  pub silent : w.reported ≡ []
  pub right : w.right ≡ v.right

abbrev pub AddsOne : {E : Type 0} → (E → Author) → (List E → Type 0) → View E → View E → Option E → Type 0
AddsOne author holds v w None = ⊤
AddsOne author holds v w (Some e) = Extends author holds v e w

abbrev pub Adds : {E : Type 0} → (E → Author) → (List E → Type 0) → Option E → Me ℕ (View E) → Me ℕ (View E) → Type 0
Adds author holds o m w = AddsOne author holds m.0 w.0 o × (w.1 ≡ m.1)

abbrev pub Sees : {E : Type 0} → (E → Author) → (List E → Type 0) → Me ℕ (View E) → Me ℕ (View E) → Type 0
Sees author holds m w = Looks author holds m.0 w.0 × (w.1 ≡ m.1)

-- ---- invariants of the parts

-- the seat is at the history, has no right, and has seen a history that keeps the rule
pub record IsWitness {E : Type 0} (holds : List E → Type 0) (id : HistoryId) (s : Seat ℕ (View E)) : Type 0 where
  pub at : s.table_id ≡ id
  pub slots : s.me.1 ≡ []
  pub right : s.me.0.right ≡ Nothing
  pub history : holds s.me.0.seen

-- the author of a right
abbrev pub author_of : Right → Author
author_of Nothing = no_author
author_of (One a) = a
author_of (Caller client next) = Client client
author_of (Using p) = no_author
author_of (Others used next) = no_author

-- the number of the next permit of a right
abbrev pub next_of : Right → ℕ
next_of Nothing = 0
next_of (One a) = 0
next_of (Caller client next) = next
next_of (Using p) = 0
next_of (Others used next) = 0

-- the permit that a right is to use up
abbrev pub permit_in : Right → Option Permit
permit_in Nothing = None
permit_in (One a) = None
permit_in (Caller client next) = None
permit_in (Using p) = Some p
permit_in (Others used next) = None

-- the seat has the right to one author's entries, and knows all of them
pub record IsWriter {E : Type 0} (holds : List E → Type 0) (id : HistoryId) (s : Seat ℕ (View E)) : Type 0 where
  pub at : s.table_id ≡ id
  pub slots : s.me.1 ≡ []
  pub right : s.me.0.right ≡ right_of (author_of s.me.0.right) (next_of s.me.0.right)
  pub reported : s.me.0.reported ≡ []
  pub history : holds s.me.0.seen

-- the seat has the right to a permit, or none, and has seen a history that keeps the rule
pub record IsGrant {E : Type 0} (holds : List E → Type 0) (id : HistoryId) (s : Seat ℕ (View E)) : Type 0 where
  pub at : s.table_id ≡ id
  pub slots : s.me.1 ≡ []
  pub right : s.me.0.right ≡ using (permit_in s.me.0.right)
  pub history : holds s.me.0.seen

-- the first seat, which may give all rights
pub record IsOpened {E : Type 0} (holds : List E → Type 0) (id : HistoryId) (s : Seat ℕ (View E)) : Type 0 where
  pub at : s.table_id ≡ id
  pub words : id.words ≡ 1
  pub me : s.me ≡ (first_view, [])
  pub history : holds []

-- the seat may give the rights of all authors except these
pub record IsRegistrar {E : Type 0} (holds : List E → Type 0) (id : HistoryId) (used : List Author) (next : ℕ) (s : Seat ℕ (View E)) : Type 0 where
  pub at : s.table_id ≡ id
  pub me : s.me ≡ (view [] (Others used next), [])
  pub history : holds []

-- the view that contracts have of a registrar: the authors whose rights were given
pub record Given : Type 0 where
  pub used : List Author
  pub next : ℕ
