-- Authors and permits, and what a right is to add and to use up.
use Rattle.std.specs.Prelude.{◌≡◌, ◌≤◌, ℕ, ⊤, suc, ◌==◌, ◌&&◌, Bool, false, List, [], ◌∷◌, ◌++◌, Option, Some, None, filter}
use Rattle.std.specs.List.{list_any}
use Rattle.craq_ghost_history.specs.declared.author.Author.{Author}
use Rattle.craq_ghost_history.specs.declared.author.Author.TheVariants.{Node, Client}
use Rattle.craq_ghost_history.specs.declared.author.Permit.{Permit}
use Rattle.craq_ghost_history.specs.declared.author.Right.{Right}
use Rattle.craq_ghost_history.specs.declared.author.Right.TheVariants.{Nothing, One, Caller, Using, Others}

abbrev pub same : Author → Author → Bool
same (Node chain node) (Node c n) = (chain == c) && (node == n)
same (Node chain node) (Client k) = false
same (Client k) (Node chain node) = false
same (Client k) (Client l) = k == l

-- the entries of one author
abbrev pub of : {E : Type 0} → (E → Author) → Author → List E → List E
of author a log = filter (λ e. same (author e) a) log

abbrev pub is_used : List Author → Author → Bool
is_used used a = list_any (λ k. same k a) used

-- no right to this author's entries was given: nodes by name, clients from `next` on
abbrev pub IsFree : List Author → ℕ → Author → Type 0
IsFree used next (Node chain node) = is_used used (Node chain node) ≡ false
IsFree used next (Client k) = next ≤ k

-- the right is to add this author's entries
abbrev pub Owns : Right → Author → Type 0
Owns Nothing a = ⊥
Owns (One k) a = a ≡ k
Owns (Caller client next) a = a ≡ Client client
Owns (Using p) a = ⊥
Owns (Others used next) a = IsFree used next a

-- the right of this author can be given away: of clients the next alone
abbrev pub MayGive : Right → Author → Type 0
MayGive Nothing a = ⊥
MayGive (One k) a = ⊥
MayGive (Caller client next) a = ⊥
MayGive (Using p) a = ⊥
MayGive (Others used next) (Node chain node) = is_used used (Node chain node) ≡ false
MayGive (Others used next) (Client k) = k ≡ next

-- the right that is left
abbrev pub without : Author → Right → Right
without a Nothing = Nothing
without a (One k) = One k
without a (Caller client next) = Caller client next
without a (Using p) = Using p
without (Node chain node) (Others used next) = Others (used ++ Node chain node ∷ []) next
without (Client k) (Others used next) = Others used (suc k)

-- the right that is given to an author: a client's is also to its permits from `next` on
abbrev pub right_of : Author → ℕ → Right
right_of (Node chain node) next = One (Node chain node)
right_of (Client client) next = Caller client next

-- ---- permits

abbrev pub same_permit : Permit → Permit → Bool
same_permit p q = (p.client == q.client) && (p.number == q.number)

-- this is the permit
abbrev pub is_use : Option Permit → Permit → Bool
is_use None p = false
is_use (Some q) p = same_permit q p

-- the entries that use this permit up
abbrev pub uses : {E : Type 0} → (E → Option Permit) → Permit → List E → List E
uses permit p log = filter (λ e. is_use (permit e) p) log

-- the right is to use this permit up, or to give it away
abbrev pub Has : Right → Permit → Type 0
Has Nothing p = ⊥
Has (One k) p = ⊥
Has (Caller client next) p = (p.client ≡ client) × (next ≤ p.number)
Has (Using q) p = p ≡ q
Has (Others used next) p = next ≤ p.client

-- the right is to use this permit up, if there is one
abbrev pub MayUse : Right → Option Permit → Type 0
MayUse r None = ⊤
MayUse r (Some p) = Has r p

-- the permit that a right gives next: of a client's the first
abbrev pub first_permit : Right → Option Permit
first_permit Nothing = None
first_permit (One k) = None
first_permit (Caller client next) = Some (record { client = client; number = next })
first_permit (Using p) = None
first_permit (Others used next) = None

-- the right that is left when that permit was given
abbrev pub after_permit : Right → Right
after_permit Nothing = Nothing
after_permit (One k) = One k
after_permit (Caller client next) = Caller client (suc next)
after_permit (Using p) = Using p
after_permit (Others used next) = Others used next

-- the right to use this permit up, if there is one
abbrev pub using : Option Permit → Right
using None = Nothing
using (Some p) = Using p
