-- Storage of the items of a list of versions.
use Rattle.std.specs.Prelude.{ℕ, ◌-◌, List, [], ◌∷◌}
use Rattle.std.specs.VecDeque.{deque_len, deque_capacity}
use Rattle.craq_versions.specs.declared.kept.Kept.{Kept}
use Rattle.craq_versions.specs.declared.kept.Kept.TheVariants.{Nothing, One, Queue}

-- items in order, and how many more take no memory
pub record KeptItems (V : Type 0) : Type 0 where
  pub items : List V
  pub room : ℕ

-- the stored value of each form
abbrev pub items_kept : {V : Type 0} → Kept V → KeptItems V
items_kept Nothing = record { items = []; room = 0 }
items_kept (One item) = record { items = item ∷ []; room = 0 }
items_kept (Queue queue) = record { items = queue.value.items; room = deque_capacity queue.value - deque_len queue.value }
