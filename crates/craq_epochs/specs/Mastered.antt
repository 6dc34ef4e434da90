-- The master of a chain: the current membership, and the next one.
use Rattle.std.specs.Prelude.{◌≡◌, ℕ, ◌+◌, ◌≤◌, ◌==◌, nat_le, true, not, ◌&&◌, ◌||◌, if◌then◌else◌, List, [], ◌∷◌, ◌++◌, length, Result, Ok, Err}
use Rattle.std.specs.List.{AllByRecursion}
use Rattle.craq_names.specs.Limits.{greatest, member_limit}
use Rattle.craq_names.specs.declared.name.NodeName.{NodeName}
use Rattle.craq_names.specs.declared.refusal.Refusal.{Refusal}
use Rattle.craq_names.specs.declared.refusal.Refusal.TheVariants as refusals
use Rattle.craq_model.specs.Members.{IsMembership, is_member, without}

pub record Mastered : Type 0 where
  pub chain : ℕ
  pub epoch : ℕ  -- the number of the membership, from 1
  pub members : List ℕ  -- head first
  pub used : List ℕ  -- every id that was ever a member, in the order of joining

-- a master of these opening members
abbrev pub opened_master : ℕ → List ℕ → Mastered
opened_master chain members = record { chain = chain; epoch = 1; members = members; used = members }

-- the membership without a stopped node, or the refusal
unfoldable pub removed : Mastered → NodeName → Result Mastered Refusal
removed m stopped =
    if not ((stopped.chain == m.chain) && is_member m.members stopped.node) then Err refusals.NotMember
    else if length m.members == 1 then Err refusals.LastNode
    else if m.epoch == greatest then Err refusals.Exhausted
    else Ok (record m { epoch = m.epoch + 1; members = without m.members stopped.node })

-- the membership with a new node at the end, or the refusal
unfoldable pub master_after_join : Mastered → ℕ → Result Mastered Refusal
master_after_join m id =
    if (id == 0) || is_member m.used id then Err refusals.UsedId
    else if nat_le member_limit (length m.members) then Err refusals.ChainFull
    else if m.epoch == greatest then Err refusals.Exhausted
    else Ok (record m { epoch = m.epoch + 1; members = m.members ++ id ∷ []; used = m.used ++ id ∷ [] })

-- the master's invariant: a membership, in an epoch from 1, of ids that are all used
pub record IsMastered (m : Mastered) : Type 0 where
  pub membership : IsMembership m.members
  pub from_one : 1 ≤ m.epoch
  pub all_used : AllByRecursion (λ id. is_member m.used id ≡ true) m.members
