-- Parts of a state, as a node holds them.
use Rattle.std.specs.Prelude.{ℕ, nat_lt, nat_le, ⊤, T, Bool, if◌then◌else◌, List, All, Option, None, Some}
use Rattle.std.specs.Ordering.{nat_cmp}
use Rattle.std.specs.FinMap.Entries.{is_sorted}
use Rattle.craq_names.specs.Maps.{key_cmp}
use Rattle.craq_commands.specs.declared.state.State.{State}
use Rattle.craq_history.specs.declared.change.GatheringChange.{GatheringChange}
use Rattle.craq_history.specs.declared.change.GatheringChange.TheVariants.{Stays, Dropped}
use Rattle.craq_model.specs.declared.gathering.Gathering.{Gathering}
use Rattle.craq_model.specs.declared.message.StatePart.{StatePart}
use Rattle.craq_model.specs.Parts.{gathered_position, precedes}

-- the keys and the clients of a state are strictly increasing
pub record IsInOrder (s : State) : Type 0 where
  pub objects : T (is_sorted key_cmp s.objects)
  pub kept : T (is_sorted nat_cmp s.kept)

-- the numbers of the held parts are strictly increasing, and each part is sorted
pub record AreInOrder (parts : List (ℕ × State)) : Type 0 where
  pub numbers : T (is_sorted nat_cmp parts)
  pub states : All (λ (held : ℕ × State). IsInOrder held.1) parts

abbrev pub IsOrdered : Option Gathering → Type 0
IsOrdered None = ⊤
IsOrdered (Some g) = AreInOrder g.parts

-- a held part stands on its side of another: before it if its number is lower, else after it
abbrev pub is_beside : StatePart → ℕ × State → Bool
is_beside part held = if nat_lt held.0 part.number then precedes held.1 part.state else precedes part.state held.1

-- the change of the gathered parts once the node holds this many entries
abbrev pub gathering_at : Option Gathering → ℕ → GatheringChange
gathering_at g count = if nat_le (gathered_position g) count then Dropped else Stays
