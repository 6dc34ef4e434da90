use Rattle.std.proofs.Common.{Some, ◌≡◌, ℕ, List, [], ◌∷◌, ◌++◌, refl}
use Rattle.craq_protocol.specs.Members.{is_member, is_first, is_last, is_next, without, membership_of, with_value}
use Rattle.craq_protocol.specs.Machine.{MachineMove, MachineState, after_moves, entry_at}
use Rattle.craq_protocol.specs.Promises.{IsReached, Later}
use Rattle.craq_protocol.specs.Schedules.{commits_at_three, from_three, head_fails, next_head_goes_on}
use Rattle.craq_protocol.proofs.Prefix.{entry_at_grows}
use Rattle.craq_protocol.proofs.Reached.{reached_later}
use Rattle.craq_protocol.proofs.runs.entries_of_a_lost_head_are_not_committed.Goals as goal

abbrev gone_on : MachineState ℕ
gone_on = from_three (commits_at_three ++ head_fails ++ next_head_goes_on)

reached : IsReached gone_on
unfolding is_member
reached = record {
  members = 1 ∷ 2 ∷ 3 ∷ [];
  distinct = (refl, (refl, (refl, tt)));
  moves = commits_at_three ++ head_fails ++ next_head_goes_on;
  is = refl;
}

second : entry_at gone_on.log 2 ≡ Some 10
unfolding is_member is_first is_last is_next without membership_of with_value entry_at
second = refl

stays : (later : List (MachineMove ℕ)) → entry_at (after_moves gone_on later).log 2 ≡ Some 10
stays later = let l : Later gone_on (after_moves gone_on later) = reached_later reached later in entry_at_grows l.log 2 10 second

pub returns : goal.returns
unfolding is_member is_first is_last is_next without membership_of with_value entry_at
returns c = record { held = refl; goes_on = refl; replaced = stays }
