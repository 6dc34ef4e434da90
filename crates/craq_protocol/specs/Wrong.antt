-- Machines that are wrong in one rule each, and for each a list of moves that shows it.
use Rattle.std.specs.Prelude.{Option, Some, None, ℕ, ◌==◌, nat_lt, Bool, true, false, not, if◌then◌else◌, ◌&&◌, ◌||◌, List, [], ◌∷◌, ◌++◌, length, slice_get}
use Rattle.craq_protocol.specs.Members.{is_member, is_last, is_next, without, with_value}
use Rattle.craq_protocol.specs.Machine.{MachineBody, Message, MachineState, MachineMove, Entry, Copy, Floor, Append, Take, Become_ready, Adopt, Stop, Remove, Join, Send_entry, Send_copy, Send_floor, known_membership, current_membership, after_commit, after_send, after_receipt, after_move, initial_state}
use Rattle.craq_protocol.specs.Schedules.{entry_passes}

-- the effect of one move
abbrev pub Rule : Type 0
Rule = MachineState ℕ → MachineMove ℕ → MachineState ℕ

-- moves by a rule, one after the other
abbrev pub after_moves_by : Rule → MachineState ℕ → List (MachineMove ℕ) → MachineState ℕ
after_moves_by rule w [] = w
after_moves_by rule w (move ∷ moves) = after_moves_by rule (rule w move) moves

-- the world after moves by a rule from an opening
abbrev pub led_by : Rule → List ℕ → List (MachineMove ℕ) → MachineState ℕ
led_by rule members moves = after_moves_by rule (initial_state members) moves

-- ---- an unready node becomes ready without a floor

-- the rule that does not ask for a floor
abbrev pub ready_without_floor : Rule
ready_without_floor w (Become_ready node) =
    if w.running node && not (w.ready node)
    then after_commit (record w { ready = with_value w.ready node true }) node
    else w
ready_without_floor w move = after_move w move

-- 1 commits 7; then 2 joins, and would be ready with nothing
abbrev pub second_is_ready : List (MachineMove ℕ)
second_is_ready = Join 2 ∷ Adopt 2 2 ∷ Become_ready 2 ∷ []

-- ---- an unready node sends a floor

-- the rule that lets an unready node send a floor
abbrev pub floor_of_unready : Rule
floor_of_unready w (Send_floor node to) =
    if w.running node && is_next (known_membership w node) node to
    then after_send w node to (Floor (length (w.history node)))
    else w
floor_of_unready w move = after_move w move

-- 1 commits 7; then 2 and 3 join, and 3 would be ready by the floor of 2, which holds nothing
abbrev pub third_is_ready : List (MachineMove ℕ)
third_is_ready = Join 2 ∷ Join 3 ∷ Adopt 2 3 ∷ Adopt 3 3 ∷ Send_floor 2 3 ∷ Take 3 0 ∷ Become_ready 3 ∷ []

-- ---- a ready node replaces its history by a copy

-- a message arrives; a copy replaces the history of a ready node too
abbrev pub after_any_copy : MachineState ℕ → ℕ → ℕ → MachineBody ℕ → MachineState ℕ
after_any_copy w node from (Copy entries) =
    if is_next (known_membership w node) from node
    then record w { history = with_value w.history node entries; acknowledged = with_value w.acknowledged node (length entries) }
    else w
after_any_copy w node from body = after_receipt w node from body

-- a message arrives, if it is for the node and of its epoch
abbrev pub taken_with_any_copy : MachineState ℕ → ℕ → Option (Message ℕ) → MachineState ℕ
taken_with_any_copy w node None = w
taken_with_any_copy w node (Some message) =
    if w.running node && ((message.to == node) && (message.epoch == w.epoch node)) then after_any_copy w node message.from message.body else w

-- the rule that lets a ready node take a copy
abbrev pub copy_at_ready : Rule
copy_at_ready w (Take node which) = taken_with_any_copy w node (slice_get w.messages which)
copy_at_ready w move = after_move w move

-- in the chain 1, 2 the entry 7 is committed
abbrev pub commits_at_two : List (MachineMove ℕ)
commits_at_two = (Append 1 7 ∷ []) ++ entry_passes 1 2 1

-- 1, which got no acknowledgement, sends a copy of nothing, and fails; 2 would go on from the copy
abbrev pub second_goes_on : List (MachineMove ℕ)
second_goes_on = Send_copy 1 2 ∷ Take 2 0 ∷ Stop 1 ∷ Remove 1 ∷ Adopt 2 2 ∷ []

-- ---- a node takes an entry of another epoch

-- the body is an entry
abbrev pub is_entry : MachineBody ℕ → Bool
is_entry (Entry place entry) = true
is_entry body = false

-- a message arrives, if it is for the node and of its epoch, or is an entry
abbrev pub taken_of_any_epoch : MachineState ℕ → ℕ → Option (Message ℕ) → MachineState ℕ
taken_of_any_epoch w node None = w
taken_of_any_epoch w node (Some message) =
    if w.running node && ((message.to == node) && ((message.epoch == w.epoch node) || is_entry message.body))
    then after_receipt w node message.from message.body
    else w

-- the rule that lets a node take an entry of any epoch
abbrev pub entry_of_any_epoch : Rule
entry_of_any_epoch w (Take node which) = taken_of_any_epoch w node (slice_get w.messages which)
entry_of_any_epoch w move = after_move w move

-- in the chain 1, 2, 3 the head fails, and 2 appends 7 in epoch 2; 3 would take it in epoch 1
abbrev pub third_lags : List (MachineMove ℕ)
third_lags = Stop 1 ∷ Remove 1 ∷ Adopt 2 2 ∷ Append 2 7 ∷ Send_entry 2 3 1 ∷ Take 3 0 ∷ []

-- ---- the master removes a running member

-- the rule that lets the master remove a running member
abbrev pub removes_running : Rule
removes_running w (Remove node) =
    if is_member (current_membership w) node && nat_lt 1 (length (current_membership w))
    then record w { memberships = w.memberships ++ without (current_membership w) node ∷ [] }
    else w
removes_running w move = after_move w move

-- in the chain 1, 2 the entry 7 has been sent as 2 is removed; 1 commits 7 and 8 by itself
abbrev pub first_goes_alone : List (MachineMove ℕ)
first_goes_alone = Append 1 7 ∷ Send_entry 1 2 1 ∷ Remove 2 ∷ Adopt 1 2 ∷ Append 1 8 ∷ []

-- 2, which still runs, would commit as well
abbrev pub second_commits : List (MachineMove ℕ)
second_commits = Take 2 0 ∷ []

-- ---- an id that was removed joins again

-- the rule that lets an id that was a member join again
abbrev pub joins_again : Rule
joins_again w (Join node) =
    if is_member (current_membership w) node
    then w
    else record w {
      memberships = w.memberships ++ (current_membership w ++ node ∷ []) ∷ [];
      joined = w.joined ++ node ∷ [];
      running = with_value w.running node true;
      epoch = with_value w.epoch node 0;
      ready = with_value w.ready node false;
      history = with_value w.history node [];
      acknowledged = with_value w.acknowledged node 0;
      floor = with_value w.floor node None;
    }
joins_again w move = after_move w move

-- 2 joins, becomes ready by a floor of nothing, fails and is removed; 1 commits 7
abbrev pub second_was_there : List (MachineMove ℕ)
second_was_there =
    Join 2 ∷ Adopt 1 2 ∷ Adopt 2 2 ∷ Send_floor 1 2 ∷ Take 2 0 ∷ Become_ready 2 ∷ Stop 2 ∷ Remove 2 ∷ Adopt 1 3 ∷ Append 1 7 ∷ []

-- 2 would join again, and be ready by the floor that it was sent before
abbrev pub second_comes_back : List (MachineMove ℕ)
second_comes_back = Join 2 ∷ Adopt 2 2 ∷ Take 2 0 ∷ Become_ready 2 ∷ []

-- ---- the last node commits before it is ready

-- the last member commits all that it holds, even if it is not ready
abbrev pub after_any_commit : MachineState ℕ → ℕ → MachineState ℕ
after_any_commit w node =
    if w.running node && is_last (known_membership w node) node
    then record w { acknowledged = with_value w.acknowledged node (length (w.history node)); log = w.history node }
    else w

-- the rule that lets the last member commit before it is ready
abbrev pub commits_unready : Rule
commits_unready w (Adopt node epoch) = after_any_commit (after_move w (Adopt node epoch)) node
commits_unready w move = after_move w move

-- 1 commits 7; then 2 joins, and would commit nothing
abbrev pub second_is_last : List (MachineMove ℕ)
second_is_last = Join 2 ∷ Adopt 2 2 ∷ []
