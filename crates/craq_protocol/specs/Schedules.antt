-- Lists of moves that show the machine at work. Entries are numbers.
use Rattle.std.specs.Prelude.{ℕ, List, [], ◌∷◌, ◌++◌}
use Rattle.craq_protocol.specs.Machine.{MachineState, MachineMove, initial_state, after_moves, Append, Take, Become_ready, Adopt, Stop, Remove, Join, Send_entry, Send_ack, Send_copy, Send_floor}

-- the world after moves from an opening of the chain 1, 2, 3
abbrev pub from_three : List (MachineMove ℕ) → MachineState ℕ
from_three moves = after_moves (initial_state (1 ∷ 2 ∷ 3 ∷ [])) moves

-- the entry at a place goes from one node to another
abbrev pub entry_passes : ℕ → ℕ → ℕ → List (MachineMove ℕ)
entry_passes from to place = Send_entry from to place ∷ Take to 0 ∷ []

-- the committed length is sent to the node before
abbrev pub ack_passes : ℕ → ℕ → List (MachineMove ℕ)
ack_passes from to = Send_ack from to ∷ Take to 0 ∷ []

-- each of the nodes adopts the membership of an epoch
abbrev pub all_adopt : ℕ → List ℕ → List (MachineMove ℕ)
all_adopt epoch [] = []
all_adopt epoch (node ∷ nodes) = Adopt node epoch ∷ all_adopt epoch nodes

-- in the chain 1, 2, 3 the entry 7 is committed and acknowledged
abbrev pub commits_at_three : List (MachineMove ℕ)
commits_at_three = (Append 1 7 ∷ []) ++ entry_passes 1 2 1 ++ entry_passes 2 3 1 ++ ack_passes 3 2 ++ ack_passes 2 1

-- then 4 joins, is brought up to date and becomes ready, and 8 is committed there
abbrev pub fourth_joins : List (MachineMove ℕ)
fourth_joins =
    (Join 4 ∷ []) ++ all_adopt 2 (3 ∷ 4 ∷ 2 ∷ 1 ∷ []) ++ (Send_copy 3 4 ∷ Take 4 0 ∷ Send_floor 3 4 ∷ Take 4 0 ∷ Become_ready 4 ∷ [])
    ++ (Append 1 8 ∷ []) ++ entry_passes 1 2 2 ++ entry_passes 2 3 2 ++ entry_passes 3 4 2

-- then 2 fails and is removed, and 9 is committed and acknowledged in the chain 1, 3, 4
abbrev pub second_fails : List (MachineMove ℕ)
second_fails =
    (Stop 2 ∷ Remove 2 ∷ Append 1 9 ∷ []) ++ all_adopt 3 (1 ∷ 3 ∷ 4 ∷ []) ++ entry_passes 1 3 3 ++ entry_passes 3 4 3
    ++ ack_passes 4 3 ++ ack_passes 3 1

-- in the chain 1, 2, 3 the head appends 8 and 9 after 7 was committed, and fails before another
-- node has them
abbrev pub head_fails : List (MachineMove ℕ)
head_fails = Append 1 8 ∷ Append 1 9 ∷ Send_entry 1 2 2 ∷ Stop 1 ∷ Remove 1 ∷ []

-- the chain 2, 3 goes on with 10
abbrev pub next_head_goes_on : List (MachineMove ℕ)
next_head_goes_on = all_adopt 2 (2 ∷ 3 ∷ []) ++ (Take 2 0 ∷ Append 2 10 ∷ []) ++ entry_passes 2 3 2
