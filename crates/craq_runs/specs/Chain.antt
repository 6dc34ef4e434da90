-- A chain: its master, every node that was ever a member, and every message ever sent.
use Rattle.std.specs.Prelude.{ℕ, zero, suc, ◌+◌, ◌==◌, nat_le, Bool, false, ◌||◌, ◌&&◌, not, if◌then◌else◌, List, [], ◌∷◌, ◌++◌, map, length, find, is_some, Option, Some, None, Result, Ok, Err, slice_get}
use Rattle.craq_names.specs.Limits.{greatest, member_limit}
use Rattle.craq_names.specs.declared.refusal.Refusal.{Refusal}
use Rattle.craq_names.specs.declared.refusal.Refusal.TheVariants as refusals
use Rattle.craq_model.specs.declared.message.Body.TheVariants.{Config}
use Rattle.craq_model.specs.declared.message.LinkMessage.{LinkMessage}
use Rattle.craq_model.specs.declared.ask.Event.{Event}
use Rattle.craq_model.specs.declared.ask.Event.TheVariants as events
use Rattle.craq_model.specs.declared.step.Out.{Out}
use Rattle.craq_model.specs.declared.step.Out.TheVariants as outs
use Rattle.craq_model.specs.declared.step.Step.{Step}
use Rattle.craq_model.specs.Members.{is_member, without}
use Rattle.craq_model.specs.Plain.{Plain, id_of, opening_member, opening_joined}
use Rattle.craq_model.specs.Settle.{Transition}
use Rattle.craq_model.specs.Node.{node_step}
use Rattle.craq_runs.specs.declared.run.Move.{Move}
use Rattle.craq_runs.specs.declared.run.Move.TheVariants.{Ask, Deliver, Tick, Stop, Remove, Join}

pub record Chain : Type 0 where
  pub chain : ℕ
  pub epoch : ℕ  -- the epoch of the master's membership
  pub members : List ℕ
  pub nodes : List Plain  -- every node that was ever a member, in the order of joining
  pub messages : List LinkMessage  -- every message ever sent, number 1 first
  pub moves : ℕ  -- the number of accepted moves

-- a chain before any move
abbrev pub opening_chain : ℕ → List ℕ → Chain
opening_chain chain members =
    record {
      chain = chain;
      epoch = 1;
      members = members;
      nodes = map (λ id. opening_member (record { chain = chain; node = id }) members) members;
      messages = [];
      moves = 0;
    }

-- the node with this id
unfoldable pub node_at : List Plain → ℕ → Option Plain
node_at nodes id = find (λ (p : Plain). id_of p == id) nodes

-- the nodes, with this one replacing the one with its id
unfoldable pub set_node : List Plain → Plain → List Plain
set_node [] p = []
set_node (q ∷ qs) p = if id_of q == id_of p then p ∷ qs else q ∷ set_node qs p

-- the message of this number, counted from 1
abbrev pub message_at : List LinkMessage → ℕ → Option LinkMessage
message_at messages zero = None
message_at messages (suc i) = slice_get messages i

-- the messages among outs
unfoldable pub sent_in : List Out → List LinkMessage
sent_in [] = []
sent_in (outs.Send to m ∷ os) = m ∷ sent_in os
sent_in (outs.Answer ticket answer ∷ os) = sent_in os

-- a chain after a move, with the move's step
abbrev pub Progress : Type 0
Progress = Chain × Step

-- the master sends the membership to each member
abbrev pub config_to : Chain → ℕ → Out
config_to c to =
    outs.Send to (record { chain = c.chain; sender = 0; receiver = to; stamp = 1; index = 0; epoch = c.epoch; body = Config c.members })

abbrev pub config_progress : Chain → Progress
config_progress c = (c, record { ticket = None; outs = map (config_to c) c.members; ignored = None })

-- the next membership
abbrev pub next_epoch : Chain → List ℕ → Chain
next_epoch c members = record c { epoch = c.epoch + 1; members = members }

-- a node's step within its chain
abbrev pub transition_progress : Chain → Result Transition Refusal → Result Progress Refusal
transition_progress c (Ok t) = Ok (record c { nodes = set_node c.nodes t.0 }, t.1)
transition_progress c (Err e) = Err e

-- an event at a node
abbrev pub node_progress : Chain → Option Plain → Event → Result Progress Refusal
node_progress c None e = Err refusals.WrongNode
node_progress c (Some p) e = transition_progress c (node_step p e)

-- a message arrives at its receiver
abbrev pub arrival_progress : Chain → Option LinkMessage → Result Progress Refusal
arrival_progress c None = Err refusals.UnknownMessage
arrival_progress c (Some m) = node_progress c (node_at c.nodes m.receiver) (events.Deliver m)

abbrev pub tick_progress : Chain → ℕ → Result Progress Refusal
tick_progress c id = if id == 0 then Ok (config_progress c) else node_progress c (node_at c.nodes id) events.Tick

abbrev pub is_running : Option Plain → Bool
is_running None = false
is_running (Some p) = p.running

unfoldable pub removal_progress : Chain → ℕ → Result Progress Refusal
removal_progress c id =
    if not (is_member c.members id) then Err refusals.NotMember
    else if is_running (node_at c.nodes id) then Err refusals.NotStopped
    else if length c.members == 1 then Err refusals.LastNode
    else if c.epoch == greatest then Err refusals.Exhausted
    else Ok (config_progress (next_epoch c (without c.members id)))

-- the chain with a new node that is not ready
abbrev pub with_node : Chain → ℕ → Chain
with_node c id = record c { nodes = c.nodes ++ opening_joined (record { chain = c.chain; node = id }) ∷ [] }

unfoldable pub join_progress : Chain → ℕ → Result Progress Refusal
join_progress c id =
    if (id == 0) || is_some (node_at c.nodes id) then Err refusals.UsedId
    else if nat_le member_limit (length c.members) then Err refusals.ChainFull
    else if c.epoch == greatest then Err refusals.Exhausted
    else Ok (config_progress (next_epoch (with_node c id) (c.members ++ id ∷ [])))

-- the effect of a move, before it is numbered
abbrev pub move_progress : Chain → Move → Result Progress Refusal
move_progress c (Ask node ask) = node_progress c (node_at c.nodes node) (events.Ask ask)
move_progress c (Deliver number) = arrival_progress c (message_at c.messages number)
move_progress c (Tick node) = tick_progress c node
move_progress c (Stop node) = node_progress c (node_at c.nodes node) events.Stop
move_progress c (Remove node) = removal_progress c node
move_progress c (Join node) = join_progress c node

-- the move and its messages can still be numbered
unfoldable pub numbers_left : Chain → Step → Bool
numbers_left c step = not (c.moves == greatest) && nat_le (length c.messages + length (sent_in step.outs)) greatest

-- the move and its messages are numbered
abbrev pub counted_progress : Chain → Result Progress Refusal → Result Progress Refusal
counted_progress c (Ok x) =
    if numbers_left c x.1
    then Ok (record x.0 { messages = c.messages ++ sent_in x.1.outs; moves = c.moves + 1 }, x.1)
    else Err refusals.Exhausted
counted_progress c (Err e) = Err e

-- one move of a chain: the chain after it and its step, or a refusal
unfoldable pub chain_step : Chain → Move → Result Progress Refusal
chain_step c m = counted_progress c (move_progress c m)
