-- The terms of a chain's invariants: a run's chain, its committed entries and updates, and a node's
-- whole history.
use Rattle.std.specs.Prelude.{◌≡◌, ℕ, ◌-◌, ◌≤◌, List, ◌++◌, length, take, slice_index, Some}
use Rattle.craq_names.specs.declared.name.ObjectId.{ObjectId}
use Rattle.craq_commands.specs.Objects.{version_of}
use Rattle.craq_commands.specs.SingleCopy.{after, said}
use Rattle.craq_commands.specs.declared.command.Update.{Update}
use Rattle.craq_commands.specs.declared.entry.Entry.{Entry}
use Rattle.craq_commands.specs.declared.read_mode.ReadMode.TheVariants.{Strong}
use Rattle.craq_model.specs.Plain.{Plain, id_of}
use Rattle.craq_model.specs.declared.ask.Ask.TheVariants as asks
use Rattle.craq_model.specs.declared.message.LinkMessage.{LinkMessage}
use Rattle.craq_model.specs.declared.waiting.WaitingUpdate.{WaitingUpdate}
use Rattle.craq_runs.specs.Chain.{Chain, opening_chain, node_at, message_at}
use Rattle.craq_runs.specs.Explain.{Account, account_of, explain, opening_account}
use Rattle.craq_runs.specs.Runs.{after_moves}
use Rattle.craq_runs.specs.Seen.{Asked, ask_with, seen}
use Rattle.craq_runs.specs.Valid.{committed, committed_before}
use Rattle.craq_runs.specs.declared.run.Run.{Run}
use Rattle.craq_updates.specs.Updates.{updates_in}

-- the chain after a run
abbrev pub chain_after : ℕ → Run → Chain
chain_after chain run = after_moves (opening_chain chain run.members) run.moves

-- the parts of the run's explanation: the requests, the committed entries, and the number committed
-- at each time
abbrev pub account_in : ℕ → Run → Account
account_in chain run = account_of (opening_account chain run.members) run.moves

-- the committed entries after a run
abbrev pub committed_in : ℕ → Run → List Entry
committed_in chain run = (account_in chain run).committed

-- the committed updates after a run: those of its explanation, in order
abbrev pub updates_committed : ℕ → Run → List Update
updates_committed chain run = committed (seen run) (explain chain run)

-- the number of entries committed after the step that sent the message of this number
abbrev pub committed_at : ℕ → Run → ℕ → ℕ
committed_at chain run number = slice_index (account_in chain run).sent_at (number - 1)

-- the chain's node of its id
abbrev pub IsNode : Chain → Plain → Type 0
IsNode c p = node_at c.nodes (id_of p) ≡ Some p

-- a node's whole history: the committed entries that it knows only by their state, then those that
-- it holds
abbrev pub history_of : List Entry → Plain → List Entry
history_of entries p = take p.past.base entries ++ p.past.entries

-- the updates from which the entries of a node's whole history were made
abbrev pub updates_held : ℕ → Run → Plain → List Update
updates_held chain run p = updates_in (seen run) (history_of (committed_in chain run) p)

-- ---- messages

-- the message of this number that was ever sent
abbrev pub WasSent : Chain → ℕ → LinkMessage → Type 0
WasSent c number m = message_at c.messages number ≡ Some m

-- the message's sender is a node of the chain, of which this holds
pub record HasSender (c : Chain) (m : LinkMessage) (Holds : Plain → Type 0) : Type 0 where
  pub sender : Plain
  pub at : node_at c.nodes m.sender ≡ Some sender
  pub holds : Holds sender

-- a version reported to a strong read: that of its object on the single copy after this number of
-- committed updates, no fewer than before the request
pub record TellsVersion (chain : ℕ) (run : Run) (receiver ticket version count : ℕ) : Type 0 where
  pub ask : Asked
  pub object : ObjectId
  pub is_ask : ask_with (seen run).asks receiver ticket ≡ Some ask
  pub is : ask.ask ≡ asks.Read Strong object
  pub not_before : committed_before (explain chain run) ask.move ≤ count
  pub not_beyond : count ≤ length (updates_committed chain run)
  pub version_is : version_of (after (take count (updates_committed chain run))).objects object.key ≡ version

-- ---- waiting updates

-- a waiting update's request, and its reply: the single copy's for its client and number after the
-- updates of the node's history that it waits for
pub record HasReply (chain : ℕ) (run : Run) (p : Plain) (u : WaitingUpdate) : Type 0 where
  pub ask : Asked
  pub update : Update
  pub is_ask : ask_with (seen run).asks (id_of p) u.ticket ≡ Some ask
  pub is : ask.ask ≡ asks.Update update
  pub held : u.position ≤ length (updates_held chain run p)
  pub is_said : said (after (take u.position (updates_held chain run p))) update.client update.number ≡ Some u.reply
