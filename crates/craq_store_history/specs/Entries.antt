-- Entries of a store's history: whose each is, the permit that it uses up, and what it is of a chain.
use Rattle.std.specs.Prelude.{◌≡◌, ◌<◌, ℕ, ◌==◌, if◌then◌else◌, ⊤, List, [], ◌∷◌, ◌++◌, Option, Some, None, option_map}
use Rattle.std.specs.declared.snapshot.Snapshot.{Snapshot}
use Rattle.craq_model.specs.declared.ask.Event.{Event}
use Rattle.craq_model.specs.declared.step.Step.{Step}
use Rattle.craq_seat.specs.declared.journal.BookEvent.{BookEvent}
use Rattle.craq_seat.specs.declared.journal.Record.{Record}
use Rattle.craq_seat.specs.Merge.{MergedStep, book_line, node_line}
use Rattle.craq_ghost_history.specs.declared.author.Author.{Author}
use Rattle.craq_ghost_history.specs.declared.author.Author.TheVariants.{Node, Client}
use Rattle.craq_ghost_history.specs.declared.author.Permit.{Permit}
use Rattle.craq_store_history.specs.declared.entry.CallId.{CallId}
use Rattle.craq_store_history.specs.declared.entry.HistoryEntry.{HistoryEntry}
use Rattle.craq_store_history.specs.declared.entry.HistoryEntry.TheVariants.{ChainOpened, ClientCall, NodeStep, MasterStep, CallTakenBack}

abbrev pub author_of : HistoryEntry → Author
author_of (ChainOpened chain members) = Node chain 0
author_of (ClientCall call name ask) = Client call.client
author_of (NodeStep name stamp event pass step call) = Node name.chain name.node
author_of (MasterStep chain stamp event pass step) = Node chain 0
author_of (CallTakenBack call) = Client call.client

-- the permit of a call
abbrev pub permit_for : CallId → Permit
permit_for call = record { client = call.client; number = call.number }

-- the permit that an entry uses up: of the call that a step accepts, or that a client takes back
abbrev pub permit_of : HistoryEntry → Option Permit
permit_of (ChainOpened chain members) = None
permit_of (ClientCall call name ask) = None
permit_of (NodeStep name stamp event pass step call) = option_map permit_for call
permit_of (MasterStep chain stamp event pass step) = None
permit_of (CallTakenBack call) = Some (permit_for call)

-- a step as its author's journal would keep it
abbrev pub node_record : ℕ → Snapshot Event → ℕ → Snapshot Step → Record Event
node_record stamp event pass step = record { stamp = stamp; event = event.value; pass = pass; step = step.value }

abbrev pub master_record : ℕ → BookEvent → ℕ → Snapshot Step → Record BookEvent
master_record stamp event pass step = record { stamp = stamp; event = event; pass = pass; step = step.value }

-- the line of a chain that an entry is, if it is one
abbrev pub line_in : ℕ → HistoryEntry → List MergedStep
line_in c (ChainOpened chain members) = []
line_in c (ClientCall call name ask) = []
line_in c (NodeStep name stamp event pass step call) = if name.chain == c then node_line name.node (node_record stamp event pass step) ∷ [] else []
line_in c (MasterStep chain stamp event pass step) = if chain == c then book_line (master_record stamp event pass step) ∷ [] else []
line_in c (CallTakenBack call) = []

-- the lines of a chain
unfoldable pub lines_in : ℕ → List HistoryEntry → List MergedStep
lines_in c [] = []
lines_in c (e ∷ es) = line_in c e ++ lines_in c es

-- the first members of a chain that an entry opens
abbrev pub opened_by : ℕ → HistoryEntry → Option (List ℕ)
opened_by c (ChainOpened chain members) = if chain == c then Some members.value else None
opened_by c (ClientCall call name ask) = None
opened_by c (NodeStep name stamp event pass step call) = None
opened_by c (MasterStep chain stamp event pass step) = None
opened_by c (CallTakenBack call) = None

abbrev pub first_some : {A : Type 0} → Option A → Option A → Option A
first_some (Some x) y = Some x
first_some None y = y

-- the first members of a chain, once it is opened
unfoldable pub members_in : ℕ → List HistoryEntry → Option (List ℕ)
members_in c [] = None
members_in c (e ∷ es) = first_some (opened_by c e) (members_in c es)
