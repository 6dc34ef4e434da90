-- The rule of a store's history: the lines of each chain are in causal order. Each call is made once, before it is accepted; it is
-- accepted once, or taken back. A node takes no request that is no call.
use Rattle.std.specs.Prelude.{◌≡◌, ◌<◌, ◌≤◌, ℕ, ⊤, List, [], ◌∷◌, ◌++◌, length, Contains, Option, Some, None}
use Rattle.std.specs.List.{AllByRecursion}
use Rattle.std.specs.declared.snapshot.Snapshot.{Snapshot}
use Rattle.craq_names.specs.declared.name.NodeName.{NodeName}
use Rattle.craq_model.specs.declared.ask.Ask.{Ask}
use Rattle.craq_model.specs.declared.ask.Event.{Event}
use Rattle.craq_model.specs.declared.ask.Event.TheVariants as events
use Rattle.craq_seat.specs.Merge.{MergedStep}
use Rattle.craq_causality.specs.Causal.{AreCausal, AreTyped}
use Rattle.craq_ghost_history.specs.declared.author.Permit.{Permit}
use Rattle.craq_ghost_history.specs.Authors.{uses}
use Rattle.craq_store_history.specs.declared.entry.CallId.{CallId}
use Rattle.craq_store_history.specs.declared.entry.HistoryEntry.{HistoryEntry}
use Rattle.craq_store_history.specs.declared.entry.HistoryEntry.TheVariants.{ChainOpened, ClientCall, NodeStep, MasterStep, CallTakenBack}
use Rattle.craq_store_history.specs.Entries.{lines_in, members_in, permit_of}

-- the lines of an opened chain are in causal order, with each request of its type; a chain that is
-- not opened has none
abbrev pub ChainHolds : ℕ → Option (List ℕ) → List MergedStep → Type 0
ChainHolds c None lines = lines ≡ []
ChainHolds c (Some members) lines = AreCausal c members lines × AreTyped lines

-- the client has made no call of this number or above
abbrev pub IsBelow : CallId → HistoryEntry → Type 0
IsBelow call (ChainOpened chain members) = ⊤
IsBelow call (ClientCall c name ask) = c.client ≡ call.client → c.number < call.number
IsBelow call (NodeStep name stamp event pass step c) = ⊤
IsBelow call (MasterStep chain stamp event pass step) = ⊤
IsBelow call (CallTakenBack c) = ⊤

-- the call was made, at this node, with this ask
abbrev pub WasCalled : List HistoryEntry → CallId → NodeName → Ask → Type 0
WasCalled before call name ask = (a : Snapshot Ask) × Contains before (ClientCall call name a) × (a.value ≡ ask)

-- the event is no request
abbrev pub IsNoAsk : Event → Type 0
IsNoAsk (events.Ask ask) = ⊥
IsNoAsk (events.Deliver message) = ⊤
IsNoAsk events.Tick = ⊤
IsNoAsk events.Stop = ⊤

-- a step on a request accepts a call that was made before it, with this request at this node; a step on anything else accepts none
abbrev pub Accepts : List HistoryEntry → NodeName → Event → Option CallId → Type 0
Accepts before name event None = IsNoAsk event
Accepts before name event (Some call) = (ask : Ask) × (event ≡ events.Ask ask) × WasCalled before call name ask

-- an entry may follow those before it, as far as calls go
abbrev pub MayCall : List HistoryEntry → HistoryEntry → Type 0
MayCall before (ChainOpened chain members) = ⊤
MayCall before (ClientCall call name ask) = AllByRecursion (IsBelow call) before
MayCall before (NodeStep name stamp event pass step call) = Accepts before name event.value call
MayCall before (MasterStep chain stamp event pass step) = ⊤
MayCall before (CallTakenBack call) = ⊤

abbrev pub AreCalls : List HistoryEntry → List HistoryEntry → Type 0
AreCalls before [] = ⊤
AreCalls before (e ∷ es) = MayCall before e × AreCalls (before ++ e ∷ []) es

-- `once`: at most one step accepts a call, and none if its client takes it back
pub record IsHistory (log : List HistoryEntry) : Type 0 where
  pub chains : (c : ℕ) → ChainHolds c (members_in c log) (lines_in c log)
  pub calls : AreCalls [] log
  pub once : (p : Permit) → length (uses permit_of p log) ≤ 1
