-- Lines in causal order: each author's lines are its journal, and each line follows its causes.
use Rattle.std.specs.Prelude.{◌≡◌, ◌≢◌, ◌≤◌, ◌⊎◌, ℕ, true, ⊤, List, [], ◌∷◌, ◌++◌, flat_map, length, Contains, Some, slice_get}
use Rattle.std.specs.List.{AllByRecursion}
use Rattle.craq_names.specs.Limits.{greatest}
use Rattle.craq_names.specs.declared.name.NodeName.{NodeName}
use Rattle.craq_model.specs.declared.ask.Event.{Event}
use Rattle.craq_model.specs.declared.ask.Event.TheVariants as events
use Rattle.craq_model.specs.declared.message.LinkMessage.{LinkMessage}
use Rattle.craq_model.specs.Members.{IsMembership, is_member}
use Rattle.craq_model.specs.Plain.{Plain}
use Rattle.craq_epochs.specs.Mastered.{Mastered}
use Rattle.craq_runs.specs.Chain.{sent_in}
use Rattle.craq_runs.specs.Typed.{IsAskOfType}
use Rattle.craq_seat.specs.declared.journal.BookEvent.{BookEvent}
use Rattle.craq_seat.specs.declared.journal.BookEvent.TheVariants as books
use Rattle.craq_seat.specs.declared.journal.Receipt.{Receipt}
use Rattle.craq_seat.specs.Merge.{AtNode, AtMaster, Happening, MergedStep}
use Rattle.craq_seat.specs.Numbered.{numbered_from}
use Rattle.craq_causality.specs.Authors.{IsMasterAfter, IsNodeAfter}

-- one of these lines sent the message, under the name that the message bears
pub record WasSent (lines : List MergedStep) (m : LinkMessage) : Type 0 where
  pub line : MergedStep
  pub there : Contains lines line
  pub node : line.node ≡ m.sender
  pub stamp : line.stamp ≡ m.stamp
  pub message : slice_get (numbered_from 0 (record { node = line.node; stamp = line.stamp }) (sent_in line.step.outs)) m.index ≡ Some m

-- in one of these lines the node stopped, and the receipt has that line's stamp
abbrev pub HasStopped : List MergedStep → NodeName → Receipt → Type 0
HasStopped lines node stop = (l : MergedStep) × Contains lines l × (l.node ≡ node.node) × (l.stamp ≡ stop.stamp) × (l.event ≡ AtNode events.Stop)

-- the node is a first member, or the master let it join in one of these lines
abbrev pub HasJoined : List ℕ → List MergedStep → ℕ → Type 0
HasJoined members lines id = (is_member members id ≡ true) ⊎ ((l : MergedStep) × Contains lines l × (l.event ≡ AtMaster (books.Join id)))

-- a delivery comes after the sending
abbrev pub IsOfSent : List MergedStep → Event → Type 0
IsOfSent before (events.Ask ask) = ⊤
IsOfSent before (events.Deliver m) = WasSent before m
IsOfSent before events.Tick = ⊤
IsOfSent before events.Stop = ⊤

-- a removal comes after the stop that it names
abbrev pub IsOfStopped : List MergedStep → BookEvent → Type 0
IsOfStopped before (books.Join id) = ⊤
IsOfStopped before (books.Remove stopped stop) = HasStopped before stopped stop
IsOfStopped before books.Tick = ⊤

-- the event may follow these lines: at a node after its join, at the master as it may
abbrev pub MayFollow : List ℕ → List MergedStep → ℕ → Happening → Type 0
MayFollow members before id (AtNode event) = HasJoined members before id × IsOfSent before event
MayFollow members before id (AtMaster event) = IsOfStopped before event

-- each line may follow those before it
abbrev pub AreOrdered : List ℕ → List MergedStep → List MergedStep → Type 0
AreOrdered members before [] = ⊤
AreOrdered members before (l ∷ ls) = MayFollow members before l.node l.event × AreOrdered members (before ++ l ∷ []) ls

-- a requested transaction is within the limits of its type
abbrev pub IsOfType : Happening → Type 0
IsOfType (AtNode (events.Ask ask)) = IsAskOfType ask
IsOfType (AtNode (events.Deliver m)) = ⊤
IsOfType (AtNode events.Tick) = ⊤
IsOfType (AtNode events.Stop) = ⊤
IsOfType (AtMaster event) = ⊤

-- each requested transaction is within the limits of its type
abbrev pub AreTyped : List MergedStep → Type 0
AreTyped lines = AllByRecursion (λ (l : MergedStep). IsOfType l.event) lines

-- the lines of a chain that was opened with these members: each author's lines are its journal, and
-- all are in causal order
pub record AreCausal (chain : ℕ) (members : List ℕ) (lines : List MergedStep) : Type 0 where
  pub membership : IsMembership members
  pub master : (m : Mastered) × (stamp : ℕ) × IsMasterAfter chain members lines m stamp
  pub nodes : (id : ℕ) → id ≢ 0 → (p : Plain) × (stamp : ℕ) × IsNodeAfter chain members id lines p stamp
  pub order : AreOrdered members [] lines

-- there are at most 2 ^ 64 - 1 lines, and as many messages
pub record AreFew (lines : List MergedStep) : Type 0 where
  pub moves : length lines ≤ greatest
  pub messages : length (flat_map (λ (l : MergedStep). sent_in l.step.outs) lines) ≤ greatest
