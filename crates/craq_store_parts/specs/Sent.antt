-- Values on their way between the parts of a store: calls that were made, and refusals that give a call back.
use Rattle.std.specs.Prelude.{◌≡◌, ℕ, List, [], Option, Result, Ok, Err, option_map}
use Rattle.std.specs.declared.snapshot.Snapshot.{Snapshot}
use Rattle.craq_names.specs.declared.name.NodeName.{NodeName}
use Rattle.craq_names.specs.declared.refusal.Refusal.{Refusal}
use Rattle.craq_seat.specs.declared.journal.Receipt.{Receipt}
use Rattle.craq_model.specs.declared.ask.Ask.{Ask}
use Rattle.craq_ghost_history.specs.declared.author.Author.TheVariants.{Client}
use Rattle.craq_ghost_history.specs.Histories.{IsAdded, Written}
use Rattle.craq_store_history.specs.declared.entry.CallId.{CallId}
use Rattle.craq_store_history.specs.declared.entry.HistoryEntry.{HistoryEntry}
use Rattle.craq_store_history.specs.declared.entry.HistoryEntry.TheVariants.{ClientCall}
use Rattle.craq_store_history.specs.Entries.{author_of}
use Rattle.craq_store_history.specs.Steps.{MayMake}

-- the view that contracts have of a request whose call was made
pub record Made : Type 0 where
  pub name : NodeName
  pub ask : Ask
  pub call : CallId

-- the view that contracts have of a call that was made, with its permit: what names it, and the history that the permit has seen
pub record MadeCall : Type 0 where
  pub call : CallId
  pub seen : List HistoryEntry

-- the view that contracts have of an event's origin: the call that it accepts, if there is one, and the history that it follows
pub record Following : Type 0 where
  pub call : Option CallId
  pub seen : List HistoryEntry

-- the call of an origin, if there is one
abbrev pub made_in : Following → Option MadeCall
made_in o = option_map (λ call. record { call = call; seen = o.seen }) o.call

-- the view that contracts have of a moment at which a node refuses a call: the pass with which it does, and the history then
pub record Moment : Type 0 where
  pub pass : ℕ
  pub seen : List HistoryEntry

-- the view that contracts have of a refusal, of the call that it gives back, and of the moment at which the node's rules gave it
pub record RefusedCall : Type 0 where
  pub refusal : Refusal
  pub back : Option MadeCall
  pub moment : Option Moment

-- the receipt of a step that was taken, or its refusal
abbrev pub outcome_of : {X : Type 0} → Result (Receipt × X) RefusedCall → Result Receipt Refusal
outcome_of (Ok r) = Ok r.0
outcome_of (Err e) = Err e.refusal

-- the session's writer has the right to its calls, whose numbers are below the next, and to the permits of the calls from the next on
pub record IsSession (client next : ℕ) (writer : Written HistoryEntry) : Type 0 where
  pub author : writer.author ≡ Client client
  pub permits : writer.next ≡ next
  pub fresh : MayMake writer.seen (record { client = client; number = next })

-- the view that contracts have of a session: its number, that of its next call, and the history that it has seen
pub record Calling : Type 0 where
  pub client : ℕ
  pub next : ℕ
  pub seen : List HistoryEntry

-- the call was added to all that was there, which began with what the session had seen
abbrev pub IsMade : List HistoryEntry → CallId → NodeName → Ask → List HistoryEntry → Type 0
IsMade old call name ask new = (a : Snapshot Ask) × (a.value ≡ ask) × IsAdded author_of old [] (ClientCall call name a) new
