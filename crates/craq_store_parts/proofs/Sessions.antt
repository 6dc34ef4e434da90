-- The numbers of a session's calls, and calls that it takes back.
use Rattle.std.proofs.Common.{◌≡◌, ℕ, ◌+◌, List, [], ◌∷◌, ◌++◌, sym, subst, arith}
use Rattle.std.specs.List.{AllByRecursion}
use Rattle.std.specs.declared.snapshot.Snapshot.{Snapshot}
use mathlib.Core.List.{IsPrefix}
use Rattle.craq_names.specs.declared.name.NodeName.{NodeName}
use Rattle.craq_model.specs.declared.ask.Ask.{Ask}
use Rattle.craq_ghost_history.specs.Histories.{IsAdded}
use Rattle.craq_store_history.specs.declared.entry.CallId.{CallId}
use Rattle.craq_store_history.specs.declared.entry.HistoryEntry.{HistoryEntry}
use Rattle.craq_store_history.specs.declared.entry.HistoryEntry.TheVariants.{ChainOpened, ClientCall, NodeStep, MasterStep, CallTakenBack}
use Rattle.craq_ghost_history.specs.declared.author.Author.TheVariants.{Client}
use Rattle.craq_ghost_history.specs.Authors.{of}
use Rattle.craq_ghost_history.proofs.Prefixes.{prefix_append}
use Rattle.craq_store_history.specs.Chains.{IsBelow, WasCalled}
use Rattle.craq_store_history.specs.Entries.{author_of}
use Rattle.craq_store_history.specs.Steps.{MayMake}
use Rattle.craq_store_history.proofs.Calls.{below_later}
use Rattle.craq_store_history.proofs.Permits.{withdrawn_never}
use Rattle.craq_store_parts.specs.Sent.{IsMade}
use Rattle.craq_store_parts.specs.Witnessed.{IsNeverAccepted}
use Rattle.craq_store_parts.proofs.Recording.{has_added, in_later}

abbrev call_of : ℕ → ℕ → CallId
call_of client number = record { client = client; number = number }

below_next : (client next : ℕ) (e : HistoryEntry) → IsBelow (call_of client next) e → IsBelow (call_of client (next + 1)) e
below_next client next (ChainOpened chain members) b = tt
below_next client next (ClientCall c name ask) b = λ same. let less = b same in omega (arith, less)
below_next client next (NodeStep name stamp event pass step c) b = tt
below_next client next (MasterStep chain stamp event pass step) b = tt
below_next client next (CallTakenBack c) b = tt

all_next : (client next : ℕ) (xs : List HistoryEntry) (e : HistoryEntry) → AllByRecursion (IsBelow (call_of client next)) xs → IsBelow (call_of client (next + 1)) e → AllByRecursion (IsBelow (call_of client (next + 1))) (xs ++ e ∷ [])
all_next client next [] e a b = (b, tt)
all_next client next (x ∷ xs) e a b = (below_next client next x a.0, all_next client next xs e a.1 b)

-- after a call the next number is free
pub fresh_after : (client next : ℕ) (seen reported new : List HistoryEntry) (name : NodeName) (ask : Snapshot Ask) → MayMake seen (call_of client next) → IsAdded author_of seen reported (ClientCall (call_of client next) name ask) new → MayMake new (call_of client (next + 1))
fresh_after client next seen reported new name ask m a =
    let call : CallId = call_of client next in
    subst (AllByRecursion (IsBelow (call_of client (next + 1)))) (sym a.now)
    (all_next client next a.before (ClientCall call name ask) (below_later call seen a.before (sym a.own) m) (λ same. omega arith))

-- a session that sees more has the same calls
pub fresh_later : (client next : ℕ) (xs ys : List HistoryEntry) → of author_of (Client client) xs ≡ of author_of (Client client) ys → MayMake xs (call_of client next) → MayMake ys (call_of client next)
fresh_later client next xs ys own m = below_later (call_of client next) xs ys own m

all_more : (call : CallId) (xs : List HistoryEntry) (e : HistoryEntry) → AllByRecursion (IsBelow call) xs → IsBelow call e → AllByRecursion (IsBelow call) (xs ++ e ∷ [])
all_more call [] e a b = (b, tt)
all_more call (x ∷ xs) e a b = (a.0, all_more call xs e a.1 b)

-- a session that takes a call back has the same numbers left
pub fresh_withdrawn : (client next : ℕ) (seen reported new : List HistoryEntry) (call : CallId) → call.client ≡ client → MayMake seen (call_of client next) → IsAdded author_of seen reported (CallTakenBack call) new → MayMake new (call_of client next)
fresh_withdrawn client next seen reported new call mine m a =
    let own : of author_of (Client client) a.before ≡ of author_of (Client client) seen =
    subst (λ (k : ℕ). of author_of (Client k) a.before ≡ of author_of (Client k) seen) mine a.own in
    subst (AllByRecursion (IsBelow (call_of client next))) (sym a.now)
    (all_more (call_of client next) a.before (CallTakenBack call) (below_later (call_of client next) seen a.before (sym own) m) tt)

-- a call that was taken back is accepted by no step
pub never_accepted : (seen reported new : List HistoryEntry) (call : CallId) → IsAdded author_of seen reported (CallTakenBack call) new → IsNeverAccepted new call
never_accepted seen reported new call a log h p name stamp event pass step taken =
    withdrawn_never log name stamp taken.0 pass taken.1 call h (in_later new log (CallTakenBack call) p (has_added seen reported new (CallTakenBack call) a)) taken.2

-- the history goes on from what its author had seen
pub added_later : (seen reported new : List HistoryEntry) (e : HistoryEntry) → IsAdded author_of seen reported e new → IsPrefix seen new
added_later seen reported new e a = subst (IsPrefix seen) (sym a.now) (prefix_append seen a.before (e ∷ []) a.kept)

-- a call that was added is in the history
pub was_called : (old new : List HistoryEntry) (call : CallId) (name : NodeName) (ask : Ask) → IsMade old call name ask new → WasCalled new call name ask
was_called old new call name ask (a, is, added) = (a, has_added old [] new (ClientCall call name a) added, is)
