-- Calls, as a history grows.
use Rattle.std.proofs.Common.{◌≡◌, ◌<◌, ℕ, ◌==◌, Bool, true, false, if◌then◌else◌, List, [], ◌∷◌, ◌++◌, Option, Some, None, refl, sym, ap, subst, ◌∙◌, append_assoc, append-nil, eq-eqb, true≢false}
use Rattle.std.specs.List.{AllByRecursion}
use Rattle.std.specs.Prelude.{Contains}
use mathlib.Core.List.{IsPrefix}
use Rattle.craq_names.specs.declared.name.NodeName.{NodeName}
use Rattle.craq_model.specs.declared.ask.Event.{Event}
use Rattle.craq_causality.proofs.Orders.{from_contains, in_left, to_contains}
use Rattle.craq_ghost_history.specs.declared.author.Author.TheVariants.{Node, Client}
use Rattle.craq_ghost_history.specs.Authors.{of, same}
use Rattle.craq_store_history.specs.declared.entry.CallId.{CallId}
use Rattle.craq_store_history.specs.declared.entry.HistoryEntry.{HistoryEntry}
use Rattle.craq_store_history.specs.declared.entry.HistoryEntry.TheVariants.{ChainOpened, ClientCall, NodeStep, MasterStep, CallTakenBack}
use Rattle.craq_store_history.specs.Entries.{author_of}
use Rattle.craq_store_history.specs.Chains.{Accepts, AreCalls, IsBelow, MayCall}

pub calls_more : (before log : List HistoryEntry) (e : HistoryEntry) → AreCalls before log → MayCall (before ++ log) e → AreCalls before (log ++ e ∷ [])
calls_more before [] e a may = (rw append-nil at may, tt)
calls_more before (x ∷ log) e a may =
    (a.0, calls_more (before ++ x ∷ []) log e a.1 (subst (λ l. MayCall l e) (sym (append_assoc before (x ∷ []) log)) may))

-- a call that was made before a step was made before any longer history
pub accepts_later : (xs ys : List HistoryEntry) (name : NodeName) (event : Event) (call : Option CallId) → IsPrefix xs ys → Accepts xs name event call → Accepts ys name event call
accepts_later xs ys name event None p a = a
accepts_later xs ys name event (Some call) p (ask, is, (s, there, same_ask)) =
    let e : HistoryEntry = ClientCall call name s in (ask, is, (s, subst (λ zs. Contains zs e) p.1 (to_contains (xs ++ p.0) e (in_left xs p.0 e (from_contains xs e there))), same_ask))

-- ---- numbers of calls

all_own : (call : CallId) (xs : List HistoryEntry) → AllByRecursion (IsBelow call) xs → AllByRecursion (IsBelow call) (of author_of (Client call.client) xs)
all_own call [] a = tt
all_own call (x ∷ xs) a = keep (same (author_of x) (Client call.client)) x (of author_of (Client call.client) xs) a.0 (all_own call xs a.1)
  where
    keep : (b : Bool) (x : HistoryEntry) (rest : List HistoryEntry) → IsBelow call x → AllByRecursion (IsBelow call) rest → AllByRecursion (IsBelow call) (if b then x ∷ rest else rest)
    keep true x rest p r = (p, r)
    keep false x rest p r = r

rest_of : (call : CallId) (b : Bool) (x : HistoryEntry) (rest : List HistoryEntry) → AllByRecursion (IsBelow call) (if b then x ∷ rest else rest) → AllByRecursion (IsBelow call) rest
rest_of call true x rest a = a.1
rest_of call false x rest a = a

first_of : (call : CallId) (b : Bool) (x : HistoryEntry) (rest : List HistoryEntry) → b ≡ true → AllByRecursion (IsBelow call) (if b then x ∷ rest else rest) → IsBelow call x
first_of call true x rest e a = a.0
first_of call false x rest e a = absurd (true≢false (sym e))

all_from_own : (call : CallId) (xs : List HistoryEntry) → AllByRecursion (IsBelow call) (of author_of (Client call.client) xs) → AllByRecursion (IsBelow call) xs
all_from_own call [] a = tt
all_from_own call (ChainOpened chain members ∷ xs) a = (tt, all_from_own call xs a)
all_from_own call (ClientCall c name ask ∷ xs) a =
    let b : Bool = c.client == call.client in
    let rest : List HistoryEntry = of author_of (Client call.client) xs in
    (λ e. first_of call b (ClientCall c name ask) rest (eq-eqb c.client call.client e) a e, all_from_own call xs (rest_of call b (ClientCall c name ask) rest a))
all_from_own call (NodeStep name stamp event pass step c ∷ xs) a = (tt, all_from_own call xs a)
all_from_own call (MasterStep chain stamp event pass step ∷ xs) a = (tt, all_from_own call xs a)
all_from_own call (CallTakenBack c ∷ xs) a = (tt, all_from_own call xs (rest_of call (c.client == call.client) (CallTakenBack c) (of author_of (Client call.client) xs) a))

-- a client that knows all its calls knows that a number is new
pub below_later : (call : CallId) (xs ys : List HistoryEntry) → of author_of (Client call.client) xs ≡ of author_of (Client call.client) ys → AllByRecursion (IsBelow call) xs → AllByRecursion (IsBelow call) ys
below_later call xs ys h a = all_from_own call ys (subst (AllByRecursion (IsBelow call)) h (all_own call xs a))
