-- A refused call of a client, in the history that the client has seen.
use Rattle.std.proofs.Common.{◌≡◌, ◌∙◌, List, [], ℕ, Option, None, Some, IfSome, ap, subst, sym, inl, inr}
use Rattle.std.specs.Prelude.{◌⊎◌, Contains}
use Rattle.std.specs.declared.snapshot.Snapshot.{Snapshot}
use mathlib.Core.List.{IsPrefix}
use Rattle.craq_names.specs.declared.name.NodeName.{NodeName}
use Rattle.craq_names.specs.declared.refusal.Refusal.{Refusal}
use Rattle.craq_names.specs.declared.refusal.Refusal.TheVariants as refusals
use Rattle.craq_model.specs.declared.ask.Ask.{Ask}
use Rattle.craq_seat.specs.RefusedCalls.{CanRefuse}
use Rattle.craq_store_history.specs.declared.entry.CallId.{CallId}
use Rattle.craq_store_history.specs.declared.entry.HistoryEntry.{HistoryEntry}
use Rattle.craq_store_history.specs.declared.entry.HistoryEntry.TheVariants.{ClientCall as WasMade}
use Rattle.craq_store_history.specs.Chains.{IsHistory, WasCalled}
use Rattle.craq_store_history.proofs.Between.{called_once, made_within}
use Rattle.craq_ghost_history.proofs.Prefixes.{prefix_trans}
use Rattle.craq_store_parts.specs.Sent.{IsMade, MadeCall, Moment}
use Rattle.craq_store_parts.specs.Witnessed.{HasRefused, HasRefusedCall, IsNeverAccepted, IsRefusedAfter}
use Rattle.craq_store_parts.proofs.Recording.{has_added, in_later}
use Rattle.craq_running_chain.specs.Missed.{IsMissed}
use Rattle.craq_workers.specs.Untaken.{IsJustified, IsGivenUp, IsRefusedCall, IsUntaken, LeavesOpen}

-- a moment at which a node refuses the call is after the call, and the node and the request are the call's
refused_at : (old mid new moment : List HistoryEntry) (call : CallId) (node name : NodeName) (ask asked : Ask) (pass : ℕ) (e : Refusal) → IsHistory new → IsMade old call node ask mid → IsPrefix mid new → IsPrefix moment new
    → WasCalled moment call name asked → HasRefused moment name asked pass e → IsRefusedAfter mid node ask pass e new
refused_at old mid new moment call node name ask asked pass e h made p q called refused =
    let first : HistoryEntry = WasMade call node made.0 in
    let second : HistoryEntry = WasMade call name called.0 in
    let here : Contains new first = in_later mid new first p (has_added old [] mid first made.2) in
    let there : Contains new second = in_later moment new second q called.1 in
    let one : first ≡ second = called_once new call node name made.0 called.0 h here there in
    let at : name ≡ node = cc in
    let snaps : called.0 ≡ made.0 = cc in
    let request : asked ≡ ask = sym called.2 ∙ (ap (λ (s : Snapshot Ask). s.value) snaps ∙ made.1) in
    let by_name : HasRefused moment node asked pass e = subst (λ (n : NodeName). HasRefused moment n asked pass e) at refused in
    record {
      moment = moment;
      after = made_within new old [] mid moment q.0 call node name made.0 called.0 h made.2 p (sym q.1) called.1;
      before = q;
      refused = subst (λ (a : Ask). HasRefused moment node a pass e) request by_name;
    }

pub refused_after : (old mid new : List HistoryEntry) (call : CallId) (node : NodeName) (ask : Ask) (pass : ℕ) (e : Refusal) → IsHistory new → IsMade old call node ask mid → IsPrefix mid new → IsJustified new call pass e → IsMissed e ⊎ IsRefusedAfter mid node ask pass e new
refused_after old mid new call node ask pass e h made p (inl m) = inl m
refused_after old mid new call node ask pass e h made p (inr (moment, q, r)) = inr (refused_at old mid new moment call node r.0 ask r.1 pass e h made p q r.2 r.3)

-- ---- a call that came back

its_moment : (pass : ℕ) (moment : Option Moment) (back : Option MadeCall) (came : Refusal) (made : MadeCall) (log : List HistoryEntry) → moment ≡ Some (record { pass = pass; seen = log }) → back ≡ Some made
    → IfSome moment (λ (m : Moment). IfSome back (λ (b : MadeCall). HasRefusedCall m.seen b.call m.pass came)) → HasRefusedCall log made.call pass came
its_moment pass None back came made log is there shown = absurd cc
its_moment pass (Some m) None came made log is there shown = absurd cc
its_moment pass (Some m) (Some b) came made log is there shown =
    let same : m ≡ record { pass = pass; seen = log } = cc in
    let one : b ≡ made = cc in
    subst (λ (x : MadeCall). HasRefusedCall log x.call pass came) one (subst (λ (x : Moment). HasRefusedCall x.seen b.call x.pass came) same shown)

its_pass : (pass : ℕ) (moment : Option Moment) (passed : Option (List HistoryEntry)) (log : List HistoryEntry) → IfSome passed (λ (l : List HistoryEntry). moment ≡ Some (record { pass = pass; seen = l })) → passed ≡ Some log → moment ≡ Some (record { pass = pass; seen = log })
its_pass pass moment passed log says is = subst (λ (o : Option (List HistoryEntry)). IfSome o (λ (l : List HistoryEntry). moment ≡ Some (record { pass = pass; seen = l }))) is says

-- a call that came back and was withdrawn is given up, and its refusal is explained
pub came_back : (pass : ℕ) (moment : Option Moment) (passed : Option (List HistoryEntry)) (back : Option MadeCall) (came e : Refusal) (made : MadeCall) (call : CallId) (mid new : List HistoryEntry) → back ≡ Some made → made.call ≡ call
    → IfSome moment (λ (m : Moment). IfSome back (λ (b : MadeCall). HasRefusedCall m.seen b.call m.pass came)) → IfSome passed (λ (l : List HistoryEntry). moment ≡ Some (record { pass = pass; seen = l }))
    → IsMissed e ⊎ ((log : List HistoryEntry) × (passed ≡ Some log) × IsPrefix log mid × (e ≡ came))
    → IsPrefix mid new → IsNeverAccepted new made.call → IsHistory new → IsGivenUp new call pass e
came_back pass moment passed back came e made call mid new there same shown of_pass (inl m) p never h = (subst (IsNeverAccepted new) same never, h, inl m)
came_back pass moment passed back came e made call mid new there same shown of_pass (inr (log, is, q, says)) p never h =
    let refused : HasRefusedCall log made.call pass came = its_moment pass moment back came made log (its_pass pass moment passed log of_pass is) there shown in
    let its_call : HasRefusedCall log call pass came = subst (λ (x : CallId). HasRefusedCall log x pass came) same refused in
    (subst (IsNeverAccepted new) same never, h, inr (log, prefix_trans log mid new q p, subst (λ (x : Refusal). HasRefusedCall log call pass x) (sym says) its_call))

-- ---- by the refusals that a call can have

module _ (client : ℕ) (old mid new : List HistoryEntry) (node : NodeName) (ask : Ask) (pass : ℕ) (call : CallId) (caller : call.client ≡ client) (made : IsMade old call node ask mid) (later : IsPrefix mid new) where
  pub refused_call : (e : Refusal) → IsGivenUp new call pass e → IsRefusedCall client old node ask pass e new
  refused_call e g =
      record { call = call; caller = caller; mid = mid; made = made; later = later; never = g.0; history = g.1; refused = refused_after old mid new call node ask pass e g.1 made later g.2 }

  given : (e : Refusal) → ¬ (LeavesOpen e) → LeavesOpen e ⊎ IsGivenUp new call pass e → IsRefusedCall client old node ask pass e new
  given e shut (inl leaves) = absurd (shut leaves)
  given e shut (inr g) = refused_call e g

  pub untaken : (e : Refusal) → CanRefuse ask e → LeavesOpen e ⊎ IsGivenUp new call pass e → IsUntaken client old node ask pass new e
  untaken refusals.BadKey can g = absurd can
  untaken refusals.ValueTooLong can g = absurd can
  untaken refusals.TooManyItems can g = absurd can
  untaken refusals.EmptyTransaction can g = absurd can
  untaken refusals.DuplicateKey can g = absurd can
  untaken refusals.BadNumber can g = absurd can
  untaken refusals.UnknownChain can g = absurd can
  untaken refusals.TwoChains can g = given refusals.TwoChains (λ h. h) g
  untaken (refusals.NotHead head) can g = given (refusals.NotHead head) (λ h. h) g
  untaken refusals.NotReady can g = given refusals.NotReady (λ h. h) g
  untaken refusals.Stopped can g = tt
  untaken refusals.PendingFull can g = given refusals.PendingFull (λ h. h) g
  untaken refusals.Exhausted can g = given refusals.Exhausted (λ h. h) g
  untaken refusals.Memory can g = tt
  untaken refusals.BadFrame can g = absurd can
  untaken refusals.FrameTooLong can g = absurd can
  untaken refusals.NotMember can g = absurd can
  untaken refusals.NotStopped can g = absurd can
  untaken refusals.UsedId can g = absurd can
  untaken refusals.ChainFull can g = absurd can
  untaken refusals.LastNode can g = absurd can
  untaken refusals.UnknownMessage can g = absurd can
  untaken refusals.WrongNode can g = given refusals.WrongNode (λ h. h) g
  untaken refusals.JournalOff can g = absurd can
  untaken (refusals.BadScript line) can g = absurd can
  untaken refusals.BadConfig can g = absurd can
  untaken refusals.Closed can g = tt
  untaken refusals.Io can g = absurd can

-- a refusal that is reported as it came, or as Closed, is one that such a call can have
pub can_report : (ask : Ask) (came e : Refusal) → CanRefuse ask came → (e ≡ came) ⊎ (e ≡ refusals.Closed) → CanRefuse ask e
can_report ask came e can (inl same) = subst (CanRefuse ask) (sym same) can
can_report ask came e can (inr closed) = subst (CanRefuse ask) (sym closed) tt
