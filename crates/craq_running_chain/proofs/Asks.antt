-- A request that is put to a node is served, rejected or queued, by each way into the node.
use Rattle.std.proofs.Common.{◌≡◌, ◌⊎◌, ℕ, zero, suc, Bool, true, false, Option, Some, None, Result, Ok, Err, inl, inr, sym, subst, arith}
use Rattle.std.specs.Prelude.{MatchResult}
use Rattle.craq_commands.specs.declared.read_mode.ReadMode.TheVariants as modes
use Rattle.craq_names.specs.declared.name.NodeName.{NodeName}
use Rattle.craq_names.specs.declared.refusal.Refusal.{Refusal}
use Rattle.craq_names.specs.declared.refusal.Refusal.TheVariants as refusals
use Rattle.craq_seat.specs.RefusedCalls.{CanRefuse, CanWait, IsUpdate}
use Rattle.craq_seat.specs.declared.token.CallToken.{CallToken}
use Rattle.craq_model.specs.declared.ask.Ask.{Ask}
use Rattle.craq_model.specs.declared.ask.Ask.TheVariants as asks
use Rattle.craq_model.specs.Plain.{Plain}
use Rattle.craq_seat.specs.Calls.{Called}
use Rattle.craq_running_node.specs.Replies.{in_hand}
use Rattle.craq_running_chain.specs.Asks.{IsPut, IsServed, IsRejected}
use Rattle.craq_running_chain.specs.Missed.{IsMissed}

-- a caller that takes the step of its own request, where the chain has a thread, is served or rejected
pub put_at_node : {C : Type 0} (represents : C → Plain → Type 0) (chain_threads : Bool) (name : NodeName) (ask : Ask) (pass : ℕ) (token : CallToken) (hand : Option (Result Called Refusal))
    → chain_threads ≡ true → IsServed represents name ask pass token hand ⊎ IsRejected hand → IsPut represents chain_threads name ask pass token hand
put_at_node represents chain_threads name ask pass token hand threads (inl is) = inl (threads, is)
put_at_node represents chain_threads name ask pass token hand threads (inr is) = inr (inl is)

-- a request is queued, or rejected
pub put_in_queue : {C : Type 0} (represents : C → Plain → Type 0) (chain_threads : Bool) (name : NodeName) (ask : Ask) (pass : ℕ) (token : CallToken) (result : Result (Option Called) Refusal)
    → MatchResult result (λ (found : Option Called). found ≡ None) IsMissed → (chain_threads ≡ false) ⊎ IsUpdate ask → IsPut represents chain_threads name ask pass token (in_hand result)
put_in_queue represents chain_threads name ask pass token (Ok found) h may = subst (λ (f : Option Called). IsPut represents chain_threads name ask pass token (in_hand (Ok f))) (sym h) (inr (inr may))
put_in_queue represents chain_threads name ask pass token (Err e) h may = inr (inl h)

names_head : (ask : Ask) (head : ℕ) → CanRefuse ask (refusals.NotHead head) ⊎ ¬ (CanRefuse ask (refusals.NotHead head))
names_head (asks.Update update) zero = inr (λ h. omega (arith, h.1))
names_head (asks.Update update) (suc n) = inl (tt, omega arith)
names_head (asks.Read mode object) head = inr (λ h. h.0)

waits : (ask : Ask) → CanWait ask ⊎ ¬ (CanWait ask)
waits (asks.Update update) = inl tt
waits (asks.Read modes.Strong object) = inl tt
waits (asks.Read modes.Eventual object) = inr (λ h. h)
waits (asks.Read (modes.Bounded k) object) = inr (λ h. h)

can_or_not : (ask : Ask) (e : Refusal) → CanRefuse ask e ⊎ ¬ (CanRefuse ask e)
can_or_not ask refusals.BadKey = inr (λ h. h)
can_or_not ask refusals.ValueTooLong = inr (λ h. h)
can_or_not ask refusals.TooManyItems = inr (λ h. h)
can_or_not ask refusals.EmptyTransaction = inr (λ h. h)
can_or_not ask refusals.DuplicateKey = inr (λ h. h)
can_or_not ask refusals.BadNumber = inr (λ h. h)
can_or_not ask refusals.UnknownChain = inr (λ h. h)
can_or_not ask refusals.TwoChains = inl tt
can_or_not ask (refusals.NotHead head) = names_head ask head
can_or_not ask refusals.NotReady = inl tt
can_or_not ask refusals.Stopped = inl tt
can_or_not ask refusals.PendingFull = waits ask
can_or_not ask refusals.Exhausted = inl tt
can_or_not ask refusals.Memory = inl tt
can_or_not ask refusals.BadFrame = inr (λ h. h)
can_or_not ask refusals.FrameTooLong = inr (λ h. h)
can_or_not ask refusals.NotMember = inr (λ h. h)
can_or_not ask refusals.NotStopped = inr (λ h. h)
can_or_not ask refusals.UsedId = inr (λ h. h)
can_or_not ask refusals.ChainFull = inr (λ h. h)
can_or_not ask refusals.LastNode = inr (λ h. h)
can_or_not ask refusals.UnknownMessage = inr (λ h. h)
can_or_not ask refusals.WrongNode = inl tt
can_or_not ask refusals.JournalOff = inr (λ h. h)
can_or_not ask (refusals.BadScript line) = inr (λ h. h)
can_or_not ask refusals.BadConfig = inr (λ h. h)
can_or_not ask refusals.Closed = inl tt
can_or_not ask refusals.Io = inr (λ h. h)

reported_as : {C : Type 0} (represents : C → Plain → Type 0) (chain_threads : Bool) (name : NodeName) (ask : Ask) (pass : ℕ) (token : CallToken) (came reported : Refusal)
    → (CanRefuse ask came → reported ≡ came) → (¬ (CanRefuse ask came) → reported ≡ refusals.Closed) → IsPut represents chain_threads name ask pass token (Some (Err came))
    → CanRefuse ask came ⊎ ¬ (CanRefuse ask came) → IsPut represents chain_threads name ask pass token (Some (Err reported))
reported_as represents chain_threads name ask pass token came reported same closed put (inl can) = subst (λ (e : Refusal). IsPut represents chain_threads name ask pass token (Some (Err e))) (sym (same can)) put
reported_as represents chain_threads name ask pass token came reported same closed put (inr cannot) = subst (λ (e : Refusal). IsPut represents chain_threads name ask pass token (Some (Err e))) (sym (closed cannot)) (inr (inl tt))

-- it is refused so, or, where no such request may be refused so, as by a closed store
pub put_reported_as : {C : Type 0} (represents : C → Plain → Type 0) (chain_threads : Bool) (name : NodeName) (ask : Ask) (pass : ℕ) (token : CallToken) (came reported : Refusal)
    → (CanRefuse ask came → reported ≡ came) → (¬ (CanRefuse ask came) → reported ≡ refusals.Closed) → IsPut represents chain_threads name ask pass token (Some (Err came)) → IsPut represents chain_threads name ask pass token (Some (Err reported))
put_reported_as represents chain_threads name ask pass token came reported same closed put = reported_as represents chain_threads name ask pass token came reported same closed put (can_or_not ask came)
