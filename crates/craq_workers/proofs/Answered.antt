-- The answer of an audit of a chain's cells is that of the store that has the chain and keeps journals.
use Rattle.std.proofs.Common.{◌≡◌, ◌≢◌, ℕ, List, Result, Ok, Err, IfOk, Some, map, option_map, slice_get, ap, inr, ◌∙◌}
use Rattle.std.proofs.lemmas.Option.{slice_get-map}
use Rattle.craq_names.specs.declared.refusal.Refusal.{Refusal}
use Rattle.craq_names.specs.declared.refusal.Refusal.TheVariants as refusals
use Rattle.craq_model.specs.Plain.{Plain}
use Rattle.craq_epochs.specs.Mastered.{Mastered}
use Rattle.craq_audit.specs.declared.finding.Audit.{Audit}
use Rattle.craq_audit.specs.declared.finding.Audit.TheVariants as audits
use Rattle.craq_seat.specs.Calls.{Called}
use Rattle.craq_locked_chain.specs.Held.{Confirms}
use Rattle.craq_workers.specs.Stores.{AuditAnswers, HasJournals, IsMasterOf, IsRefused, Stored}

refused : {C : Type 0} (represents : C → Plain → Type 0) (store : Stored) (chain : ℕ) (receipts : List Called) (e : Refusal)
    → HasJournals store chain → Confirms represents (IsMasterOf store chain) receipts (Err e) → IsRefused represents store chain receipts e
refused represents store chain receipts refusals.BadKey h k = absurd k.audited
refused represents store chain receipts refusals.ValueTooLong h k = absurd k.audited
refused represents store chain receipts refusals.TooManyItems h k = absurd k.audited
refused represents store chain receipts refusals.EmptyTransaction h k = absurd k.audited
refused represents store chain receipts refusals.DuplicateKey h k = absurd k.audited
refused represents store chain receipts refusals.BadNumber h k = absurd k.audited
refused represents store chain receipts refusals.UnknownChain h k = absurd k.audited
refused represents store chain receipts refusals.TwoChains h k = absurd k.audited
refused represents store chain receipts (refusals.NotHead head) h k = absurd k.audited
refused represents store chain receipts refusals.NotReady h k = absurd k.audited
refused represents store chain receipts refusals.Stopped h k = absurd k.audited
refused represents store chain receipts refusals.PendingFull h k = absurd k.audited
refused represents store chain receipts refusals.Exhausted h k = absurd k.audited
refused represents store chain receipts refusals.Memory h k = h
refused represents store chain receipts refusals.BadFrame h k = absurd k.audited
refused represents store chain receipts refusals.FrameTooLong h k = absurd k.audited
refused represents store chain receipts refusals.NotMember h k = absurd k.audited
refused represents store chain receipts refusals.NotStopped h k = absurd k.audited
refused represents store chain receipts refusals.UsedId h k = absurd k.audited
refused represents store chain receipts refusals.ChainFull h k = absurd k.audited
refused represents store chain receipts refusals.LastNode h k = absurd k.audited
refused represents store chain receipts refusals.UnknownMessage h k = absurd k.audited
refused represents store chain receipts refusals.WrongNode h k = (h, inr k)
refused represents store chain receipts refusals.JournalOff h k = (h.0, inr k)
refused represents store chain receipts (refusals.BadScript line) h k = absurd k.audited
refused represents store chain receipts refusals.BadConfig h k = absurd k.audited
refused represents store chain receipts refusals.Closed h k = absurd k.audited
refused represents store chain receipts refusals.Io h k = absurd k.audited

pub answered : {C : Type 0} (represents : C → Plain → Type 0) (store : Stored) (chain : ℕ) (receipts : List Called) (result : Result Audit Refusal)
    → HasJournals store chain → Confirms represents (IsMasterOf store chain) receipts result → AuditAnswers represents store chain receipts result
answered represents store chain receipts (Ok audit) h k = (h, k)
answered represents store chain receipts (Err e) h k = refused represents store chain receipts e h k

-- it finds each message's sender, if it finds anything
pub finds_senders : (answer : Result Audit Refusal) → ((node index : ℕ) → answer ≢ Ok (audits.NoSender node index)) → IfOk answer (λ (found : Audit). (node index : ℕ) → found ≢ audits.NoSender node index)
finds_senders (Ok found) h = λ node index is. h node index (ap Ok is)
finds_senders (Err e) h = tt

-- the master of a chain at its place
pub master_at : {A : Type 0} (first : A → Mastered) (masters : List Mastered) (chains : List A) (i : ℕ) (chain : A)
    → masters ≡ map first chains → slice_get chains i ≡ Some chain → slice_get masters i ≡ Some (first chain)
master_at first masters chains i chain are here = ap (λ (ms : List Mastered). slice_get ms i) are ∙ slice_get-map first chains i ∙ ap (option_map first) here
