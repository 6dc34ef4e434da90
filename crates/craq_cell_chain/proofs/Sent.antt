-- The messages that a move appends to those that were sent.
use Rattle.std.proofs.Common.{◌≡◌, List, [], Option, Result, Ok, Err, sym, ◌∙◌}
use Rattle.std.proofs.lemmas.List.{append-nil}
use Rattle.craq_names.specs.declared.refusal.Refusal.{Refusal}
use Rattle.craq_names.specs.declared.refusal.Refusal.TheVariants as refusals
use Rattle.craq_model.specs.declared.message.LinkMessage.{LinkMessage}
use Rattle.craq_cell_chain.specs.declared.stepping.CellStep.{CellStep}
use Rattle.craq_cell_chain.specs.Sending.{HasSent}

-- a move that was refused with nothing sent
pub unsent : (old new : List LinkMessage) (r : Result (Option CellStep) Refusal) (e : Refusal) → r ≡ Err e → new ≡ old → HasSent old new r
unsent old new (Err refusals.Memory) e is same = ([], same ∙ sym (append-nil old))
unsent old new (Err x) e is same = same
unsent old new (Ok r) e is same = absurd cc
