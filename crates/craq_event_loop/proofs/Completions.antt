-- Refusals of a call that was asked and came back.
use Rattle.std.proofs.Common.{◌≡◌, Ok, Err, inl, inr, sym, subst}
use Rattle.craq_names.specs.declared.refusal.Refusal.{Refusal}
use Rattle.craq_seat.specs.RefusedCalls.{CanRefuse}
use Rattle.craq_seat.specs.Calls.{Called}
use Rattle.craq_event_loop.specs.SubmittedCalls.{MayHaveAny}
use Rattle.craq_event_loop.specs.Halves.{CanComeBack, IsRefusable}
use Rattle.craq_event_loop.specs.Turns.{Refusing}
use Rattle.craq_event_loop.specs.declared.connection_state.CallRequest.{CallRequest}

-- an answer that came back may be refused as any ask may be
answer_refusable : (refuses : Refusing) (q : CallRequest) (e : Refusal) → MayHaveAny refuses q → CanComeBack e → refuses q.node q.pass q.ask e
answer_refusable refuses q e may (inl is) = may e (subst (λ (x : Refusal). CanRefuse q.ask x) (sym is) tt)
answer_refusable refuses q e may (inr is) = may e (subst (λ (x : Refusal). CanRefuse q.ask x) (sym is) tt)

-- a receipt that came
pub receipt_refusable : (refuses : Refusing) (q : CallRequest) (c : Called) → MayHaveAny refuses q → IsRefusable refuses q (Ok c)
receipt_refusable refuses q c may e h = answer_refusable refuses q e may h.0

-- a refusal that came
pub refusal_refusable : (refuses : Refusing) (q : CallRequest) (came : Refusal) → refuses q.node q.pass q.ask came → IsRefusable refuses q (Err came)
refusal_refusable refuses q came may e is = subst (λ (x : Refusal). refuses q.node q.pass q.ask x) (sym is) may
